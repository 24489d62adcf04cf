-- All commands obey: an access that isn't allowed is the last of its command, whose reply is its error.
use Rattle.std.proofs.Common.{◌≡◌, ◌∙◌, refl, sym, ap, ℕ, zero, suc, ◌+◌, Bool, true, false, inl, inr, Option, Some, None, List, [], ◌∷◌, ◌++◌, length, reverse, Result, Ok, Err, arith, length-append}
use Rattle.std.proofs.lemmas.Bool.{false≢true}
use Rattle.std.proofs.lemmas.Option.{same_Some}
use Rattle.gem_meaning.specs.texts.Bytes.{Bytes as Text}
use Rattle.gem_meaning.specs.st_tree.Trees.{Constant, int, char, str, sym as symbol, nothing, yes, no, array, Constants, no_constants, a_constant, Program}
use Rattle.gem_meaning.specs.st_grammar.Grammar.{chunk, method}
use Rattle.gem_meaning.specs.st_grammar_laws.TreeOf.{TextFault, tree_of}
use Rattle.gem_meaning.specs.gem_object.declared.value.Value.{Value}
use Rattle.gem_meaning.specs.gem_object.declared.value.Value.TheVariants as value
use Rattle.gem_meaning.specs.gem_object.declared.body.ClassBody.{ClassBody}
use Rattle.gem_meaning.specs.gem_object.declared.body.MethodCode.{MethodCode}
use Rattle.gem_meaning.specs.gem_object.declared.body.MethodCode.TheVariants.{Source, Primitive}
use Rattle.gem_meaning.specs.gem_sound.Parts.{class_of}
use Rattle.gem_meaning.specs.gem_sound.Kernel.{class_class}
use Rattle.gem_meaning.specs.gem_world.World.{Setting, World}
use Rattle.gem_meaning.specs.gem_world.Access.{Access, with_touches}
use Rattle.gem_meaning.specs.object_programs.Guard.{chain_limit}
use Rattle.gem_meaning.specs.object_programs.Atom.{access_fault}
use Rattle.gem_meaning.specs.object_programs.Run.{Run, give, Ending}
use Rattle.gem_meaning.specs.tree_meaning.Place.{Frame, MadeBlock}
use Rattle.gem_meaning.specs.prim_rules.declared.answer.PrimitiveAnswer.{PrimitiveAnswer}
use Rattle.gem_meaning.specs.prim_rules.declared.answer.PrimitiveAnswer.TheVariants.{Gives, Evaluates}
use Rattle.gem_meaning.specs.gem_language.LookUp.{FindingRun, methods_on, code_of, found_or, from_superclass, found_from, up_within, up_classes, past_last, Start, found_at, start_of_receiver, start_of, find_method}
use Rattle.gem_meaning.specs.gem_language.OutOfScope.{inherited_names, names_of_class, names_within, instance_names, slot_of, own_globals, own_global, or_in_globals, find_global, global_value, value_of_name, read_out_of_scope, assign_name, write_out_of_scope}
use Rattle.gem_meaning.specs.gem_language.Literals.{constant_value, constant_values, literal_value}
use Rattle.gem_meaning.specs.gem_language.Install.{class_named, install}
use Rattle.gem_meaning.specs.gem_language.Sends.{Callee, primitive_value, call_source, call_code, call_found, send_by, outside_by, callee, outside, calls_of_chunk, chunk_value}
use Rattle.gem_meaning.specs.gem_language.Commands.{Command, run_chunk, install_method, Reply, failed, ReplyRun, chunk_reply, method_reply, reply_by, command_reply, reply_of}
use Rattle.gem_meaning.specs.gem_language.Transaction.{begin_command, command_outcome}
use Rattle.gem_meaning.specs.gem_language.declared.found.Found.{Found}
use Rattle.gem_meaning.proofs.commit_check_lemmas.Members.{IsOneOf}
use Rattle.history_laws.specs.Accesses.{Moment, moments_of, IsRefused}
use Rattle.history_laws.proofs.Obeys.{AreAllowed, Ends, Obeys, gives_so, fails_so, then, asks, owns, kinds, ticks, needs, checks, replaces}
use Rattle.history_laws.proofs.ObeyedParts.{knows, made, prints}
use Rattle.history_laws.proofs.ObeyedLater.{primitives}
use Rattle.history_laws.proofs.ObeyedTrees.{OutsideObeys, activates, evaluates, calls, makes_block, method_so, chunk_so, block_so}

-- ---- look-up

or_so : (holder : ℕ) (class_side : Bool) (code : Option MethodCode) (further : FindingRun)
    → Obeys further → Obeys (found_or holder class_side code further)
or_so holder class_side (Some code) further more = gives_so
or_so holder class_side None further more = more

superclass_so : (superclass : Option ℕ) (above : ℕ → FindingRun) (past : FindingRun)
    → ((name : ℕ) → Obeys (above name)) → Obeys past → Obeys (from_superclass superclass above past)
superclass_so None above past each last = last
superclass_so (Some superclass) above past each last = each superclass

from_so : (class_side : Bool) (selector : Text) (name : ℕ) (found : Option ClassBody)
    (above : ℕ → FindingRun) (past : FindingRun) → ((other : ℕ) → Obeys (above other)) → Obeys past
    → Obeys (found_from class_side selector name found above past)
from_so class_side selector name None above past each last = last
from_so class_side selector name (Some class) above past each last =
    or_so name class_side (code_of selector (methods_on class_side class))
    (from_superclass class.superclass above past) (superclass_so class.superclass above past each last)

within_so : (limit : ℕ) (class_side : Bool) (selector : Text) (past : FindingRun) (name : ℕ) → Obeys past
    → Obeys (up_within limit class_side selector past name)
within_so zero class_side selector past name last = fails_so
within_so (suc limit) class_side selector past name last = then asks (λ object.
    from_so class_side selector name (class_of object.body) (up_within limit class_side selector past) past
    (λ other. within_so limit class_side selector past other last) last)

up_so : (class_side : Bool) (selector : Text) (past : FindingRun) (name : ℕ) → Obeys past
    → Obeys (up_classes class_side selector past name)
unfolding up_classes
up_so class_side selector past name last = within_so (suc chain_limit) class_side selector past name last

past_so : (class_side : Bool) (selector : Text) → Obeys (past_last class_side selector)
past_so false selector = gives_so
past_so true selector = up_so false selector (give None) class_class gives_so

at_so : (start : Start) (selector : Text) → Obeys (found_at start selector)
at_so start selector =
    let past = past_last start.class_side selector in
    superclass_so start.class (up_classes start.class_side selector past) past
    (λ name. up_so start.class_side selector past name (past_so start.class_side selector))
    (past_so start.class_side selector)

receiver_so : (receiver : Value) → Obeys (start_of_receiver receiver)
receiver_so (value.Ref name) = then asks (λ object. gives_so)
receiver_so receiver = gives_so

start_so : (to_super : Bool) (frame : Frame) (receiver : Value) → Obeys (start_of to_super frame receiver)
start_so false frame receiver = receiver_so receiver
start_so true frame receiver = then (receiver_so receiver) (λ own. then kinds (λ found. gives_so))

finds : (to_super : Bool) (frame : Frame) (receiver : Value) (selector : Text)
    → Obeys (find_method to_super frame receiver selector)
unfolding find_method
finds to_super frame receiver selector =
    then (start_so to_super frame receiver) (λ start. at_so start selector)

-- ---- names out of scope

inherited_so : (superclass : Option ℕ) (above : ℕ → Run MadeBlock (List Text))
    → ((name : ℕ) → Obeys (above name)) → Obeys (inherited_names superclass above)
inherited_so None above each = gives_so
inherited_so (Some superclass) above each = each superclass

class_names_so : (class : Option ClassBody) (above : ℕ → Run MadeBlock (List Text))
    → ((name : ℕ) → Obeys (above name)) → Obeys (names_of_class class above)
class_names_so None above each = gives_so
class_names_so (Some class) above each =
    then (inherited_so class.superclass above each) (λ inherited. gives_so)

names_so : (limit class : ℕ) → Obeys (names_within limit class)
names_so zero class = fails_so
names_so (suc limit) class = then asks (λ object.
    class_names_so (class_of object.body) (names_within limit) (names_so limit))

instances : (class : ℕ) → Obeys (instance_names class)
unfolding instance_names
instances class = names_so (suc chain_limit) class

own_so : (text : Text) (dictionary : Option ℕ) → Obeys (own_global text dictionary)
own_so text None = gives_so
own_so text (Some dictionary) = then asks (λ object. gives_so)

else_so : (text : Text) (found : Option Value) → Obeys (or_in_globals text found)
else_so text (Some one) = gives_so
else_so text None = then asks (λ object. gives_so)

globals_so : (text : Text) → Obeys (global_value text)
unfolding global_value find_global
globals_so text = then
    (then owns (λ profile. then (own_so text (own_globals profile)) (λ found. else_so text found)))
    (λ found. needs _ _)

value_so : (text : Text) (frame : Frame) (slot : Option ℕ) → Obeys (value_of_name text frame slot)
value_so text frame (Some slot) = then (needs _ _) (λ name. then asks (λ object. needs _ _))
value_so text frame None = globals_so text

reads : (text : Text) (frame : Frame) → Obeys (read_out_of_scope text frame)
unfolding read_out_of_scope
reads text frame = then (instances _) (λ names. value_so text frame (slot_of frame.class_side text names))

assigned_so : (text : Text) (frame : Frame) (slot : Option ℕ) (one : Value)
    → Obeys (assign_name text frame slot one)
assigned_so text frame (Some slot) one = then (needs _ _) (λ name. then asks (λ object.
    then (checks _ _) (λ storable. then (checks _ _) (λ there. then (replaces _ _ _ _) (λ replaced.
    gives_so)))))
assigned_so text frame None one = fails_so

assigns : (text : Text) (frame : Frame) (one : Value) → Obeys (write_out_of_scope text frame one)
unfolding write_out_of_scope
assigns text frame one =
    then (instances _) (λ names. assigned_so text frame (slot_of frame.class_side text names) one)

-- ---- literals

mutual
  constant_so : (tree : Constant) → Obeys (constant_value tree)
  constant_so (int number) = gives_so
  constant_so (char code) = gives_so
  constant_so (str bytes) = made _ _
  constant_so (symbol bytes) = gives_so
  constant_so nothing = gives_so
  constant_so yes = gives_so
  constant_so no = gives_so
  constant_so (array items) = then (constants_so items) (λ values. made _ _)

  constants_so : (trees : Constants) → Obeys (constant_values trees)
  constants_so no_constants = gives_so
  constants_so (a_constant first rest) = then (constant_so first) (λ answer.
      then (constants_so rest) (λ others. gives_so))

literals : (tree : Constant) → Obeys (literal_value tree)
unfolding literal_value
literals tree = then (checks _ _) (λ short. constant_so tree)

-- ---- sends

-- whatever is called obeys
record CalleeObeys (called : Callee) : Type 0 where
  pub method : (tree : Program) (holder : ℕ) (class_side : Bool) (receiver : Value)
      (arguments : List Value) → Obeys (called.method tree holder class_side receiver arguments)
  pub block : (made : MadeBlock) (arguments : List Value) → Obeys (called.block made arguments)

module _ (called : Callee) (obeys : CalleeObeys called) where
  primitive_so : (answer : PrimitiveAnswer) → Obeys (primitive_value called answer)
  primitive_so (Gives answer) = gives_so
  primitive_so (Evaluates block arguments) = calls called.block block.number arguments (λ one.
      obeys.block one arguments)

  source_so : (selector : Text) (found : Found) (tree : Result Program TextFault) (receiver : Value)
      (arguments : List Value) → Obeys (call_source called selector found tree receiver arguments)
  source_so selector found (Ok tree) receiver arguments =
      obeys.method tree found.holder found.class_side receiver arguments
  source_so selector found (Err wrong) receiver arguments = fails_so

  code_so : (selector : Text) (found : Found) (code : MethodCode) (receiver : Value)
      (arguments : List Value) → Obeys (call_code called selector found code receiver arguments)
  code_so selector found (Primitive number) receiver arguments =
      then (primitives _ _ _) (λ answer. primitive_so answer)
  code_so selector found (Source source) receiver arguments =
      source_so selector found (tree_of method source) receiver arguments

  found_so : (selector : Text) (found : Option Found) (receiver : Value) (arguments : List Value)
      → Obeys (call_found called selector found receiver arguments)
  found_so selector None receiver arguments = fails_so
  found_so selector (Some found) receiver arguments = code_so selector found found.code receiver arguments

  sends : (to_super : Bool) (selector : Text) (frame : Frame) (receiver : Value) (arguments : List Value)
      → Obeys (send_by called to_super selector frame receiver arguments)
  unfolding send_by
  sends to_super selector frame receiver arguments = then ticks (λ ticked. then (finds _ _ _ _) (λ found.
      found_so selector found receiver (reverse arguments)))

  outside_so : OutsideObeys (outside_by called)
  outside_so = record {
    send_message = sends;
    read_name = reads;
    write_name = assigns;
    literal_value = literals;
    make_block = λ tree place frame. makes_block tree place frame;
  }

callee_so : (depth : ℕ) → CalleeObeys (callee depth)
callee_so zero = record {
  method = λ tree holder class_side receiver arguments. fails_so;
  block = λ made arguments. fails_so;
}
callee_so (suc depth) =
    let around = outside_so (callee depth) (callee_so depth) in
    record {
      method = λ tree holder class_side receiver arguments.
          activates _ _ _ _ _ _ (method_so (outside_by (callee depth)) around tree);
      block = λ made arguments.
          evaluates _ _ _ _ (block_so (outside_by (callee depth)) around made.tree made.place);
    }

chunks : (tree : Program) → Obeys (chunk_value tree)
unfolding chunk_value outside
chunks tree = activates _ _ _ _ _ _
    (chunk_so (outside_by (callee calls_of_chunk)) (outside_so (callee calls_of_chunk)
    (callee_so calls_of_chunk)) tree)

-- ---- commands

chunk_reply_so : (does_print : Bool) (tree : Program) → Obeys (chunk_reply does_print tree)
chunk_reply_so false tree = then (chunks _) (λ answer. gives_so)
chunk_reply_so true tree = then (chunks _) (λ answer. then (prints _) (λ text. gives_so))

named_so : (one : Value) → Obeys (class_named one)
named_so one = then (needs _ _) (λ name. then (knows _ _) (λ fixed. then (checks _ _) (λ is_class.
    gives_so)))

installs : (class_side : Bool) (class selector source : Text)
    → Obeys (install class_side class selector source)
unfolding install
installs class_side class selector source = then (globals_so _) (λ one. then (named_so _) (λ name.
    then asks (λ seen. then asks (λ object.
    then (needs _ _) (λ class. then (checks _ _) (λ short. replaces _ _ _ _))))))

method_reply_so : (class_side : Bool) (class source : Text) (tree : Program)
    → Obeys (method_reply class_side class source tree)
method_reply_so class_side class source tree = then (installs _ _ _ _) (λ done. gives_so)

reply_so : (reply : Program → ReplyRun) (read : Result Program TextFault)
    → ((tree : Program) → Obeys (reply tree)) → Obeys (reply_by reply read)
reply_so reply (Ok tree) each = each tree
reply_so reply (Err wrong) each = gives_so

commands_so : (command : Command) → Obeys (command_reply command)
unfolding command_reply
commands_so (run_chunk does_print text) =
    reply_so (chunk_reply does_print) (tree_of chunk text) (chunk_reply_so does_print)
commands_so (install_method class_side class source) =
    reply_so (method_reply class_side class source) (tree_of method source)
    (method_reply_so class_side class source)

-- ---- what this says of each moment

not_allowed : (setting : Setting) (passed later : List Moment) (moment : Moment) (access : Access)
    (name : ℕ)
    → IsRefused access name setting moment → AreAllowed setting (passed ++ moment ∷ later) → ⊥
not_allowed setting passed later moment access name refused allowed =
    false≢true (sym refused.refused ∙ allowed moment (there passed) access name refused.asked)
  where
    there : (front : List Moment) → IsOneOf moment (front ++ moment ∷ later)
    there [] = inl refl
    there (first ∷ rest) = inr (there rest)

too_short : (front later : List Moment) (moment : Moment) → [] ≡ front ++ moment ∷ later → ⊥
too_short front later moment is = absurd (omega (arith, len))
  where
    len : 0 ≡ length front + suc (length later)
    len = ap length is ∙ length-append front (moment ∷ later)

-- a moment whose access isn't allowed is the last one of a list of which only the last isn't
the_last : (setting : Setting) (before passed later : List Moment) (last moment : Moment) (access : Access)
    (name : ℕ) → before ++ last ∷ [] ≡ passed ++ moment ∷ later → AreAllowed setting before
    → IsRefused access name setting moment → (last ≡ moment) × (later ≡ [])
the_last setting [] [] later last moment access name are allowed refused = (
  first_same are,
  sym
      (rest_same are),
)
  where
    first_same : last ∷ [] ≡ moment ∷ later → last ≡ moment
    first_same is = cc

    rest_same : last ∷ [] ≡ moment ∷ later → [] ≡ later
    rest_same is = cc
the_last setting [] (first ∷ rest) later last moment access name are allowed refused =
    absurd (too_short rest later moment (rest_of are))
  where
    rest_of : last ∷ [] ≡ first ∷ (rest ++ moment ∷ later) → [] ≡ rest ++ moment ∷ later
    rest_of is = cc
the_last setting (early ∷ before) [] later last moment access name are allowed refused =
    absurd (false≢true (sym refused.refused
    ∙ allowed moment (inl (first_same are)) access name refused.asked))
  where
    first_same : early ∷ (before ++ last ∷ []) ≡ moment ∷ later → early ≡ moment
    first_same is = cc
the_last setting (early ∷ before) (first ∷ rest) later last moment access name are allowed refused =
    the_last setting before rest later last moment access name (rest_of are)
    (λ one there. allowed one (inr there)) refused
  where
    rest_of : early ∷ (before ++ last ∷ []) ≡ first ∷ (rest ++ moment ∷ later)
        → before ++ last ∷ [] ≡ rest ++ moment ∷ later
    rest_of is = cc

ends_command : (setting : Setting) (all passed later : List Moment) (end : Ending Reply) (left : World)
    (moment : Moment) (access : Access) (name : ℕ) → Ends setting all end left
    → all ≡ passed ++ moment ∷ later → IsRefused access name setting moment
    → (later ≡ []) × (reply_of end ≡ failed (access_fault access name))
    × (left ≡ with_touches name setting moment.world)
ends_command setting all passed later end left moment access name (inl allowed) are refused =
    absurd (not_allowed setting passed later moment access name refused
    (λ one there. allowed one (rw are there)))
ends_command setting all passed later end left moment access name (inr last) are refused =
    let found = the_last setting last.before passed later last.moment moment access name (sym last.are
    ∙ are)
    last.allowed refused in
    let pair : (last.access, last.name) ≡ (access, name)
    = same_Some (last.access, last.name) (access, name)
    (sym last.refused.asked ∙ (ap (λ (m : Moment). m.asked) found.0 ∙ refused.asked)) in (
      found.1,
      ap reply_of last.fault ∙ ap (λ (p : Access × ℕ). failed (access_fault p.0 p.1)) pair,
      last.leaves ∙ (ap (λ (p : Access × ℕ). with_touches p.1 setting last.moment.world) pair
          ∙ ap (λ (m : Moment). with_touches name setting m.world) found.0),
    )

pub refused_ends : (command : Command) (setting : Setting) (world : World) (passed later : List Moment)
    (moment : Moment) (access : Access) (name : ℕ)
    → moments_of command setting world ≡ passed ++ moment ∷ later
    → IsRefused access name setting moment
    → (later ≡ [])
    × (reply_of (command_outcome command setting world).end ≡ failed (access_fault access name))
    × ((command_outcome command setting world).state.world ≡ with_touches name setting moment.world)
refused_ends command setting world passed later moment access name are refused =
    let outcome = command_outcome command setting world in
    ends_command setting (moments_of command setting world) passed later outcome.end outcome.state.world
    moment access name ((commands_so command).at setting (begin_command world)) are refused
