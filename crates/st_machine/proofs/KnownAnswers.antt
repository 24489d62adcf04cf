-- What is known to be answered by one push is answered as the look-up and the activation do.
use Rattle.std.proofs.Common.{◌≡◌, ◌∙◌, refl, sym, ap, ap₂, subst, ℕ, zero, suc, ◌<◌, ◌-◌, Bool, false, List, ◌∷◌, reverse, length, take, drop, get_or, slice_get, Option, None, Some, Result, Ok, Err, IfSome}
use Rattle.std.specs.declared.alloc.AllocError.{AllocError}
use Rattle.std.proofs.lemmas.Option.{same_Some, none-some, slice_get-get_or}
use Rattle.gem_object.specs.texts.Bytes.{Bytes as Text}
use Rattle.st_tree.specs.Trees.{Program}
use Rattle.gem_sound.specs.st_grammar.Grammar.{method}
use Rattle.gem_sound.specs.st_grammar_laws.TreeOf.{TextFault, tree_of}
use Rattle.gem_object.specs.declared.value.Value.{Value}
use Rattle.gem_object.specs.declared.value.Value.TheVariants as value
use Rattle.gem_object.specs.declared.body.MethodCode.{MethodCode}
use Rattle.gem_object.specs.declared.body.MethodCode.TheVariants.{Source, Primitive}
use Rattle.tree_meaning.specs.gem_world.World.{Setting, World}
use Rattle.tree_meaning.specs.object_programs.Atom.{Tick, says, refuses, Answer, Done, ticked}
use Rattle.tree_meaning.specs.object_programs.Budget.{Budget}
use Rattle.tree_meaning.specs.object_programs.Local.{Local}
use Rattle.tree_meaning.specs.object_programs.Run.{give, atom, Outcome}
use Rattle.tree_meaning.specs.object_programs.declared.fault.Fault.{Fault}
use Rattle.tree_meaning.specs.object_programs.declared.fault.Fault.TheVariants as fault
use Rattle.tree_meaning.specs.Meaning.{Outside}
use Rattle.tree_meaning.specs.Place.{Frame, MadeBlock}
use Rattle.tree_meaning.specs.Operands.{ValueRun}
use Rattle.tree_meaning.specs.declared.place.Mark.{Mark}
use Rattle.gem_language.specs.declared.found.Found.{Found}
use Rattle.gem_language.specs.LookUp.{find_method}
use Rattle.gem_language.specs.Sends.{Callee, callee, outside, call_found, call_code, call_source, send_by}
use Rattle.running_objects.specs.Seen.{Seen, with_local}
use Rattle.running_objects.specs.Ran.{Ran}
use Rattle.running_objects.specs.Acted.{Acted}
use Rattle.running_objects.specs.declared.stop.Stop.{Stop}
use Rattle.running_objects.specs.declared.stop.Stop.TheVariants as stop
use Rattle.running_objects.proofs.Running.{ran_then, ran_stop}
use Rattle.prim_parts.specs.Does.{Does}
use Rattle.prim_parts.proofs.Does.{does_give, does_atom, does_ran}
use Rattle.look_up_cache.specs.Memory.{with_budget}
use Rattle.st_compiler.specs.Code.{Piece}
use Rattle.st_compiler.specs.Instruction.{Instruction, PushSelf, PushNil, PushTrue, PushFalse, PushLit, PushName, Send, TakeUnit}
use Rattle.st_compiler.specs.Machine.{after as ended_by}
use Rattle.st_commands.proofs.Activations.{method_ran}
use Rattle.st_machine.specs.AtOnce.{StandsFor}
use Rattle.st_machine.specs.Led.{TurnedBy, UnitTurned}
use Rattle.st_machine.specs.Methods.{IsMethodOf, IsCodeOf}
use Rattle.st_machine.specs.Parts.{framed}
use Rattle.look_up_cache.specs.Variables.{bare_frame}
use Rattle.st_machine.specs.Quick.{put_value, IsQuick, constant_put, Replaced, PushedAtOnce, AnswersQuickly}
use Rattle.st_machine.specs.Targets.{target_by_tree, target_by, target_for, call_of, found_by, Answered}
use Rattle.st_machine.specs.declared.flow.Turn.{Turn}
use Rattle.st_machine.specs.declared.flow.Turn.TheVariants as turn
use Rattle.st_machine.specs.declared.target.Target.{Target}
use Rattle.st_machine.proofs.QuickRuns.{quick_ran}
use Rattle.st_machine.proofs.Sent.{answered, sent_answers, sent_stops}

-- what answers by the method that was found is what its call calls
module _ (callee : Callee) (selector : Text) (receiver : Value) (arguments : List Value) where
  by_tree : (found : Found) (tree : Result Program TextFault)
      → call_of callee selector (target_by_tree found tree) receiver arguments
      ≡ call_source callee selector found tree receiver arguments
  by_tree found (Ok tree) = refl
  by_tree found (Err wrong) = refl

  by_code : (found : Found) (code : MethodCode)
      → call_of callee selector (target_by found code) receiver arguments
      ≡ call_code callee selector found code receiver arguments
  by_code found (Primitive number) = refl
  by_code found (Source source) = by_tree found (tree_of method source)

  pub by_found : (found : Option Found) → call_of callee selector (target_for found) receiver arguments
      ≡ call_found callee selector found receiver arguments
  by_found None = refl
  by_found (Some found) = by_code found found.code

-- What stands at a place is a method that answers by this push, also where it is named.
abbrev QuickAt : Instruction → Option Found → Type 0
QuickAt one held = IfSome held (λ found. AnswersQuickly held found.holder found.class_side one)

pub quick_found : (held : Option Found) (found : Found) (source : Text) (tree : Program) (one : Instruction)
    → Some found ≡ held → found.code ≡ Source source → IfSome held (λ one. IsCodeOf tree one.code) → IsQuick tree one
    → QuickAt one held
quick_found held found source tree one is by_source coded quick =
    let here : IsCodeOf tree found.code = subst (λ (at : Option Found). IfSome at (λ one. IsCodeOf tree one.code)) (sym is) coded in
    let method_is : IsMethodOf source (Some tree) = subst (λ (code : MethodCode). IsCodeOf tree code) by_source here in
    subst (QuickAt one) is (record {
      tree = tree;
      leads = ap (target_by found) by_source ∙ ap (target_by_tree found) method_is.0;
      named = method_is.1;
      quick = quick;
    })

pub quick_named : (held : Option Found) (found : Found) (one : Instruction) → Some found ≡ held → QuickAt one held
    → AnswersQuickly held found.holder found.class_side one
quick_named held found one is quick =
    subst (λ (at : Option Found). AnswersQuickly at found.holder found.class_side one) is (subst (QuickAt one) (sym is) quick)

-- A push that asks no objects puts its constant, in any frame with this receiver.
given : (frame : Frame) (seen : Seen) (first answer : Value) → Some first ≡ Some answer
    → Does (give first) seen (Ok answer) seen
given frame seen first answer is =
    let At : Value → Type 0 = λ one. Does (give first) seen (Ok one) seen in
    subst At (same_Some first answer is) (does_give first seen)

constant_does : (one : Instruction) (frame : Frame) (seen : Seen) (answer : Value)
    → constant_put one frame.receiver ≡ Some answer → Does (put_value one frame) seen (Ok answer) seen
constant_does PushSelf frame seen answer is = given frame seen frame.receiver answer is
constant_does PushNil frame seen answer is = given frame seen value.Nil answer is
constant_does PushTrue frame seen answer is = given frame seen value.True answer is
constant_does PushFalse frame seen answer is = given frame seen value.False answer is
constant_does (PushLit first) frame seen answer is = given frame seen first answer is
constant_does other frame seen answer is = absurd (none-some answer is)

pub constant_pushed : (one : Instruction) (frame : Frame) (seen : Seen) (below left : List Value)
    → Replaced (constant_put one frame.receiver) below left → PushedAtOnce one frame seen below left
constant_pushed one frame seen below left replaced = by (constant_put one frame.receiver) refl replaced
  where
    by : (put : Option Value) → constant_put one frame.receiver ≡ put → Replaced put below left
        → PushedAtOnce one frame seen below left
    by None is stands = absurd stands
    by (Some value) is stands = record {
      value = value;
      puts = λ budget. constant_does one frame (with_budget budget seen) value is;
      stands = stands;
    }

-- A name that is known puts its value.
pub name_pushed : (one : Instruction) (name : Text) (frame : Frame) (seen : Seen) (below left : List Value)
    → one ≡ PushName name → PushedAtOnce (PushName name) frame seen below left → PushedAtOnce one frame seen below left
name_pushed one name frame seen below left is pushed =
    subst (λ (at : Instruction). PushedAtOnce at frame seen below left) (sym is) pushed

pub variable_pushed : (name : Text) (receiver : Value) (own : List Value) (count : ℕ) → count < length own
    → Some receiver ≡ slice_get own count → (holder : ℕ) (class_side : Bool) (seen : Seen) (known : Value)
    (left : List Value) → StandsFor name (bare_frame receiver holder class_side) seen known
    → left ≡ known ∷ drop (suc count) own
    → PushedAtOnce (PushName name) (bare_frame (get_or own count value.Nil) holder class_side) seen
    (drop (suc count) own) left
variable_pushed name receiver own count within there holder class_side seen known left stands_for stands = record {
  value = known;
  puts = subst (λ (at : Value). StandsFor name (bare_frame at holder class_side) seen known)
      (same_Some receiver (get_or own count value.Nil) (there ∙ slice_get-get_or own count value.Nil within)) stands_for;
  stands = stands;
}

-- The method that was found is called, and puts a value.
module _ (depth : ℕ) (some : 0 < depth) (selector : Text) (receiver : Value) (arguments : List Value)
    (found : Option Found) (holder : ℕ) (class_side : Bool) (one : Instruction)
    (quick : AnswersQuickly found holder class_side one) (seen : Seen) (local : Local MadeBlock) where
  called : (answer : Value) → Does (put_value one (bare_frame receiver holder class_side)) seen (Ok answer) seen
      → Ran (call_found (callee depth) selector found receiver arguments) seen local (Ok answer) seen local
  called answer puts =
      let AtTarget : Target → Type 0 = λ target. Ran (call_of (callee depth) selector target receiver arguments)
      seen local (Ok answer) seen local in
      let AtRun : ValueRun → Type 0 = λ program. Ran program seen local (Ok answer) seen local in
      subst AtRun (by_found (callee depth) selector receiver arguments found)
      (subst AtTarget (sym quick.leads)
      (method_ran depth some quick.tree holder class_side receiver arguments
      (quick_ran (depth - 1) quick.tree one quick.quick quick.named holder class_side receiver arguments
      local (Ok answer) puts)))

-- The message is answered, where the receiver stands below its arguments.
module _ (depth : ℕ) (some : 0 < depth) (selector : Text) (frame : Frame) (own : List Value) (count : ℕ)
    (found : Option Found) (holder : ℕ) (class_side : Bool) (one : Instruction)
    (quick : AnswersQuickly found holder class_side one) (left : List Value) (seen : Seen) (budget : Budget)
    {local : Local MadeBlock}
    (finds : Ran (find_method false frame (get_or own count value.Nil) selector) (with_budget budget seen) local
    (Ok found) (with_budget budget seen) local) where
  pub known_answered : PushedAtOnce one (bare_frame (get_or own count value.Nil) holder class_side) seen
      (drop (suc count) own) left
      → Answered (found_by (callee depth) selector frame (get_or own count value.Nil) (take count own))
      (with_budget budget seen) local (drop (suc count) own) left
  known_answered pushed = record {
    answer = pushed.value;
    ran = ran_then (λ held. call_found (callee depth) selector held (get_or own count value.Nil)
        (reverse (take count own))) finds
        (called depth some selector (get_or own count value.Nil) (reverse (take count own)) found holder class_side one
        quick (with_budget budget seen) local pushed.value (pushed.puts budget));
    stands = pushed.stands;
  }

-- What a unit leaves: all but the budget is as before; and where it fails, none was left.
world_stays : (units : ℕ) (world : World) (budget : Budget) (answer : Answer (Unit {0})) (later : World) (left : Budget)
    → ticked units world budget ≡ record { answer = answer; world = later; budget = left } → later ≡ world
world_stays zero world budget answer later left is = sym (ap (λ (did : Done (Unit {0})). did.world) is)
world_stays (suc units) world budget answer later left is = sym (ap (λ (did : Done (Unit {0})). did.world) is)

abbrev fault_in : Answer (Unit {0}) → Fault
fault_in (says answer) = fault.SendBudget
fault_in (refuses found) = found

fault_is : (units : ℕ) (world : World) (budget : Budget) (found : Fault) (later : World) (left : Budget)
    → ticked units world budget ≡ record { answer = refuses found; world = later; budget = left }
    → found ≡ fault.SendBudget
fault_is zero world budget found later left is =
    sym (ap (λ (did : Done (Unit {0})). fault_in did.answer) is)
fault_is (suc units) world budget found later left is =
    sym (ap (λ (did : Done (Unit {0})). fault_in did.answer) is)

pub unit_same : {before after : Seen} → Acted Tick before (Ok tt) after → after ≡ with_budget after.budget before
unit_same {before} {after} acted =
    ap₂ (λ (setting : Setting) (world : World). record { setting = setting; world = world; budget = after.budget })
    acted.keeps.setting
    (world_stays before.budget.units before.world before.budget (says tt) after.world after.budget acted.did)

pub unit_lacks : {before after : Seen} (found : Fault) → Acted Tick before (Err (stop.Fails found)) after
    → Acted Tick before (Err (stop.Fails fault.SendBudget)) after
unit_lacks {before} {after} found acted =
    subst (λ (one : Fault). Acted Tick before (Err (stop.Fails one)) after)
    (fault_is before.budget.units before.world before.budget found after.world after.budget acted.did) acted

-- An instruction that takes a unit.
pub unit_led : (outside : Outside) (table : List Piece) (place : ℕ) (stack : List Value) (scopes : List Mark)
    (frame : Frame) (before after : Seen) (local : Local MadeBlock) (result : Result Turn AllocError)
    → UnitTurned place before result after
    → TurnedBy outside table TakeUnit place stack scopes frame before local result stack scopes after local
unit_led outside table place stack scopes frame before after local (Ok (turn.Goes there)) (is_there, acted) = λ next back.
    answered (atom Tick) tt (λ ticked state. next (suc place) stack (framed scopes frame) state)
    (does_ran (does_atom acted) local)
    ∙ ap (λ (n : ℕ). next n stack (framed scopes frame) (with_local after local)) (sym is_there)
unit_led outside table place stack scopes frame before after local (Ok turn.NoUnit) acted = λ next back.
    let ran : Ran (atom Tick) before local (Err (stop.Fails fault.SendBudget)) after local =
    does_ran (does_atom acted) local in
    ap (λ (outcome : Outcome MadeBlock (Unit {0})). ended_by outcome.end outcome.state
    (λ ticked state. next (suc place) stack (framed scopes frame) state)) ran.ends
unit_led outside table place stack scopes frame before after local (Ok (turn.Jumps there)) turned = absurd turned
unit_led outside table place stack scopes frame before after local (Ok turn.NotBoolean) turned = absurd turned
unit_led outside table place stack scopes frame before after local (Ok turn.ArgumentKind) turned = absurd turned
unit_led outside table place stack scopes frame before after local (Ok turn.TooLarge) turned = absurd turned
unit_led outside table place stack scopes frame before after local (Ok turn.Stuck) turned = absurd turned
unit_led outside table place stack scopes frame before after local (Err none) turned = tt

-- A message that is known to be answered, with its unit.
module _ (depth : ℕ) (table : List Piece) (selector : Text) (count place : ℕ) (stack left : List Value) (scopes : List Mark)
    (frame : Frame) (before after : Seen) (local : Local MadeBlock) (within : count < length stack) where
  abbrev answer_at : Seen → Type 0
  answer_at seen = Answered (found_by (callee depth) selector (framed scopes frame) (get_or stack count value.Nil)
      (take count stack)) seen local (drop (suc count) stack) left

  unit_then : {result : Result Value Stop} → Acted Tick before (Ok tt) after
      → Ran (found_by (callee depth) selector (framed scopes frame) (get_or stack count value.Nil) (take count stack))
      after local result after local
      → Ran (send_by (callee depth) false selector (framed scopes frame) (get_or stack count value.Nil)
      (take count stack)) before local result after local
  unfolding send_by
  unit_then acted rest = ran_then (λ ticked. found_by (callee depth) selector (framed scopes frame)
      (get_or stack count value.Nil) (take count stack)) (does_ran (does_atom acted) local) rest

  unit_stops : {ended : Stop} → Acted Tick before (Err ended) after
      → Ran (send_by (callee depth) false selector (framed scopes frame) (get_or stack count value.Nil)
      (take count stack)) before local (Err ended) after local
  unfolding send_by
  unit_stops acted = ran_stop (λ ticked. found_by (callee depth) selector (framed scopes frame)
      (get_or stack count value.Nil) (take count stack)) (does_ran (does_atom acted) local)

  pub known_led : ((budget : Budget) → answer_at (with_budget budget before)) → (result : Result Turn AllocError)
      → UnitTurned place before result after
      → TurnedBy (outside depth) table (Send selector count) place stack scopes frame before local result left scopes
      after local
  known_led answers (Ok (turn.Goes there)) (is_there, acted) =
      let known : answer_at after = subst answer_at (sym (unit_same acted)) (answers after.budget) in
      sent_answers depth table selector count place stack scopes scopes frame before after local local false within
      known.answer left there is_there refl known.stands (unit_then acted known.ran)
  known_led answers (Ok turn.NoUnit) acted =
      sent_stops depth table selector count place stack scopes scopes frame before after local local false within
      (stop.Fails fault.SendBudget) left (unit_stops acted)
  known_led answers (Ok (turn.Jumps there)) turned = absurd turned
  known_led answers (Ok turn.NotBoolean) turned = absurd turned
  known_led answers (Ok turn.ArgumentKind) turned = absurd turned
  known_led answers (Ok turn.TooLarge) turned = absurd turned
  known_led answers (Ok turn.Stuck) turned = absurd turned
  known_led answers (Err none) turned = tt
