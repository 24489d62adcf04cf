-- Commands come to what the relations say.
use Rattle.std.proofs.Common.{arith, ◌≡◌, ◌∙◌, refl, ap, ℕ, Bool, true, false, ◌<◌, nat_le, length, Option, Some, None, is_some, option_map, Result, Ok, Err, cond}
use Rattle.std.proofs.lemmas.Bool.{leb-true, le-leb}
use Rattle.gem_object.specs.texts.Bytes.{Bytes as Text}
use Rattle.gem_object.specs.texts.declared.limits.TheConstants.{SYMBOL_LIMIT}
use Rattle.object_programs.specs.st_tree.Trees.{Program}
use Rattle.object_programs.specs.st_grammar.Grammar.{chunk, method as a_method}
use Rattle.object_programs.specs.st_grammar_laws.TreeOf.{TextFault, tree_of}
use Rattle.gem_object.specs.declared.value.Value.{Value}
use Rattle.gem_object.specs.declared.value.Value.TheVariants as value
use Rattle.gem_object.specs.declared.body.MethodCode.TheVariants.{Source}
use Rattle.gem_object.specs.declared.body.ClassBody.{ClassBody}
use Rattle.gem_object.specs.declared.body.Body.{Body}
use Rattle.gem_object.specs.declared.body.Body.TheVariants as body
use Rattle.object_programs.specs.gem_image.Image.{Contents}
use Rattle.object_programs.specs.gem_sound.Parts.{class_of}
use Rattle.object_programs.specs.gem_world.World.{Setting, World, shown, with_name}
use Rattle.object_programs.specs.gem_world.Access.{Access, a_read, a_write, is_allowed, accessed}
use Rattle.object_programs.specs.Budget.{bytes_cost}
use Rattle.object_programs.specs.Fixed.{Fixed, class_part, fixed_of, fixed_by}
use Rattle.object_programs.specs.Atom.{Ask, access_fault, access_answer, touch_missing}
use Rattle.object_programs.specs.declared.fault.Fault.{Fault}
use Rattle.object_programs.specs.declared.fault.Fault.TheVariants as fault
use Rattle.object_programs.specs.Run.{Run, give, atom, and_then, Ending, gives, returns, fails, State, Outcome, end_of, onward, perform}
use Rattle.object_programs.specs.Programs.{need, check, read, write, known, replace_body}
use Rattle.tree_meaning.specs.Place.{MadeBlock}
use Rattle.prim_rules.specs.Printing.{print_text}
use Rattle.gem_language.specs.OutOfScope.{find_global, global_value}
use Rattle.gem_language.specs.Sends.{chunk_value}
use Rattle.gem_language.specs.Install.{class_named, put_method, install}
use Rattle.gem_language.specs.Commands.{Command, run_chunk, install_method, Reply, ReplyRun, ran, printed, installed, selector_of, chunk_reply, method_reply, reply_by, command_reply}
use Rattle.gem_language.specs.Transaction.{begin_command}
use Rattle.gem_language.specs.Comes.{Comes}
use Rattle.gem_language.specs.ReadingNames.{Reads, Writes, HasGlobal}
use Rattle.gem_language.specs.ReadingCommands.{stop_of_command, CommandComes, chunk_not_read, method_not_read, chunk_stops, chunk_ran, print_stops, chunk_printed, install_stops, method_installed, MethodSource, with_source, InstallComes, not_looked_up, unknown_class, no_reference, not_a_class, not_readable, not_writable, long_selector, puts}
use Rattle.gem_language.proofs.Ends.{then_comes}
use Rattle.gem_language.proofs.NameReadings.{access_comes, only_global}

none_some : (stop : Ending Reply) → None ≡ Some stop → ⊥
none_some stop is = cc

stop_or : Ending Reply → Option (Ending Reply) → Ending Reply
stop_or other None = other
stop_or other (Some stop) = stop

same_stop : (one other : Ending Reply) → Some one ≡ Some other → one ≡ other
unfolding stop_or
same_stop one other is = ap (stop_or one) is

too_long : (limit count : ℕ) → limit < count → (le : Bool) → nat_le count limit ≡ le → le ≡ false
too_long limit count above true is = absurd (omega (arith, above, leb-true count limit is))
too_long limit count above false is = refl

abbrev Fits : (Ending Reply → State MadeBlock → Type 0) → Outcome MadeBlock Reply → Type 0
Fits R outcome = R outcome.end outcome.state

module _ (setting : Setting) where
  abbrev going_on : {A : Type 0} → (A → ReplyRun) → Ending A → State MadeBlock → Outcome MadeBlock Reply
  going_on second end state = onward end state (λ answer after. perform (second answer) setting after)

  stopped_on : {A : Type 0} (second : A → ReplyRun) (end : Ending A) (stop : Ending Reply) (state : State MadeBlock)
      → stop_of_command end ≡ Some stop → going_on second end state ≡ record { end = stop; state = state }
  stopped_on second (gives answer) stop state is = absurd (none_some stop is)
  stopped_on second (returns answer home) stop state is =
      ap (λ (end : Ending Reply). record { end = end; state = state }) (same_stop (returns answer home) stop is)
  stopped_on second (fails fault) stop state is =
      ap (λ (end : Ending Reply). record { end = end; state = state }) (same_stop (fails fault) stop is)

  goes_on : {A : Type 0} (first : Run MadeBlock A) (second : A → ReplyRun) (state : State MadeBlock) (end : Ending A)
      (between : State MadeBlock) → Comes first setting state end between
      → perform (and_then first second) setting state ≡ going_on second end between
  goes_on first second state end between is =
      ap (λ (o : Outcome MadeBlock _). going_on second o.end o.state) is

  module _ (world : World) where
    -- where commands begin
    abbrev begun : State MadeBlock
    begun = begin_command world

    abbrev reply_printed : Value → ReplyRun
    reply_printed answer = and_then (print_text answer) (λ text. give (printed text))

    print_comes : (text : Text) (tree : Program) (answer : Value) (between : State MadeBlock) (end : Ending Text)
        (after : State MadeBlock) → tree_of chunk text ≡ Ok tree
        → Comes (chunk_value tree) setting begun (gives answer) between
        → Comes (print_text answer) setting between end after
        → Fits (CommandComes setting world (run_chunk true text)) (going_on (λ text. give (printed text)) end after)
    print_comes text tree answer between (gives print) after read comes prints =
        chunk_printed text tree answer print between after read comes prints
    print_comes text tree answer between (returns back home) after read comes prints =
        print_stops text tree answer (returns back home) (returns back home) between after read comes prints refl
    print_comes text tree answer between (fails fault) after read comes prints =
        print_stops text tree answer (fails fault) (fails fault) between after read comes prints refl

    ran_comes : (text : Text) (tree : Program) (end : Ending Value) (after : State MadeBlock)
        → tree_of chunk text ≡ Ok tree → Comes (chunk_value tree) setting begun end after
        → Fits (CommandComes setting world (run_chunk false text)) (going_on (λ answer. give ran) end after)
    ran_comes text tree (gives answer) after read comes = chunk_ran text tree answer after read comes
    ran_comes text tree (returns back home) after read comes =
        chunk_stops false text tree (returns back home) (returns back home) after read comes refl
    ran_comes text tree (fails fault) after read comes =
        chunk_stops false text tree (fails fault) (fails fault) after read comes refl

    printed_comes : (text : Text) (tree : Program) (end : Ending Value) (after : State MadeBlock)
        → tree_of chunk text ≡ Ok tree → Comes (chunk_value tree) setting begun end after
        → Fits (CommandComes setting world (run_chunk true text)) (going_on reply_printed end after)
    printed_comes text tree (gives answer) after read comes =
        let prints = perform (print_text answer) setting after in
        print_comes text tree answer after prints.end prints.state read comes refl
    printed_comes text tree (returns back home) after read comes =
        chunk_stops true text tree (returns back home) (returns back home) after read comes refl
    printed_comes text tree (fails fault) after read comes =
        chunk_stops true text tree (fails fault) (fails fault) after read comes refl

    chunk_comes : (prints : Bool) (text : Text) (tree : Result Program TextFault) → tree_of chunk text ≡ tree
        → Fits (CommandComes setting world (run_chunk prints text))
        (perform (reply_by (chunk_reply prints) tree) setting begun)
    chunk_comes prints text (Err wrong) read = chunk_not_read prints text wrong read
    chunk_comes false text (Ok tree) read =
        let runs = perform (chunk_value tree) setting begun in
        ran_comes text tree runs.end runs.state read refl
    chunk_comes true text (Ok tree) read =
        let runs = perform (chunk_value tree) setting begun in
        printed_comes text tree runs.end runs.state read refl

    module _ (class_side : Bool) (class source : Text) where
      abbrev installing : Program → Run MadeBlock (Unit {0})
      installing tree = install class_side class (selector_of tree) source

      installed_comes : (tree : Program) (end : Ending (Unit {0})) (after : State MadeBlock)
          → tree_of a_method source ≡ Ok tree → Comes (installing tree) setting begun end after
          → Fits (CommandComes setting world (install_method class_side class source))
          (going_on (λ done. give (installed (selector_of tree))) end after)
      installed_comes tree (gives done) after read comes =
          method_installed class_side class source tree after read comes
      installed_comes tree (returns back home) after read comes = install_stops class_side class source tree
          (returns back home) (returns back home) after read comes refl
      installed_comes tree (fails fault) after read comes =
          install_stops class_side class source tree (fails fault) (fails fault) after read comes refl

      method_comes : (tree : Result Program TextFault) → tree_of a_method source ≡ tree
          → Fits (CommandComes setting world (install_method class_side class source))
          (perform (reply_by (method_reply class_side class source) tree) setting begun)
      method_comes (Err wrong) read = method_not_read class_side class source wrong read
      method_comes (Ok tree) read =
          let runs = perform (installing tree) setting begun in
          installed_comes tree runs.end runs.state read refl

    pub command_comes : (command : Command) → Fits (CommandComes setting world command)
        (perform (command_reply command) setting begun)
    unfolding command_reply
    command_comes (run_chunk prints text) = chunk_comes prints text (tree_of chunk text) refl
    command_comes (install_method class_side class source) =
        method_comes class_side class source (tree_of a_method source) refl

    by_chunk : (prints : Bool) (text : Text) (tree : Result Program TextFault) → tree_of chunk text ≡ tree
        → perform (command_reply (run_chunk prints text)) setting begun
        ≡ perform (reply_by (chunk_reply prints) tree) setting begun
    unfolding command_reply
    by_chunk prints text tree read =
        ap (λ (t : Result Program TextFault). perform (reply_by (chunk_reply prints) t) setting begun) read

    by_method : (class_side : Bool) (class source : Text) (tree : Result Program TextFault)
        → tree_of a_method source ≡ tree
        → perform (command_reply (install_method class_side class source)) setting begun
        ≡ perform (reply_by (method_reply class_side class source) tree) setting begun
    unfolding command_reply
    by_method class_side class source tree read = ap (λ (t : Result Program TextFault). perform
        (reply_by (method_reply class_side class source) t) setting begun) read

    chunk_ends : (prints : Bool) (text : Text) (tree : Program) (end : Ending Value) (stop : Ending Reply)
        (after : State MadeBlock) → Comes (chunk_value tree) setting begun end after
        → stop_of_command end ≡ Some stop → Comes (chunk_reply prints tree) setting begun stop after
    chunk_ends false text tree end stop after comes is = goes_on (chunk_value tree) (λ answer. give ran) begun end after
        comes ∙ stopped_on (λ answer. give ran) end stop after is
    chunk_ends true text tree end stop after comes is = goes_on (chunk_value tree) reply_printed begun end after
        comes ∙ stopped_on reply_printed end stop after is

    pub command_only : (command : Command) (end : Ending Reply) (after : State MadeBlock)
        → CommandComes setting world command end after → Comes (command_reply command) setting begun end after
    command_only _ _ _ (chunk_not_read prints text wrong read) = by_chunk prints text (Err wrong) read
    command_only _ _ _ (method_not_read class_side class source wrong read) =
        by_method class_side class source (Err wrong) read
    command_only _ _ _ (chunk_stops prints text tree end stop after read comes is) =
        by_chunk prints text (Ok tree) read ∙ chunk_ends prints text tree end stop after comes is
    command_only _ _ _ (chunk_ran text tree answer after read comes) = by_chunk false text (Ok tree) read
        ∙ goes_on (chunk_value tree) (λ answer. give ran) begun (gives answer) after comes
    command_only _ _ _ (print_stops text tree answer end stop between after read comes prints is) =
        by_chunk true text (Ok tree) read
        ∙ goes_on (chunk_value tree) reply_printed begun (gives answer) between comes
        ∙ goes_on (print_text answer) (λ text. give (printed text)) between end after prints
        ∙ stopped_on (λ text. give (printed text)) end stop after is
    command_only _ _ _ (chunk_printed text tree answer print between after read comes prints) =
        by_chunk true text (Ok tree) read
        ∙ goes_on (chunk_value tree) reply_printed begun (gives answer) between comes
        ∙ goes_on (print_text answer) (λ text. give (printed text)) between (gives print) after prints
    command_only _ _ _ (install_stops class_side class source tree end stop after read comes is) =
        by_method class_side class source (Ok tree) read
        ∙ goes_on (installing class_side class source tree) (λ done. give (installed (selector_of tree))) begun end after
        comes ∙ stopped_on (λ done. give (installed (selector_of tree))) end stop after is
    command_only _ _ _ (method_installed class_side class source tree after read comes) =
        by_method class_side class source (Ok tree) read
        ∙ goes_on (installing class_side class source tree) (λ done. give (installed (selector_of tree))) begun
        (gives tt) after comes

  -- a refused access
  refused_access : (access : Access) (name : ℕ) (state : State MadeBlock)
      → is_allowed access name setting state.world ≡ false
      → Comes (atom (Ask access name)) setting state (fails (access_fault access name))
      (record state { world = accessed access name setting state.world })
  refused_access access name state not = ap (λ (allowed : Bool). record {
    end = end_of (access_answer allowed access name (shown name setting state.world));
    state = record state { world = accessed access name setting state.world };
  }) not

  -- the fixed part of what is there
  known_comes : (name : ℕ) (state : State MadeBlock) (object : Contents)
      → shown name setting state.world ≡ Some object
      → Comes (known fault.ArgumentKind name) setting state (gives (fixed_of object)) state
  unfolding touch_missing
  known_comes name state object there =
      let parts : fixed_by setting state.world name ≡ Some (fixed_of object) =
      ap (λ (found : Option Contents). option_map fixed_of found) there in
      ap (λ (found : Option Fixed). perform (need fault.ArgumentKind found) setting (record state {
        world = record state.world {
          touched = cond (is_some found) state.world.touched (with_name state.world.touched name);
        };
      })) parts

  is_class : (held : Body) (class : ClassBody) → class_of held ≡ Some class → is_some (class_part held) ≡ true
  is_class (body.Class here) class is = refl
  is_class (body.Plain v) class is = cc
  is_class (body.Bytes v) class is = cc
  is_class (body.Dict v) class is = cc
  is_class (body.Segment v) class is = cc
  is_class (body.User v) class is = cc
  is_class (body.Counter v) class is = cc
  is_class (body.Bag v) class is = cc
  is_class (body.RcDict v) class is = cc
  is_class (body.Queue v) class is = cc

  no_class : (held : Body) → class_of held ≡ None → is_some (class_part held) ≡ false
  no_class (body.Class here) is = cc
  no_class held is = refl

  module _ (method : MethodSource) (state : State MadeBlock) where
    abbrev program : Run MadeBlock (Unit {0})
    program = install method.class_side method.class method.selector method.source

    abbrev for_class : ℕ → Run MadeBlock (Unit {0})
    for_class name = put_method method.class_side
        (record { selector = method.selector; code = Source method.source }) method.source name

    abbrev for_value : Value → Run MadeBlock (Unit {0})
    for_value found = and_then (class_named found) (λ name. for_class name)

    at_global : (found : Option Value) (between : State MadeBlock)
        → HasGlobal setting method.class state found between
        → perform program setting state ≡ perform
        (and_then (need (fault.UndefinedVariable method.class) found) (λ value. for_value value)) setting between
    unfolding install global_value
    at_global found between has = ap (λ (o : Outcome MadeBlock (Option Value)). perform_rest o)
        (only_global setting method.class state found between has)
      where
        perform_rest : Outcome MadeBlock (Option Value) → Outcome MadeBlock (Unit {0})
        perform_rest o =
            let needed = onward o.end o.state
            (λ found after. perform (need (fault.UndefinedVariable method.class) found) setting after) in
            onward needed.end needed.state (λ value after. perform (for_value value) setting after)

    not_found : (wrong : Fault) (after : State MadeBlock)
        → Comes (find_global method.class) setting state (fails wrong) after → Comes program setting state (fails wrong) after
    unfolding install global_value
    not_found wrong after comes = ap (λ (o : Outcome MadeBlock (Option Value)). perform_rest o) comes
      where
        perform_rest : Outcome MadeBlock (Option Value) → Outcome MadeBlock (Unit {0})
        perform_rest o =
            let needed = onward o.end o.state
            (λ found after. perform (need (fault.UndefinedVariable method.class) found) setting after) in
            onward needed.end needed.state (λ value after. perform (for_value value) setting after)

    at_reference : (name : ℕ) (object : Contents) (found : State MadeBlock)
        → HasGlobal setting method.class state (Some (value.Ref name)) found
        → shown name setting found.world ≡ Some object → (is_one : Bool) → is_some (class_part object.body) ≡ is_one
        → perform program setting state ≡ perform
        (and_then (and_then (check fault.ArgumentKind is_one) (λ is_class. give name)) (λ name. for_class name))
        setting found
    at_reference name object found has there is_one is = at_global (Some (value.Ref name)) found has
        ∙ ap (λ (o : Outcome MadeBlock Fixed). perform_rest o) (known_comes name found object there)
        ∙ ap (λ (b : Bool). perform
        (and_then (and_then (check fault.ArgumentKind b) (λ is_class. give name)) (λ name. for_class name)) setting
        found) is
      where
        perform_rest : Outcome MadeBlock Fixed → Outcome MadeBlock (Unit {0})
        perform_rest o =
            let checked = onward o.end o.state (λ fixed after. perform
            (and_then (check fault.ArgumentKind (is_some fixed.as_class)) (λ is_class. give name)) setting after) in
            onward checked.end checked.state (λ name after. perform (for_class name) setting after)

    at_class : (name : ℕ) (object : Contents) (held : ClassBody) (found : State MadeBlock)
        → HasGlobal setting method.class state (Some (value.Ref name)) found
        → shown name setting found.world ≡ Some object → class_of object.body ≡ Some held
        → perform program setting state ≡ perform (for_class name) setting found
    at_class name object held found has there is =
        at_reference name object found has there true (is_class object.body held is)

    abbrev after_class : ℕ → Contents → ClassBody → Run MadeBlock (Unit {0})
    after_class name written class =
        and_then (check fault.ObjectTooLarge (nat_le (length method.selector) SYMBOL_LIMIT)) (λ short.
        replace_body (bytes_cost (length method.source)) name written (body.Class (with_source method class)))

    abbrev after_write : ℕ → Contents → Run MadeBlock (Unit {0})
    after_write name written = and_then (need fault.ArgumentKind (class_of written.body)) (λ class. after_class name written class)

    at_written : (name : ℕ) (object written : Contents) (held : ClassBody) (found read between : State MadeBlock)
        → HasGlobal setting method.class state (Some (value.Ref name)) found → class_of object.body ≡ Some held
        → Reads setting name found object read → Writes setting name read written between
        → class_of written.body ≡ Some held → (short : Bool) → nat_le (length method.selector) SYMBOL_LIMIT ≡ short
        → perform program setting state ≡ perform (and_then (check fault.ObjectTooLarge short) (λ short.
        replace_body (bytes_cost (length method.source)) name written (body.Class (with_source method held)))) setting
        between
    at_written name object written held found between_read between has is reads writes is_written short small =
        at_class name object held found has reads.there is
        ∙ then_comes setting (read name) (λ seen. and_then (write name) (λ written. after_write name written)) found
        object between_read (access_comes setting a_read name found object between_read reads)
        ∙ then_comes setting (write name) (λ written. after_write name written) between_read written between
        (access_comes setting a_write name between_read written between writes)
        ∙ ap (λ (c : Option ClassBody). perform (and_then (need fault.ArgumentKind c)
        (λ class. after_class name written class)) setting between) is_written
        ∙ ap (λ (b : Bool). perform (and_then (check fault.ObjectTooLarge b) (λ short.
        replace_body (bytes_cost (length method.source)) name written (body.Class (with_source method held)))) setting
        between) small

    pub install_only : (end : Ending (Unit {0})) (after : State MadeBlock)
        → InstallComes setting method state end after → Comes program setting state end after
    install_only _ _ (not_looked_up wrong after comes) = not_found wrong after comes
    install_only _ _ (unknown_class after has) = at_global None after has
    install_only _ _ (no_reference answer after has none) = at_global (Some answer) after has
        ∙ ap (λ (reference : Option ℕ). perform_rest after reference) none
      where
        perform_rest : State MadeBlock → Option ℕ → Outcome MadeBlock (Unit {0})
        perform_rest after reference = perform (and_then (and_then (need fault.ArgumentKind reference) (λ name.
            and_then (known fault.ArgumentKind name) (λ fixed.
            and_then (check fault.ArgumentKind (is_some fixed.as_class)) (λ is_class.
            give name)))) (λ name. for_class name)) setting after
    install_only _ _ (not_a_class name object after has there none) =
        at_reference name object after has there false (no_class object.body none)
    install_only _ _ (not_readable name object held found has there is not) = at_class name object held found has there is
        ∙ ap (λ (o : Outcome MadeBlock Contents). onward o.end o.state (λ seen after. perform
        (and_then (write name) (λ written. after_write name written)) setting after)) (refused_access a_read name found not)
    install_only _ _ (not_writable name object held found between has is reads not) =
        at_class name object held found has reads.there is
        ∙ then_comes setting (read name) (λ seen. and_then (write name) (λ written. after_write name written)) found
        object between (access_comes setting a_read name found object between reads)
        ∙ ap (λ (o : Outcome MadeBlock Contents). onward o.end o.state (λ written after. perform
        (after_write name written) setting after)) (refused_access a_write name between not)
    install_only _ _ (long_selector name object written held found between after has is reads writes is_written long) =
        at_written name object written held found between after has is reads writes is_written false
        (too_long SYMBOL_LIMIT (length method.selector) long (nat_le (length method.selector) SYMBOL_LIMIT) refl)
    install_only _ _ (puts name object written held found between over after end has is reads writes is_written short comes) =
        at_written name object written held found between over has is reads writes is_written true
        (le-leb (length method.selector) SYMBOL_LIMIT short) ∙ comes
