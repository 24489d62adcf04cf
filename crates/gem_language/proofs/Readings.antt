-- What the relations of the reading say is what programs do.
use Rattle.std.proofs.Common.{◌≡◌, ◌∙◌, refl, sym, ap, subst, ℕ, zero, suc, Bool, true, false, nat_eq, length, Option, Some, None, List, slice_get, Result, Ok, Err}
use Rattle.std.proofs.lemmas.List.{reverse-reverse}
use Rattle.gem_object.specs.texts.Bytes.{Bytes as Text}
use Rattle.object_programs.specs.st_tree.Trees.{Program}
use Rattle.object_programs.specs.st_grammar.Grammar.{method}
use Rattle.object_programs.specs.st_grammar_laws.TreeOf.{TextFault, tree_of}
use Rattle.gem_object.specs.declared.value.Value.{Value}
use Rattle.gem_object.specs.declared.body.MethodCode.{MethodCode}
use Rattle.gem_object.specs.declared.body.MethodCode.TheVariants.{Source, Primitive}
use Rattle.object_programs.specs.gem_world.World.{Setting}
use Rattle.object_programs.specs.declared.fault.Fault.TheVariants as fault
use Rattle.object_programs.specs.Atom.{Tick}
use Rattle.object_programs.specs.Run.{atom, and_then, Ending, gives, returns, fails, State, Outcome, onward, perform}
use Rattle.object_programs.specs.Programs.{check}
use Rattle.tree_meaning.specs.Place.{MadeBlock}
use Rattle.tree_meaning.specs.Operands.{ValueRun}
use Rattle.tree_meaning.specs.Bodies.{params_count}
use Rattle.tree_meaning.specs.Calls.{call_block, call_block_at}
use Rattle.prim_rules.specs.declared.answer.PrimitiveAnswer.{PrimitiveAnswer}
use Rattle.prim_rules.specs.declared.answer.PrimitiveAnswer.TheVariants.{Gives, Evaluates}
use Rattle.gem_language.specs.declared.found.Found.{Found}
use Rattle.prim_rules.specs.Rules.{rule_of}
use Rattle.gem_language.specs.Sends.{callee, outside, send_by, call_found, call_code, call_source, primitive_value}
use Rattle.gem_language.specs.Comes.{Comes}
use Rattle.gem_language.specs.Reading.{Sent, look_up, stop_of, with_units, BlockComes, no_block, other_count, too_deep, evaluated, CallComes, primitive_stops, primitive_gives, primitive_evaluates, no_tree, method_too_deep, activated, SendComes, no_unit, look_up_stops, not_understood, called, send_program}

-- a program ends so as a relation says
abbrev Fits : (Ending Value → State MadeBlock → Type 0) → Outcome MadeBlock Value → Type 0
Fits R outcome = R outcome.end outcome.state

none_some : (stop : Ending Value) → None ≡ Some stop → ⊥
none_some stop is = cc

stop_or : Ending Value → Option (Ending Value) → Ending Value
stop_or other None = other
stop_or other (Some stop) = stop

same_stop : (one other : Ending Value) → Some one ≡ Some other → one ≡ other
unfolding stop_or
same_stop one other is = ap (stop_or one) is

module _ (setting : Setting) where
  -- what comes after an end
  abbrev going_on : {A : Type 0} → (A → ValueRun) → Ending A → State MadeBlock → Outcome MadeBlock Value
  going_on second end state = onward end state (λ answer after. perform (second answer) setting after)

  stopped_on : {A : Type 0} (second : A → ValueRun) (end : Ending A) (stop : Ending Value) (state : State MadeBlock)
      → stop_of end ≡ Some stop → going_on second end state ≡ record { end = stop; state = state }
  stopped_on second (gives answer) stop state is = absurd (none_some stop is)
  stopped_on second (returns answer home) stop state is =
      ap (λ (end : Ending Value). record { end = end; state = state }) (same_stop (returns answer home) stop is)
  stopped_on second (fails fault) stop state is =
      ap (λ (end : Ending Value). record { end = end; state = state }) (same_stop (fails fault) stop is)

  module _ (number : ℕ) (values : List Value) (state : State MadeBlock) where
    abbrev counted : ℕ → MadeBlock → Bool → ValueRun
    counted depth made same =
        and_then (check fault.BlockArgumentCount same) (λ checked. (callee depth).block made values)

    count_comes : (depth : ℕ) (made : MadeBlock) (same : Bool) → slice_get state.local.blocks number ≡ Some made
        → nat_eq (length values) (params_count made.tree) ≡ same
        → Fits (BlockComes depth setting number values state) (perform (counted depth made same) setting state)
    unfolding outside
    count_comes depth made false there is = other_count made there is
    count_comes zero made true there is = too_deep made there is refl
    count_comes (suc below) made true there is = evaluated made below _ _ there is refl refl

    found_comes : (depth : ℕ) (found : Option MadeBlock) → slice_get state.local.blocks number ≡ found
        → Fits (BlockComes depth setting number values state)
        (perform (call_block (callee depth).block found values) setting state)
    found_comes depth None there = no_block there
    found_comes depth (Some made) there =
        count_comes depth made (nat_eq (length values) (params_count made.tree)) there refl

    block_comes : (depth : ℕ) → Fits (BlockComes depth setting number values state)
        (perform (call_block_at (callee depth).block number values) setting state)
    unfolding call_block_at
    block_comes depth = found_comes depth (slice_get state.local.blocks number) refl

    by_found : (depth : ℕ) (found : Option MadeBlock) → slice_get state.local.blocks number ≡ found
        → perform (call_block_at (callee depth).block number values) setting state
        ≡ perform (call_block (callee depth).block found values) setting state
    unfolding call_block_at
    by_found depth found there =
        ap (λ (f : Option MadeBlock). perform (call_block (callee depth).block f values) setting state) there

    by_count : (depth : ℕ) (made : MadeBlock) (same : Bool) → slice_get state.local.blocks number ≡ Some made
        → nat_eq (length values) (params_count made.tree) ≡ same
        → perform (call_block_at (callee depth).block number values) setting state
        ≡ perform (counted depth made same) setting state
    by_count depth made same there is = by_found depth (Some made) there
        ∙ ap (λ (b : Bool). perform (counted depth made b) setting state) is

    block_only : (depth : ℕ) (end : Ending Value) (after : State MadeBlock)
        → BlockComes depth setting number values state end after
        → Comes (call_block_at (callee depth).block number values) setting state end after
    unfolding outside
    block_only depth _ _ (no_block there) = by_found depth None there
    block_only depth _ _ (other_count made there is) = by_count depth made false there is
    block_only depth _ _ (too_deep made there is deep) = by_count depth made true there is
        ∙ ap (λ (d : ℕ). perform ((callee d).block made values) setting state) deep
    block_only depth _ _ (evaluated made below end after there is deep comes) = by_count depth made true there is
        ∙ ap (λ (d : ℕ). perform ((callee d).block made values) setting state) deep ∙ comes

  module _ (message : Sent) (found : Found) (state : State MadeBlock) where
    abbrev answer_of : (depth : ℕ) → PrimitiveAnswer → ValueRun
    answer_of depth answer = primitive_value (callee depth) answer

    ended_comes : (depth number : ℕ) (end : Ending PrimitiveAnswer) (between : State MadeBlock)
        → found.code ≡ Primitive number
        → Comes (rule_of number message.receiver message.arguments) setting state end between
        → Fits (CallComes depth setting message found state) (going_on (answer_of depth) end between)
    ended_comes depth number (gives (Gives answer)) between is comes = primitive_gives number answer between is comes
    ended_comes depth number (gives (Evaluates block values)) between is comes =
        primitive_evaluates number block values between _ _ is comes
        (block_comes block.number values between depth)
    ended_comes depth number (returns answer home) between is comes =
        primitive_stops number (returns answer home) (returns answer home) between is comes refl
    ended_comes depth number (fails fault) between is comes =
        primitive_stops number (fails fault) (fails fault) between is comes refl

    tree_comes : (depth : ℕ) (tree : Result Program TextFault) (source : Text) → found.code ≡ Source source
        → tree_of method source ≡ tree
        → Fits (CallComes depth setting message found state)
        (perform (call_source (callee depth) message.selector found tree message.receiver message.arguments) setting state)
    unfolding outside
    tree_comes depth (Err wrong) source is read = no_tree source wrong is read
    tree_comes zero (Ok tree) source is read = method_too_deep source tree is read refl
    tree_comes (suc below) (Ok tree) source is read = activated source tree below _ _ is read refl refl

    code_comes : (depth : ℕ) (code : MethodCode) → found.code ≡ code
        → Fits (CallComes depth setting message found state)
        (perform (call_code (callee depth) message.selector found code message.receiver message.arguments) setting state)
    code_comes depth (Primitive number) is =
        let ruled = perform (rule_of number message.receiver message.arguments) setting state in
        ended_comes depth number ruled.end ruled.state is refl
    code_comes depth (Source source) is = tree_comes depth (tree_of method source) source is refl

    abbrev call_program : (depth : ℕ) → ValueRun
    call_program depth =
        call_code (callee depth) message.selector found found.code message.receiver message.arguments

    by_code : (depth : ℕ) (code : MethodCode) → found.code ≡ code → perform (call_program depth) setting state
        ≡ perform (call_code (callee depth) message.selector found code message.receiver message.arguments) setting state
    by_code depth code is = ap (λ (c : MethodCode). perform
        (call_code (callee depth) message.selector found c message.receiver message.arguments) setting state) is

    by_rule : (depth number : ℕ) (end : Ending PrimitiveAnswer) (between : State MadeBlock)
        → found.code ≡ Primitive number
        → Comes (rule_of number message.receiver message.arguments) setting state end between
        → perform (call_program depth) setting state ≡ going_on (answer_of depth) end between
    by_rule depth number end between is comes = by_code depth (Primitive number) is
        ∙ ap (λ (o : Outcome MadeBlock PrimitiveAnswer). going_on (answer_of depth) o.end o.state) comes

    by_tree : (depth : ℕ) (source : Text) (tree : Result Program TextFault) → found.code ≡ Source source
        → tree_of method source ≡ tree → perform (call_program depth) setting state
        ≡ perform (call_source (callee depth) message.selector found tree message.receiver message.arguments) setting state
    by_tree depth source tree is read = by_code depth (Source source) is
        ∙ ap (λ (t : Result Program TextFault). perform
        (call_source (callee depth) message.selector found t message.receiver message.arguments) setting state) read

    call_only : (depth : ℕ) (end : Ending Value) (after : State MadeBlock)
        → CallComes depth setting message found state end after
        → Comes (call_program depth) setting state end after
    unfolding outside
    call_only depth _ _ (primitive_stops number end stop after is comes stops) =
        by_rule depth number end after is comes ∙ stopped_on (answer_of depth) end stop after stops
    call_only depth _ _ (primitive_gives number answer after is comes) =
        by_rule depth number (gives (Gives answer)) after is comes
    call_only depth _ _ (primitive_evaluates number block values between end after is comes evaluates) =
        by_rule depth number (gives (Evaluates block values)) between is comes
        ∙ block_only block.number values between depth end after evaluates
    call_only depth _ _ (no_tree source wrong is read) = by_tree depth source (Err wrong) is read
    call_only depth _ _ (method_too_deep source tree is read deep) = by_tree depth source (Ok tree) is read
        ∙ ap (λ (d : ℕ). perform ((callee d).method tree found.holder found.class_side message.receiver
        message.arguments) setting state) deep
    call_only depth _ _ (activated source tree below end after is read deep comes) =
        by_tree depth source (Ok tree) is read
        ∙ ap (λ (d : ℕ). perform ((callee d).method tree found.holder found.class_side message.receiver
        message.arguments) setting state) deep ∙ comes

  module _ (depth : ℕ) (message : Sent) where
    -- what is done with what was found
    abbrev with_found : Option Found → ValueRun
    with_found found = call_found (callee depth) message.selector found message.receiver message.arguments

    looked_comes : (left : ℕ) (end : Ending (Option Found)) (state between : State MadeBlock)
        → state.budget.units ≡ suc left → Comes (look_up message) setting (with_units left state) end between
        → Fits (SendComes depth setting message state) (going_on with_found end between)
    looked_comes left (gives None) state between is comes = not_understood left between is comes
    looked_comes left (gives (Some found)) state between is comes =
        called left found between _ _ is comes (code_comes message found between depth found.code refl)
    looked_comes left (returns answer home) state between is comes =
        look_up_stops left (returns answer home) (returns answer home) between is comes refl
    looked_comes left (fails fault) state between is comes =
        look_up_stops left (fails fault) (fails fault) between is comes refl

    -- a send with its arguments in order
    sends : (arguments : List Value) → ValueRun
    sends arguments = and_then (atom Tick) (λ ticked.
        and_then (look_up message) (λ found.
        call_found (callee depth) message.selector found message.receiver arguments))

    sent_is : (state : State MadeBlock) → perform (send_program depth message) setting state
        ≡ perform (sends message.arguments) setting state
    unfolding outside send_by sends
    sent_is state = ap (λ (arguments : List Value). perform (sends arguments) setting state)
        (reverse-reverse message.arguments)

    units_comes : (units : ℕ) (state : State MadeBlock)
        → Fits (SendComes depth setting message (with_units units state))
        (perform (sends message.arguments) setting (with_units units state))
    unfolding sends
    units_comes zero state = no_unit refl
    units_comes (suc left) state =
        let looked = perform (look_up message) setting (with_units left state) in
        looked_comes left looked.end (with_units (suc left) state) looked.state refl refl

    pub send_comes : (state : State MadeBlock)
        → Fits (SendComes depth setting message state) (perform (send_program depth message) setting state)
    send_comes state = subst (Fits (SendComes depth setting message state)) (sym (sent_is state))
        (units_comes state.budget.units state)

    at_units : (units : ℕ) (state : State MadeBlock) → state.budget.units ≡ units
        → perform (send_program depth message) setting state
        ≡ perform (sends message.arguments) setting (with_units units state)
    at_units units state is = sent_is state
        ∙ ap (λ (n : ℕ). perform (sends message.arguments) setting (with_units n state)) is

    at_look_up : (left : ℕ) (end : Ending (Option Found)) (state between : State MadeBlock)
        → state.budget.units ≡ suc left → Comes (look_up message) setting (with_units left state) end between
        → perform (send_program depth message) setting state ≡ going_on with_found end between
    unfolding sends
    at_look_up left end state between is comes = at_units (suc left) state is
        ∙ ap (λ (o : Outcome MadeBlock (Option Found)). going_on with_found o.end o.state) comes

    pub send_only : (state : State MadeBlock) (end : Ending Value) (after : State MadeBlock)
        → SendComes depth setting message state end after → Comes (send_program depth message) setting state end after
    unfolding sends
    send_only state _ _ (no_unit is) = at_units 0 state is
        ∙ ap (λ (n : ℕ). record { end = fails fault.SendBudget; state = with_units n state }) (sym is)
    send_only state _ _ (look_up_stops left end stop after is comes stops) =
        at_look_up left end state after is comes ∙ stopped_on with_found end stop after stops
    send_only state _ _ (not_understood left after is comes) = at_look_up left (gives None) state after is comes
    send_only state _ _ (called left found between end after is comes calls) =
        at_look_up left (gives (Some found)) state between is comes ∙ call_only message found between depth end after calls
