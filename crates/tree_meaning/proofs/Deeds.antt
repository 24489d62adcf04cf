-- Deeds one after the other, and a unit.
use Rattle.std.proofs.Common.{◌≡◌, refl, ℕ, zero, suc, ◌≤◌, List, ◌∷◌}
use Rattle.object_programs.specs.st_tree.Trees.{Expressions, no_expressions, an_expression}
use Rattle.object_programs.specs.gem_object.declared.value.Value.{Value}
use Rattle.object_programs.specs.gem_world.World.{Setting}
use Rattle.object_programs.specs.Atom.{Tick, ticked}
use Rattle.object_programs.specs.Run.{Run, atom, and_then, Ending, gives, returns, fails, State, end_of, onward, perform}
use Rattle.object_programs.specs.Laws.{Falls}
use Rattle.object_programs.proofs.Kept.{kept}
use Rattle.object_programs.proofs.Falling.{budgets_fall}
use Rattle.tree_meaning.specs.Place.{Place, Frame, MadeBlock}
use Rattle.tree_meaning.specs.Operands.{ValueRun}
use Rattle.tree_meaning.specs.Parts.{argument_values}
use Rattle.tree_meaning.specs.Meaning.{Outside, expression_value, arguments_of}
use Rattle.tree_meaning.specs.Reading.{Deed, answers, spending, unit_then, in_order}

-- the units never grow
pub units_fall : {A : Type 0} (setting : Setting) (program : Run MadeBlock A) (state : State MadeBlock)
    → (perform program setting state).state.budget.units ≤ state.budget.units
units_fall setting program state = (kept setting Falls (budgets_fall setting) program state).units

-- what follows an end may be said otherwise
pub onward_same : (end : Ending Value) (state : State MadeBlock) (first second : Value → Deed)
    → ((answer : Value) → first answer state ≡ second answer state)
    → onward end state first ≡ onward end state second
onward_same (gives answer) state first second same = same answer
onward_same (returns answer home) state first second same = refl
onward_same (fails fault) state first second same = refl

-- three in a row
pub onward_twice : (end : Ending Value) (state : State MadeBlock) (second third : Value → Deed)
    → onward (onward end state second).end (onward end state second).state third
    ≡ onward end state (λ answer later.
    onward (second answer later).end (second answer later).state third)
onward_twice (gives answer) state second third = refl
onward_twice (returns answer home) state second third = refl
onward_twice (fails fault) state second third = refl

-- only the answer
pub onward_alone : (end : Ending Value) (state : State MadeBlock)
    → onward end state answers ≡ record { end = end; state = state }
onward_alone (gives answer) state = refl
onward_alone (returns answer home) state = refl
onward_alone (fails fault) state = refl

spent_first : (setting : Setting) (program : ValueRun) (state : State MadeBlock) (units : ℕ)
    → let one = ticked units state.world state.budget in
    onward (end_of one.answer) (record { world = one.world; budget = one.budget; local = state.local })
    (λ answer later. perform program setting later)
    ≡ spending units (λ later. perform program setting later) state
spent_first setting program state zero = refl
spent_first setting program state (suc left) = refl

-- a unit first
pub unit_first : (setting : Setting) (program : ValueRun) (state : State MadeBlock)
    → perform (and_then (atom Tick) (λ done. program)) setting state
    ≡ unit_then (λ later. perform program setting later) state
unit_first setting program state = spent_first setting program state state.budget.units

-- arguments in order
pub in_order_read : (outside : Outside) (setting : Setting) (place : Place) (frame : Frame)
    (arguments : Expressions) (values : List Value) (next : List Value → ValueRun)
    (state : State MadeBlock)
    → perform (argument_values (arguments_of outside arguments) values place frame next) setting state
    ≡ in_order outside setting place frame arguments values (λ all later. perform (next all) setting later)
    state
in_order_read outside setting place frame no_expressions values next state = refl
in_order_read outside setting place frame (an_expression first rest) values next state =
    let before = perform (expression_value outside first place frame) setting state in
    onward_same before.end before.state
    (λ answer later. perform (argument_values (arguments_of outside rest) (answer ∷ values) place frame
    next) setting later)
    (λ answer later. in_order outside setting place frame rest (answer ∷ values)
    (λ all last. perform (next all) setting last) later)
    (λ answer. in_order_read outside setting place frame rest (answer ∷ values) next before.state)
