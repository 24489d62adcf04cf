-- Activations and evaluations of blocks.
use Rattle.std.proofs.Common.{◌≡◌, ◌∙◌, refl, sym, ap, true≢false, ℕ, zero, suc, Bool, true, false, nat_eq, List, [], ◌∷◌, length, get_or, take, set, slice_get, Some, None}
use Rattle.object_programs.specs.gem_object.declared.value.Value.{Value}
use Rattle.object_programs.specs.gem_world.World.{Setting}
use Rattle.object_programs.specs.Local.{Local}
use Rattle.object_programs.specs.Run.{give, return_to, and_then, Ending, gives, returns, fails, State, perform}
use Rattle.object_programs.specs.Programs.{choose, check}
use Rattle.object_programs.specs.declared.fault.Fault.TheVariants as fault
use Rattle.tree_meaning.specs.Place.{MadeBlock}
use Rattle.tree_meaning.specs.Operands.{ValueRun}
use Rattle.tree_meaning.specs.Scopes.{is_living, end_living, give_back_where, ending_at_home, same_ending}
use Rattle.tree_meaning.specs.Bodies.{params_count}
use Rattle.tree_meaning.specs.Calls.{call_block, call_block_at}
use Rattle.tree_meaning.specs.Reading.{caught, caught_where}
use Rattle.tree_meaning.specs.declared.place.Mark.{Mark}

module _ (setting : Setting) where
  home_where : (here : Bool) (answer : Value) (number : ℕ) (state : State MadeBlock)
      → perform (choose here (give answer) (return_to answer number)) setting state
      ≡ record { end = caught_where here answer number; state = state }
  home_where true answer number state = refl
  home_where false answer number state = refl

  pub at_home : (home : ℕ) (end : Ending Value) (state : State MadeBlock)
      → perform (ending_at_home home end) setting state
      ≡ record { end = caught home end; state = state }
  at_home home (gives answer) state = refl
  at_home home (returns answer number) state = home_where (nat_eq number home) answer number state
  at_home home (fails fault) state = refl

  pub as_it_ends : (end : Ending Value) (state : State MadeBlock)
      → perform (same_ending end) setting state ≡ record { end = end; state = state }
  as_it_ends (gives answer) state = refl
  as_it_ends (returns answer number) state = refl
  as_it_ends (fails fault) state = refl

  checked : (test : Bool) (call : ValueRun) (state : State MadeBlock) → test ≡ true
      → perform (and_then (check fault.BlockArgumentCount test) (λ done. call)) setting state
      ≡ perform call setting state
  checked true call state is = refl
  checked false call state is = absurd (true≢false (sym is))

  not_checked : (test : Bool) (call : ValueRun) (state : State MadeBlock) → test ≡ false
      → perform (and_then (check fault.BlockArgumentCount test) (λ done. call)) setting state
      ≡ record { end = fails fault.BlockArgumentCount; state = state }
  not_checked true call state is = absurd (true≢false is)
  not_checked false call state is = refl

  module _ (call : MadeBlock → List Value → ValueRun) (number : ℕ) (arguments : List Value)
      (state : State MadeBlock) where
    pub there : (made : MadeBlock) → slice_get state.local.blocks number ≡ Some made
        → nat_eq (length arguments) (params_count made.tree) ≡ true
        → perform (call_block_at call number arguments) setting state
        ≡ perform (call made arguments) setting state
    unfolding call_block_at
    there made found fits =
        ap (λ block. perform (call_block call block arguments) setting state) found
        ∙ checked (nat_eq (length arguments) (params_count made.tree)) (call made arguments) state fits

    pub not_fitting : (made : MadeBlock) → slice_get state.local.blocks number ≡ Some made
        → nat_eq (length arguments) (params_count made.tree) ≡ false
        → perform (call_block_at call number arguments) setting state
        ≡ record { end = fails fault.BlockArgumentCount; state = state }
    unfolding call_block_at
    not_fitting made found fits =
        ap (λ block. perform (call_block call block arguments) setting state) found
        ∙ not_checked (nat_eq (length arguments) (params_count made.tree)) (call made arguments) state fits

    pub not_there : slice_get state.local.blocks number ≡ None
        → perform (call_block_at call number arguments) setting state
        ≡ record { end = fails fault.ArgumentKind; state = state }
    unfolding call_block_at
    not_there found = ap (λ block. perform (call_block call block arguments) setting state) found

taken_past : (count : ℕ) (living : List Bool) → get_or (take count living) count false ≡ false
taken_past zero living = refl
taken_past (suc count) [] = refl
taken_past (suc count) (first ∷ rest) = taken_past count rest

set_false : (living : List Bool) (number : ℕ) → get_or (set living number false) number false ≡ false
set_false [] number = refl
set_false (first ∷ rest) zero = refl
set_false (first ∷ rest) (suc number) = set_false rest number

-- an activation that ended lives no more
pub ended : (given : Bool) (mark : Mark) (local : Local MadeBlock)
    → is_living mark.living (give_back_where given mark (end_living mark.living local)) ≡ false
ended true mark local = taken_past mark.living (set local.living mark.living false)
ended false mark local = set_false local.living mark.living
