-- Variables, scopes and activations, and how they are given back.
--
-- Scopes and activations have numbers, in the order in which they came. Where one ends and no block
-- was made since it began, it is given back with all that came after it: nothing can refer to it
-- any more, and no script sees the difference. Where a block was made all of them stay.
use Rattle.std.specs.Prelude.{ℕ, zero, suc, Bool, true, false, nat_eq, List, [], ◌∷◌, ◌++◌, length, get_or, take, set, replicate}
use Rattle.object_programs.specs.gem_object.declared.value.Value.{Value}
use Rattle.object_programs.specs.gem_object.declared.value.Value.TheVariants.{Nil}
use Rattle.object_programs.specs.Local.{Local}
use Rattle.object_programs.specs.Run.{give, fail, return_to, seeing, become, and_then, Ending, gives, returns, fails}
use Rattle.object_programs.specs.Programs.{choose}
use Rattle.tree_meaning.specs.Place.{Frame, MadeBlock}
use Rattle.tree_meaning.specs.Operands.{ValueRun}
use Rattle.tree_meaning.specs.declared.place.Mark.{Mark}

-- how much stands
abbrev pub mark : Local MadeBlock → Mark
mark local = record {
  scopes = length local.scopes;
  blocks = length local.blocks;
  living = length local.living;
}

-- before anything stands
abbrev pub no_mark : Mark
no_mark = record { scopes = 0; blocks = 0; living = 0 }

-- the number of the scope at a depth: 0 is the innermost one
abbrev pub scope_number : Frame → ℕ → ℕ
scope_number frame depth = (get_or frame.scopes depth no_mark).scopes

-- the frame inside a scope that was opened when so much stood
abbrev pub with_scope : Mark → Frame → Frame
with_scope mark frame = record frame { scopes = mark ∷ frame.scopes }

-- one scope more, with these variables
abbrev pub open_scope : List Value → Local MadeBlock → Local MadeBlock
open_scope values local = record local { scopes = local.scopes ++ values ∷ [] }

-- one scope and one living activation more
abbrev pub begin_method : List Value → Local MadeBlock → Local MadeBlock
begin_method values local = record {
  scopes = local.scopes ++ values ∷ [];
  blocks = local.blocks;
  living = local.living ++ true ∷ [];
}

-- whether the activation of a number lives, and the end of one
abbrev pub is_living : ℕ → Local MadeBlock → Bool
is_living number local = get_or local.living number false

abbrev pub end_living : ℕ → Local MadeBlock → Local MadeBlock
end_living number local = record local { living = set local.living number false }

-- what came since is given back, where no block was made since
abbrev pub give_back_where : Bool → Mark → Local MadeBlock → Local MadeBlock
give_back_where true mark local = record {
  scopes = take mark.scopes local.scopes;
  blocks = local.blocks;
  living = take mark.living local.living;
}
give_back_where false mark local = local

abbrev pub give_back : Mark → Local MadeBlock → Local MadeBlock
give_back mark local = give_back_where (nat_eq (length local.blocks) mark.blocks) mark local

-- the value of a variable, by its depth and its index
abbrev pub value_at : Frame → (depth index : ℕ) → Local MadeBlock → Value
value_at frame depth index local =
    get_or (get_or local.scopes (scope_number frame depth) []) index Nil

-- a variable has this value from now on
abbrev pub with_value : ℕ → ℕ → Value → Local MadeBlock → Local MadeBlock
with_value number index value local = record local {
  scopes = set local.scopes number (set (get_or local.scopes number []) index value);
}

-- the program that answers a variable's value
unfoldable pub variable_value : Frame → (depth index : ℕ) → ValueRun
variable_value frame depth index =
    seeing (λ budget local. give (value_at frame depth index local))

-- the program that stores a value in a variable, and answers it
unfoldable pub set_variable : Frame → (depth index : ℕ) → Value → ValueRun
set_variable frame depth index value = seeing (λ budget local.
    and_then (become (with_value (scope_number frame depth) index value local)) (λ stored.
    give value))

-- the end of a scope, which answers this value
unfoldable pub close_scope : Mark → Value → ValueRun
close_scope mark value = seeing (λ budget local.
    and_then (become (give_back mark local)) (λ closed. give value))

-- A program in a scope of its own, of so many variables that are nil. A scope without variables
-- isn't opened.
abbrev pub in_scope : (variables : ℕ) → Frame → (Frame → ValueRun) → ValueRun
in_scope zero frame body = body frame
in_scope (suc others) frame body = seeing (λ budget local.
    and_then (become (open_scope (replicate (suc others) Nil) local)) (λ opened.
    and_then (body (with_scope (mark local) frame)) (λ answer.
    close_scope (mark local) answer)))

-- how a method ends: a value that returns to it is its answer, and one that returns further goes on
abbrev pub ending_at_home : ℕ → Ending Value → ValueRun
ending_at_home home (gives value) = give value
ending_at_home home (returns value number) =
    choose (nat_eq number home) (give value) (return_to value number)
ending_at_home home (fails fault) = fail fault

-- a block ends as its statements end
abbrev pub same_ending : Ending Value → ValueRun
same_ending (gives value) = give value
same_ending (returns value number) = return_to value number
same_ending (fails fault) = fail fault

-- A method's end: its activation lives no more, and what came since it began is given back, where
-- no block was made.
abbrev pub leave_method : Mark → Ending Value → ValueRun
leave_method mark end = seeing (λ budget local.
    and_then (become (give_back mark (end_living mark.living local))) (λ left.
    ending_at_home mark.living end))

-- a block's end: its scope is given back, where no block was made
abbrev pub leave_block : Mark → Ending Value → ValueRun
leave_block mark end = seeing (λ budget local.
    and_then (become (give_back mark local)) (λ left. same_ending end))
