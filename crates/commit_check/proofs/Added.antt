-- What the entries at one name add.
use Rattle.std.proofs.Common.{◌≡◌, ℕ, List, ◌++◌, Option, option_to_list, ap, ◌∙◌, append_assoc}
use Rattle.gem_object.specs.declared.object.Object.{Object}
use Rattle.gem_object.specs.gem_value.declared.conflict.Conflict.{Conflict}
use Rattle.commit_check.specs.Conflicts.{conflict_in, object_in}
use Rattle.commit_check.specs.declared.merging.Outcome.{Outcome}

pub three_added : (before first second third : List Conflict) (change lock change_is lock_is : Option Conflict)
    (outcome outcome_is : Outcome)
    → first ≡ before ++ option_to_list change → second ≡ first ++ option_to_list lock
    → third ≡ second ++ conflict_in outcome
    → change ≡ change_is → lock ≡ lock_is → outcome ≡ outcome_is
    → third ≡ before ++ (option_to_list change_is ++ (option_to_list lock_is ++ conflict_in outcome_is))
three_added before first second third change lock change_is lock_is outcome outcome_is one two three a b m =
    three ∙ ap (λ l. l ++ conflict_in outcome) (two ∙ ap (λ l. l ++ option_to_list lock) one)
    ∙ append_assoc (before ++ option_to_list change) (option_to_list lock) (conflict_in outcome)
    ∙ append_assoc before (option_to_list change) (option_to_list lock ++ conflict_in outcome)
    ∙ ap (λ o. before ++ (option_to_list o ++ (option_to_list lock ++ conflict_in outcome))) a
    ∙ ap (λ o. before ++ (option_to_list change_is ++ (option_to_list o ++ conflict_in outcome))) b
    ∙ ap (λ o. before ++ (option_to_list change_is ++ (option_to_list lock_is ++ conflict_in o))) m

pub merged_added : (oid : ℕ) (before after : List (ℕ × Object)) (outcome outcome_is : Outcome)
    → after ≡ before ++ object_in oid outcome → outcome ≡ outcome_is
    → after ≡ before ++ object_in oid outcome_is
merged_added oid before after outcome outcome_is added is =
    added ∙ ap (λ o. before ++ object_in oid o) is
