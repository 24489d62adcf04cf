-- What is copied.
use Rattle.std.proofs.Common.{◌≡◌, subst, ℕ, Bool, true, false, cond, Some, None, Result}
use Rattle.gem_object.specs.declared.value.Value.{Value}
use Rattle.gem_object.specs.declared.body.Body.{Body}
use Rattle.object_programs.specs.Run.{and_then}
use Rattle.object_programs.specs.Programs.{check}
use Rattle.object_programs.specs.declared.fault.Fault.{Fault}
use Rattle.running_objects.specs.Seen.{Seen}
use Rattle.running_objects.specs.declared.stop.Stop.{Stop}
use Rattle.prim_rules.specs.Parts.{new_object}
use Rattle.prim_rules.specs.Any.{is_copied}
use Rattle.prim_parts.specs.Does.{Does}
use Rattle.prim_parts.proofs.Does.{does_give, does_then}

-- a new object of the copy of a body
pub copied_then : {before after : Seen} {result : Result Value Stop} (fault : Fault) (class : ℕ) (made one : Body)
    → Some made ≡ cond (is_copied one) (Some one) None → Does (new_object class made) before result after
    → Does (and_then (check fault (is_copied one)) (λ copied. new_object class one)) before result after
copied_then {before} {after} {result} fault class made one is does = by (is_copied one) is
  where
    by : (test : Bool) → Some made ≡ cond test (Some one) None
        → Does (and_then (check fault test) (λ copied. new_object class one)) before result after
    by true same =
        let At : Body → Type 0 = λ body. Does (new_object class body) before result after in
        let this : made ≡ one = cc in
        does_then (does_give tt before) (subst At this does)
    by false same = absurd (cc)
