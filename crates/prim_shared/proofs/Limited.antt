-- A change of a number of groups, which is tested first.
use Rattle.std.proofs.Common.{◌≡◌, ℕ, Bool, nat_le, Result, Ok, Err}
use Rattle.prim_parts.specs.tree_meaning.Place.{MadeBlock}
use Rattle.gem_object.specs.declared.value.Value.{Value}
use Rattle.gem_object.specs.declared.body.Body.{Body}
use Rattle.gem_sound.specs.gem_image.Image.{Contents}
use Rattle.object_programs.specs.Run.{Run, and_then}
use Rattle.object_programs.specs.Programs.{check, replace_body}
use Rattle.object_programs.specs.declared.fault.Fault.TheVariants as fault
use Rattle.object_programs.specs.declared.limits.TheConstants.{GROUPS_LIMIT}
use Rattle.running_objects.specs.Seen.{Seen}
use Rattle.running_objects.specs.declared.stop.Stop.{Stop}
use Rattle.prim_rules.specs.Receivers.{answer}
use Rattle.prim_rules.specs.declared.answer.PrimitiveAnswer.{PrimitiveAnswer}
use Rattle.prim_parts.specs.Does.{Does, Computes}
use Rattle.prim_parts.proofs.Does.{computes_then, computes_stop}
use Rattle.prim_shared.proofs.Steps.{over, computes_over}

module _ (name : ℕ) (object : Contents) (body : Body) (value : Value) where
  -- the number is tested, and then the body replaced
  abbrev pub limited : (count growth : ℕ) → Run MadeBlock PrimitiveAnswer
  limited count growth = and_then (check fault.ObjectTooLarge (nat_le count GROUPS_LIMIT)) (λ few.
      and_then (replace_body growth name object body) (λ replaced. answer value))

  module _ (few : Bool) (count after : ℕ) (is : few ≡ nat_le count GROUPS_LIMIT) (same : count ≡ after) where
    pub limit_kept : {before later : Seen} {result : Result PrimitiveAnswer Stop} (growth change : ℕ) → growth ≡ change
        → Computes (check fault.ObjectTooLarge few) (Ok tt)
        → Does (and_then (replace_body growth name object body) (λ replaced. answer value)) before result later
        → Does (limited after change) before result later
    limit_kept {before} {later} {result} growth change grows tested does =
        over (λ (one : ℕ). limited one change) same (over (λ (one : ℕ). limited count one) grows
        (computes_then (computes_over (check fault.ObjectTooLarge) is tested) does))

    pub limit_passed : {seen : Seen} {ended : Stop} (change : ℕ) → Computes (check fault.ObjectTooLarge few) (Err ended)
        → Does (limited after change) seen (Err ended) seen
    limit_passed {seen} {ended} change tested = over (λ (one : ℕ). limited one change) same
        (computes_stop seen (computes_over (check fault.ObjectTooLarge) is tested))
