-- Whether two values are the same.
use Rattle.std.proofs.Common.{◌≡◌, subst, Bool, not, ◌||◌, Result, Ok, Err}
use Rattle.std.specs.Result.{IsErrAnd}
use Rattle.gem_object.specs.Order.{same_value}
use Rattle.gem_object.specs.declared.value.Value.{Value}
use Rattle.object_programs.specs.Programs.{check}
use Rattle.object_programs.specs.declared.fault.Fault.TheVariants as fault
use Rattle.running_objects.specs.declared.stop.Stop.{Stop}
use Rattle.prim_rules.specs.Parts.{is_block, truth}
use Rattle.prim_rules.specs.Any.{same_rule}
use Rattle.prim_parts.specs.Does.{Computes}
use Rattle.prim_classes.proofs.Steps.{computes_ends, computes_given}
use Rattle.prim_parts.proofs.Onward.{computes_on}

module _ (value other : Value) (none : Bool) (is : none ≡ not (is_block value || is_block other)) where
  pub same_stops : {result : Result Value Stop} {ended : Stop} → Computes (check fault.ArgumentKind none) (Err ended)
      → IsErrAnd result (λ given. given ≡ ended) → Computes (same_rule value other) result
  same_stops {result} {ended} stops exit =
      let At : Bool → Type 0 = λ test. Computes (check fault.ArgumentKind test) (Err ended) in
      computes_ends (subst At is stops) exit

pub same_gives : (value other : Value) (none : Bool) (given : Value) → none ≡ not (is_block value || is_block other)
    → Computes (check fault.ArgumentKind none) (Ok tt) → given ≡ truth (same_value value other)
    → Computes (same_rule value other) (Ok given)
same_gives value other none given is passes same =
    let At : Bool → Type 0 = λ test. Computes (check fault.ArgumentKind test) (Ok tt) in
    computes_on (subst At is passes) (computes_given same)
