-- One computation after the other.
use Rattle.std.proofs.Common.{◌≡◌, ℤ, pos, Bool, false, not, sym, ap, ◌∙◌, subst, Result, Ok, Err}
use Rattle.std.specs.Result.{IsErrAnd}
use Rattle.std.proofs.lemmas.Result.{err_from_is_err_and}
use Rattle.std.specs.Ordering.{int_eq}
use Rattle.object_programs.specs.Programs.{check}
use Rattle.object_programs.specs.declared.fault.Fault.TheVariants as fault
use Rattle.prim_parts.specs.tree_meaning.Place.{MadeBlock}
use Rattle.object_programs.specs.Run.{Run, and_then}
use Rattle.running_objects.specs.declared.stop.Stop.{Stop}
use Rattle.gem_object.specs.declared.value.Value.{Value}
use Rattle.prim_rules.specs.Parts.{answers}
use Rattle.prim_rules.specs.Numbers.{in_range, divided}
use Rattle.prim_rules.specs.declared.answer.PrimitiveAnswer.{PrimitiveAnswer}
use Rattle.prim_rules.specs.declared.answer.PrimitiveAnswer.TheVariants.{Gives}
use Rattle.prim_parts.specs.Does.{Computes}
use Rattle.prim_parts.proofs.Does.{computes_give}
use Rattle.prim_parts.proofs.Onward.{computes_off, computes_on}

-- where a `?` hands an error on: give it the two fields of `from_residual`
pub computes_exit : {A C : Type 0} {first : Run MadeBlock C} {second : C → Run MadeBlock A} {ended : Stop}
    (result : Result A Stop) → IsErrAnd result (λ given. given ≡ ended) → Computes first (Err ended)
    → Computes (and_then first second) result
computes_exit {A} {C} {first} {second} {ended} result exit one =
    let given = err_from_is_err_and result exit in
    let At : Result A Stop → Type 0 = λ found. Computes (and_then first second) found in
    subst At (sym (given.1 ∙ ap Err given.2)) (computes_off one)

-- the value of a computation as the answer of a primitive
pub answered_on : {program : Run MadeBlock Value} {value : Value} → Computes program (Ok value)
    → Computes (answers program) (Ok (Gives value))
answered_on one = computes_on one (computes_give (Gives _))

pub answered_exit : {program : Run MadeBlock Value} {ended : Stop} (result : Result PrimitiveAnswer Stop)
    → IsErrAnd result (λ given. given ≡ ended) → Computes program (Err ended) → Computes (answers program) result
answered_exit result exit one = computes_exit result exit one

-- of the same number
pub in_range_same : (number other : ℤ) {result : Result Value Stop} → number ≡ other
    → Computes (in_range number) result → Computes (in_range other) result
in_range_same number other {result} same one =
    let At : ℤ → Type 0 = λ number. Computes (in_range number) result in
    subst At same one

-- a division by another number than 0
pub divided_on : (division : ℤ → ℤ → ℤ) (number divisor : ℤ) {result : Result Value Stop}
    → int_eq divisor (pos 0) ≡ false → Computes (in_range (division number divisor)) result
    → Computes (divided division number divisor) result
divided_on division number divisor {result} apart one =
    let At : Bool → Type 0 = λ same. Computes (and_then (check fault.ZeroDivisor (not same))
    (λ divides. in_range (division number divisor))) result in
    subst At (sym apart) (computes_on (computes_give tt) one)
