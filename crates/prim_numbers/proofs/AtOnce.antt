-- The answers of primitives of two integers.
use Rattle.std.proofs.Common.{ℤ, [], ◌∷◌, Option, Some, None, Ok, IfSome, to_z, of_z, w64}
use Rattle.std.specs.Prelude.{FitsSigned}
use Rattle.std.proofs.lemmas.Int.{to_z-of_z}
use Rattle.gem_object.specs.declared.value.Value.{Value}
use Rattle.gem_object.specs.declared.value.Value.TheVariants.{Int}
use Rattle.prim_rules.specs.Any.{same_rule, same_row}
use Rattle.prim_rules.specs.Numbers.{integers_row}
use Rattle.prim_rules.specs.declared.answer.PrimitiveAnswer.TheVariants.{Gives}
use Rattle.prim_parts.specs.Does.{Computes}
use Rattle.prim_parts.proofs.Does.{computes_give}
use Rattle.prim_parts.proofs.Onward.{computes_on}
use Rattle.prim_numbers.specs.Operations.{operation_rule}
use Rattle.prim_numbers.specs.declared.operation.Operation.{Operation}
use Rattle.prim_numbers.proofs.Computing.{answered_on}

module _ (first second : ℤ) (fits : FitsSigned w64 first) (others : FitsSigned w64 second) where
  -- `==` and `=` as the primitives
  pub same_answers : (value : Value)
      → Computes (same_rule (Int (to_z w64 (of_z w64 first))) (Int (to_z w64 (of_z w64 second)))) (Ok value)
      → Computes (same_row (Int first) (Int second ∷ [])) (Ok (Gives value))
  same_answers value computes = computes_on (computes_give (Int second))
      (answered_on (rw (to_z-of_z w64 first fits, to_z-of_z w64 second others) at computes))

  -- an operation as its primitive
  pub row_answers : (operation : Operation) (found : Option Value)
      → IfSome found (λ value. Computes (operation_rule operation (to_z w64 (of_z w64 first)) (to_z w64 (of_z w64 second)))
      (Ok value))
      → IfSome found (λ value. Computes (integers_row (operation_rule operation) (Int first) (Int second ∷ []))
      (Ok (Gives value)))
  row_answers operation None none = tt
  row_answers operation (Some value) computes =
      computes_on (computes_give first) (computes_on (computes_give (Int second)) (computes_on (computes_give second)
      (answered_on (rw (to_z-of_z w64 first fits, to_z-of_z w64 second others) at computes))))
