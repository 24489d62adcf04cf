-- The rule of a number that is known.
use Rattle.std.proofs.Common.{◌≡◌, sym, subst, ℕ, List, Result}
use Rattle.gem_object.specs.declared.value.Value.{Value}
use Rattle.running_objects.specs.Seen.{Seen}
use Rattle.running_objects.specs.declared.stop.Stop.{Stop}
use Rattle.prim_rules.specs.declared.answer.PrimitiveAnswer.{PrimitiveAnswer}
use Rattle.prim_rules.specs.Rules.{rule_of}
use Rattle.prim_parts.specs.Does.{Does}

pub numbered : {number known : ℕ} (receiver : Value) (arguments : List Value) {before after : Seen}
    {result : Result PrimitiveAnswer Stop} → number ≡ known → Does (rule_of known receiver arguments) before result after
    → Does (rule_of number receiver arguments) before result after
numbered {number} {known} receiver arguments {before} {after} {result} is does =
    let At : ℕ → Type 0 = λ one. Does (rule_of one receiver arguments) before result after in
    subst At (sym is) does
