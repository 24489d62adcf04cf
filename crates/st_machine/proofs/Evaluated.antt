-- The primitives that evaluate a block.
use Rattle.std.proofs.Common.{◌≡◌, refl, sym, subst, ℕ, zero, suc, ◌+◌, ◌≤◌, Bool, true, false, nat_eq, List, length, Ok, arith}
use Rattle.std.proofs.lemmas.Bool.{false≢true}
use Rattle.std.proofs.lemmas.Bool.Decides.{nat_tests}
use Rattle.gem_object.specs.declared.value.Value.{Value}
use Rattle.gem_object.specs.declared.value.Value.TheVariants.{Block}
use Rattle.gem_object.specs.declared.value.BlockRef.{BlockRef}
use Rattle.tree_meaning.specs.object_programs.Programs.{check}
use Rattle.tree_meaning.specs.object_programs.declared.fault.Fault.{Fault}
use Rattle.tree_meaning.specs.object_programs.declared.fault.Fault.TheVariants as fault
use Rattle.tree_meaning.specs.Place.{MadeBlock}
use Rattle.gem_language.specs.prim_rules.Rules.{rule_of}
use Rattle.gem_language.specs.prim_rules.FirstRules.{Rule, first_rule}
use Rattle.gem_language.specs.prim_rules.Blocks.{value_row}
use Rattle.prim_parts.specs.prim_rules.declared.answer.PrimitiveAnswer.TheVariants.{Evaluates}
use Rattle.prim_parts.specs.Does.{Computes}
use Rattle.prim_parts.proofs.Does.{computes_give}
use Rattle.prim_parts.proofs.Onward.{computes_on}

-- a test that is passed
checked : (fault : Fault) (test : Bool) → test ≡ true → Computes (check {B = MadeBlock} fault test) (Ok tt)
checked fault true passed = record { ends = λ setting state. refl }
checked fault false passed = absurd (false≢true passed)

row_evaluates : (count : ℕ) (block : BlockRef) (arguments : List Value) → length arguments ≡ count
    → block.params ≡ count → Computes (value_row count (Block block) arguments) (Ok (Evaluates block arguments))
row_evaluates count block arguments many fits =
    let counted : nat_eq (length arguments) count ≡ true = grind (arith, nat_tests) in
    let takes : nat_eq block.params count ≡ true = grind (arith, nat_tests) in
    computes_on {answer = block} (record { ends = λ setting state. refl })
    (computes_on (checked fault.ArgumentKind (nat_eq (length arguments) count) counted)
    (computes_on (checked fault.BlockArgumentCount (nat_eq block.params count) takes)
    (computes_give (Evaluates block arguments))))

rule_is : (count : ℕ) → count ≤ 3 → rule_of {B = MadeBlock} (28 + count) ≡ value_row count
unfolding rule_of first_rule
rule_is zero few = refl
rule_is (suc zero) few = refl
rule_is (suc (suc zero)) few = refl
rule_is (suc (suc (suc zero))) few = refl
rule_is (suc (suc (suc (suc more)))) few = absurd (omega (arith, few))

-- The primitive evaluates its receiver.
pub evaluates : (number count : ℕ) (receiver : Value) (block : BlockRef) → receiver ≡ Block block → count ≤ 3
    → number ≡ 28 + count → block.params ≡ count → (arguments : List Value) → length arguments ≡ count
    → Computes (rule_of number receiver arguments) (Ok (Evaluates block arguments))
evaluates number count receiver block is few by_number fits arguments many =
    let AtReceiver : Value → Type 0 =
    λ one. Computes (rule_of number one arguments) (Ok (Evaluates block arguments)) in
    let AtNumber : ℕ → Type 0 =
    λ one. Computes (rule_of one (Block block) arguments) (Ok (Evaluates block arguments)) in
    let AtRule : Rule MadeBlock → Type 0 =
    λ one. Computes (one (Block block) arguments) (Ok (Evaluates block arguments)) in
    subst AtReceiver (sym is) (subst AtNumber (sym by_number) (subst AtRule (sym (rule_is count few))
    (row_evaluates count block arguments many fits)))
