-- Values that compare as equal are equal.
use Rattle.std.proofs.Common.{◌≡◌, ℕ, refl, ap}
use Rattle.std.specs.Ordering.{nat_cmp, is_eq}
use Rattle.std.specs.declared.cmp.Ordering.TheVariants.{Equal}
use Rattle.std.proofs.lemmas.Bool.{false≢true}
use Rattle.std.proofs.lemmas.Map.Lookups.{exact_signed, exact_unsigned, exact_bytes, exact_pairs}
use Rattle.gem_object.specs.Order.{value_order}
use Rattle.gem_object.specs.declared.value.BlockRef.{BlockRef}
use Rattle.gem_object.specs.declared.value.Value.{Value}
use Rattle.gem_object.specs.declared.value.Value.TheVariants.{Nil, False, True, Int, Char, Sym, Ref, Block}

same_block : (block other : BlockRef) → value_order (Block block) (Block other) ≡ Equal
    → block ≡ other
same_block block other tie = ap (λ (p : ℕ × ℕ). record { number = p.0; params = p.1 })
    (exact_pairs nat_cmp nat_cmp exact_unsigned exact_unsigned
    (block.number, block.params) (other.number, other.params) tie)

pub ties : (value other : Value) → value_order value other ≡ Equal → value ≡ other
ties Nil Nil tie = refl
ties False False tie = refl
ties True True tie = refl
ties (Int number) (Int other) tie = ap Int (exact_signed number other tie)
ties (Char code) (Char other) tie = ap Char (exact_unsigned code other tie)
ties (Sym name) (Sym other) tie = ap Sym (exact_bytes name other tie)
ties (Ref oid) (Ref other) tie = ap Ref (exact_unsigned oid other tie)
ties (Block block) (Block other) tie = ap Block (same_block block other tie)
ties _ _ tie = absurd (false≢true (ap is_eq tie))
