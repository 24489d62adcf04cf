use Rattle.std.proofs.Common.{ℕ, ◌-◌, ap, ◌∙◌}
use Rattle.std.proofs.lemmas.Nat.{one_shl, and_mask}
use Rattle.std.specs.Int.Bits.{bit_and}
use Rattle.radix_pages.proofs.digits.rest_of.Goals as goal

pub returns : goal.returns
returns c =
    ap (λ (n : ℕ). bit_and c.args.key (n - 1)) (one_shl c.args.shift 64 c.requires)
    ∙ and_mask c.args.key c.args.shift
