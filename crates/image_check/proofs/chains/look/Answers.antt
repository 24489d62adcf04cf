use Rattle.std.proofs.Common.{◌≡◌, ℕ, sym, subst, arith}
use Rattle.gem_image.specs.Image.{objects_in}
use Rattle.image_check.specs.Chains.{IsCount}
use Rattle.image_check.proofs.Counts.{kept_count, at_object}
use Rattle.image_check.proofs.chains.look.Goals as goal

pub returns-in-Some : goal.returns-in-Some
returns-in-Some c =
    subst (λ (n : ℕ). IsCount (objects_in c.args.image.now) n c.in-Some.count.now) c.number.ensures.number
    (kept_count (objects_in c.args.image.now) c.number.result c.in-Some.count.now c.args.counts.now.entries c.requires (sym c.in-Some.ensures.value))

pub returns-in-None : goal.returns-in-None
returns-in-None c =
    let one : c.args.name ≡ 1 = omega arith in
    at_object (objects_in c.args.image.now) c.args.name c.len-own.result c.in-Some-class_at.class.now
    (sym c.in-Some-class_at.ensures) c.in-None.is one c.len-own.ensures
    (omega (arith, c.len-own.type_inv))
