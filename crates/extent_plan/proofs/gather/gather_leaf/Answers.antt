use Rattle.std.proofs.Common.{◌≡◌, ℕ, suc, ◌+◌, refl, sym, subst, arith}
use Rattle.std.specs.FinMap.{get}
use Rattle.extent_plan.specs.Leaves.{objects_before}
use Rattle.extent_plan.specs.Gathered.{Adds, AreGathered}
use Rattle.extent_plan.proofs.Gathers.{few_before, gather_none, gather_next}
use Rattle.extent_plan.proofs.gather.gather_leaf.Goals as goal

pub loop-place-init : goal.loop-place-init
loop-place-init c = gather_none c.args.image.now c.args.leaf _ (record {
  count = refl;
  serial = refl;
  items = c.new.ensures.items;
})

pub gather_name-requires : goal.gather_name-requires
gather_name-requires c =
    let few = few_before c.args.image.now c.args.leaf c.loop-place.place in
    omega (arith, c.loop-place.invariant.count, few, c.loop-place-test.true)

pub loop-place-preserved : goal.loop-place-preserved
loop-place-preserved c =
    let image = c.args.image.now in
    let place = c.loop-place.place in
    let next : place + 1 ≡ suc place = omega arith in
    let adds = subst (λ (n : ℕ). Adds n (get image n) c.loop-place.gathered c.gather_name.new.gathered)
    c.name_in.ensures (c.in_ok-gather_name.ensures) in
    subst (λ (n : ℕ). AreGathered (objects_before image c.args.leaf n) c.gather_name.new.gathered)
    (sym next) (gather_next image c.args.leaf place c.loop-place.gathered c.gather_name.new.gathered
    c.loop-place.invariant adds)
