use Rattle.std.proofs.Common.{◌≡◌, ℕ, suc, ◌+◌, refl, sym, subst, arith}
use Rattle.std.specs.FinMap.{get}
use Rattle.extent_pages.specs.Contents.{leaf_size}
use Rattle.stone_store.specs.Counted.{size_at, stale_over}
use Rattle.std.specs.Prelude.{◌||◌}
use Rattle.stone_store.proofs.Sums.{IsMeasured, measure_start, measure_next, measure_end, stale_end}
use Rattle.stone_store.proofs.count.measure_leaf.Goals as goal

pub loop-place-init : goal.loop-place-init
loop-place-init c = measure_start c.args.image.now c.args.root c.args.leaf _ refl refl

pub loop-place-preserved : goal.loop-place-preserved
loop-place-preserved c =
    let image = c.args.image.now in
    let old = c.loop-place.measured in
    let new = c.in_ok-measured.measured in
    let next : c.loop-place.place + 1 ≡ suc c.loop-place.place = omega arith in
    subst (λ (n : ℕ). IsMeasured image c.args.root c.args.leaf n new) (sym next)
    (measure_next image c.args.root c.args.leaf c.loop-place.place old new c.loop-place.invariant
    (subst (λ (n : ℕ). new.size ≡ old.size + size_at n (get image n)) c.name_in.ensures c.in_ok-measured.ensures.size)
    (subst (λ (n : ℕ). new.stale ≡ (old.stale || stale_over c.args.root (get image n))) c.name_in.ensures c.in_ok-measured.ensures.stale))

pub returns-clause-size : goal.returns-clause-size
returns-clause-size c =
    let place : c.loop-place.place ≡ leaf_size = omega (arith, c.loop-place-test.false, c.loop-place.auto.place-end) in
    measure_end c.args.image.now c.args.root c.args.leaf c.loop-place.measured
    (subst (λ (n : ℕ). IsMeasured c.args.image.now c.args.root c.args.leaf n c.loop-place.measured) place c.loop-place.invariant)

pub returns-clause-stale : goal.returns-clause-stale
returns-clause-stale c =
    let place : c.loop-place.place ≡ leaf_size = omega (arith, c.loop-place-test.false, c.loop-place.auto.place-end) in
    stale_end c.args.image.now c.args.root c.args.leaf c.loop-place.measured
    (subst (λ (n : ℕ). IsMeasured c.args.image.now c.args.root c.args.leaf n c.loop-place.measured) place c.loop-place.invariant)
