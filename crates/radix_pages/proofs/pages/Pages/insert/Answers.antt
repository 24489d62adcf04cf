use Rattle.std.proofs.Common.{ℕ, ◌+◌, cond, ap, subst, arith}
use Rattle.radix_pages.specs.Node.{SlotFits}
use Rattle.radix_pages.proofs.Root.{count_small, root_set, stands, one_lower}
use Rattle.radix_pages.proofs.pages.Pages.insert.Goals as goal

pub overflow_add-self : goal.overflow_add-self
overflow_add-self g c =
    let small = count_small g.row.BITS g.row.LEVELS c.self.inside.root c.self.inside.count c.self.invariant in
    omega (arith, small)

pub invariant_of-self-then-is_new : goal.invariant_of-self-then-is_new
invariant_of-self-then-is_new g c =
    let inner = c.self.inside in
    root_set g.row.BITS g.row.LEVELS inner.root inner.count c.self.invariant c.set_below.new.slot (inner.count + 1)
    c.args.key c.in_ok-value.value.value c.requires
    (subst (λ (n : ℕ). SlotFits g.row.BITS n c.set_below.new.slot) (one_lower g.row.LEVELS c.self.invariant.some_levels) c.set_below.ensures.fits)
    c.in_ok-set_below.ensures.ok
    (ap (λ b. cond b inner.count (inner.count + 1)) (stands inner.root c.args.self.now c.args.key c.get.result _ c.self.view_is c.get.ensures c.if-is_new.ensures))

pub invariant_of-self-else-is_new : goal.invariant_of-self-else-is_new
invariant_of-self-else-is_new g c =
    let inner = c.self.inside in
    root_set g.row.BITS g.row.LEVELS inner.root inner.count c.self.invariant c.set_below.new.slot inner.count
    c.args.key c.in_ok-value.value.value c.requires
    (subst (λ (n : ℕ). SlotFits g.row.BITS n c.set_below.new.slot) (one_lower g.row.LEVELS c.self.invariant.some_levels) c.set_below.ensures.fits)
    c.in_ok-set_below.ensures.ok
    (ap (λ b. cond b inner.count (inner.count + 1)) (stands inner.root c.args.self.now c.args.key c.get.result _ c.self.view_is c.get.ensures c.if-is_new.ensures))
