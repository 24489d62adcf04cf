use Rattle.std.proofs.Common.{◌≡◌, ℕ, ◌+◌, ◌*◌, ◌^◌, ◌<◌, Some, None, rules, refl, sym, ap, subst, arith}
use Rattle.std.proofs.Math.Nat.{pow-le-pow_right}
use Rattle.radix_pages.specs.Level.{Level}
use Rattle.radix_pages.specs.Next.{IsNext}
use Rattle.radix_pages.specs.Node.{SlotFits}
use Rattle.radix_pages.proofs.Nexts.{height_in, height_fits, takes_rest, rest_taken, reached_first, reached_more, read_slot, read_fits, in_node, found_here, none_left}
use Rattle.radix_pages.proofs.next.+next.Goals as goal

pub next_in-loop-at-init : goal.next_in-loop-at-init
next_in-loop-at-init g t c =
    let inner = c.node.inside in
    reached_first inner.bits inner.height inner.slots.items c.args.key _ c.rest_of-from.result refl c.rest_of-from.ensures

pub next_in-next_below-requires : goal.next_in-next_below-requires
next_in-next_below-requires g t c κs within =
    let inner = c.node.inside in
    let slot = c.index.result.now in
    let fits : SlotFits inner.bits inner.height slot =
    read_fits inner.bits inner.height inner.slots.items c.loop-at.at slot (omega arith)
    c.index.ensures c.node.invariant.slots_fit in
    let measured : 2 * c.args.node.now.height + 1 ≡ t = c.decreases in
    let tied : inner.height ≡ c.args.node.now.height = ap (λ (l : Level g.row.T.Denot). l.height) c.node.view_is in
    let less : 2 * height_in slot < t = omega (arith, height_fits inner.bits inner.height slot fits) in
    (less, (search rules, takes_rest inner.bits inner.height slot c.loop-at.from fits c.loop-at.invariant.in_slot))

pub next_in-key_of-requires-clause-in_range : goal.next_in-key_of-requires-clause-in_range
next_in-key_of-requires-clause-in_range g t c =
    let inner = c.node.inside in
    let slot = c.index.result.now in
    let fits : SlotFits inner.bits inner.height slot =
    read_fits inner.bits inner.height inner.slots.items c.loop-at.at slot (omega arith)
    c.index.ensures c.node.invariant.slots_fit in
    let short = rest_taken inner.bits inner.height slot c.in-Some.rest c.in-Some.value.now fits c.in-Some.ensures.in_range c.in-Some.ensures.next.1.0 in
    let upper : c.loop-at.at < 2 ^ inner.bits = omega arith in
    omega (
      arith,
      in_node inner.bits inner.height inner.slots.items c.loop-at.at c.in-Some.rest upper short,
      pow-le-pow_right {n = 2} (omega arith) c.node.invariant.in_range,
    )

pub next_in-returns-in-Some-clause-next : goal.next_in-returns-in-Some-clause-next
next_in-returns-in-Some-clause-next g t c =
    let inner = c.node.inside in
    let slot = c.index.result.now in
    let is = read_slot inner.bits inner.height inner.slots.items c.loop-at.at slot (omega arith) c.index.ensures in
    let fits : SlotFits inner.bits inner.height slot =
    read_fits inner.bits inner.height inner.slots.items c.loop-at.at slot (omega arith)
    c.index.ensures c.node.invariant.slots_fit in
    let short = rest_taken inner.bits inner.height slot c.in-Some.rest c.in-Some.value.now fits c.in-Some.ensures.in_range c.in-Some.ensures.next.1.0 in
    let upper : c.loop-at.at < 2 ^ inner.bits = omega arith in
    subst (λ (n : ℕ). IsNext c.args.node.now.map c.args.key (Some (n, c.in-Some.value.now))) (sym c.key_of.ensures)
    (subst (λ (l : Level g.row.T.Denot). IsNext l.map c.args.key (Some (c.loop-at.at * 2 ^ (inner.bits * inner.height) + c.in-Some.rest, c.in-Some.value.now))) c.node.view_is
    (found_here inner.bits inner.height inner.slots.items c.args.key c.loop-at.at c.loop-at.from slot is c.loop-at.invariant
    c.in-Some.rest c.in-Some.value.now short upper c.in-Some.ensures.next))

pub next_in-returns-in-Some-clause-in_range : goal.next_in-returns-in-Some-clause-in_range
next_in-returns-in-Some-clause-in_range g t c =
    let inner = c.node.inside in
    let slot = c.index.result.now in
    let fits : SlotFits inner.bits inner.height slot =
    read_fits inner.bits inner.height inner.slots.items c.loop-at.at slot (omega arith)
    c.index.ensures c.node.invariant.slots_fit in
    let short = rest_taken inner.bits inner.height slot c.in-Some.rest c.in-Some.value.now fits c.in-Some.ensures.in_range c.in-Some.ensures.next.1.0 in
    let upper : c.loop-at.at < 2 ^ inner.bits = omega arith in
    subst (λ (l : Level g.row.T.Denot). c.key_of.result < 2 ^ (l.bits * (l.height + 1))) c.node.view_is
    (subst (λ (n : ℕ). n < 2 ^ (inner.bits * (inner.height + 1))) (sym c.key_of.ensures)
    (in_node inner.bits inner.height inner.slots.items c.loop-at.at c.in-Some.rest upper short))

pub next_in-loop-at-preserved : goal.next_in-loop-at-preserved
next_in-loop-at-preserved g t c =
    let inner = c.node.inside in
    let slot = c.index.result.now in
    reached_more inner.bits inner.height inner.slots.items c.args.key c.loop-at.at c.loop-at.from slot
    (read_slot inner.bits inner.height inner.slots.items c.loop-at.at slot (omega arith) c.index.ensures)
    c.loop-at.invariant c.in_default.ensures.next

pub next_in-returns-clause-next : goal.next_in-returns-clause-next
next_in-returns-clause-next g t c =
    let inner = c.node.inside in
    subst (λ (l : Level g.row.T.Denot). IsNext l.map c.args.key None) c.node.view_is
    (none_left inner.bits inner.height inner.slots.items c.args.key c.loop-at.at c.loop-at.from c.loop-at.invariant (omega arith))
