use Rattle.std.proofs.Common.{ℕ, ◌+◌, ◌*◌, ◌/◌, ◌%◌, ◌^◌, ◌<◌, length, Some, ap, ap₂, subst, sym, ◌∙◌, arith}
use Rattle.std.specs.FinMap.{get}
use Rattle.radix_pages.specs.declared.node.Slot.{Slot}
use Rattle.radix_pages.specs.Level.{Level}
use Rattle.radix_pages.specs.Node.{SlotTakes}
use Rattle.radix_pages.proofs.Nexts.{read_fits, takes_rest}
use Rattle.radix_pages.proofs.Slots.{found_view, none_view, rest_below}
use Rattle.radix_pages.proofs.node.Node.leaf.Goals as goal

pub returns-then-at-len : goal.returns-then-at-len
returns-then-at-len g c =
    let inner = c.node.inside in
    none_view inner.bits inner.height inner.slots.items c.down.node.now c.node.view_is c.down.rest c.down.invariant.0
    (omega (arith, c.if-at-len.true, c.len.ensures)) ∙ c.down.invariant.1

pub returns-in-Empty : goal.returns-in-Empty
returns-in-Empty g c =
    let inner = c.node.inside in
    found_view inner.bits inner.height inner.slots.items c.down.node.now c.node.view_is c.down.rest
    c.index.result.now _ c.down.invariant.0 (omega (arith, c.if-at-len.false, c.len.ensures)) c.index.ensures c.in-Empty.is
    ∙ c.down.invariant.1

pub returns-in-Value : goal.returns-in-Value
returns-in-Value g c =
    let inner = c.node.inside in
    found_view inner.bits inner.height inner.slots.items c.down.node.now c.node.view_is c.down.rest
    c.index.result.now _ c.down.invariant.0 (omega (arith, c.if-at-len.false, c.len.ensures)) c.index.ensures c.in-Value.is
    ∙ c.down.invariant.1

pub down-preserved : goal.down-preserved
down-preserved g c =
    let inner = c.node.inside in
    let within : c.down.rest / 2 ^ (inner.bits * inner.height) < length inner.slots.items =
    omega (arith, c.if-at-len.false, c.len.ensures) in
    let fits = read_fits inner.bits inner.height inner.slots.items _ c.index.result.now within c.index.ensures c.node.invariant.slots_fit in
    let takes : SlotTakes c.index.result.now (c.down.rest % 2 ^ (inner.bits * inner.height)) =
    takes_rest inner.bits inner.height c.index.result.now _ fits (rest_below c.down.rest (inner.bits * inner.height)) in (
      subst (λ (l : Level g.row.T.Denot). c.rest_of-rest.result < 2 ^ (l.bits * (l.height + 1))) (sym c.deref-node.ensures)
          (subst (λ (slot : Slot g.row.T.Denot). SlotTakes slot c.rest_of-rest.result) c.in-Branch.is
          (subst (λ (r : ℕ). SlotTakes c.index.result.now r) (sym c.rest_of-rest.ensures) takes)),
      ap₂ (λ (l : Level g.row.T.Denot) (r : ℕ). get l.map r) c.deref-node.ensures c.rest_of-rest.ensures
          ∙ (found_view inner.bits inner.height inner.slots.items c.down.node.now c.node.view_is c.down.rest
          c.index.result.now _ c.down.invariant.0 within c.index.ensures c.in-Branch.is
          ∙ c.down.invariant.1),
    )
