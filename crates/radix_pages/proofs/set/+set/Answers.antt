use Rattle.std.proofs.Common.{◌≡◌, ℕ, ◌+◌, ◌-◌, ◌*◌, ◌%◌, ◌^◌, ◌<◌, ◌≤◌, rules, refl, sym, ap, subst, ◌∙◌, arith}
use Rattle.std.proofs.lemmas.Result.{on_ok_weaker, on_err_weaker}
use Rattle.std.specs.FinMap.{insert}
use Rattle.radix_pages.specs.Level.{Level, level, level_with}
use Rattle.radix_pages.specs.Node.{slot_map}
use Rattle.radix_pages.proofs.Slots.{view_below, rest_below, room_built, set_built, set_leaf, set_branch, keep_branch, old_fits}
use Rattle.radix_pages.proofs.set.+set.Goals as goal

one_lower : (height : ℕ) → (height ≡ 0 → ⊥) → height ≡ height - 1 + 1
one_lower height above = omega arith

pub set_node-invariant_of-node : goal.set_node-invariant_of-node
set_node-invariant_of-node g t c =
    let inner = c.node.inside in
    let below = view_below inner.bits inner.height inner.slots.items c.args.node.now c.node.view_is c.args.key c.requires in
    room_built inner.bits inner.height inner.slots.items c.make_room.new.slots.items c.args.key c.args.value.value below
    c.make_room.ensures.same c.node.invariant

pub set_node-invariant_of-node-then-node-eq0 : goal.set_node-invariant_of-node-then-node-eq0
set_node-invariant_of-node-then-node-eq0 g t c =
    let inner = c.node.inside in
    let below = view_below inner.bits inner.height inner.slots.items c.args.node.now c.node.view_is c.args.key c.requires in
    set_built inner.bits inner.height inner.slots.items c.make_room.new.slots.items c.args.key c.args.value.value below
    c.make_room.ensures.same _ c.if-node-eq0.true c.node.invariant

pub set_node-returns-then-node-eq0-clause-ok : goal.set_node-returns-then-node-eq0-clause-ok
set_node-returns-then-node-eq0-clause-ok g t c =
    let inner = c.node.inside in
    let below = view_below inner.bits inner.height inner.slots.items c.args.node.now c.node.view_is c.args.key c.requires in
    ap (λ m. level inner.bits inner.height m)
    (set_leaf inner.bits inner.height inner.slots.items c.make_room.new.slots.items c.args.key c.args.value.value below
    c.make_room.ensures.same c.args.value c.if-node-eq0.true refl c.in_ok-make_room.ensures.room)
    ∙ ap (λ l. level_with l (insert l.map c.args.key c.args.value.value)) c.node.view_is

pub set_node-set_below-requires : goal.set_node-set_below-requires
set_node-set_below-requires g t c κs within =
    let inner = c.node.inside in
    let below = view_below inner.bits inner.height inner.slots.items c.args.node.now c.node.view_is c.args.key c.requires in
    let above : inner.height ≡ inner.height - 1 + 1 = one_lower inner.height c.if-node-eq0.false in
    let measured : 2 * c.args.node.now.height ≡ t = c.decreases in
    let tied : inner.height ≡ c.args.node.now.height = ap (λ (l : Level g.row.T.Denot). l.height) c.node.view_is in
    let less : 2 * (inner.height - 1) + 1 < t = omega arith in
    let in_range : inner.bits * (inner.height - 1 + 1) ≤ 48 = omega (arith, c.node.invariant.in_range, ap (λ (h : ℕ). inner.bits * h) above) in
    let rest : c.rest_of-rest.result < 2 ^ (inner.bits * (inner.height - 1 + 1)) =
    subst (λ (r : ℕ). r < 2 ^ (inner.bits * (inner.height - 1 + 1))) (sym c.rest_of-rest.ensures)
    (subst (λ (h : ℕ). c.args.key % 2 ^ (inner.bits * inner.height) < 2 ^ (inner.bits * h)) above (rest_below c.args.key (inner.bits * inner.height))) in
    let fits = old_fits inner.bits inner.height inner.slots.items c.make_room.new.slots.items c.args.key c.args.value.value below
    c.make_room.ensures.same (inner.height - 1) above c.index_mut-2.result.now c.index_mut-2.result.now c.in_ok-make_room.ensures.room
    c.index_mut-2.ensures.value c.node.invariant in
    (less, (search rules, (search rules, (c.node.invariant.some_bits, (in_range, (fits, rest))))))

pub set_node-invariant_of-node-2 : goal.set_node-invariant_of-node-2
set_node-invariant_of-node-2 g t c =
    let inner = c.node.inside in
    let below = view_below inner.bits inner.height inner.slots.items c.args.node.now c.node.view_is c.args.key c.requires in
    let above : inner.height ≡ inner.height - 1 + 1 = one_lower inner.height c.if-node-eq0.false in
    set_built inner.bits inner.height inner.slots.items c.make_room.new.slots.items c.args.key c.args.value.value below
    c.make_room.ensures.same _ (rw above c.set_below.ensures.fits) c.node.invariant

pub set_node-returns-clause-ok : goal.set_node-returns-clause-ok
set_node-returns-clause-ok g t c =
    let inner = c.node.inside in
    let below = view_below inner.bits inner.height inner.slots.items c.args.node.now c.node.view_is c.args.key c.requires in
    let above : inner.height ≡ inner.height - 1 + 1 = one_lower inner.height c.if-node-eq0.false in
    on_ok_weaker c.set_below.result (λ is.
    ap (λ m. level inner.bits inner.height m)
    (set_branch inner.bits inner.height inner.slots.items c.make_room.new.slots.items c.args.key c.args.value.value below
    c.make_room.ensures.same (inner.height - 1) above c.index_mut-2.result.now c.set_below.new.slot c.in_ok-make_room.ensures.room
    c.index_mut-2.ensures.value c.node.invariant c.set_below.ensures.fits
    (is ∙ ap (λ (r : ℕ). insert (slot_map c.index_mut-2.result.now) r c.args.value.value) c.rest_of-rest.ensures))
    ∙ ap (λ l. level_with l (insert l.map c.args.key c.args.value.value)) c.node.view_is) c.set_below.ensures.ok

pub set_node-returns-clause-err : goal.set_node-returns-clause-err
set_node-returns-clause-err g t c =
    let inner = c.node.inside in
    let below = view_below inner.bits inner.height inner.slots.items c.args.node.now c.node.view_is c.args.key c.requires in
    let above : inner.height ≡ inner.height - 1 + 1 = one_lower inner.height c.if-node-eq0.false in
    on_err_weaker c.set_below.result (λ is.
    ap (λ m. level inner.bits inner.height m)
    (keep_branch inner.bits inner.height inner.slots.items c.make_room.new.slots.items c.args.key c.args.value.value below
    c.make_room.ensures.same (inner.height - 1) above c.index_mut-2.result.now c.set_below.new.slot c.in_ok-make_room.ensures.room
    c.index_mut-2.ensures.value c.node.invariant c.set_below.ensures.fits is)
    ∙ c.node.view_is) c.set_below.ensures.err
