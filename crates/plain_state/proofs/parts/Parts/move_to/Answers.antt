use Rattle.std.proofs.Common.{◌≡◌, ◌∙◌, sym, true, false, is_some}
use Rattle.std.specs.FinMap.{get}
use Rattle.plain_state.proofs.Touched.{acted_by}
use Rattle.plain_state.proofs.Segments.{move_apart, move_done, move_lacks}
use Rattle.plain_state.proofs.parts.Parts.move_to.Goals as goal

pub returns-then-not-has : goal.returns-then-not-has
returns-then-not-has c =
    let none : is_some (get c.args.self.now.seen.world.changes c.args.oid) ≡ false =
    rw (← c.self.view_is, ← c.number.ensures.number) (sym c.has.ensures ∙ c.if-not-has.true) in
    move_apart c.args.self.now.seen c.args.oid c.args.segment c.requires none

pub returns-then-may_move : goal.returns-then-may_move
returns-then-may_move c = acted_by (move_done c.args.self.now.seen c.args.oid c.args.segment c.requires
    (sym c.may_move.ensures ∙ c.if-may_move.true)) c.in_ok-change.ensures.edited

pub returns : goal.returns
returns c =
    let some : is_some (get c.args.self.now.seen.world.changes c.args.oid) ≡ true =
    rw (← c.self.view_is, ← c.number.ensures.number) (sym c.has.ensures ∙ c.if-not-has.false) in
    acted_by (move_lacks c.args.self.now.seen c.args.oid c.args.segment c.requires some
    (sym c.may_move.ensures ∙ c.if-may_move.false)) c.in_ok-miss_value.ensures.missed
