use Rattle.std.proofs.Common.{ap, sym, subst, ◌∙◌, arith}
use Rattle.gem_clock.specs.Pairs.{Has}
use Rattle.gem_clock.specs.Shown.{ClockId, PenView}
use Rattle.gem_clock.proofs.Moves.{splits}
use Rattle.gem_clock.proofs.clock.Clock.give.Goals as goal

pub split_seat-seat-requires : goal.split_seat-seat-requires
split_seat-seat-requires g c =
    let table = ap (λ (p : PenView g.row.E.Denot). p.clock.table) c.pen.view_is ∙ ap (λ (k : ClockId). k.table) (c.requires.clock ∙ sym c.self.view_is) in
    let has : Has c.pen.inside.seat.me.0.held c.args.author = subst (λ (p : PenView g.row.E.Denot). Has p.held c.args.author) (sym c.pen.view_is) c.requires.held in
    let words = c.self.invariant in (
      table,
      omega arith,
      splits c.self.inside.table.shared.key c.pen.inside.seat.id g.X.Giving.author c.args.author c.pen.inside.seat.me.0 c.requires.picked c.pen.invariant.0 has,
    )
