use Rattle.std.proofs.Common.{◌<◌, ◌^◌, length, ap, sym, subst, ◌∙◌, arith}
use Rattle.gem_clock.specs.Pairs.{Has}
use Rattle.gem_clock.specs.Shown.{ClockId, PenView}
use Rattle.gem_clock.proofs.Moves.{advances}
use Rattle.gem_clock.proofs.clock.Clock.add.Goals as goal

pub fetch_add-requires : goal.fetch_add-requires
fetch_add-requires g c =
    let table = ap (λ (p : PenView g.row.E.Denot). p.clock.table) c.pen.view_is ∙ ap (λ (k : ClockId). k.table) (c.requires.clock ∙ sym c.self.view_is) in
    let pen = c.pen.invariant in
    let has : Has c.pen.inside.seat.me.0.held c.args.author = subst (λ (p : PenView g.row.E.Denot). Has p.held c.args.author) (sym c.pen.view_is) c.requires.held in
    let room : length c.pen.inside.seat.me.0.list < 2 ^ 63 = subst (λ (p : PenView g.row.E.Denot). length p.list < 2 ^ 63) (sym c.pen.view_is) c.requires.room in
    let words = c.self.invariant in (
      table,
      omega arith,
      advances c.self.inside.table.shared.key c.self.inside.table.shared.table_id.slots c.pen.inside.seat.id c.args.author c.args.entry.now g.X.Adding.pairs c.pen.inside.seat.me
          c.requires.picked pen.0 pen.1 has room,
    )
