use Rattle.std.proofs.Common.{◌≡◌, ℕ, inl, List, ◌++◌, refl, ap, sym, subst, ◌∙◌, arith}
use Rattle.atomic_table.specs.Table.{Me}
use Rattle.gem_clock.specs.Pairs.{Has, IsAuthor}
use Rattle.gem_clock.specs.Shown.{ClockId, PenView, StampView}
use Rattle.gem_clock.specs.declared.rule.Known.{Known}
use Rattle.gem_clock.proofs.Moves.{joins, meets}
use Rattle.gem_clock.proofs.clock.Clock.meet.Goals as goal

pub join_seat-requires : goal.join_seat-requires
join_seat-requires g c =
    let table = ap (λ (p : PenView g.row.E.Denot). p.clock.table) c.pen.view_is ∙ ap (λ (k : ClockId). k.table) (c.requires.clock ∙ sym c.self.view_is) in
    let stamp = ap (λ (m : StampView g.row.E.Denot). m.clock.table) c.stamp.view_is ∙ ap (λ (k : ClockId). k.table) (c.requires.stamp ∙ sym c.self.view_is) in
    let words = c.self.invariant in (
      table,
      stamp,
      c.stamp.invariant.1,
      omega arith,
      joins c.self.inside.table.shared.key c.pen.inside.seat.id c.pen.inside.seat.me.0 c.stamp.inside.seat.id c.stamp.inside.seat.me.0 c.pen.invariant.0,
    )

pub load-requires : goal.load-requires
load-requires g c =
    let table = ap (λ (p : PenView g.row.E.Denot). p.clock.table) c.pen.view_is ∙ ap (λ (k : ClockId). k.table) (c.requires.clock ∙ sym c.self.view_is) in
    let authors : c.self.inside.table.shared.key ≡ c.pen.inside.seat.me.0.authors =
    sym (ap (λ (p : PenView g.row.E.Denot). p.clock.authors) c.pen.view_is ∙ ap (λ (k : ClockId). k.authors) (c.requires.clock ∙ sym c.self.view_is)) in
    let joined = c.join_seat.ensures in
    let words = c.self.invariant in (
      joined.0 ∙ table,
      omega arith,
      meets c.self.inside.table.shared.key c.self.inside.table.shared.table_id.slots c.join_seat.new.seat.id c.join_seat.new.seat.me
          (authors ∙ sym (ap (λ (me : Me (Unit {0}) (Known g.row.E.Denot)). me.0.authors) joined.2))
          (ap (λ (me : Me (Unit {0}) (Known g.row.E.Denot)). me.0.is_pen) joined.2 ∙ c.pen.invariant.0),
    )

pub returns-clause-author : goal.returns-clause-author
returns-clause-author g c =
    let pen = c.pen.inside.seat.me.0 in
    let stamp = c.stamp.inside.seat.me.0 in
    let told : (a : ℕ) → Has (stamp.held ++ pen.held) a → IsAuthor pen.authors a =
    subst (λ (me : Me (Unit {0}) (Known g.row.E.Denot)). (a : ℕ) → Has me.0.held a → IsAuthor me.0.authors a) c.join_seat.ensures.2 c.load.ensures.2.held in
    let mine : IsAuthor pen.authors c.stamp.inside.author =
    told c.stamp.inside.author (subst (λ (hs : List ℕ). Has (hs ++ pen.held) c.stamp.inside.author) (sym c.stamp.invariant.0) (inl refl)) in
    let authors : pen.authors ≡ c.args.self.now.authors =
    ap (λ (p : PenView g.row.E.Denot). p.clock.authors) c.pen.view_is ∙ ap (λ (k : ClockId). k.authors) c.requires.clock in
    let author : c.stamp.inside.author ≡ c.args.stamp.author = ap (λ (m : StampView g.row.E.Denot). m.author) c.stamp.view_is in
    subst (λ (n : ℕ). IsAuthor n c.args.stamp.author) authors (subst (IsAuthor pen.authors) author mine)
