use Rattle.std.proofs.Common.{◌≡◌, ◌<◌, ◌+◌, None, Some, length, refl, sym, ap, subst, ◌∙◌, arith}
use Rattle.std.proofs.lemmas.Result.{err_from_is_err_and}
use Rattle.gem_disk.specs.declared.disk.Which.TheVariants.{Log}
use Rattle.gem_disk.specs.Disk.{reads}
use Rattle.tran_log.specs.Reads.{bytes_due, IsOpenAt, BreaksAt}
use Rattle.tran_log.proofs.Fronts.{closed_at, due_long, broken_short, open_at, piece_along, next_along}
use Rattle.tran_log.proofs.replay.read_next.Goals as goal

pub returns-in_default-clause-next : goal.returns-in_default-clause-next
returns-in_default-clause-next g c tell =
    let piece = c.fill.new.self in
    let there : 0 < length piece = omega (arith, c.in_ok-fill.ensures.filled, c.requires.inside) in
    let none : bytes_due piece ≡ None = ap bytes_due (sym c.front.ensures) ∙ sym c.bytes_due-due.ensures ∙ c.in_default.is in
    closed_at (reads (g.D.Disk.past c.args.disk.now) Log) c.args.at piece (c.in_ok-fill.ensures.piece.bytes_are tell) there none

pub returns-then-left-due-clause-broken : goal.returns-then-left-due-clause-broken
returns-then-left-due-clause-broken g c tells =
    let piece = c.fill.new.self in
    let some : bytes_due piece ≡ Some c.in-Some.due =
    ap bytes_due (sym c.front.ensures) ∙ sym c.bytes_due-due.ensures ∙ c.in-Some.is in (
      refl,
      broken_short (reads (g.D.Disk.past c.args.disk.now) Log) c.args.at piece (c.in_ok-fill.ensures.piece.bytes_are tells)
          c.args.size c.in-Some.due (c.requires.size tells) c.requires.inside c.in_ok-fill.ensures.filled some c.args.last
          c.if-left-due.true,
    )

pub take_front-requires-clause-due : goal.take_front-requires-clause-due
take_front-requires-clause-due g c = due_long c.fill.new.self c.in-Some.due
    (ap bytes_due (sym c.front.ensures) ∙ sym c.bytes_due-due.ensures ∙ c.in-Some.is)

pub take_front-requires-clause-inside : goal.take_front-requires-clause-inside
take_front-requires-clause-inside g c = omega (arith, c.if-left-due.false, c.requires.inside)

pub take_front-requires-clause-open_gate : goal.take_front-requires-clause-open_gate
take_front-requires-clause-open_gate g c tells =
    let piece = c.fill.new.self in
    let some : bytes_due piece ≡ Some c.in-Some.due =
    ap bytes_due (sym c.front.ensures) ∙ sym c.bytes_due-due.ensures ∙ c.in-Some.is in
    let same = ap (λ p. reads p Log) (sym (c.in_ok-fill.ensures.past tells)) in
    subst (λ l. IsOpenAt l c.args.at c.in-Some.due) same
    (open_at (reads (g.D.Disk.past c.args.disk.now) Log) c.args.at piece (c.in_ok-fill.ensures.piece.bytes_are tells)
    c.args.size c.in-Some.due (c.requires.size tells) c.requires.inside c.in_ok-fill.ensures.filled some c.if-left-due.false)

pub take_front-requires-clause-piece : goal.take_front-requires-clause-piece
take_front-requires-clause-piece g c =
    piece_along g.D.Disk.tells (reads (g.D.Disk.past c.args.disk.now) Log) (reads (g.D.Disk.past c.fill.new.disk) Log)
    (λ tells. ap (λ p. reads p Log) (sym (c.in_ok-fill.ensures.past tells))) c.args.at c.args.size c.fill.new.self
    c.in_ok-fill.ensures.piece

pub take_front-requires-clause-size : goal.take_front-requires-clause-size
take_front-requires-clause-size g c tells =
    c.requires.size tells ∙ ap (λ p. length (reads p Log)) (sym (c.in_ok-fill.ensures.past tells))

pub returns-in_err-next-clause-broken : goal.returns-in_err-next-clause-broken
returns-in_err-next-clause-broken g c tells =
    let p = err_from_is_err_and c.from_residual-in_err-next.result c.from_residual-in_err-next.ensures.1 in
    rw (p.1, p.2) (subst (λ l. BreaksAt l c.args.at c.args.last c.in_err-next.field-0.0)
    (ap (λ p. reads p Log) (c.in_ok-fill.ensures.past tells)) (c.in_err-next.ensures.broken tells))

pub returns-clause-next : goal.returns-clause-next
returns-clause-next g c =
    next_along g.D.Disk.tells (reads (g.D.Disk.past c.fill.new.disk) Log) (reads (g.D.Disk.past c.args.disk.now) Log)
    (λ tells. ap (λ p. reads p Log) (c.in_ok-fill.ensures.past tells)) c.args.at c.args.last c.in_ok-next.next
    c.in_ok-next.ensures.next

pub returns-clause-piece : goal.returns-clause-piece
returns-clause-piece g c =
    piece_along g.D.Disk.tells (reads (g.D.Disk.past c.fill.new.disk) Log) (reads (g.D.Disk.past c.args.disk.now) Log)
    (λ tells. ap (λ p. reads p Log) (c.in_ok-fill.ensures.past tells)) (c.args.at + c.in_ok-next.next.bytes) c.args.size
    c.take_front.new.piece c.in_ok-next.ensures.piece
