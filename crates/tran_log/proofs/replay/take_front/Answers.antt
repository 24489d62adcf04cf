use Rattle.std.proofs.Common.{List, ℕ, ◌+◌, sym, subst, arith}
use Rattle.std.proofs.lemmas.Result.{err_from_is_err_and}
use Rattle.gem_disk.specs.declared.disk.Which.TheVariants.{Log}
use Rattle.gem_disk.specs.Disk.{reads}
use Rattle.tran_log.specs.Log.{record_at}
use Rattle.tran_log.specs.Reads.{NextFails, IsFront, IsPiece}
use Rattle.tran_log.proofs.Fronts.{whole, breaks_here, next_inside, next_at, piece_behind}
use Rattle.tran_log.proofs.replay.take_front.Goals as goal

pub behind_gate-requires : goal.behind_gate-requires
behind_gate-requires g c =
    let file = reads (g.D.Disk.past c.args.disk.now) Log in
    omega (
      arith,
      c.requires.due,
      whole g.D.Disk.tells file c.args.size c.args.at c.args.due c.args.last c.fill.new.self
          c.in_ok-fill.ensures.piece c.requires.open_gate c.requires.due c.requires.inside c.in_ok-fill.ensures.filled,
    )

pub returns-in_err-next-clause-broken : goal.returns-in_err-next-clause-broken
returns-in_err-next-clause-broken g c tells =
    let file = reads (g.D.Disk.past c.args.disk.now) Log in
    let p = err_from_is_err_and c.from_residual-in_err-next.result c.from_residual-in_err-next.ensures.1 in
    rw (p.1, p.2) (breaks_here g.D.Disk.tells file c.args.size c.args.at c.args.due c.args.last c.fill.new.self
    c.in_ok-fill.ensures.piece c.requires.open_gate c.requires.due c.requires.inside c.in_ok-fill.ensures.filled tells c.in_err-next.field-0.0
    (subst (λ (l : List ℕ). NextFails c.args.at (record_at c.args.last l) c.in_err-next.field-0.0) c.behind_gate.ensures
    c.in_err-next.ensures.broken))

pub skip-requires : goal.skip-requires
skip-requires g c =
    let file = reads (g.D.Disk.past c.args.disk.now) Log in
    let next = c.in_ok-next.next in
    next_inside g.D.Disk.tells file c.args.size c.args.at c.args.due c.args.last c.fill.new.self
    c.in_ok-fill.ensures.piece c.requires.open_gate c.requires.due c.requires.inside c.in_ok-fill.ensures.filled next
    (subst (λ (l : List ℕ). IsFront c.args.at c.args.last l next) c.behind_gate.ensures c.in_ok-next.ensures.record)

pub returns-clause-next : goal.returns-clause-next
returns-clause-next g c =
    let file = reads (g.D.Disk.past c.args.disk.now) Log in
    let next = c.in_ok-next.next in
    next_at g.D.Disk.tells file c.args.size c.args.at c.args.due c.args.last c.fill.new.self
    c.in_ok-fill.ensures.piece c.requires.open_gate c.requires.due c.requires.inside c.in_ok-fill.ensures.filled next
    (subst (λ (l : List ℕ). IsFront c.args.at c.args.last l next) c.behind_gate.ensures c.in_ok-next.ensures.record)

pub returns-clause-piece : goal.returns-clause-piece
returns-clause-piece g c =
    let file = reads (g.D.Disk.past c.args.disk.now) Log in
    let next = c.in_ok-next.next in
    subst (IsPiece g.D.Disk.tells file c.args.size (c.args.at + next.bytes)) (sym c.skip.ensures)
    (piece_behind g.D.Disk.tells file c.args.size c.args.at c.args.due c.args.last c.fill.new.self
    c.in_ok-fill.ensures.piece c.requires.open_gate c.requires.due c.requires.inside c.in_ok-fill.ensures.filled next
    (subst (λ (l : List ℕ). IsFront c.args.at c.args.last l next) c.behind_gate.ensures c.in_ok-next.ensures.record))
