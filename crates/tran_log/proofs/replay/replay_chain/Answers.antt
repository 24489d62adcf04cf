use Rattle.std.proofs.Common.{◌≡◌, ◌+◌, IsTrue, IfSome, None, length, refl, sym, ap, subst, ◌∙◌, arith}
use Rattle.std.proofs.lemmas.Result.{err_from_is_err_and}
use Rattle.gem_disk.specs.declared.disk.Which.TheVariants.{Log}
use Rattle.gem_disk.specs.Disk.{reads}
use Rattle.tran_log.specs.Reads.{IsPiece, IsClosedAt, IsAt, IsNextAt, BreaksAt}
use Rattle.tran_log.proofs.Fronts.{piece_first, piece_along, next_along}
use Rattle.tran_log.proofs.Replays.{begun, next_stored, one_more, closed_here, broken_here, missing_here}
use Rattle.tran_log.proofs.replay.replay_chain.Goals as goal

pub loop-at-init : goal.loop-at-init
loop-at-init g c =
    let file = reads (g.D.Disk.past c.args.disk.now) Log in
    record {
      past = λ tell. refl;
      faults = refl;
      piece = subst (IsPiece g.D.Disk.tells file c.args.size 0) (sym c.new-piece.ensures) (piece_first g.D.Disk.tells file c.args.size);
      going = begun g.R.Replay.takes c.args.replay.now g.D.Disk.tells file;
    }

pub read_next-requires-clause-size : goal.read_next-requires-clause-size
read_next-requires-clause-size g c tell =
    c.requires tell ∙ ap (λ p. length (reads p Log)) (sym (c.loop-at.invariant.past tell))

pub read_next-requires-clause-piece : goal.read_next-requires-clause-piece
read_next-requires-clause-piece g c =
    piece_along g.D.Disk.tells (reads (g.D.Disk.past c.args.disk.now) Log) (reads (g.D.Disk.past c.loop-at.disk) Log)
    (λ tell. ap (λ p. reads p Log) (sym (c.loop-at.invariant.past tell))) c.loop-at.at c.args.size c.loop-at.piece
    c.loop-at.invariant.piece

pub returns-in_err-found-clause-broken : goal.returns-in_err-found-clause-broken
returns-in_err-found-clause-broken g c tells =
    let p = err_from_is_err_and c.from_residual.result c.from_residual.ensures.1 in
    rw (p.1, p.2) (broken_here g.R.Replay.takes c.args.replay.now c.loop-at.replay g.D.Disk.tells
    (reads (g.D.Disk.past c.args.disk.now) Log) c.loop-at.at c.loop-at.last c.loop-at.invariant.going tells c.in_err-found.field-0.0
    (subst (λ l. BreaksAt l c.loop-at.at c.loop-at.last c.in_err-found.field-0.0)
    (ap (λ p. reads p Log) (c.loop-at.invariant.past tells)) (c.in_err-found.ensures.broken tells)))

pub returns-in_default-clause-replayed : goal.returns-in_default-clause-replayed
returns-in_default-clause-replayed g c =
    let file = reads (g.D.Disk.past c.loop-at.disk) Log in
    let none : IsAt g.D.Disk.tells file c.loop-at.at c.loop-at.last None =
    subst (IsAt g.D.Disk.tells file c.loop-at.at c.loop-at.last) c.in_default.is c.in_ok-found.ensures.next in
    closed_here g.R.Replay.takes c.args.replay.now c.loop-at.replay g.D.Disk.tells
    (reads (g.D.Disk.past c.args.disk.now) Log) c.loop-at.at c.loop-at.last c.loop-at.invariant.going
    (λ tell. subst (λ l. IsClosedAt l c.loop-at.at) (ap (λ p. reads p Log) (c.loop-at.invariant.past tell)) (none tell))

pub take-requires : goal.take-requires
take-requires g c =
    let file = reads (g.D.Disk.past c.loop-at.disk) Log in
    next_stored g.D.Disk.tells file c.loop-at.at c.loop-at.last c.in-Some.next
    (subst (IsAt g.D.Disk.tells file c.loop-at.at c.loop-at.last) c.in-Some.is c.in_ok-found.ensures.next)

pub overflow_add-at : goal.overflow_add-at
overflow_add-at g c =
    let file = reads (g.D.Disk.past c.loop-at.disk) Log in
    let behind : IsPiece g.D.Disk.tells file c.args.size (c.loop-at.at + c.in-Some.next.bytes) c.read_next.new.piece =
    subst (λ o. IfSome o (λ n. IsPiece g.D.Disk.tells file c.args.size (c.loop-at.at + n.bytes) c.read_next.new.piece))
    c.in-Some.is c.in_ok-found.ensures.piece in
    omega (arith, behind.inside, c.ranges.size.fits)

pub loop-at-preserved : goal.loop-at-preserved
loop-at-preserved g c =
    let file = reads (g.D.Disk.past c.loop-at.disk) Log in
    let first = reads (g.D.Disk.past c.args.disk.now) Log in
    let same : IsTrue g.D.Disk.tells → file ≡ first = λ tell. ap (λ p. reads p Log) (c.loop-at.invariant.past tell) in
    let next = c.in-Some.next in
    let behind : IsPiece g.D.Disk.tells file c.args.size (c.loop-at.at + next.bytes) c.read_next.new.piece =
    subst (λ o. IfSome o (λ n. IsPiece g.D.Disk.tells file c.args.size (c.loop-at.at + n.bytes) c.read_next.new.piece))
    c.in-Some.is c.in_ok-found.ensures.piece in
    let there : IsNextAt g.D.Disk.tells file c.loop-at.at c.loop-at.last next =
    subst (IsAt g.D.Disk.tells file c.loop-at.at c.loop-at.last) c.in-Some.is c.in_ok-found.ensures.next in
    record {
      past = λ tell. c.in_ok-found.ensures.past tell ∙ c.loop-at.invariant.past tell;
      faults = c.in_ok-found.ensures.quiet ∙ c.loop-at.invariant.faults;
      piece = piece_along g.D.Disk.tells file first same (c.loop-at.at + next.bytes) c.args.size c.read_next.new.piece behind;
      going = one_more g.R.Replay.takes c.args.replay.now c.loop-at.replay g.D.Disk.tells first c.loop-at.at c.loop-at.last
          c.loop-at.invariant.going next (next_along g.D.Disk.tells file first same c.loop-at.at c.loop-at.last next there)
          c.take.new.self c.in_ok-take.ensures;
    }

pub loop-at-smaller : goal.loop-at-smaller
loop-at-smaller g c =
    let file = reads (g.D.Disk.past c.loop-at.disk) Log in
    let there : IsNextAt g.D.Disk.tells file c.loop-at.at c.loop-at.last c.in-Some.next =
    subst (IsAt g.D.Disk.tells file c.loop-at.at c.loop-at.last) c.in-Some.is c.in_ok-found.ensures.next in
    omega (arith, there.bytes_are, c.loop-at-test.true)

pub returns-clause-broken : goal.returns-clause-broken
returns-clause-broken g c tells =
    missing_here g.R.Replay.takes c.args.replay.now c.loop-at.replay g.D.Disk.tells
    (reads (g.D.Disk.past c.args.disk.now) Log) c.loop-at.at c.loop-at.last c.loop-at.invariant.going tells c.args.size
    (c.requires tells) c.loop-at-test.false
