use Rattle.std.proofs.Common.{◌∙◌, subst, List}
use Rattle.disk_pieces.specs.Pieces.{Piece}
use Rattle.disk_pieces.proofs.SoFar.{SoFar, one_more, failed_kept}
use Rattle.disk_pieces.proofs.writing.write_pieces.Goals as goal

pub returns-in_err-write_piece-clause-kept : goal.returns-in_err-write_piece-clause-kept
returns-in_err-write_piece-clause-kept g c kept file before tells = failed_kept c.args.pieces.now c.in-Some.behind.now c.in-Some.piece.now
    (g.D.Disk.past c.args.disk.now) (g.D.Disk.past c.loop-piece.disk) (g.D.Disk.past c.write_piece.new.disk) c.write_piece.result
    (subst (λ (l : List Piece). SoFar c.args.pieces.now l (g.D.Disk.past c.args.disk.now) (g.D.Disk.past c.loop-piece.disk)) c.in-Some.ensures.cases.0 (c.loop-piece.invariant.0 tells))
    (c.write_piece.ensures.past tells) kept file before

pub loop-piece-preserved : goal.loop-piece-preserved
loop-piece-preserved g c = (
  λ tells. one_more c.args.pieces.now c.in-Some.behind.now c.in-Some.piece.now
      (g.D.Disk.past c.args.disk.now) (g.D.Disk.past c.loop-piece.disk)
      (subst (λ (l : List Piece). SoFar c.args.pieces.now l (g.D.Disk.past c.args.disk.now) (g.D.Disk.past c.loop-piece.disk)) c.in-Some.ensures.cases.0 (c.loop-piece.invariant.0 tells))
      (g.D.Disk.past c.write_piece.new.disk) (c.in_ok-write_piece.ensures.past tells),
  c.in_ok-write_piece.ensures.faults.quiet ∙ c.loop-piece.invariant.1,
)

pub returns-clause-kept : goal.returns-clause-kept
returns-clause-kept g c kept file before tells miss only = ((c.loop-piece.invariant.0 tells).kept kept file before miss only).1
