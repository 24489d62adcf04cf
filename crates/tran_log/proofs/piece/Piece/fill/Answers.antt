use Rattle.std.proofs.Common.{◌≡◌, ◌≤◌, ℕ, ◌+◌, ◌-◌, ◌++◌, List, IsTrue, length, take, drop, sym, ap, ap₂, subst, ◌∙◌, arith}
use Rattle.gem_disk.specs.declared.disk.Which.TheVariants.{Log}
use Rattle.gem_disk.specs.Disk.{reads}
use Rattle.tran_log.specs.Reads.{IsPiece}
use Rattle.tran_log.proofs.Fronts.{piece_more}
use Rattle.tran_log.proofs.piece.Piece.fill.Goals as goal

pub returns-clause-piece : goal.returns-clause-piece
returns-clause-piece g c =
    let file = reads (g.D.Disk.past c.args.disk.now) Log in
    let there = c.args.self.now in
    let more = c.in_ok-more.more.items in
    let front : length c.front.result.now ≡ length there = ap length c.front.ensures in
    let count : length more ≡ c.min-wanted.result - length c.front.result.now = c.in_ok-more.ensures.count in
    let inside : c.args.at + length there + length more ≤ c.args.size = omega (
      arith,
      front,
      count,
      c.requires.piece.inside,
      c.min-wanted.ensures,
      c.max.ensures,
      c.if-there-min.false,
      c.min.ensures,
    ) in
    let more_is : IsTrue g.D.Disk.tells → more ≡ take (length more) (drop (c.args.at + length there) file) =
    λ tell. c.in_ok-more.ensures.bytes tell
    ∙ ap₂ (λ (n : ℕ) (m : ℕ). take n (drop m file)) (sym count) (ap (λ (n : ℕ). c.args.at + n) front) in
    let items : c.in_ok-bytes.bytes.items ≡ there ++ more = c.in_ok-bytes.ensures
    ∙ ap₂ (λ (a : List ℕ) (b : List ℕ). a ++ b) c.front-2.ensures c.deref.ensures.value in
    subst (IsPiece g.D.Disk.tells file c.args.size c.args.at) (sym items)
    (piece_more g.D.Disk.tells file c.args.size c.args.at there more c.requires.piece inside more_is)
