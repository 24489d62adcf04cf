use Rattle.std.proofs.Common.{◌≡◌, length, sym, subst, arith}
use Rattle.extent_plan.specs.Pieces.{Fills, pages_filled}
use Rattle.extent_plan.proofs.Laying.{fills_pages}
use Rattle.extent_plan.proofs.lay.lay_fresh.Goals as goal

pub put_chain-requires : goal.put_chain-requires
put_chain-requires c =
    let pages = c.split_at.result.0.now in
    let payload = c.args.fresh.payload.items in
    let many : length pages ≡ pages_filled (length payload) = omega (arith, c.split_at.ensures.front_len, c.pages_filled-count.ensures, c.len.ensures) in
    subst (Fills pages) (sym c.deref.ensures.value) (fills_pages pages payload c.args.fresh.some many)
