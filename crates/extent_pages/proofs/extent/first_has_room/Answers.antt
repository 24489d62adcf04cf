use Rattle.std.proofs.Common.{arith}
use Rattle.extent_pages.proofs.Extents.{first_fits}
use Rattle.extent_pages.proofs.extent.first_has_room.Goals as goal

pub returns : goal.returns
returns c = first_fits c.args.pages.now (λ k. omega (arith, c.type_inv.pages k))
