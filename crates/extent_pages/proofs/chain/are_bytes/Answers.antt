use Rattle.body_codec.proofs.Given.{as_bytes}
use Rattle.extent_pages.proofs.chain.are_bytes.Goals as goal

pub returns : goal.returns
returns c = as_bytes c.args.bytes.now c.type_inv.bytes
