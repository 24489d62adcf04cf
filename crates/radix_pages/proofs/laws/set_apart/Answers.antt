use Rattle.radix_pages.proofs.Tables.{insert_apart}
use Rattle.radix_pages.proofs.laws.set_apart.Goals as goal

pub returns : goal.returns
returns g c = insert_apart
