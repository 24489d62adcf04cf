use Rattle.std.proofs.lemmas.Bool.{false≢true}
use Rattle.gem_record.proofs.Ascending.{not_found}
use Rattle.gem_record.proofs.oid_list.contains.Goals as goal

pub returns-in-Err : goal.returns-in-Err
returns-in-Err c = (
  λ found. absurd (false≢true found),
  λ there. absurd (not_found c.args.names.now c.args.oid c.in-Err.field-0 c.requires c.in-Err.ensures.position there),
)
