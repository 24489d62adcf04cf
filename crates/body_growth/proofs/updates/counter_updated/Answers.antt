use Rattle.std.proofs.Common.{FitsSigned, w64, rules}
use Rattle.std.proofs.lemmas.Int.{to_z-of_z}
use Rattle.body_growth.proofs.Told.{counter_told}
use Rattle.body_growth.proofs.updates.counter_updated.Goals as goal

pub returns-in-Ok : goal.returns-in-Ok
returns-in-Ok c =
    let fits : FitsSigned w64 c.args.by = search rules in
    counter_told c.none.ensures c.args.counter c.in-Ok.field-0 _ (rw (to_z-of_z w64 c.args.by fits) at c.in-Ok.ensures)
