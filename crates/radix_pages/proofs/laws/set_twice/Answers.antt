use Rattle.std.proofs.Common.{refl}
use Rattle.radix_pages.proofs.Tables.{get-insert_same, get-insert_other, insert_again}
use Rattle.radix_pages.proofs.laws.set_twice.Goals as goal

pub returns-clause-same_key : goal.returns-clause-same_key
returns-clause-same_key g c pages key value = get-insert_same pages key value key refl

pub returns-clause-other_key : goal.returns-clause-other_key
returns-clause-other_key g c pages key other value apart = get-insert_other pages key value other apart

pub returns-clause-last : goal.returns-clause-last
returns-clause-last g c = insert_again
