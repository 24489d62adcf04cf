use Rattle.lock_table.proofs.Denied.{denied_from_value, value_from_denied, lowest_is_value, free_from_none, none_from_free}
use Rattle.lock_table.proofs.laws.denied_for_the_lowest.Goals as goal

pub returns-clause-request : goal.returns-clause-request
returns-clause-request c locks session oid kind holder held = (denied_from_value locks session oid kind holder held, value_from_denied locks session oid kind holder held)

pub returns-clause-holder : goal.returns-clause-holder
returns-clause-holder c = lowest_is_value

pub returns-clause-nobody : goal.returns-clause-nobody
returns-clause-nobody c locks session oid kind = (free_from_none locks session oid kind, none_from_free locks session oid kind)
