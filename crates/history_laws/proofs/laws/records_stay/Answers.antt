use Rattle.history_laws.proofs.Apart.{records_stay, counters_stay}
use Rattle.history_laws.proofs.laws.records_stay.Goals as goal

pub returns-clause-record : goal.returns-clause-record
returns-clause-record c = records_stay

pub returns-clause-names : goal.returns-clause-names
returns-clause-names c t more session none = counters_stay t.opened t.events more session none
