use Rattle.std.proofs.Common.{refl}
use Rattle.gem_server.proofs.RoundRuns.{round_runs, round_draws, round_record}
use Rattle.gem_server.proofs.RoundConflicts.{no_conflict_at}
use Rattle.gem_server.proofs.laws.rounds_write_nothing.Goals as goal

pub returns-clause-runs : goal.returns-clause-runs
returns-clause-runs c number image value pairs serial first from to loaded room =
    round_runs number image value pairs image value pairs serial first from to loaded loaded room

pub returns-clause-draws : goal.returns-clause-draws
returns-clause-draws c number image value pairs serial first from to loaded room =
    round_draws number image value pairs image value pairs serial first from to loaded loaded room

pub returns-clause-record : goal.returns-clause-record
returns-clause-record c number image value pairs serial first entry from to loaded room =
    round_record number image value pairs image value pairs serial first from to loaded loaded room entry

pub returns-clause-no_conflict : goal.returns-clause-no_conflict
returns-clause-no_conflict c number image place value pairs serial first entry from to loaded room meets =
    no_conflict_at number image place value pairs loaded entry _ _ refl
    (round_record number image value pairs image value pairs serial first from to loaded loaded room entry) meets
