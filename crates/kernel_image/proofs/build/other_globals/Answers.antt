use Rattle.std.proofs.Common.{refl, rules}
use Rattle.kernel_image.specs.Objects.{other_entries}
use Rattle.kernel_image.proofs.Entries.{small_counters}
use Rattle.kernel_image.proofs.build.other_globals.Goals as goal

pub returns-clause-entries : goal.returns-clause-entries
unfolding other_entries
returns-clause-entries c = refl

pub returns-clause-counters : goal.returns-clause-counters
returns-clause-counters c = search (rules, small_counters)
