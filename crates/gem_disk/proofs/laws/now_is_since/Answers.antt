use Rattle.gem_disk.proofs.Moments.{now_counts, only_now}
use Rattle.gem_disk.proofs.laws.now_is_since.Goals as goal

pub returns-clause-now_counts : goal.returns-clause-now_counts
returns-clause-now_counts c = now_counts

pub returns-clause-only_now : goal.returns-clause-only_now
returns-clause-only_now c = only_now
