use Rattle.commit_tests.proofs.Samples.{none_ascend}
use Rattle.commit_tests.proofs.commit_check_tests.no_names.Goals as goal

pub of-requires : goal.of-requires
of-requires c = none_ascend c.new.result.items c.new.ensures.items
