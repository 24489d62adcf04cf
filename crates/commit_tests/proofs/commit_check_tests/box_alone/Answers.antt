use Rattle.commit_tests.proofs.Samples.{one_ascends}
use Rattle.commit_tests.proofs.commit_check_tests.box_alone.Goals as goal

pub of-requires : goal.of-requires
of-requires c = one_ascends c.in_ok-vec.field-0.items c.name.result c.in_ok-vec.ensures.items
