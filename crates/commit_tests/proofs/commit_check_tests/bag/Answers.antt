use Rattle.std.proofs.Common.{arith}
use Rattle.commit_tests.proofs.Samples.{no_items, one_item}
use Rattle.commit_tests.proofs.commit_check_tests.bag.Goals as goal

pub bag_of-requires : goal.bag_of-requires
bag_of-requires c = no_items c.new.result.items c.new.ensures.items

pub bag_of-requires-2 : goal.bag_of-requires-2
bag_of-requires-2 c = one_item c.in_ok-vec.field-0.items c.args.occurrences c.in_ok-vec.ensures.items
    (omega arith) (omega arith)
