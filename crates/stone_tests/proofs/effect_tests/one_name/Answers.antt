use Rattle.stone_tests.proofs.Names.{one_ascends}
use Rattle.stone_tests.proofs.effect_tests.one_name.Goals as goal

pub of-requires : goal.of-requires
of-requires c = one_ascends c.in_ok-vec.field-0.items c.args.oid c.in_ok-vec.ensures.items
