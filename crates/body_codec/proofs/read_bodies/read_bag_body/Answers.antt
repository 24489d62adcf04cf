use Rattle.std.proofs.lemmas.Bool.{false≢true}
use Rattle.body_codec.proofs.Given.{as_bytes, bag_given}
use Rattle.body_codec.proofs.read_bodies.read_bag_body.Goals as goal

pub unreachable-requires : goal.unreachable-requires
unreachable-requires c = false≢true (c.in_default.ensures.bag.1
    (bag_given c.args.bytes.now c.in_ok-pairs.pairs.items c.in_ok-pairs.rest.now (as_bytes c.args.bytes.now c.type_inv.bytes) c.in_ok-pairs.ensures))
