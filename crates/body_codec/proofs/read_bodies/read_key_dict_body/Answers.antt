use Rattle.std.proofs.lemmas.Bool.{false≢true}
use Rattle.body_codec.proofs.Given.{as_bytes, dict_given}
use Rattle.body_codec.proofs.read_bodies.read_key_dict_body.Goals as goal

pub unreachable-requires : goal.unreachable-requires
unreachable-requires c = false≢true (c.in_default.ensures.dict.1
    (dict_given c.args.bytes.now c.in_ok-pairs.pairs.items c.in_ok-pairs.rest.now (as_bytes c.args.bytes.now c.type_inv.bytes) c.in_ok-pairs.ensures))
