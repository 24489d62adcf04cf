use Rattle.prim_collections.proofs.TextsRead.{receiver_read, receiver_plain}
use Rattle.prim_collections.proofs.seen_texts.read_receiver.Goals as goal

pub returns : goal.returns
returns g c = receiver_read c.args.receiver.now c.in-Some.name (g.O.Objects.seen c.args.objects.now)
    (g.O.Objects.seen c.read.new.self) c.read.result c.in-Some.ensures c.read.ensures

pub returns-in_default : goal.returns-in_default
returns-in_default g c = receiver_plain c.args.receiver.now (g.O.Objects.seen c.args.objects.now) c.in_default.ensures
