use Rattle.std.proofs.Common.{refl}
use Rattle.kernel_state.proofs.Beginning.{begins_by}
use Rattle.kernel_state.proofs.begins.ViewBegins.over.Goals as goal

pub start-requires : goal.start-requires
start-requires c =
    begins_by c.args.image c.args.image c.curator.result c.args.first refl c.curator.ensures c.requires
