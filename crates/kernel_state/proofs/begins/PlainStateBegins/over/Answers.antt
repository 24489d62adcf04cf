use Rattle.kernel_state.proofs.Beginning.{begins_by}
use Rattle.kernel_state.proofs.begins.PlainStateBegins.over.Goals as goal

pub start-requires : goal.start-requires
start-requires c =
    begins_by c.args.image c.in_ok-view.view c.curator.result c.args.first c.in_ok-view.ensures c.curator.ensures c.requires
