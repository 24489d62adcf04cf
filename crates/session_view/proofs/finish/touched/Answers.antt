use Rattle.session_view.proofs.Listed.{names_ascend}
use Rattle.session_view.proofs.finish.touched.Goals as goal

pub of-requires : goal.of-requires
of-requires c = names_ascend c.args.state.now.seen.world.touched _ c.in_ok-touched_names.ensures
