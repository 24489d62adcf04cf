use Rattle.gem_record.specs.gem_world.Changes.{was_made}
use Rattle.session_view.proofs.Listed.{objects_ascend}
use Rattle.session_view.proofs.finish.made.Goals as goal

pub of-requires : goal.of-requires
of-requires c = objects_ascend (was_made c.args.state.now.seen.setting c.args.state.now.seen.world)
    c.args.state.now.seen.world.changes _ c.in_ok-made_objects.ensures
