use Rattle.std.proofs.Common.{ℕ, map}
use Rattle.gem_update.specs.declared.update.Update.{Update}
use Rattle.session_view.proofs.Listed.{updates_ascend}
use Rattle.session_view.proofs.finish.updates.Goals as goal

pub of-requires : goal.of-requires
of-requires c = updates_ascend c.args.state.now.seen.world.updates
    (map (λ (entry : ℕ × Update). entry.0) c.args.state.now.seen.world.updates) _ c.in_ok-updates_by_name.ensures
