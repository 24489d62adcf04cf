use Rattle.std.proofs.Common.{◌∙◌}
use Rattle.object_guard.proofs.Costs.{limits_are}
use Rattle.object_guard.proofs.limits.are_within_limits.Goals as goal

pub returns : goal.returns
returns c = c.all_within.ensures ∙ limits_are c.args.objects.now
