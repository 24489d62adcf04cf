use Rattle.std.proofs.Common.{◌∙◌, sym}
use Rattle.look_up_cache.proofs.AfterReads.{found_reached}
use Rattle.look_up_cache.proofs.finding.is_calm.Goals as goal

pub returns : goal.returns
returns c seen all is =
    found_reached c.args.name seen c.object_start.result (c.object_start.ensures seen all) (sym c.is_some.ensures ∙ is)
