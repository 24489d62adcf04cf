use Rattle.kernel_image.specs.Objects.{last_objects}
use Rattle.kernel_image.proofs.Entries.{three_more}
use Rattle.kernel_image.proofs.build.add_own_globals.Goals as goal

pub returns : goal.returns
unfolding last_objects
returns c = three_more _ _ _ _ _ _ _ _ _ _ c.in_ok-push.ensures.items c.in_ok-push-2.ensures.items c.in_ok-push-3.ensures.items
    c.in_ok-own_globals.ensures c.in_ok-own_globals-2.ensures c.transcript.ensures
