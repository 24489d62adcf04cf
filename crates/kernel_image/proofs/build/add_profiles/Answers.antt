use Rattle.kernel_image.specs.Objects.{profiles}
use Rattle.kernel_image.proofs.Entries.{two_more}
use Rattle.kernel_image.proofs.build.add_profiles.Goals as goal

pub returns : goal.returns
unfolding profiles
returns c = two_more _ _ _ _ _ _ _ c.in_ok-push.ensures.items c.in_ok-push-2.ensures.items c.in_ok-user.ensures c.in_ok-user-2.ensures
