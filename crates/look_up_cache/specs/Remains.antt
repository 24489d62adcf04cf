-- That what is remembered remains, and what a look-up leaves.
use Rattle.std.specs.Prelude.{◌≡◌}
use Rattle.running_objects.specs.Seen.{Seen}
use Rattle.look_up_cache.specs.Lasting.{Still}

-- Between two states of a run nothing happened that look-ups depend on.
pub record Remains (before after : Seen) : Type 0 where
  pub setting : after.setting ≡ before.setting
  pub still : Still before.setting before.world after.world
