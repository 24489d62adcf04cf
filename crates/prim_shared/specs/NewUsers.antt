-- The names of the objects of a new user.
use Rattle.std.specs.Prelude.{◌≡◌, ◌+◌}
use Rattle.object_programs.specs.gem_world.World.{next_name}
use Rattle.running_objects.specs.Seen.{Seen}
use Rattle.prim_shared.specs.declared.new_users.NewNames.{NewNames}

-- these names are drawn next
pub record AreDrawn (names : NewNames) (seen : Seen) : Type 0 where
  pub segment : next_name seen.setting seen.world ≡ names.segment
  pub globals : next_name seen.setting seen.world + 1 ≡ names.globals
  pub profile : next_name seen.setting seen.world + 2 ≡ names.profile
