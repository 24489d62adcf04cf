use Rattle.std.proofs.Common.{sym, subst}
use Rattle.running_objects.specs.gem_world.World.{Setting}
use Rattle.look_up_cache.specs.Calm.{Begins}
use Rattle.look_up_cache.specs.Remembered.{Finds}
use Rattle.look_up_cache.proofs.Stays.{begins_stay, finds_stay}
use Rattle.look_up_cache.proofs.Steps.{calm_now}
use Rattle.look_up_cache.proofs.laws.memories_stay.Goals as goal

pub returns : goal.returns
returns c = record {
  begins = λ name start before after remains begins.
      subst (λ (setting : Setting). Begins name start setting after.world) (sym remains.setting)
      (begins_stay before.setting before.world after.world remains.still name start begins);
  finds = λ start selector found before after remains finds.
      subst (λ (setting : Setting). Finds start selector found setting after.world) (sym remains.setting)
      (finds_stay before.setting before.world after.world remains.still start selector found finds);
  calm = λ name object setting world there allowed. calm_now setting name object world there allowed;
}
