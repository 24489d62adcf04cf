use Rattle.std.proofs.Common.{sym, subst}
use Rattle.running_objects.specs.gem_world.World.{Setting}
use Rattle.running_objects.specs.object_programs.Guard.{chain_limit}
use Rattle.look_up_cache.specs.Variables.{Stands}
use Rattle.look_up_cache.specs.Counted.{Counted}
use Rattle.look_up_cache.proofs.Names.{stands_stays, stands_does, variable_told}
use Rattle.look_up_cache.proofs.Naming.{counted_stays, count_given}
use Rattle.look_up_cache.proofs.laws.slots_are_remembered.Goals as goal

pub returns : goal.returns
returns c = record {
  variable = λ holder name found seen stands. stands_does holder name found seen stands;
  count = λ class named seen sound there counted. count_given seen sound class named there counted seen.budget;
  stands = λ holder name found before after remains stands.
      subst (λ (setting : Setting). Stands holder name found setting after.world) (sym remains.setting)
      (stands_stays before.setting before.world after.world remains.still holder name found stands);
  counted = λ class named before after remains counted.
      subst (λ (setting : Setting). Counted setting after.world chain_limit class named) (sym remains.setting)
      (counted_stays before.setting before.world after.world remains.still chain_limit class named counted);
  told = λ holder name found before after does. variable_told holder name found before after does;
}
