use Rattle.std.proofs.Common.{All, take}
use Rattle.gem_sound.specs.Sound.{IsMethodOf}
use Rattle.image_check.proofs.rules.are_methods.Given as goal

abbrev pub invariant-loop-method : goal.invariant-loop-method
invariant-loop-method l = All (IsMethodOf l.class l.class_side) (take l.method-index l.methods)
