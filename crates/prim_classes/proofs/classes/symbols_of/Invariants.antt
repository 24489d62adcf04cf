use Rattle.std.proofs.Common.{◌≡◌, map, take}
use Rattle.gem_object.specs.declared.value.Value.TheVariants.{Sym}
use Rattle.prim_classes.proofs.classes.symbols_of.Given as goal

abbrev pub invariant-loop-name : goal.invariant-loop-name
invariant-loop-name l = l.values.items ≡ map Sym (take l.name-index l.names)
