use Rattle.std.proofs.Common.{◌≡◌, map, take}
use Rattle.gem_object.specs.declared.value.Value.TheVariants.{Sym}
use Rattle.prim_shared.proofs.lists.symbols_of.Given as goal

-- the symbols of the texts before this one
abbrev pub invariant-loop-text : goal.invariant-loop-text
invariant-loop-text l = l.values.items ≡ map Sym (take l.text-index l.texts)
