use Rattle.std.proofs.Common.{◌≡◌, map, drop}
use Rattle.st_tree.specs.Trees.{constants}
use Rattle.st_tree.specs.Views.{constant_of}
use Rattle.gem_language.specs.Literals.{have_symbols}
use Rattle.st_outside.proofs.literals.+symbols.Given as goal

abbrev pub invariant-have_symbols-loop-item : goal.invariant-have_symbols-loop-item
invariant-have_symbols-loop-item l = have_symbols (constants (map constant_of l.items))
    ≡ have_symbols (constants (map constant_of (drop l.item-index l.items)))
