use Rattle.std.proofs.Common.{◌≡◌, ◌-◌, length, drop}
use Rattle.gem_language.specs.tree_meaning.Names.{index_of}
use Rattle.st_outside.proofs.Indexes.{later}
use Rattle.st_outside.proofs.instances.index_of.Given as goal

abbrev pub invariant-loop-index : goal.invariant-loop-index
invariant-loop-index l = index_of l.name l.names ≡ later l.index (index_of l.name (drop l.index l.names))

abbrev pub decreases-loop-index : goal.decreases-loop-index
decreases-loop-index l = length l.names - l.index
