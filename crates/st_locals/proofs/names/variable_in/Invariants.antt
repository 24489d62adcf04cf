use Rattle.std.proofs.Common.{◌≡◌, ◌-◌, length, drop, reverse}
use Rattle.tree_meaning.specs.Names.{variable_in}
use Rattle.st_locals.proofs.Searches.{deeper}
use Rattle.st_locals.proofs.names.variable_in.Given as goal

abbrev pub invariant-loop-depth : goal.invariant-loop-depth
invariant-loop-depth l = variable_in l.name (reverse l.scopes)
    ≡ deeper l.depth (variable_in l.name (drop l.depth (reverse l.scopes)))

abbrev pub decreases-loop-depth : goal.decreases-loop-depth
decreases-loop-depth l = length l.scopes - l.depth
