use Rattle.std.proofs.Common.{◌≡◌, drop}
use Rattle.prim_rules.specs.Classes.{are_distinct}
use Rattle.prim_classes.proofs.class_names.are_distinct.Given as goal

abbrev pub invariant-loop-at : goal.invariant-loop-at
invariant-loop-at l = are_distinct l.names ≡ are_distinct (drop l.at l.names)
