use Rattle.std.proofs.Common.{◌≡◌, ◌++◌, drop, option_map}
use Rattle.prim_rules.specs.Classes.{symbols_in}
use Rattle.prim_classes.proofs.class_names.symbols_in.Given as goal

abbrev pub invariant-loop-value : goal.invariant-loop-value
invariant-loop-value l = symbols_in l.values ≡ option_map (λ rest. l.names.items ++ rest) (symbols_in (drop l.value-index l.values))
