use Rattle.std.proofs.Common.{◌≡◌, ◌∷◌, take}
use Rattle.std.specs.List.{flat_map}
use Rattle.prim_rules.specs.Texts.{with_quote_doubled}
use Rattle.prim_classes.proofs.words.quoted.Given as goal

abbrev pub invariant-loop-byte : goal.invariant-loop-byte
invariant-loop-byte l = l.bytes.items ≡ 39 ∷ flat_map with_quote_doubled (take l.byte-index l.text)
