-- The order of values.
use Rattle.std.specs.Prelude.{ℕ, Bool}
use Rattle.std.specs.Ordering.{nat_cmp, int_cmp, ordering_then, is_eq}
use Rattle.std.specs.Cmp.Lexicographic.{slice_cmp}
use Rattle.std.specs.declared.cmp.Ordering.{Ordering}
use Rattle.std.specs.declared.cmp.Ordering.TheVariants.{Equal}
use Rattle.gem_object.specs.declared.value.Value.{Value}
use Rattle.gem_object.specs.declared.value.Value.TheVariants.{Nil, False, True, Int, Char, Sym, Ref, Block}

-- the tag of a value: its kind as a number
abbrev pub tag_of : Value → ℕ
tag_of Nil = 0
tag_of False = 1
tag_of True = 2
tag_of (Int _) = 3
tag_of (Char _) = 4
tag_of (Sym _) = 5
tag_of (Ref _) = 6
tag_of (Block _) = 7

-- the order of two values of one tag: by number or bytes; blocks by number, then by parameters
abbrev pub content_order : Value → Value → Ordering
content_order (Int number) (Int other) = int_cmp number other
content_order (Char code) (Char other) = nat_cmp code other
content_order (Sym name) (Sym other) = slice_cmp nat_cmp name other
content_order (Ref oid) (Ref other) = nat_cmp oid other
content_order (Block block) (Block other) =
    ordering_then (nat_cmp block.number other.number) (nat_cmp block.params other.params)
content_order _ _ = Equal

-- the order of values: by tag, then by content
abbrev pub value_order : Value → Value → Ordering
value_order value other =
    ordering_then (nat_cmp (tag_of value) (tag_of other)) (content_order value other)

-- whether two values are the same: they compare as equal
abbrev pub same_value : Value → Value → Bool
same_value value other = is_eq (value_order value other)
