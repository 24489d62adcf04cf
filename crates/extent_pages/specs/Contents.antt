-- What the payloads of a directory and of a leaf say, or their first fault.
use Rattle.std.specs.Prelude.{ℕ, zero, suc, ◌-◌, ◌/◌, ◌==◌, ◌&&◌, nat_le, min, if◌then◌else◌, List, [], ◌∷◌, ◌++◌, length, get_or, option_map, Result, Ok, Err}
use Rattle.std.specs.Ordering.{nat_cmp}
use Rattle.std.specs.Int.{w32, w64}
use Rattle.gem_object.specs.declared.object.Object.{Object}
use Rattle.body_codec.specs.declared.fault.Flaw.{Flaw}
use Rattle.body_codec.specs.Reading.{◌&◌, Reader, number_at, byte_at, name_at, last_of, above_at, long_at}
use Rattle.body_codec.specs.ReadingBodies.{object_at}
use Rattle.extent_pages.specs.declared.fault.PageRule.{PageRule}
use Rattle.extent_pages.specs.declared.fault.PageRule.TheVariants as rule
use Rattle.extent_pages.specs.Pages.{payload_size, Chain, Fault, ◌andthen◌}

-- ---- Faults within a payload.

-- a fault: how many bytes are left from the field on that fails, and the rule
abbrev pub PayloadFault : Type 0
PayloadFault = ℕ × PageRule

-- what is read at the front of a payload, and the bytes after it
abbrev pub PayloadReader : Type 0 → Type 0
PayloadReader A = List ℕ → Result (A × List ℕ) PayloadFault

-- a field that breaks this rule of pages where it fails
abbrev pub with_rule : {A : Type 0} → PageRule → Result A Flaw → Result A PayloadFault
with_rule broken (Ok x) = Ok x
with_rule broken (Err flaw) = Err (flaw.left, broken)

-- what was read, where nothing stands behind it
abbrev pub all_read : {A : Type 0} → PageRule → A × List ℕ → Result A PayloadFault
all_read broken read = if length read.1 == 0 then Ok read.0 else Err (length read.1, broken)

-- The page of a chain in which a field begins, by how many bytes of the payload are left there. A
-- field that begins at the payload's end counts to the last page.
abbrev pub page_with : Chain → ℕ → ℕ
page_with chain left = get_or chain.pages
    (min ((length chain.payload - left) / payload_size) (length chain.pages - 1)) 0

-- a fault in a payload, at its page
abbrev pub in_chain : {A : Type 0} → Chain → Result A PayloadFault → Result A Fault
in_chain chain (Ok x) = Ok x
in_chain chain (Err fault) = Err (page_with chain fault.0, fault.1)

-- ---- Directories.

-- the number of a leaf, above the last one, and the leaf's first page
unfoldable pub entry_at : List (ℕ × ℕ) → Reader (ℕ × ℕ)
entry_at before bytes = (above_at nat_cmp
    (option_map (λ (entry : ℕ × ℕ). entry.0) (last_of before)) (number_at w64) & number_at w32) bytes

-- the entries of a directory, whole
unfoldable pub directory_of : Chain → Result (List (ℕ × ℕ)) Fault
directory_of chain = in_chain chain
    (with_rule rule.Directory (long_at entry_at chain.payload) andthen all_read rule.Directory)

-- ---- Leaves.

-- how many names a leaf may have objects at; its number is that of each name divided by this
abbrev pub leaf_size : ℕ
leaf_size = 64

-- how many objects a leaf has: one at least
unfoldable pub count_at : PayloadReader ℕ
count_at bytes = with_rule rule.Leaf (byte_at bytes) andthen λ count.
    if nat_le 1 count.0 && nat_le count.0 leaf_size then Ok count else Err (length bytes, rule.Leaf)

-- a name of the leaf of this number, above those before it
unfoldable pub leaf_name_at : ℕ → List (ℕ × Object) → PayloadReader ℕ
leaf_name_at leaf before bytes = with_rule rule.Leaf (above_at nat_cmp
    (option_map (λ (entry : ℕ × Object). entry.0) (last_of before)) name_at bytes) andthen λ name.
    if name.0 / leaf_size == leaf then Ok name else Err (length bytes, rule.Leaf)

-- an object behind its name; the number of the commit that changed it isn't stored
unfoldable pub leaf_object_at : ℕ → List (ℕ × Object) → PayloadReader (ℕ × Object)
leaf_object_at leaf before bytes = leaf_name_at leaf before bytes andthen λ name.
    with_rule rule.Object (object_at 0 name.1) andthen λ object.
    Ok ((name.0, object.0), object.1)

-- these objects, and so many more
unfoldable pub objects_after : ℕ → ℕ → List (ℕ × Object) → PayloadReader (List (ℕ × Object))
objects_after leaf zero before bytes = Ok (before, bytes)
objects_after leaf (suc more) before bytes = leaf_object_at leaf before bytes andthen λ object.
    objects_after leaf more (before ++ object.0 ∷ []) object.1

-- a leaf: how many objects it has, and these
unfoldable pub leaf_at : ℕ → PayloadReader (List (ℕ × Object))
leaf_at leaf bytes = count_at bytes andthen λ count. objects_after leaf count.0 [] count.1

-- the objects of the leaf of this number, whole
unfoldable pub leaf_of : ℕ → Chain → Result (List (ℕ × Object)) Fault
leaf_of leaf chain = in_chain chain (leaf_at leaf chain.payload andthen all_read rule.Leaf)
