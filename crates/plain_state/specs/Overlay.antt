-- What a transaction has changed: objects by the numbers of their names.
use Rattle.std.specs.Prelude.{ℕ, List, map, Option, Some, None}
use Rattle.std.specs.Ordering.{nat_cmp}
use Rattle.std.specs.FinMap.{FinMap, get, insert, from_entries}
use Rattle.gem_object.specs.declared.object.Object.{Object}
use Rattle.gem_image.specs.Image.{Contents, contents_of}

-- the objects of these entries, but for the numbers of their last commits
abbrev pub contents_by_name : List (ℕ × Object) → FinMap nat_cmp Contents
contents_by_name entries = from_entries (map (λ entry. (entry.0, contents_of entry.1)) entries)

-- with the object at this name edited, where there is one
abbrev pub changed_at : ℕ → (Contents → Contents) → Option Contents → FinMap nat_cmp Contents
    → FinMap nat_cmp Contents
changed_at name edit None changes = changes
changed_at name edit (Some object) changes = insert changes name (edit object)

abbrev pub changed : ℕ → (Contents → Contents) → FinMap nat_cmp Contents → FinMap nat_cmp Contents
changed name edit changes = changed_at name edit (get changes name) changes
