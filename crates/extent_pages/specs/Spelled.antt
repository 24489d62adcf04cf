-- The bytes of pages and of what stands in them. Numbers have their low byte first.
use Rattle.std.specs.Prelude.{ℕ, ◌-◌, List, ◌∷◌, ◌++◌, length, replicate}
use Rattle.std.specs.List.{flat_map}
use Rattle.gem_object.specs.declared.object.Object.{Object}
use Rattle.body_codec.specs.Spelled.{four_bytes, eight_bytes, spelled_changed, long_list}
use Rattle.extent_pages.specs.declared.root.Root.{Root}
use Rattle.extent_pages.specs.Pages.{page_size, payload_size}

-- a page of a chain: the next page, or 0, how much is used, and the payload, filled up with zeros
unfoldable pub spelled_page : ℕ → List ℕ → List ℕ
spelled_page next payload = four_bytes next ++ (four_bytes (length payload)
    ++ (payload ++ replicate (payload_size - length payload) 0))

abbrev pub spelled_root : Root → List ℕ
spelled_root root = eight_bytes root.number ++ (four_bytes root.serial
    ++ (eight_bytes root.objects ++ (four_bytes root.directory ++ four_bytes root.pages)))

-- the page of a root, filled up with zeros
unfoldable pub root_page : Root → List ℕ
root_page root = spelled_root root ++ replicate (page_size - length (spelled_root root)) 0

-- an entry of a directory: the number of a leaf, and the leaf's first page
abbrev pub spelled_entry : ℕ × ℕ → List ℕ
spelled_entry entry = eight_bytes entry.0 ++ four_bytes entry.1

-- the payload of a directory
abbrev pub spelled_directory : List (ℕ × ℕ) → List ℕ
spelled_directory entries = long_list spelled_entry entries

-- the payload of a leaf: how many objects it has, and each behind its name
abbrev pub spelled_leaf : List (ℕ × Object) → List ℕ
spelled_leaf objects = length objects ∷ flat_map spelled_changed objects
