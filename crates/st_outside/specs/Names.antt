-- Where a name stands among names that are gone through from the last ones to the first.
use Rattle.std.specs.Prelude.{ℕ, ◌+◌, length, List, Option, None, Some, option_map}
use Rattle.gem_object.specs.texts.Bytes.{Bytes as Text}
use Rattle.gem_language.specs.tree_meaning.Names.{index_of}

-- the one index, or else the other one
abbrev pub or_further : Option ℕ → Option ℕ → Option ℕ
or_further (Some index) further = Some index
or_further None further = further

-- where a name stands first among these, or else among those after them, where it stands here
abbrev pub first_in : Text → List Text → (after : Option ℕ) → Option ℕ
first_in name names after =
    or_further (index_of name names) (option_map (λ index. length names + index) after)
