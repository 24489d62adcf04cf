-- Sources of methods, and the code that is kept of them.
use Rattle.std.specs.Prelude.{◌≡◌, Bool, true, false, List, [], ◌∷◌, cond, take, bytes_eq, Option, None, Some, Result, Ok, Err, Contains}
use Rattle.std.specs.declared.alloc.AllocError.{AllocError}
use Rattle.gem_object.specs.texts.Bytes.{Bytes as Text}
use Rattle.st_tree.specs.Trees.{Program}
use Rattle.gem_sound.specs.st_grammar.Grammar.{method}
use Rattle.gem_sound.specs.st_grammar_laws.TreeOf.{TextFault, tree_of}
use Rattle.gem_object.specs.declared.body.MethodCode.{MethodCode}
use Rattle.gem_object.specs.declared.body.MethodCode.TheVariants.{Source, Primitive}
use Rattle.gem_language.specs.Commands.{selector_of}

-- The source of a method has this tree, with a selector, or it has none.
abbrev pub IsMethodOf : Text → Option Program → Type 0
IsMethodOf source (Some tree) =
    (tree_of method source ≡ Ok tree) × (tree.selector ≡ Some (selector_of tree))
IsMethodOf source None = (fault : TextFault) × (tree_of method source ≡ Err fault)

-- The code of a method with source is that of its tree; of a primitive nothing is asked.
abbrev pub IsCodeOf : Program → MethodCode → Type 0
IsCodeOf tree (Source source) = IsMethodOf source (Some tree)
IsCodeOf tree (Primitive number) = Unit {0}

-- the sources of which code is kept
abbrev pub sources : List (Text × Program) → List Text
sources [] = []
sources (entry ∷ rest) = entry.0 ∷ sources rest

-- all that is kept is the code of its source
abbrev pub AllAreCode : List (Text × Program) → Type 0
AllAreCode entries = (entry : Text × Program) → Contains entries entry
    → IsMethodOf entry.0 (Some entry.1)

abbrev pub without : Text → List Text → List Text
without source [] = []
without source (first ∷ rest) = cond (bytes_eq source first) rest (first ∷ without source rest)

abbrev pub is_kept : Text → List Text → Bool
is_kept source [] = false
is_kept source (first ∷ rest) = cond (bytes_eq source first) true (is_kept source rest)

-- The source was used: it stands first, and the others follow. Of 256 others the last one is
-- dropped.
abbrev pub used : Text → List Text → List Text
used source list =
    cond (is_kept source list) (source ∷ without source list) (source ∷ take 255 list)

-- A source was asked for. One without a tree isn't kept, and where memory ran out nothing changed.
abbrev pub UsedBy : Text → Result (Option Program) AllocError → (before after : List Text) → Type 0
UsedBy source (Ok (Some tree)) before after = after ≡ used source before
UsedBy source (Ok None) before after = after ≡ before
UsedBy source (Err wrong) before after = after ≡ before
