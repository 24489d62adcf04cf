-- The elements of a literal array, one after the other.
use Rattle.std.proofs.Common.{◌≡◌, sym, ap, ◌∙◌, subst, ℕ, ◌+◌, ◌<◌, ◌≤◌, length, List, [], ◌∷◌, ◌++◌, map, drop, get_or, Result, Ok, Err}
use Rattle.std.proofs.lemmas.List.{at_drop_more, at_drop_all, append-nil, append_assoc}
use Rattle.st_tree.specs.Trees.{Constants, no_constants, constants}
use Rattle.st_tree.specs.Views.{constant_of}
use Rattle.st_tree.specs.declared.nodes.Literal.{Literal}
use Rattle.gem_object.specs.declared.value.Value.{Value}
use Rattle.object_programs.specs.Run.{Run}
use Rattle.gem_language.specs.tree_meaning.Place.{MadeBlock}
use Rattle.running_objects.specs.Seen.{Seen}
use Rattle.running_objects.specs.declared.stop.Stop.{Stop}
use Rattle.gem_language.specs.Literals.{constant_value, constant_values}
use Rattle.prim_parts.specs.Does.{Does}
use Rattle.prim_parts.proofs.Does.{does_then, does_stop, does_give}

-- the values, and then the others
abbrev pub prepended : List Value → Result (List Value) Stop → Result (List Value) Stop
prepended values (Ok others) = Ok (values ++ others)
prepended values (Err ended) = Err ended

-- the values of these elements
abbrev pub values_of : List Literal → Run MadeBlock (List Value)
values_of items = constant_values (constants (map constant_of items))

constants_of : List Literal → Constants
constants_of items = constants (map constant_of items)

-- no element is left
none_left : (items : List Literal) (index : ℕ) → length items ≤ index
    → constants (map constant_of (drop index items)) ≡ no_constants
unfolding constants_of
none_left items index all = at_drop_all constants_of items index all

one_left : (items : List Literal) (index : ℕ) (item : Literal) → index < length items → item ≡ get_or items index item
    → constants (map constant_of (drop index items)) ≡ constants (map constant_of (item ∷ drop (index + 1) items))
unfolding constants_of
one_left items index item within is = at_drop_more constants_of items index item within
    ∙ ap (λ (item : Literal). constants_of (item ∷ drop (index + 1) items)) (sym is)

module _ (Whole : Result (List Value) Stop → Seen → Type 0) (values : List Value) (items : List Literal) (index : ℕ)
    {now : Seen} (told : (others : Result (List Value) Stop) (after : Seen)
    → Does (values_of (drop index items)) now others after → Whole (prepended values others) after) where
  pub values_end : length items ≤ index → Whole (Ok values) now
  values_end all =
      let At : List Value → Type 0 = λ values. Whole (Ok values) now in
      let Of : Constants → Type 0 = λ rest. Does (constant_values rest) now (Ok []) now in
      subst At (append-nil values) (told (Ok []) now (subst Of (sym (none_left items index all)) (does_give [] now)))

  module _ (item : Literal) (within : index < length items) (is : item ≡ get_or items index item) where
    of_here : {others : Result (List Value) Stop} {after : Seen}
        → Does (values_of (item ∷ drop (index + 1) items)) now others after
        → Does (values_of (drop index items)) now others after
    of_here {others} {after} does =
        let Of : Constants → Type 0 = λ rest. Does (constant_values rest) now others after in
        subst Of (sym (one_left items index item within is)) does

    -- an element that isn't made
    pub values_stop : {ended : Stop} {after : Seen} → Does (constant_value (constant_of item)) now (Err ended) after
        → Whole (Err ended) after
    values_stop {ended} {after} does = told (Err ended) after (of_here (does_stop does))

    -- one that is, and what is told of the rest
    pub values_more : {value : Value} {later : Seen} → Does (constant_value (constant_of item)) now (Ok value) later
        → (others : Result (List Value) Stop) (after : Seen)
        → Does (values_of (drop (index + 1) items)) later others after
        → Whole (prepended (values ++ value ∷ []) others) after
    values_more {value} {later} does (Ok others) after rest =
        let At : List Value → Type 0 = λ values. Whole (Ok values) after in
        subst At (sym (append_assoc values (value ∷ []) others)) (told (Ok (value ∷ others)) after
        (of_here (does_then does (does_then rest (does_give (value ∷ others) after)))))
    values_more {value} {later} does (Err ended) after rest =
        told (Err ended) after (of_here (does_then does (does_stop rest)))
