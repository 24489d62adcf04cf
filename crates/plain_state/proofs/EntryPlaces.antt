-- The place where the entry of a name stands: what is found there, and what is written there.
use Rattle.std.proofs.Common.{◌≡◌, ◌∙◌, sym, ap, ℕ, ◌<◌, nat_eq, List, length, slice_get, position, Some, None}
use Rattle.std.specs.Cmp.{nat_eq_equiv}
use Rattle.std.specs.List.{IsDistinct}
use Rattle.std.specs.Map.{keys_of, values_of, lookup, set_value}
use Rattle.indexmap.specs.IndexMap.{set_value_at}
use Rattle.indexmap.proofs.MapLemmas.{index-first, insert_entry-first, Found-position, Missing-position}
use Rattle.indexmap.proofs.RemoveLemmas.{own_first}
use Rattle.gem_object.specs.declared.object.Object.{Object}
use Rattle.gem_image.specs.Image.{Contents, contents_of}
use Rattle.plain_state.specs.Overlay.{contents_by_name, changed}
use Rattle.plain_state.proofs.Changes.{set_is_put, set_by_name, same_by_name}

-- a place whose key is the name is the name's place
pub place_is : (es : List (ℕ × Object)) (at number : ℕ) (object : Object) → IsDistinct nat_eq (keys_of es)
    → slice_get es at ≡ Some (number, object) → position (nat_eq number) (keys_of es) ≡ Some at
place_is es at number object unique is =
    index-first (nat_eq number) es at (own_first nat_eq nat_eq_equiv es at number object unique is)

pub none_without_place : (es : List (ℕ × Object)) (number : ℕ) → position (nat_eq number) (keys_of es) ≡ None
    → lookup (nat_eq number) es ≡ None
none_without_place es number none = (Missing-position (nat_eq number) es none).value

module _ (es : List (ℕ × Object)) (number at : ℕ) (here : position (nat_eq number) (keys_of es) ≡ Some at) where
  pub place_within : at < length es
  place_within = (Found-position (nat_eq number) es at here).within

  pub found_at_place : (object : Object) → slice_get (values_of es) at ≡ Some object
      → lookup (nat_eq number) es ≡ Some object
  found_at_place object is = (Found-position (nat_eq number) es at here).value ∙ is

  module _ (object new : Object) (there : slice_get (values_of es) at ≡ Some object) where
    -- what is written at the place is written at the name
    set_at_place : set_value_at es at new ≡ set_value (nat_eq number) es new
    set_at_place = sym (insert_entry-first nat_eq number new es at (Found-position (nat_eq number) es at here).first)
        ∙ sym (set_is_put es number new object (found_at_place object there))

    pub edited_at_place : (edit : Contents → Contents) → contents_of new ≡ edit (contents_of object)
        → contents_by_name (set_value_at es at new) ≡ changed number edit (contents_by_name es)
    edited_at_place edit is = ap contents_by_name set_at_place
        ∙ set_by_name es number new object edit (found_at_place object there) is

    pub same_at_place : new ≡ object → contents_by_name (set_value_at es at new) ≡ contents_by_name es
    same_at_place same = ap contents_by_name set_at_place
        ∙ ap (λ (one : Object). contents_by_name (set_value (nat_eq number) es one)) same
        ∙ same_by_name es number object (found_at_place object there)
