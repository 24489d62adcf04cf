-- What is at hand for a name is what is seen of it, and stays so while objects are changed.
use Rattle.std.proofs.Common.{◌≡◌, ◌∙◌, refl, sym, ap, subst, ℕ, ◌+◌, ◌<◌, ◌≤◌, Bool, true, false, cond, nat_eq, List, [], ◌∷◌, length, Option, Some, None, is_some, option_map, Result, Ok, Err, arith}
use Rattle.std.specs.Prelude.{OnOk, OnErr}
use Rattle.std.proofs.lemmas.Bool.{eqb-true, eqb-false}
use Rattle.std.proofs.lemmas.Option.{none-some}
use Rattle.std.specs.Option.{option_or}
use Rattle.std.specs.Ordering.{nat_cmp}
use Rattle.std.specs.FinMap.{FinMap, get, insert}
use Rattle.gem_object.specs.declared.object.Object.{Object}
use Rattle.gem_image.specs.Image.{Contents, contents_of, objects_in}
use Rattle.plain_state.specs.Overlay.{changed_at, changed}
use Rattle.plain_state.specs.Puts.{with_all}
use Rattle.plain_state.specs.declared.at_hand.Spot.{Spot}
use Rattle.plain_state.specs.declared.at_hand.Spot.TheVariants.{Changed, Before}
use Rattle.plain_state.specs.declared.at_hand.AtHand.{AtHand}
use Rattle.plain_state.specs.AtHand.{Layers, before_in, shown_in, with_changes, spot_at, IsKept, IsLeft, IsUnchanged, IsBefore, IsSpot, AreSpots}
use Rattle.plain_state.proofs.Changes.{get_either}

-- an object that stands before the changes is the one that is seen
pub before_shown : (layers : Layers) (name : ℕ) (object : Object) (shared : Bool) → IsBefore layers name object shared
    → shown_in layers name ≡ Some (contents_of object)
before_shown layers name object shared is =
    ap (λ (found : Option Contents). option_or found (before_in layers name)) is.absent ∙ is.there

-- names of which the next one is kept as changed
pub left_more : (first next last other at : ℕ) (kept : Spot) (before between : Option Spot) → last ≡ next + 1
    → IsKept (nat_eq other next) (Changed at) kept between
    → ((kept : Spot) → between ≡ Some kept → IsLeft first next other kept before)
    → IsLeft first last other kept before
left_more first next last other at kept before between one is so = by (nat_eq other next) refl is
  where
    by : (b : Bool) → nat_eq other next ≡ b → IsKept b (Changed at) kept between → IsLeft first last other kept before
    by true same is = rw is tt
    by false apart is = past kept (so kept is)
      where
        past : (kept : Spot) → IsLeft first next other kept before → IsLeft first last other kept before
        past (Changed at) left = tt
        past (Before object shared) left =
            (left.0, λ above below. left.1 above (omega (arith, one, below, eqb-false other next apart)))

-- a spot is right where all is changed but this name
spot_apart : (layers : Layers) (changes : FinMap nat_cmp Contents) (name : ℕ) (spot : Spot)
    → (get layers.changes name ≡ None → get changes name ≡ None) → IsSpot layers name spot
    → IsSpot (with_changes layers changes) name spot
spot_apart layers changes name (Changed at) stays is = tt
spot_apart layers changes name (Before object shared) stays is = record {
  absent = stays is.absent;
  there = is.there;
  shared_in_both = is.shared_in_both;
}

module _ (layers : Layers) (old new : AtHand) (number : ℕ) where
  -- what is kept at hand is right where the new spot is
  pub spots_kept : (spot : Spot) → AreSpots old layers → IsSpot layers number spot
      → ((other : ℕ) (kept : Spot) → spot_at new other ≡ Some kept
      → IsKept (nat_eq other number) spot kept (spot_at old other))
      → AreSpots new layers
  spots_kept spot all right so name kept is = by (nat_eq name number) refl (so name kept is)
    where
      by : (b : Bool) → nat_eq name number ≡ b → IsKept b spot kept (spot_at old name) → IsSpot layers name kept
      by true same here = subst (λ (n : ℕ). IsSpot layers n kept) (sym (eqb-true name number same))
          (subst (IsSpot layers number) (sym here) right)
      by false apart before = all name kept before

  -- after an object was put at the name, which is kept as changed
  pub spots_put : (at : ℕ) (object : Contents) → AreSpots old layers
      → ((other : ℕ) (kept : Spot) → spot_at new other ≡ Some kept
      → IsKept (nat_eq other number) (Changed at) kept (spot_at old other))
      → AreSpots new (with_changes layers (insert layers.changes number object))
  spots_put at object all so name kept is = by (nat_eq name number) refl (so name kept is)
    where
      by : (b : Bool) → nat_eq name number ≡ b → IsKept b (Changed at) kept (spot_at old name)
          → IsSpot (with_changes layers (insert layers.changes number object)) name kept
      by true same here = rw here tt
      by false apart before = spot_apart layers (insert layers.changes number object) name kept
          (λ absent. get_either layers.changes number name object
          ∙ ap (λ (b : Bool). cond b (Some object) (get layers.changes name)) apart ∙ absent)
          (all name kept before)

-- a name without a changed object has none after an edit
absent_after : (changes : FinMap nat_cmp Contents) (number name : ℕ) (edit : Contents → Contents)
    (found : Option Contents)
    → get changes number ≡ found → get changes name ≡ None → get (changed_at number edit found changes) name ≡ None
absent_after changes number name edit None there absent = absent
absent_after changes number name edit (Some object) there absent = by (nat_eq name number) refl
  where
    by : (b : Bool) → nat_eq name number ≡ b → get (insert changes number (edit object)) name ≡ None
    by true same = absurd (none-some object (sym absent ∙ ap (get changes) (eqb-true name number same) ∙ there))
    by false apart = get_either changes number name (edit object)
        ∙ ap (λ (b : Bool). cond b (Some (edit object)) (get changes name)) apart ∙ absent

pub spots_edited : (layers : Layers) (hand : AtHand) (number : ℕ) (edit : Contents → Contents) → AreSpots hand layers
    → AreSpots hand (with_changes layers (changed number edit layers.changes))
spots_edited layers hand number edit all name kept is =
    spot_apart layers (changed number edit layers.changes) name kept
    (absent_after layers.changes number name edit (get layers.changes number) refl) (all name kept is)

-- an object of the images that isn't among the changes stands before them
pub unchanged_spot : (layers : Layers) (name : ℕ) (spot : Spot) → get layers.changes name ≡ None
    → IsUnchanged (objects_in layers.place name) (objects_in layers.view name) spot → IsSpot layers name spot
unchanged_spot layers name (Changed at) absent is = tt
unchanged_spot layers name (Before object shared) absent is = record {
  absent = absent;
  there = is.0;
  shared_in_both = is.1;
}

-- names from the first to below the last get objects, and are kept as changed
get_past : (objects : List Object) (first name : ℕ) (changes : FinMap nat_cmp Contents)
    → (first ≤ name → name < first + length objects → ⊥)
    → get (with_all first objects changes) name ≡ get changes name
get_past [] first name changes outside = refl
get_past (object ∷ objects) first name changes outside =
    get_past objects (first + 1) name (insert changes first (contents_of object))
    (λ above below. outside (omega (arith, above)) (omega (arith, below)))
    ∙ (get_either changes first name (contents_of object)
    ∙ ap (λ (b : Bool). cond b (Some (contents_of object)) (get changes name)) (apart (nat_eq name first) refl))
  where
    apart : (b : Bool) → nat_eq name first ≡ b → b ≡ false
    apart true same = let is : name ≡ first = eqb-true name first same in
        absurd (outside (omega (arith, is)) (omega (arith, is)))
    apart false other = refl

pub spots_all : (layers : Layers) (old new : AtHand) (first : ℕ) (objects : List Object) → AreSpots old layers
    → ((other : ℕ) (kept : Spot) → spot_at new other ≡ Some kept
    → IsLeft first (first + length objects) other kept (spot_at old other))
    → AreSpots new (with_changes layers (with_all first objects layers.changes))
spots_all layers old new first objects all so name kept is = by kept (so name kept is)
  where
    by : (kept : Spot) → IsLeft first (first + length objects) name kept (spot_at old name)
        → IsSpot (with_changes layers (with_all first objects layers.changes)) name kept
    by (Changed at) left = tt
    by (Before object shared) left =
        spot_apart layers (with_all first objects layers.changes) name (Before object shared)
        (λ absent. get_past objects first name layers.changes left.1 ∙ absent)
        (all name (Before object shared) left.0)

-- whichever way a change ended
pub spots_either : {A E : Type 0} (result : Result A E) (layers : Layers) (hand : AtHand)
    (changes edited : FinMap nat_cmp Contents) → OnOk result (changes ≡ edited)
    → OnErr result (changes ≡ layers.changes) → AreSpots hand (with_changes layers edited) → AreSpots hand layers
    → AreSpots hand (with_changes layers changes)
spots_either (Ok answer) layers hand changes edited ok err done before = rw ok done
spots_either (Err fault) layers hand changes edited ok err done before = rw err before

pub some_mapped : (found : Option Object) → is_some (option_map contents_of found) ≡ is_some found
some_mapped None = refl
some_mapped (Some object) = refl
