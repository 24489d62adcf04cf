-- Where the objects stand that were asked for lately, and what a transaction sees of its objects.
use Rattle.std.specs.Prelude.{◌≡◌, ℕ, ◌%◌, ◌<◌, ◌≤◌, Bool, true, false, cond, nat_eq, slice_get, slice_index, Option, Some, None, refl}
use Rattle.std.specs.Arc.{arc_value}
use Rattle.std.specs.Option.{option_or}
use Rattle.std.specs.Coded.{Coded, code_by, coded×, coded_ℕ}
use Rattle.std.specs.Ordering.{nat_cmp}
use Rattle.std.specs.FinMap.{FinMap, get, code}
use Rattle.gem_object.specs.declared.body.Body.{Body}
use Rattle.gem_object.specs.declared.object.Object.{Object}
use Rattle.gem_image.specs.Image.{Image, Contents, contents_of, objects_in}
use Rattle.gem_world.specs.World.{as_of, are_shared}
use Rattle.running_objects.specs.Codes.{contents_code}
use Rattle.plain_state.specs.declared.at_hand.Spot.{Spot}
use Rattle.plain_state.specs.declared.at_hand.Spot.TheVariants.{Changed, Before}
use Rattle.plain_state.specs.declared.at_hand.Near.{Near}
use Rattle.plain_state.specs.declared.at_hand.AtHand.{AtHand}

-- two images, and what was changed over them
pub record Layers : Type 0 where
  pub place : Image
  pub view : Image
  pub changes : FinMap nat_cmp Contents

abbrev pub layers_code : Coded Object → Coded Body → Coded Layers
layers_code object body = code_by (Image × (Image × FinMap nat_cmp Contents))
    (coded× (code coded_ℕ object) (coded× (code coded_ℕ object)
    (code coded_ℕ (contents_code body))))
    (λ layers. (layers.place, (layers.view, layers.changes)))
    (λ parts. record { place = parts.0; view = parts.1.0; changes = parts.1.1 })
    (λ _. refl)

abbrev pub over : (place view : Image) → FinMap nat_cmp Contents → Layers
over place view changes = record { place = place; view = view; changes = changes }

abbrev pub with_changes : Layers → FinMap nat_cmp Contents → Layers
with_changes layers changes = record layers { changes = changes }

-- the object of a name before anything was changed, and as it is now
abbrev pub before_in : Layers → ℕ → Option Contents
before_in layers name = as_of (objects_in layers.place name) (objects_in layers.view name)

abbrev pub shown_in : Layers → ℕ → Option Contents
shown_in layers name = option_or (get layers.changes name) (before_in layers name)

-- what is at hand for a name: the name's lowest bits tell where it is kept, if it is
abbrev pub spot_for : ℕ → Option Near → Option Spot
spot_for number None = None
spot_for number (Some near) = cond (nat_eq near.number number) (Some near.spot) None

abbrev pub spot_at : AtHand → ℕ → Option Spot
spot_at hand number =
    spot_for number (slice_get hand.spots.items (slice_index hand.places (number % 1024)))

-- What stands at a name after a spot was kept there: at that name this spot, at any other what stood
-- there before.
abbrev pub IsKept : (same : Bool) → (spot kept : Spot) → (before : Option Spot) → Type 0
IsKept true spot kept before = kept ≡ spot
IsKept false spot kept before = before ≡ Some kept

-- what stands at a name after names from the first to below the last were kept as changed
abbrev pub IsLeft : (first last other : ℕ) → (kept : Spot) → (before : Option Spot) → Type 0
IsLeft first last other (Changed at) before = Unit {0}
IsLeft first last other (Before object shared) before =
    (before ≡ Some (Before object shared)) × (first ≤ other → other < last → ⊥)

-- An object that stands before the changes is what the images have, from what each has at its name.
abbrev pub IsUnchanged : (at_place at_view : Option Contents) → Spot → Type 0
IsUnchanged at_place at_view (Changed at) = ⊥
IsUnchanged at_place at_view (Before object shared) =
    (as_of at_place at_view ≡ Some (contents_of (arc_value object)))
    × (are_shared at_place at_view ≡ shared)

-- It isn't among the changes.
pub record IsBefore (layers : Layers) (name : ℕ) (object : Object) (shared : Bool) : Type 0 where
  pub absent : get layers.changes name ≡ None
  pub there : before_in layers name ≡ Some (contents_of object)
  pub shared_in_both :
      are_shared (objects_in layers.place name) (objects_in layers.view name) ≡ shared

-- what holds of a spot; where a changed object stands is looked for
abbrev pub IsSpot : Layers → ℕ → Spot → Type 0
IsSpot layers name (Changed at) = Unit {0}
IsSpot layers name (Before object shared) = IsBefore layers name (arc_value object) shared

-- what holds of all that is at hand
abbrev pub AreSpots : AtHand → Layers → Type 0
AreSpots hand layers = (name : ℕ) (spot : Spot) → spot_at hand name ≡ Some spot
    → IsSpot layers name spot
