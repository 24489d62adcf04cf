-- What is gathered of a leaf, name by name.
use Rattle.std.proofs.Common.{◌≡◌, ℕ, zero, suc, ◌≤◌, max, List, [], ◌∷◌, ◌++◌, length, Option, None, Some, refl, sym, ap, subst, ◌∙◌, append_assoc, append-nil, length-append, arith}
use Rattle.std.specs.List.{flat_map, fold}
use Rattle.std.specs.FinMap.{get}
use Rattle.gem_object.specs.declared.object.Object.{Object}
use Rattle.gem_object.specs.gem_value.Oid.{serial_of}
use Rattle.gem_image.specs.Image.{Image}
use Rattle.body_codec.specs.Spelled.{spelled_changed}
use Rattle.extent_pages.specs.Extent.{larger_serial, largest_serial}
use Rattle.extent_plan.specs.declared.gather.Gathered.{Gathered}
use Rattle.extent_plan.specs.Leaves.{plain, stored_at, name_in, objects_before}
use Rattle.extent_plan.specs.Gathered.{Adds, AreGathered}

-- ---- lists with one item more

largest_from : (start : ℕ) (objects : List (ℕ × Object)) (entry : ℕ × Object)
    → fold larger_serial start (objects ++ entry ∷ []) ≡ larger_serial (fold larger_serial start objects) entry
largest_from start [] entry = refl
largest_from start (first ∷ objects) entry = largest_from (larger_serial start first) objects entry

items_more : (objects : List (ℕ × Object)) (entry : ℕ × Object)
    → flat_map spelled_changed (objects ++ entry ∷ []) ≡ flat_map spelled_changed objects ++ spelled_changed entry
items_more [] entry = append-nil (spelled_changed entry)
items_more (first ∷ objects) entry =
    ap (λ l. spelled_changed first ++ l) (items_more objects entry)
    ∙ sym (append_assoc (spelled_changed first) (flat_map spelled_changed objects) (spelled_changed entry))

-- ---- how many there are

at_most_one : (name : ℕ) (o : Option Object) → length (stored_at name o) ≤ 1
at_most_one name None = omega arith
at_most_one name (Some object) = omega arith

pub few_before : (image : Image) (leaf place : ℕ) → length (objects_before image leaf place) ≤ place
unfolding objects_before
few_before image leaf zero = omega arith
few_before image leaf (suc place) =
    let name = name_in leaf place in
    omega (
      arith,
      few_before image leaf place,
      at_most_one name (get image name),
      length-append (objects_before image leaf place) (stored_at name (get image name)),
    )

-- ---- the next name

pub gather_more : (name : ℕ) (objects : List (ℕ × Object)) (o : Option Object) (old new : Gathered)
    → AreGathered objects old → Adds name o old new → AreGathered (objects ++ stored_at name o) new
gather_more name objects None old new is same =
    let as_before : AreGathered objects new = subst (AreGathered objects) (sym same) is in
    record {
      count = as_before.count ∙ ap length (sym (append-nil objects));
      serial = as_before.serial ∙ ap largest_serial (sym (append-nil objects));
      items = as_before.items ∙ ap (flat_map spelled_changed) (sym (append-nil objects));
    }
gather_more name objects (Some object) old new is one =
    let entry : ℕ × Object = (name, plain object) in
    record {
      count = omega (arith, one.count, is.count, length-append objects (entry ∷ []));
      serial = one.serial ∙ ap (λ (n : ℕ). max n (serial_of name)) is.serial ∙ sym (largest_from 0 objects entry);
      items = one.items ∙ ap (λ (l : List ℕ). l ++ spelled_changed entry) is.items ∙ sym (items_more objects entry);
    }

pub gather_next : (image : Image) (leaf place : ℕ) (old new : Gathered)
    → AreGathered (objects_before image leaf place) old
    → Adds (name_in leaf place) (get image (name_in leaf place)) old new
    → AreGathered (objects_before image leaf (suc place)) new
unfolding objects_before
gather_next image leaf place old new is adds = gather_more (name_in leaf place)
    (objects_before image leaf place) (get image (name_in leaf place)) old new is adds

pub gather_none : (image : Image) (leaf : ℕ) (gathered : Gathered) → AreGathered [] gathered
    → AreGathered (objects_before image leaf 0) gathered
unfolding objects_before
gather_none image leaf gathered is = is
