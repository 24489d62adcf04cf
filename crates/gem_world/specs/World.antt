-- The objects of a running transaction: what it begins with, what it has changed, and what it sees.
-- Objects stand here without the number of the commit that changed them last: no transaction sees
-- it.
use Rattle.std.specs.Prelude.{ℕ, Bool, true, false, ◌&&◌, cond, nat_le, nat_lt, nat_eq, List, [], ◌∷◌, ◌++◌, Option, None, Some, is_some}
use Rattle.std.specs.List.{list_any}
use Rattle.std.specs.Option.{option_or}
use Rattle.std.specs.Ordering.{nat_cmp}
use Rattle.std.specs.FinMap.{FinMap, get, empty}
use Rattle.gem_image.specs.gem_value.Oid.{oid_number}
use Rattle.gem_image.specs.gem_object.Kinds.{is_shared}
use Rattle.gem_image.specs.Image.{Image, Contents, Objects, objects_in}
use Rattle.gem_update.specs.declared.update.Update.{Update}

-- What doesn't change while a transaction runs.
pub record Setting : Type 0 where
  -- the image at its place: ordinary objects are read as of it
  pub place : Image
  -- the image of its view: reduced-conflict objects are read as of it
  pub view : Image
  -- the name of its user, the serial in the names that it draws, and the counter of the first
  pub user : ℕ
  pub serial : ℕ
  pub first : ℕ

-- What has become of the objects.
pub record World : Type 0 where
  -- the counter of the name that is drawn next
  pub next : ℕ
  -- the objects that were written, made or updated, each as it now is
  pub changes : FinMap nat_cmp Contents
  -- the updates of reduced-conflict objects that weren't made here, the first one first
  pub updates : List (ℕ × Update)
  -- the names that were touched, each once, in the order of their first touch
  pub touched : List ℕ

-- before anything is done, where this counter comes next
abbrev pub untouched : ℕ → World
untouched next = record { next = next; changes = empty; updates = []; touched = [] }

-- the name of this transaction's serial with this counter
abbrev pub name_of : Setting → ℕ → ℕ
name_of setting counter = oid_number setting.serial counter

-- the name that is drawn next
abbrev pub next_name : Setting → World → ℕ
next_name setting world = name_of setting world.next

-- An object before the transaction changes it, from what place and view have at its name: a
-- reduced-conflict object as of the view, and where the view lacks it as of the place; any other as
-- of the place.
abbrev pub as_of : (at_place at_view : Option Contents) → Option Contents
as_of None at_view = None
as_of (Some object) None = Some object
as_of (Some object) (Some viewed) = Some (cond (is_shared object.body) viewed object)

abbrev pub before_changes : ℕ → Setting → Option Contents
before_changes name setting =
    as_of (objects_in setting.place name) (objects_in setting.view name)

-- the object of this name as the transaction sees it now
abbrev pub shown : ℕ → Setting → World → Option Contents
shown name setting world = option_or (get world.changes name) (before_changes name setting)

-- all that it sees now
abbrev pub shown_objects : Setting → World → Objects
shown_objects setting world name = shown name setting world

-- whether the transaction has drawn the name
abbrev pub is_drawn : ℕ → Setting → World → Bool
is_drawn name setting world =
    nat_le (name_of setting setting.first) name && nat_lt name (next_name setting world)

-- whether the object of this name was made in the transaction
unfoldable pub is_made : ℕ → Setting → World → Bool
is_made name setting world = is_drawn name setting world && is_some (get world.changes name)

-- whether place and view both have an object there, a reduced-conflict one
abbrev pub are_shared : (at_place at_view : Option Contents) → Bool
are_shared (Some object) (Some viewed) = is_shared object.body
are_shared _ _ = false

-- Whether no touch of the name is recorded: the object was made here, or it is a reduced-conflict
-- one that place and view both have, which commits judge by its updates.
unfoldable pub is_private : ℕ → Setting → World → Bool
is_private name setting world =
    cond (is_made name setting world) true
    (are_shared (objects_in setting.place name) (objects_in setting.view name))

abbrev pub is_among : ℕ → List ℕ → Bool
is_among name names = list_any (nat_eq name) names

-- with the name at the end, where it isn't there yet
abbrev pub with_name : List ℕ → ℕ → List ℕ
with_name names name = cond (is_among name names) names (names ++ name ∷ [])

-- after a touch of the name
unfoldable pub touch : ℕ → Setting → World → World
touch name setting world = record world {
  touched = cond (is_private name setting world) world.touched (with_name world.touched name);
}
