-- What a view shows after its calls.
use Rattle.std.proofs.Common.{◌≡◌, ◌∙◌, ◌≢◌, refl, ap, ℕ, Bool, true, false, cond, Option, Some, None}
use Rattle.std.specs.Option.{option_or}
use Rattle.std.specs.Ordering.{nat_cmp}
use Rattle.std.specs.FinMap.{get, get-empty}
use Rattle.gem_object.specs.Kinds.{is_shared}
use Rattle.gem_object.specs.declared.body.Body.{Body}
use Rattle.gem_image.specs.Image.{Image, Contents, objects_in}
use Rattle.gem_record.specs.gem_world.World.{Setting, World, as_of, before_changes, are_shared, touch, is_made, is_private, with_name, next_name}
use Rattle.gem_update.specs.declared.update.Update.{Update}
use Rattle.gem_record.specs.gem_world.Changes.{with_body, in_segment, note, make}
use Rattle.gem_image.proofs.radix_pages_lemmas.Tables.{get-insert_same, get-insert_other}
use Rattle.object_programs.proofs.Worlds.{shown_asked, put_here, put_elsewhere}
use Rattle.running_objects.specs.Seen.{Seen, object_at}
use Rattle.plain_state.specs.Parts.{in_world, asked}
use Rattle.plain_state.specs.State.{begun}
use Rattle.plain_state.specs.Writes.{replaced_by, changed_to, moved_to, updated_to, added}

same_image : (found : Option Contents) → as_of found found ≡ found
same_image None = refl
same_image (Some object) = by (is_shared object.body)
  where
    by : (b : Bool) → Some (cond b object object) ≡ Some object
    by true = refl
    by false = refl

-- nothing was changed yet
pub begun_shows : (image : Image) (user serial first name : ℕ)
    → object_at name (begun image image user serial first) ≡ objects_in image name
begun_shows image user serial first name =
    ap (λ (found : Option Contents). option_or found (as_of (objects_in image name) (objects_in image name))) (get-empty nat_cmp name)
    ∙ same_image (objects_in image name)

-- what isn't among the changes is shown as the image has it
pub unchanged_shows : (x : Seen) (name : ℕ) → x.setting.view ≡ x.setting.place → get x.world.changes name ≡ None
    → object_at name x ≡ objects_in x.setting.place name
unchanged_shows x name same none =
    ap (λ (found : Option Contents). option_or found (before_changes name x.setting)) none
    ∙ ap (λ (image : Image). as_of (objects_in x.setting.place name) (objects_in image name)) same
    ∙ same_image (objects_in x.setting.place name)

pub look_shows : (x : Seen) (name other : ℕ) → object_at other (asked name x) ≡ object_at other x
look_shows x name other = shown_asked x.setting x.setting name other x.world

-- an object that is edited, by what is seen when it is
edited_here : (x : Seen) (name : ℕ) (edit : Contents → Contents) (found : Option Contents) (old : Contents) → found ≡ Some old
    → object_at name (replaced_by name edit found x) ≡ Some (edit old)
edited_here x name edit found old is =
    ap (λ (there : Option Contents). object_at name (replaced_by name edit there x)) is
    ∙ put_here x.setting name (edit old) x.world

edited_elsewhere : (x : Seen) (name other : ℕ) (edit : Contents → Contents) (found : Option Contents) → other ≢ name
    → object_at other (replaced_by name edit found x) ≡ object_at other x
edited_elsewhere x name other edit None apart = refl
edited_elsewhere x name other edit (Some old) apart = put_elsewhere x.setting other name (edit old) x.world apart

pub changed_shows : (x : Seen) (name : ℕ) (body : Body) (old : Contents) → object_at name x ≡ Some old
    → object_at name (changed_to name body x) ≡ Some (with_body body old)
changed_shows x name body old there = edited_here (asked name x) name (with_body body) (object_at name (asked name x)) old
    (look_shows x name name ∙ there)

pub others_show : (x : Seen) (name other : ℕ) (body : Body) → other ≢ name
    → object_at other (changed_to name body x) ≡ object_at other x
others_show x name other body apart =
    edited_elsewhere (asked name x) name other (with_body body) (object_at name (asked name x)) apart ∙ look_shows x name other

pub moved_shows : (x : Seen) (name segment : ℕ) (old : Contents) → object_at name x ≡ Some old
    → object_at name (moved_to name segment x) ≡ Some (in_segment segment old)
moved_shows x name segment old there =
    let once : Seen = asked name x in
    edited_here (asked segment once) name (in_segment segment) (object_at name (asked segment once)) old
    (look_shows once segment name ∙ look_shows x name name ∙ there)

pub moves_elsewhere : (x : Seen) (name other segment : ℕ) → other ≢ name
    → object_at other (moved_to name segment x) ≡ object_at other x
moves_elsewhere x name other segment apart =
    let once : Seen = asked name x in
    edited_elsewhere (asked segment once) name other (in_segment segment) (object_at name (asked segment once)) apart
    ∙ look_shows once segment other ∙ look_shows x name other

-- a note of an update leaves what is shown
noted_shows : (x : Seen) (name other : ℕ) (update : Update)
    → object_at other (in_world (note name update x.setting) x) ≡ object_at other x
unfolding note
noted_shows x name other update = refl

pub updated_shows : (x : Seen) (name : ℕ) (update : Update) (body : Body) (old : Contents) → object_at name x ≡ Some old
    → object_at name (updated_to name update body x) ≡ Some (with_body body old)
updated_shows x name update body old there =
    let noted : Seen = in_world (note name update x.setting) (asked name x) in
    edited_here noted name (with_body body) (object_at name noted) old
    (noted_shows (asked name x) name name update ∙ look_shows x name name ∙ there)

pub updates_elsewhere : (x : Seen) (name other : ℕ) (update : Update) (body : Body) → other ≢ name
    → object_at other (updated_to name update body x) ≡ object_at other x
updates_elsewhere x name other update body apart =
    let noted : Seen = in_world (note name update x.setting) (asked name x) in
    edited_elsewhere noted name other (with_body body) (object_at name noted) apart
    ∙ noted_shows (asked name x) name other update ∙ look_shows x name other

-- an object that is made stands under the next name
pub made_shows : (x : Seen) (object : Contents) → object_at (next_name x.setting x.world) (added object x) ≡ Some object
unfolding make
made_shows x object =
    let name = next_name x.setting x.world in
    ap (λ (found : Option Contents). option_or found (before_changes name x.setting))
    (get-insert_same x.world.changes name object name refl)

pub made_beside : (x : Seen) (object : Contents) (other : ℕ) → other ≢ next_name x.setting x.world
    → object_at other (added object x) ≡ object_at other x
unfolding make
made_beside x object other apart = ap (λ (found : Option Contents). option_or found (before_changes other x.setting))
    (get-insert_other x.world.changes (next_name x.setting x.world) object other apart)

-- ---- reduced-conflict objects of the image

both_shared : (at_place at_view : Option Contents) (old : Contents) → at_place ≡ Some old → at_view ≡ Some old
    → is_shared old.body ≡ true → are_shared at_place at_view ≡ true
both_shared at_place at_view old place view shared =
    ap (λ (found : Option Contents). are_shared found at_view) place
    ∙ ap (are_shared (Some old)) view ∙ shared

private_by : (made shared : Bool) → shared ≡ true → cond made true shared ≡ true
private_by true shared is = refl
private_by false shared is = is

pub untouched : (setting : Setting) (world : World) (name : ℕ) (old : Contents) → setting.view ≡ setting.place
    → objects_in setting.place name ≡ Some old → is_shared old.body ≡ true → touch name setting world ≡ world
unfolding touch is_private
untouched setting world name old same there shared =
    ap (λ b. record world { touched = cond b world.touched (with_name world.touched name) })
    (private_by (is_made name setting world) (are_shared (objects_in setting.place name) (objects_in setting.view name))
    (both_shared (objects_in setting.place name) (objects_in setting.view name) old there
    (ap (λ (image : Image). objects_in image name) same ∙ there) shared))
