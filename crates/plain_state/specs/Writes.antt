-- What becomes of a state by writes of whoever knows that they are allowed and fit.
use Rattle.std.specs.Prelude.{◌≡◌, ℕ, Bool, true, [], ◌∷◌, Option, None, Some, option_and_then}
use Rattle.gem_object.specs.declared.body.Body.{Body}
use Rattle.gem_update.specs.Update.{updated}
use Rattle.gem_update.specs.declared.update.Update.{Update}
use Rattle.gem_image.specs.Image.{Contents}
use Rattle.gem_world.specs.Access.{a_write, is_allowed}
use Rattle.gem_world.specs.Changes.{with_body, in_segment, put, note, make}
use Rattle.object_programs.specs.Guard.{holds_of, may_change, may_replace, may_make}
use Rattle.running_objects.specs.Seen.{Seen, object_at}
use Rattle.plain_state.specs.Parts.{in_world, asked}

-- the object of this name, if there is one, is this one from then on
abbrev pub replaced_by : ℕ → (Contents → Contents) → Option Contents → Seen → Seen
replaced_by name edit None seen = seen
replaced_by name edit (Some old) seen = in_world (put name (edit old)) seen

abbrev pub replaced : ℕ → (Contents → Contents) → Seen → Seen
replaced name edit seen = replaced_by name edit (object_at name seen) seen

-- after a write that puts a body in place of another: its touches, and the object with that body
abbrev pub changed_to : ℕ → Body → Seen → Seen
changed_to name body seen = replaced name (with_body body) (asked name seen)

-- after a write that puts an object into a segment, which is read
abbrev pub moved_to : (name segment : ℕ) → Seen → Seen
moved_to name segment seen = replaced name (in_segment segment) (asked segment (asked name seen))

-- after a write by which an object has an update, with this body
abbrev pub updated_to : ℕ → Update → Body → Seen → Seen
updated_to name update body seen = replaced name (with_body body)
    (in_world (note name update seen.setting) (asked name seen))

-- after one object was made
abbrev pub added : Contents → Seen → Seen
added object seen = in_world (make object seen.setting) seen

-- the user may write the object of this name
abbrev pub IsWritable : ℕ → Seen → Type 0
IsWritable name seen = is_allowed a_write name seen.setting seen.world ≡ true

-- whether the object of this name is an ordinary one, or was made here
abbrev pub is_changeable : ℕ → Seen → Bool
is_changeable name seen =
    holds_of (λ old. may_change name old seen.setting seen.world) (object_at name seen)

-- whether it may stand there with this body
abbrev pub accepts_body : ℕ → Body → Seen → Bool
accepts_body name body seen = holds_of
    (λ old. may_replace name old (with_body body old) seen.setting seen.world)
    (object_at name seen)

-- the body that it has after an update, if it takes it
abbrev pub body_after : ℕ → Update → Seen → Option Body
body_after name update seen =
    option_and_then (λ old. updated update old.body) (object_at name seen)

-- whether the object may be made
abbrev pub may_add : Contents → Seen → Bool
may_add object seen = may_make (object ∷ []) seen.setting seen.world
