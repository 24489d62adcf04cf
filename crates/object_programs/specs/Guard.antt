-- Which object may stand at a name: the rules of a sound image that a change of one object can
-- break, as tests. They see the other objects by their fixed parts alone.
use Rattle.std.specs.Prelude.{ℕ, zero, suc, ◌+◌, ◌^◌, Bool, true, false, ◌&&◌, ◌||◌, not, cond, nat_eq, nat_lt, nat_le, length, List, [], ◌∷◌, ◌++◌, Option, None, Some, option_map}
use Rattle.std.specs.List.{list_all}
use Rattle.gem_object.specs.texts.Bytes.{Bytes as Text}
use Rattle.gem_object.specs.Edits.{plain_slots}
use Rattle.gem_object.specs.Kinds as kinds
use Rattle.gem_object.specs.Kinds.{is_shared}
use Rattle.gem_sound.specs.Sound.{names_in}
use Rattle.gem_object.specs.declared.kind.Kind.{Kind}
use Rattle.gem_object.specs.declared.body.Body.{Body}
use Rattle.gem_object.specs.declared.body.Body.TheVariants.{Plain, Class, Segment, User}
use Rattle.gem_world.specs.gem_image.Image.{Contents}
use Rattle.gem_world.specs.World.{Setting, World, name_of, is_made}
use Rattle.gem_sound.specs.Kernel.{KernelClass, kernel_class, KernelBody, kernel_body, has_kind}
use Rattle.gem_sound.specs.Sound.{has_named_slots}
use Rattle.object_programs.specs.Fixed.{BodyKind, DictKind, SegmentKind, UserKind, ClassPart, class_part, Fixed, fixed_of, fixed_by, same_fixed, same_kind, same_number}
use Rattle.object_programs.specs.Spelled.{is_spelled}
use Rattle.object_programs.specs.Methods.{methods_fit}
use Rattle.gem_sound.specs.declared.limits.TheConstants.{NAMES_LIMIT}

-- The fixed part of the object of each name, where there is one.
abbrev pub Parts : Type 0
Parts = ℕ → Option Fixed

-- the same, but for this name
abbrev pub with_part : ℕ → Fixed → Parts → Parts
with_part name fixed parts other = cond (nat_eq other name) (Some fixed) (parts other)

-- the test holds of what is there
abbrev pub holds_of : {X : Type 0} → (X → Bool) → Option X → Bool
holds_of test None = false
holds_of test (Some x) = test x

abbrev pub is_there : Fixed → Bool
is_there fixed = true

abbrev pub is_segment : BodyKind → Bool
is_segment SegmentKind = true
is_segment _ = false

abbrev pub is_user : BodyKind → Bool
is_user UserKind = true
is_user _ = false

abbrev pub is_dictionary : BodyKind → Bool
is_dictionary DictKind = true
is_dictionary _ = false

-- whether there is an object of this name, and whether it is a segment, a user or a dictionary
abbrev pub is_known : Parts → ℕ → Bool
is_known parts name = holds_of is_there (parts name)

abbrev pub is_segment_at : Parts → ℕ → Bool
is_segment_at parts name = holds_of (λ fixed. is_segment fixed.kind) (parts name)

abbrev pub is_user_at : Parts → ℕ → Bool
is_user_at parts name = holds_of (λ fixed. is_user fixed.kind) (parts name)

abbrev pub is_dictionary_at : Parts → ℕ → Bool
is_dictionary_at parts name = holds_of (λ fixed. is_dictionary fixed.kind) (parts name)

-- The names of the instance variables of a class, the inherited ones first; None where its
-- superclasses don't end at Object, the class with the number 1. The names above are given by a
-- function, which is asked for those of the superclass.
abbrev pub names_above : ℕ → Option ℕ → (ℕ → Option (List Text)) → Option (List Text)
names_above name None above = cond (nat_eq name 1) (Some []) None
names_above name (Some superclass) above = above superclass

abbrev pub names_of_class : ℕ → Option ClassPart → (ℕ → Option (List Text)) → Option (List Text)
names_of_class name None above = None
names_of_class name (Some part) above =
    option_map (λ inherited. inherited ++ part.names) (names_above name part.superclass above)

abbrev pub names_of_part : ℕ → Option Fixed → (ℕ → Option (List Text)) → Option (List Text)
names_of_part name None above = None
names_of_part name (Some fixed) above = names_of_class name fixed.as_class above

-- the same, where at most so many classes are gone through
abbrev pub names_within : Parts → ℕ → ℕ → Option (List Text)
names_within parts zero name = None
names_within parts (suc more) name =
    names_of_part name (parts name) (names_within parts more)

-- More classes than there are names are never gone through.
abbrev pub chain_limit : ℕ
chain_limit = 2 ^ 48

unfoldable pub names_at : Parts → ℕ → Option (List Text)
names_at parts name = names_within parts chain_limit name

-- whether there are enough slots for these names
abbrev pub has_slots : Body → List Text → Bool
has_slots body names = nat_le (length names) (plain_slots body)

-- a class object fits the class Class, which has the number 2; a body without slots fits
-- TranscriptStream, which has the number 26
abbrev pub is_class_object : ℕ → Body → Bool
is_class_object class (Class _) = nat_eq class 2
is_class_object class _ = false

abbrev pub is_transcript : ℕ → Body → Bool
is_transcript class (Plain []) = nat_eq class 26
is_transcript class _ = false

abbrev pub accepts_by : Parts → ℕ → Body → Option ClassPart → Bool
accepts_by parts class body None = false
accepts_by parts class body (Some part) =
    (kinds.fits part.kind body && holds_of (has_slots body) (names_at parts class))
    || (is_class_object class body || is_transcript class body)

-- I5: whether the class of this name may have an object of this body
abbrev pub accepts : Parts → ℕ → Body → Bool
accepts parts class body =
    holds_of (λ fixed. accepts_by parts class body fixed.as_class) (parts class)

-- I5: a segment's owner is a user; a user's default segment is a segment, and the user's globals
-- are a dictionary
abbrev pub named_fit : Parts → Body → Bool
named_fit parts (Segment rights) = is_user_at parts rights.owner
named_fit parts (User user) =
    is_segment_at parts user.default_segment && is_dictionary_at parts user.globals
named_fit parts _ = true

-- I4: an object of the kernel has its kind of body
abbrev pub kernel_fits_by : Option KernelBody → Body → Bool
kernel_fits_by None body = true
kernel_fits_by (Some kind) body = has_kind kind body

abbrev pub kernel_fits : ℕ → Body → Bool
kernel_fits name body = kernel_fits_by (kernel_body name) body

-- whether there are no names
abbrev pub has_none : List Text → Bool
has_none [] = true
has_none (name ∷ names) = false

-- I3: a class of the kernel has the superclass and the kind of its row, and no names; any other has
-- the kind of its superclass
abbrev pub kind_is_inherited : Parts → Option ℕ → Kind → Bool
kind_is_inherited parts None kind = false
kind_is_inherited parts (Some superclass) kind = holds_of
    (λ fixed. holds_of (λ above. same_kind above.kind kind) fixed.as_class) (parts superclass)

abbrev pub row_fits : Parts → Option KernelClass → ClassPart → Bool
row_fits parts (Some row) part = same_number part.superclass row.superclass
    && (same_kind part.kind row.kind && has_none part.names)
row_fits parts None part = kind_is_inherited parts part.superclass part.kind

abbrev pub are_few : List Text → Bool
are_few names = nat_le (length names) NAMES_LIMIT

-- I3: the superclasses of a class end at Object, with the inherited names it has at most 200, its
-- place among the classes is as it may be, and only instances with named slots have names
abbrev pub place_fits : Parts → ℕ → Option ClassPart → Bool
place_fits parts name None = true
place_fits parts name (Some part) =
    holds_of are_few (names_of_class name (Some part) (names_at parts))
    && (row_fits parts (kernel_class name) part
    && (has_none part.names || has_named_slots part.kind))

-- Whether this object may stand at the name, where these are the fixed parts with its own. I1: the
-- name isn't 0, and every object is there to which it refers. I5: its segment is a segment, its
-- class accepts it, and what a segment or a user names is of its kind. I4, I3 and I2 as above. And
-- it can be stored.
unfoldable pub fits : Parts → ℕ → Contents → Bool
fits parts name object = nat_lt 0 name
    && (list_all (is_known parts) (names_in object)
    && (is_segment_at parts object.segment
    && (accepts parts object.class object.body
    && (named_fit parts object.body
    && (kernel_fits name object.body
    && (place_fits parts name (class_part object.body)
    && (methods_fit name object.body && is_spelled object.body)))))))

-- the names that are asked for on the way up from a class: its own, and those above it
abbrev pub line_above : Option ℕ → (ℕ → List ℕ) → List ℕ
line_above None above = []
line_above (Some superclass) above = above superclass

abbrev pub line_of_class : Option ClassPart → (ℕ → List ℕ) → List ℕ
line_of_class None above = []
line_of_class (Some part) above = line_above part.superclass above

abbrev pub line_of_part : Option Fixed → (ℕ → List ℕ) → List ℕ
line_of_part None above = []
line_of_part (Some fixed) above = line_of_class fixed.as_class above

abbrev pub line_within : Parts → ℕ → ℕ → List ℕ
line_within parts zero name = []
line_within parts (suc more) name =
    name ∷ line_of_part (parts name) (line_within parts more)

unfoldable pub line_at : Parts → ℕ → List ℕ
line_at parts name = line_within parts chain_limit name

-- the names that the test asks for
abbrev pub asked_names : Parts → Contents → List ℕ
asked_names parts object = names_in object
    ++ (line_at parts object.class ++ line_of_class (class_part object.body) (line_at parts))

-- the fixed parts as they would be with this object at the name
abbrev pub parts_with : ℕ → Contents → Setting → World → Parts
parts_with name object setting world = with_part name (fixed_of object) (fixed_by setting world)

-- Whether a body or a segment may be put: the object was made in the transaction, or it is an
-- ordinary one. Of reduced-conflict objects that were there before only updates are noted.
unfoldable pub may_change : ℕ → (old : Contents) → Setting → World → Bool
may_change name old setting world = is_made name setting world || not (is_shared old.body)

-- whether an object may be replaced by another: that has the same fixed part, and fits
unfoldable pub may_replace : ℕ → (old new : Contents) → Setting → World → Bool
may_replace name old new setting world = same_fixed (fixed_of old) (fixed_of new)
    && fits (parts_with name new setting world) name new

-- the fixed parts with those of new objects, the first of which has this name and the next ones the
-- names after it
abbrev pub with_parts : ℕ → List Contents → Parts → Parts
with_parts name [] parts = parts
with_parts name (object ∷ rest) parts =
    with_part name (fixed_of object) (with_parts (name + 1) rest parts)

-- whether each of the objects may stand at its name
abbrev pub all_fit : Parts → ℕ → List Contents → Bool
all_fit parts name [] = true
all_fit parts name (object ∷ rest) = fits parts name object && all_fit parts (name + 1) rest

-- the fixed parts as they would be with these objects at the names that are drawn next
abbrev pub parts_with_new : List Contents → Setting → World → Parts
parts_with_new objects setting world =
    with_parts (name_of setting world.next) objects (fixed_by setting world)

-- Whether objects may be made together: each fits at its name, where all of them are there. So they
-- may refer to one another and to themselves.
unfoldable pub may_make : List Contents → Setting → World → Bool
may_make objects setting world = all_fit (parts_with_new objects setting world)
    (name_of setting world.next) objects
