-- The rights that a user has in an image.
use Rattle.std.specs.Prelude.{◌==◌, ℕ, Bool, List, Option, None, Some, if◌then◌else◌, nat_eq, option_and_then}
use Rattle.std.specs.Cmp.Lexicographic.{pointwise}
use Rattle.gem_object.specs.texts.Bytes.{Bytes as Text}
use Rattle.gem_object.specs.seg_rights.Rights.{greatest_right}
use Rattle.gem_object.specs.seg_rights.declared.right.Right.{Right}
use Rattle.gem_object.specs.seg_rights.declared.right.Right.TheVariants as right
use Rattle.gem_object.specs.seg_rights.declared.rights.Rights.{Rights}
use Rattle.gem_object.specs.declared.body.Body.{Body}
use Rattle.gem_object.specs.declared.body.Body.TheVariants.{Segment, User}
use Rattle.gem_image.specs.Image.{Contents, Objects}

-- whether two names of groups are the same
abbrev pub same_group : Text → Text → Bool
same_group = pointwise nat_eq

-- the rights that a body gives: a segment gives some
abbrev pub rights_of : Body → Option (Rights Text)
rights_of (Segment rights) = Some rights
rights_of _ = None

-- the groups in which a body is: a user is in some
abbrev pub groups_of : Body → Option (List Text)
groups_of (User user) = Some user.groups
groups_of _ = None

-- the rights that the segment of this name gives
abbrev pub rights_at : Objects → ℕ → Option (Rights Text)
rights_at objects segment = option_and_then (λ object. rights_of object.body) (objects segment)

-- the groups in which the user of this name is
abbrev pub groups_at : Objects → ℕ → Option (List Text)
groups_at objects user = option_and_then (λ object. groups_of object.body) (objects user)

-- the right that a user has of those that are given; none where no rights are given or where there
-- is no such user
abbrev pub right_by : Option (Rights Text) → ℕ → Option (List Text) → Right
right_by None user groups = right.None
right_by (Some rights) user None = right.None
right_by (Some rights) user (Some groups) = greatest_right same_group rights user groups

-- the right that the segment of this name gives the user on the objects that lie in it
abbrev pub right_in : Objects → ℕ → ℕ → Right
right_in objects user segment = right_by (rights_at objects segment) user (groups_at objects user)

-- a segment itself may be changed by its owner, and read by all others
abbrev pub right_on_segment : Rights Text → ℕ → Right
right_on_segment rights user = if user == rights.owner then right.Write else right.Read

-- the right on an object with this body, which lies in this segment
abbrev pub right_on_body : Objects → ℕ → ℕ → Body → Right
right_on_body objects user segment (Segment rights) = right_on_segment rights user
right_on_body objects user segment _ = right_in objects user segment

-- the right that a user has on what stands at a name
abbrev pub right_on_object : Objects → ℕ → Option Contents → Right
right_on_object objects user None = right.None
right_on_object objects user (Some object) =
    right_on_body objects user object.segment object.body

-- the right that a user has on the object of this name; none where there is no such object
abbrev pub right_on : Objects → ℕ → ℕ → Right
right_on objects user number = right_on_object objects user (objects number)
