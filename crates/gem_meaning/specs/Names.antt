-- Users, and what names refer to where locks are asked for.
use Rattle.std.specs.Prelude.{ℕ, if◌then◌else◌, Option, Some, None, is_some, option_and_then}
use Rattle.gem_object.specs.seg_rights.Right.{allows_read}
use Rattle.gem_object.specs.texts.Bytes.{Bytes as Text}
use Rattle.gem_object.specs.References.{reference_of}
use Rattle.gem_object.specs.declared.value.Value.{Value}
use Rattle.gem_record.specs.gem_image.Image.{Image, Contents, Objects, objects_in}
use Rattle.gem_record.specs.gem_world.World.{Setting, World, shown}
use Rattle.gem_record.specs.gem_world.Access.{right_at}
use Rattle.gem_language.specs.gem_sound.Parts.{user_at}
use Rattle.gem_language.specs.gem_sound.declared.names.TheConstants.{ALL_USERS}
use Rattle.gem_language.specs.KernelNames.{globals}
use Rattle.gem_language.specs.OutOfScope.{global_in, own_globals}

-- ---- who may log in

-- the name, where it is that of a user
abbrev pub if_user : Objects → ℕ → Option ℕ
if_user objects name = if is_some (user_at objects name) then Some name else None

-- the user of this name, whom the dictionary AllUsers of these objects has
abbrev pub user_among : Objects → Text → Option ℕ
user_among objects user = option_and_then (if_user objects)
    (option_and_then reference_of (option_and_then (global_in user) (objects ALL_USERS)))

-- the object of the user with this name, who may log in where this image stands
unfoldable pub user_in : Image → Text → Option ℕ
user_in image user = user_among (objects_in image) user

-- ---- what a name refers to

-- What a name refers to, for the user.
pub data Found : Type 0 where
  -- nothing, or the user may not read a dictionary in which it is looked up
  no_name : Found
  -- a value
  found : Value → Found

-- the global of this name in a dictionary that the user may read
abbrev pub global_shown : Text → Option Contents → Option Value
global_shown name dictionary = option_and_then (global_in name) dictionary

abbrev pub found_here : Option Value → Found → Found
found_here (Some value) rest = found value
found_here None rest = rest

-- the name looked up in the dictionary of this name, and then as `rest` says
abbrev pub found_in : Text → (rest : Found) → Setting → World → (dictionary : ℕ) → Found
found_in name rest setting world dictionary =
    if allows_read (right_at dictionary setting world)
    then found_here (global_shown name (shown dictionary setting world)) rest
    else no_name

abbrev pub found_in_own : Text → (rest : Found) → Setting → World → Option ℕ → Found
found_in_own name rest setting world None = rest
found_in_own name rest setting world (Some dictionary) =
    found_in name rest setting world dictionary

-- The name looked up in the user's own globals, and in Globals where these lack it. Nothing is
-- touched.
unfoldable pub find_name : Text → Setting → World → Found
find_name name setting world =
    found_in_own name (found_in name no_name setting world globals) setting world
    (own_globals (shown setting.user setting world))
