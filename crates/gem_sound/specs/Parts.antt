-- What stands at a name, by the kind of its body. Of segments `rights_at` says it.
use Rattle.std.specs.Prelude.{ℕ, List, Option, None, Some, option_and_then}
use Rattle.gem_object.specs.declared.body.ClassBody.{ClassBody}
use Rattle.gem_object.specs.declared.body.UserBody.{UserBody}
use Rattle.gem_object.specs.declared.body.Body.{Body}
use Rattle.gem_object.specs.declared.body.Body.TheVariants.{Dict, Class, User}
use Rattle.gem_object.specs.declared.value.Value.{Value}
use Rattle.gem_image.specs.Image.{Objects}

-- the class that a body is
abbrev pub class_of : Body → Option ClassBody
class_of (Class class) = Some class
class_of _ = None

-- the user that a body is
abbrev pub user_of : Body → Option UserBody
user_of (User user) = Some user
user_of _ = None

-- the pairs of the dictionary that a body is
abbrev pub dictionary_of : Body → Option (List (Value × Value))
dictionary_of (Dict pairs) = Some pairs
dictionary_of _ = None

-- the class, the user and the dictionary of this name
abbrev pub class_at : Objects → ℕ → Option ClassBody
class_at objects name = option_and_then (λ object. class_of object.body) (objects name)

abbrev pub user_at : Objects → ℕ → Option UserBody
user_at objects name = option_and_then (λ object. user_of object.body) (objects name)

abbrev pub dictionary_at : Objects → ℕ → Option (List (Value × Value))
dictionary_at objects name = option_and_then (λ object. dictionary_of object.body) (objects name)
