-- What stood at a name before a transaction on one image.
use Rattle.std.proofs.Common.{◌≡◌, refl, Option, Some, None, is_some, option_map}
use Rattle.gem_object.specs.declared.object.Object.{Object}
use Rattle.gem_image.specs.Image.{Contents, contents_of}
use Rattle.gem_world.specs.World.{as_of}

pub some_as_of : (here there : Option Contents) → is_some (as_of here there) ≡ is_some here
some_as_of None there = refl
some_as_of (Some object) None = refl
some_as_of (Some object) (Some viewed) = refl

pub some_contents : (found : Option Object) → is_some (option_map contents_of found) ≡ is_some found
some_contents None = refl
some_contents (Some object) = refl
