-- What a keeper stands for: the image that is found where it is opened again.
use Rattle.std.specs.Prelude.{◌≡◌, ℕ, nat_le, if◌then◌else◌, Option, Some, None, option_map}
use Rattle.std.specs.FinMap.{get}
use Rattle.gem_object.specs.declared.object.Object.{Object}
use Rattle.gem_image.specs.Image.{Image}

-- What is found: the object at each name, the number of commits, and the number of the root, which
-- is 0 where there is none.
pub record Found : Type 0 where
  pub objects : (name : ℕ) → Option Object
  pub number : ℕ
  pub root : ℕ

-- An object as it is found. A root doesn't store which commit changed it, so that one is found as 0;
-- a later commit's record does.
abbrev pub found_object : (root : ℕ) → Object → Object
found_object root object =
    record object { changed = if nat_le object.changed root then 0 else object.changed }

-- the image with so many commits as it is found over a root of this number
abbrev pub found_over : (root : ℕ) → Image → (number : ℕ) → Found
found_over root image number = record {
  objects = λ name. option_map (found_object root) (get image name);
  number = number;
  root = root;
}

-- What is found, if something is, stands for the image with so many commits.
abbrev pub StandsFor : Image → (number : ℕ) → Option Found → Type 0
StandsFor image number None = ⊥
StandsFor image number (Some found) = found ≡ found_over found.root image number
