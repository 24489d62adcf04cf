-- How the rights of the user's groups are gone through.
use Rattle.std.specs.Prelude.{Bool, List, [], ◌∷◌, if◌then◌else◌}
use Rattle.seg_rights.specs.Right.{greater_of}
use Rattle.seg_rights.specs.Rights.{is_among}
use Rattle.seg_rights.specs.declared.right.Right.{Right}

module _ {T : Type 0} (eq : T → T → Bool) where
  -- the greatest of a right and those that are given to the user's groups, from the first on
  abbrev pub with_groups : List T → List (T × Right) → Right → Right
  with_groups groups [] right = right
  with_groups groups (grant ∷ grants) right = with_groups groups grants
      (if is_among eq groups grant.0 then greater_of right grant.1 else right)
