-- The right that a segment gives a user.
use Rattle.std.specs.Prelude.{◌≡◌, ◌==◌, ℕ, Bool, ◌&&◌, ◌||◌, List, if◌then◌else◌, IsTrue, Contains}
use Rattle.std.specs.List.{list_any}
use Rattle.seg_rights.specs.Right.{rank_of, IsAtMost}
use Rattle.seg_rights.specs.declared.right.Right.{Right}
use Rattle.seg_rights.specs.declared.right.Right.TheVariants.{None, Read, Write}
use Rattle.seg_rights.specs.declared.rights.Rights.{Rights}

module _ {T : Type 0} (eq : T → T → Bool) where
  -- whether one of the user's groups has this name
  abbrev pub is_among : List T → T → Bool
  is_among groups name = list_any (λ group. eq group name) groups

  -- the segment gives the right to the user, who is in these groups
  pub data Gives (rights : Rights T) (user : ℕ) (groups : List T) : Right → Type 0 where
    as_owner : user ≡ rights.owner → Gives rights user groups rights.owner_right
    as_member : (name : T) (right : Right) → Contains rights.groups (name, right)
        → IsTrue (is_among groups name) → Gives rights user groups right
    as_anybody : Gives rights user groups rights.world_right

  -- the right is one of those that the segment gives to the user, and none of these is greater
  pub record IsGreatestRight (rights : Rights T) (user : ℕ) (groups : List T) (right : Right)
      : Type 0 where
    pub given : Gives rights user groups right
    pub greatest : (other : Right) → Gives rights user groups other → IsAtMost other right

  -- whether the segment gives the right to the user
  abbrev pub gives : Rights T → ℕ → List T → Right → Bool
  gives rights user groups right =
      let is_it = λ (given : Right). rank_of given == rank_of right in
      (user == rights.owner && is_it rights.owner_right)
      || list_any (λ grant. is_among groups grant.0 && is_it grant.1) rights.groups
      || is_it rights.world_right

  -- the greatest right that the segment gives to the user, found by trying each from the greatest
  -- on
  abbrev pub greatest_right : Rights T → ℕ → List T → Right
  greatest_right rights user groups =
      if gives rights user groups Write
      then Write
      else (if gives rights user groups Read then Read else None)
