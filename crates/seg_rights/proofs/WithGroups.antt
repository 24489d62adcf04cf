-- One step of the loop over the groups, and what it ends with.
use Rattle.std.proofs.Common.{◌≡◌, ◌≢◌, ℕ, zero, suc, ◌+◌, ◌<◌, Bool, true, false, List, [], ◌∷◌, length, get_or, drop, if◌then◌else◌, IsTrue, ◌⊎◌, inl, inr, refl, sym, ap, subst, ◌∙◌, arith}
use Rattle.std.specs.List.{Contains}
use Rattle.std.proofs.lemmas.List.{at_drop_more}
use Rattle.seg_rights.specs.Right.{IsAtMost, greater_of}
use Rattle.seg_rights.specs.Rights.{is_among, Gives, as_owner, as_member, as_anybody, IsGreatestRight}
use Rattle.seg_rights.specs.WithGroups.{with_groups}
use Rattle.seg_rights.specs.declared.right.Right.{Right}
use Rattle.seg_rights.specs.declared.right.Right.TheVariants.{None, Read, Write}
use Rattle.seg_rights.specs.declared.rights.Rights.{Rights}

-- the greater right is no less than either
first_below : (right other : Right) → IsAtMost right (greater_of right other)
first_below None other = omega arith
first_below Read None = omega arith
first_below Read Read = omega arith
first_below Read Write = omega arith
first_below Write other = omega arith

second_below : (right other : Right) → IsAtMost other (greater_of right other)
second_below None other = omega arith
second_below Read None = omega arith
second_below Read Read = omega arith
second_below Read Write = omega arith
second_below Write None = omega arith
second_below Write Read = omega arith
second_below Write Write = omega arith

-- and is one of them
one_of_two : (right other : Right) → (greater_of right other ≡ right) ⊎ (greater_of right other ≡ other)
one_of_two None other = inr refl
one_of_two Read None = inl refl
one_of_two Read Read = inl refl
one_of_two Read Write = inr refl
one_of_two Write other = inl refl

module _ {T : Type 0} (eq : T → T → Bool) (groups : List T) where
  -- the right is given to a group that the user is in
  abbrev GivesMember : List (T × Right) → Right → Type 0
  GivesMember given right = (name : T) × Contains given (name, right) × IsTrue (is_among eq groups name)

  -- the step at place i
  pub with_groups-drop : (given : List (T × Right)) (i : ℕ) (grant : T × Right) (right : Right) → i < length given → grant ≡ get_or given i grant
      → with_groups eq groups (drop i given) right ≡ with_groups eq groups (drop (i + 1) given) (if is_among eq groups grant.0 then greater_of right grant.1 else right)
  with_groups-drop given i grant right in_range is =
      at_drop_more (λ given. with_groups eq groups given right) given i grant in_range
      ∙ ap (λ (first : T × Right). with_groups eq groups (drop (i + 1) given) (if is_among eq groups first.0 then greater_of right first.1 else right)) (sym is)

  -- what the first grant leaves is no less than what there was
  first_step_below : (b : Bool) (right given : Right) → IsAtMost right (if b then greater_of right given else right)
  first_step_below true right given = first_below right given
  first_step_below false right given = omega arith

  start_below : (given : List (T × Right)) (right : Right) → IsAtMost right (with_groups eq groups given right)
  start_below [] right = omega arith
  start_below (grant ∷ given) right =
      omega (arith, first_step_below (is_among eq groups grant.0) right grant.1, start_below given (if is_among eq groups grant.0 then greater_of right grant.1 else right))

  -- a list contains its first element, or a later one
  Contains-cases : {X : Type 0} (x : X) (xs : List X) (y : X) → Contains (x ∷ xs) y → (x ≡ y) ⊎ Contains xs y
  Contains-cases x xs y (zero, in_range, is) = inl is
  Contains-cases x xs y (suc k, in_range, is) = inr (k, omega arith, is)

  member_below : (given : List (T × Right)) (right other : Right) → GivesMember given other → IsAtMost other (with_groups eq groups given right)
  member_below [] right other (name, (k, in_range, is), among) = absurd (omega arith)
  member_below (grant ∷ given) right other (name, stands, among) = elim (Contains-cases grant given (name, other) stands) [
    | inl is ↦
        let here : is_among eq groups grant.0 ≡ true = ap (λ (g : T × Right). is_among eq groups g.0) is ∙ among in
        let right_is : grant.1 ≡ other = ap (λ (g : T × Right). g.1) is in
        let step = start_below given (if is_among eq groups grant.0 then greater_of right grant.1 else right) in
        let start : IsAtMost other (if is_among eq groups grant.0 then greater_of right grant.1 else right) = rw (here, right_is) (second_below right other) in
        omega (arith, step, start)
    | inr later ↦ member_below given (if is_among eq groups grant.0 then greater_of right grant.1 else right) other (name, later, among)
  ]

  -- a grant that comes later, in the whole list
  later_grant : (grant : T × Right) (given : List (T × Right)) (right : Right) → GivesMember given right → GivesMember (grant ∷ given) right
  later_grant grant given right (name, (k, in_range, is), among) = (name, (suc k, omega arith, is), among)

  step_one_of : (b : Bool) (right given : Right) → ((if b then greater_of right given else right) ≡ right) ⊎ ((b ≡ true) × ((if b then greater_of right given else right) ≡ given))
  step_one_of true right given = elim (one_of_two right given) [ inl is ↦ inl is | inr is ↦ inr (refl, is) ]
  step_one_of false right given = inl refl

  -- the end is what there was, or is given to a group that the user is in
  one_of_them : (given : List (T × Right)) (right : Right) → (with_groups eq groups given right ≡ right) ⊎ GivesMember given (with_groups eq groups given right)
  one_of_them [] right = inl refl
  one_of_them (grant ∷ given) right =
      let next = if is_among eq groups grant.0 then greater_of right grant.1 else right in
      elim (one_of_them given next) [
        | inr later ↦ inr (later_grant grant given _ later)
        | inl stays ↦ elim (step_one_of (is_among eq groups grant.0) right grant.1) [
          | inl is ↦ inl (stays ∙ is)
          | inr here ↦ inr (grant.0, (0, omega arith, λ i. (grant.0, sym (stays ∙ here.1) i)), here.0)
        ]
      ]

module _ {T : Type 0} (eq : T → T → Bool) (rights : Rights T) (user : ℕ) (groups : List T) where
  -- what the groups and the world give to the user
  abbrev shared : Right
  shared = with_groups eq groups rights.groups rights.world_right

  shared_given : Gives eq rights user groups shared
  shared_given = elim (one_of_them eq groups rights.groups rights.world_right) [
    | inl is ↦ subst (Gives eq rights user groups) (sym is) as_anybody
    | inr member ↦ as_member member.0 shared member.1 member.2
  ]

  -- the greatest for the owner
  pub owner_greatest : user ≡ rights.owner → IsGreatestRight eq rights user groups (greater_of shared rights.owner_right)
  owner_greatest owns = record {
    given = elim (one_of_two shared rights.owner_right) [
      | inl is ↦ subst (Gives eq rights user groups) (sym is) shared_given
      | inr is ↦ subst (Gives eq rights user groups) (sym is) (as_owner owns)
    ];
    greatest = below;
  }
    where
      below : (other : Right) → Gives eq rights user groups other → IsAtMost other (greater_of shared rights.owner_right)
      below other (as_owner owns) = second_below shared rights.owner_right
      below other (as_member name right stands among) = omega (arith, member_below eq groups rights.groups rights.world_right other (name, stands, among), first_below shared rights.owner_right)
      below other as_anybody = omega (arith, start_below eq groups rights.groups rights.world_right, first_below shared rights.owner_right)

  -- the greatest for any other user
  pub other_greatest : user ≢ rights.owner → IsGreatestRight eq rights user groups shared
  other_greatest owns_not = record { given = shared_given; greatest = below }
    where
      below : (other : Right) → Gives eq rights user groups other → IsAtMost other shared
      below other (as_owner owns) = absurd (owns_not owns)
      below other (as_member name right stands among) = member_below eq groups rights.groups rights.world_right other (name, stands, among)
      below other as_anybody = start_below eq groups rights.groups rights.world_right
