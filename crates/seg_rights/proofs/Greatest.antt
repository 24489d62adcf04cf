-- The relation and the function that name the greatest right say the same.
use Rattle.std.proofs.Common.{◌≡◌, ◌==◌, ℕ, Bool, true, false, ◌&&◌, List, if◌then◌else◌, IsTrue, ◌⊎◌, inl, inr, refl, ap, subst, arith}
use Rattle.std.specs.Bool.{Decides}
use Rattle.std.specs.List.{Contains, list_any}
use Rattle.std.proofs.lemmas.Bool.Decides.{Decides-eqb, Decides-and, Decides-or, Decides-like, not_from_Decides}
use Rattle.std.proofs.lemmas.List.Folds.{Any-from_list_any, list_any-from_Any}
use Rattle.seg_rights.specs.Right.{rank_of, IsAtMost}
use Rattle.seg_rights.specs.Rights.{is_among, Gives, as_owner, as_member, as_anybody, IsGreatestRight, gives, greatest_right}
use Rattle.seg_rights.specs.declared.right.Right.{Right}
use Rattle.seg_rights.specs.declared.right.Right.TheVariants.{None, Read, Write}
use Rattle.seg_rights.specs.declared.rights.Rights.{Rights}

-- each right has a rank of its own
same_from_rank : (right other : Right) → rank_of right ≡ rank_of other → right ≡ other
same_from_rank None None is = refl
same_from_rank None Read is = absurd (omega arith)
same_from_rank None Write is = absurd (omega arith)
same_from_rank Read None is = absurd (omega arith)
same_from_rank Read Read is = refl
same_from_rank Read Write is = absurd (omega arith)
same_from_rank Write None is = absurd (omega arith)
same_from_rank Write Read is = absurd (omega arith)
same_from_rank Write Write is = refl

same_right : (right other : Right) → Decides (rank_of right == rank_of other) (right ≡ other)
same_right right other = Decides-like _ (same_from_rank right other) (ap rank_of) (Decides-eqb (rank_of right) (rank_of other))

module _ {T : Type 0} (eq : T → T → Bool) (rights : Rights T) (user : ℕ) (groups : List T) where
  -- whether the grant is of this right, to a group that the user is in
  abbrev grants_it : Right → T × Right → Bool
  grants_it right grant = is_among eq groups grant.0 && (rank_of grant.1 == rank_of right)

  grant_decides : (right : Right) (grant : T × Right) → Decides (grants_it right grant) (IsTrue (is_among eq groups grant.0) × (grant.1 ≡ right))
  grant_decides right grant = Decides-and _ _ (λ is. is, λ is. is) (same_right grant.1 right)

  -- a grant of the right, found among the groups
  member_decides : (right : Right) → Decides (list_any (grants_it right) rights.groups) ((name : T) × Contains rights.groups (name, right) × IsTrue (is_among eq groups name))
  member_decides right = (
    λ passes.
        let any = Any-from_list_any (grants_it right) rights.groups passes in
        let grant = any.1 in
        let says = (grant_decides right grant).0 any.4 in
        (grant.0, subst (Contains rights.groups) (λ i. (grant.0, says.1 i)) (any.0, any.2, any.3), says.0),
    λ member.
        list_any-from_Any (grants_it right) rights.groups (member.1.0, (member.0, right), member.1.1, member.1.2, (grant_decides right (member.0, right)).1 (member.2, refl)),
  )

  -- the ways in which a right may be given, as the test tries them
  abbrev Ways : Right → Type 0
  Ways right = (((user ≡ rights.owner) × (rights.owner_right ≡ right)) ⊎ ((name : T) × Contains rights.groups (name, right) × IsTrue (is_among eq groups name))) ⊎ (rights.world_right ≡ right)

  gives_from_way : (right : Right) → Ways right → Gives eq rights user groups right
  gives_from_way right (inl (inl (owns, is))) = subst (Gives eq rights user groups) is (as_owner owns)
  gives_from_way right (inl (inr (name, stands, among))) = as_member name right stands among
  gives_from_way right (inr is) = subst (Gives eq rights user groups) is as_anybody

  way_from_gives : (right : Right) → Gives eq rights user groups right → Ways right
  way_from_gives right (as_owner owns) = inl (inl (owns, refl))
  way_from_gives right (as_member name _ stands among) = inl (inr (name, stands, among))
  way_from_gives right as_anybody = inr refl

  -- the test finds a right just where the segment gives it
  gives_decides : (right : Right) → Decides (gives eq rights user groups right) (Gives eq rights user groups right)
  gives_decides right = Decides-like _ (gives_from_way right) (way_from_gives right)
      (Decides-or _ _ (Decides-or _ _ (Decides-and _ _ (Decides-eqb user rights.owner) (same_right rights.owner_right right)) (member_decides right)) (same_right rights.world_right right))

  -- no right that is given lies between the answers of the two tests
  chosen : (w r : Bool) → Decides w (Gives eq rights user groups Write) → Decides r (Gives eq rights user groups Read) → (right : Right) → IsGreatestRight eq rights user groups right → right ≡ (if w then Write else (if r then Read else None))
  chosen true r writes reads None best = absurd (omega (arith, best.greatest Write (writes.0 refl)))
  chosen true r writes reads Read best = absurd (omega (arith, best.greatest Write (writes.0 refl)))
  chosen true r writes reads Write best = refl
  chosen false true writes reads None best = absurd (omega (arith, best.greatest Read (reads.0 refl)))
  chosen false true writes reads Read best = refl
  chosen false true writes reads Write best = absurd (not_from_Decides false writes refl best.given)
  chosen false false writes reads None best = refl
  chosen false false writes reads Read best = absurd (not_from_Decides false reads refl best.given)
  chosen false false writes reads Write best = absurd (not_from_Decides false writes refl best.given)

  -- the greatest right is the one that the function names
  pub one_greatest : (right : Right) → IsGreatestRight eq rights user groups right → right ≡ greatest_right eq rights user groups
  one_greatest right best = chosen _ _ (gives_decides Write) (gives_decides Read) right best

  at_most_write : (right : Right) → IsAtMost right Write
  at_most_write None = omega arith
  at_most_write Read = omega arith
  at_most_write Write = omega arith

  -- what the function names is the greatest
  found : (w r : Bool) → Decides w (Gives eq rights user groups Write) → Decides r (Gives eq rights user groups Read) → IsGreatestRight eq rights user groups (if w then Write else (if r then Read else None))
  found true r writes reads = record { given = writes.0 refl; greatest = λ other _. at_most_write other }
  found false true writes reads = record { given = reads.0 refl; greatest = below }
    where
      below : (other : Right) → Gives eq rights user groups other → IsAtMost other Read
      below None given = omega arith
      below Read given = omega arith
      below Write given = absurd (not_from_Decides false writes refl given)
  found false false writes reads = record { given = world rights.world_right as_anybody; greatest = below }
    where
      below : (other : Right) → Gives eq rights user groups other → IsAtMost other None
      below None given = omega arith
      below Read given = absurd (not_from_Decides false reads refl given)
      below Write given = absurd (not_from_Decides false writes refl given)

      world : (other : Right) → Gives eq rights user groups other → Gives eq rights user groups None
      world None given = given
      world Read given = absurd (not_from_Decides false reads refl given)
      world Write given = absurd (not_from_Decides false writes refl given)

  pub greatest_right-is : IsGreatestRight eq rights user groups (greatest_right eq rights user groups)
  greatest_right-is = found _ _ (gives_decides Write) (gives_decides Read)
