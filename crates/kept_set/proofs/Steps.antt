-- The steps of the search for the kept objects.
use Rattle.std.proofs.Common.{◌≡◌, ℕ, zero, suc, ◌+◌, ◌<◌, Bool, List, [], ◌∷◌, ◌++◌, length, reverse, set, true, Option, Some, None, refl, sym, ap, subst, ◌∙◌, arith, length-append}
use Rattle.std.proofs.lemmas.List.{reverse-append}
use Rattle.gem_object.specs.References.{references_of}
use Rattle.gem_object.specs.declared.object.Object.{Object}
use Rattle.kept_set.specs.Kept.{Objects, object_of, without, reference_count, on_found, left_after, dropped}
use Rattle.kept_set.specs.Worklist.{unseen, IsFollowedTo, IsFollowed}
use Rattle.kept_set.proofs.Marks.{IsMarked}

-- how many names may still be taken from the pile
abbrev pub work : List ℕ → Objects → ℕ
work pile left = length pile + reference_count left

-- from here on, what is left in the end is what is left of the made objects; the top of the pile is
-- at its end
abbrev pub IsOnTheWay : List ℕ → Objects → List ℕ → Objects → Type 0
IsOnTheWay roots made pile left = left_after (work pile left) (reverse pile) left ≡ dropped roots made

pub begins : (roots : List ℕ) (made left : Objects) → left ≡ made → IsOnTheWay roots made roots left
unfolding dropped
begins roots made left is = ap (λ l. left_after (length roots + reference_count l) (reverse roots) l) is

-- with nothing on the pile, what is left is left in the end
nothing_left : (steps : ℕ) (left : Objects) → left_after steps [] left ≡ left
nothing_left zero left = refl
nothing_left (suc steps) left = refl

pub ends : (roots : List ℕ) (made : Objects) (pile : List ℕ) (left : Objects) → pile ≡ [] → IsOnTheWay roots made pile left → left ≡ dropped roots made
ends roots made pile left empty on =
    sym (nothing_left (work [] left) left) ∙ sym (ap (λ p. left_after (work p left) (reverse p) left) empty) ∙ on

-- equal numbers, piles and objects leave the same
same_way : (steps other : ℕ) (pile another : List ℕ) (left objects : Objects) → steps ≡ other → pile ≡ another → left ≡ objects
    → left_after steps pile left ≡ left_after other another objects
same_way steps other pile another left objects a b c = λ i. left_after (a i) (b i) (c i)

module _ (roots : List ℕ) (made : Objects) (name : ℕ) (popped pile : List ℕ) (left : Objects) (was : popped ≡ pile ++ name ∷ []) where
  -- the name on the top was taken
  taken : IsOnTheWay roots made popped left → on_found (left_after (work pile left)) name (reverse pile) left (object_of name left) ≡ dropped roots made
  taken on =
      let longer : length (pile ++ name ∷ []) ≡ length pile + 1 = length-append pile (name ∷ []) in
      let one : work popped left ≡ suc (work pile left) = ap (λ p. work p left) was ∙ (let e : work (pile ++ name ∷ []) left ≡ suc (work pile left) = omega (arith, longer) in e) in
      let turned : reverse popped ≡ name ∷ reverse pile = ap reverse was ∙ reverse-append pile (name ∷ []) in
      sym (same_way (work popped left) (suc (work pile left)) (reverse popped) (name ∷ reverse pile) left left one turned refl) ∙ on

  step : (found : Option Object) (pile_now : List ℕ) (left_now : Objects) → on_found (left_after (work pile left)) name (reverse pile) left found ≡ dropped roots made
      → IsFollowedTo name left pile left_now pile_now found → IsOnTheWay roots made pile_now left_now
  step None pile_now left_now on is =
      same_way (work pile_now left_now) (work pile left) (reverse pile_now) (reverse pile) left_now left
      (λ i. work (is.1 i) (is.0 i)) (ap reverse is.1) is.0 ∙ on
  step (Some object) pile_now left_now on is =
      let fewer = is.2 in
      let longer : length pile_now ≡ length pile + length (references_of object) = ap length is.1 ∙ length-append pile (references_of object) in
      let same : work pile_now left_now ≡ work pile left = omega (arith, fewer, longer) in
      same_way (work pile_now left_now) (work pile left) (reverse pile_now) (reverse (references_of object) ++ reverse pile) left_now (without name left)
      same (ap reverse is.1 ∙ reverse-append pile (references_of object)) is.0 ∙ on

  -- a name was followed
  pub followed : (pile_now : List ℕ) (left_now : Objects) → IsOnTheWay roots made popped left
      → IsFollowedTo name left pile left_now pile_now (object_of name left) → IsOnTheWay roots made pile_now left_now
  followed pile_now left_now on is = step (object_of name left) pile_now left_now (taken on) is

  less : (found : Option Object) (pile_now : List ℕ) (left_now : Objects) → IsFollowedTo name left pile left_now pile_now found → work pile_now left_now < work popped left
  less None pile_now left_now is =
      let longer : length popped ≡ length pile + 1 = ap length was ∙ length-append pile (name ∷ []) in
      let a : length pile_now ≡ length pile = ap length is.1 in
      let b : reference_count left_now ≡ reference_count left = ap reference_count is.0 in
      omega (arith, longer, a, b)
  less (Some object) pile_now left_now is =
      let longer : length popped ≡ length pile + 1 = ap length was ∙ length-append pile (name ∷ []) in
      let a : length pile_now ≡ length pile + length (references_of object) = ap length is.1 ∙ length-append pile (references_of object) in
      let fewer = is.2 in
      omega (arith, longer, a, fewer)

  -- and fewer may still be taken
  pub less_work : (pile_now : List ℕ) (left_now : Objects) → IsFollowedTo name left pile left_now pile_now (object_of name left) → work pile_now left_now < work popped left
  less_work pile_now left_now is = less (object_of name left) pile_now left_now is

-- ---- what one step did

-- no object that is left has the name
pub followed_none : (name : ℕ) (left : Objects) (pile : List ℕ) → object_of name left ≡ None → IsFollowedTo name left pile left pile (object_of name left)
followed_none name left pile none = subst (IsFollowedTo name left pile left pile) (sym none) (refl, refl)

-- an object that stands here is marked, and what it refers to is on the pile
pub followed_some : (name : ℕ) (made : Objects) (marks : List Bool) (pile : List ℕ) (at : ℕ) (object : Object) (marks_now : List Bool) (pile_now : List ℕ)
    → IsMarked name made marks at object → marks_now ≡ set marks at true → pile_now ≡ pile ++ references_of object
    → IsFollowed name made marks pile marks_now pile_now
followed_some name made marks pile at object marks_now pile_now is now added =
    subst (IsFollowedTo name (unseen made marks) pile (unseen made marks_now) pile_now) (sym is.found) (
      ap (unseen made) now ∙ is.gone,
      added,
      ap (λ m. reference_count (unseen made m) + length (references_of object)) now ∙ is.fewer,
    )
