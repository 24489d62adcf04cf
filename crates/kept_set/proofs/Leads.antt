-- The function that takes the kept objects away takes the smallest set.
use Rattle.std.proofs.Common.{◌≡◌, ◌↔◌, ℕ, zero, suc, ◌+◌, ◌≤◌, Bool, true, false, cond, inl, inr, List, [], ◌∷◌, ◌++◌, length, reverse, filter, Option, Some, None, IsSome, refl, sym, ap, subst, ◌∙◌, arith, length-append}
use Rattle.std.specs.Ordering.{nat_cmp}
use Rattle.std.specs.Option.{is_some, is_none}
use Rattle.std.specs.List.{All, Contains}
use Rattle.std.specs.List.Sorted.{IsStrictlySortedBy}
use Rattle.std.specs.FinMap.Entries.{find-where_key}
use Rattle.std.proofs.lemmas.Bool.{false≢true}
use Rattle.std.proofs.lemmas.Bool.Decides.{eqb_tells}
use Rattle.std.proofs.lemmas.Option.{none-some, same_Some}
use Rattle.std.proofs.lemmas.List.{length-reverse, reverse-reverse}
use Rattle.std.proofs.lemmas.List.Elements.{All-nil, All-cons, All-head, All-tail, All-append, All-weaker, All-contains, All-contains_itself}
use Rattle.std.proofs.lemmas.List.Kept.{IsStrictlySortedBy-filter}
use Rattle.std.proofs.lemmas.List.Sorted.{All-permutation, IsPermutation-reverse}
use Rattle.sorted_pairs.specs.Place.{Ascends}
use Rattle.gem_object.specs.References.{references_of}
use Rattle.gem_object.specs.declared.object.Object.{Object}
use Rattle.kept_set.specs.Kept.{Objects, object_of, names_of, IsKept, root, reached, without, reference_count, on_found, left_after, dropped, kept_of}
use Rattle.kept_set.proofs.Look.{alike, none_unless, part_without, itself_gone, others_stay, count_without}

-- what holds of all names holds of them the other way round
All-reverse : {X : Type 0} (P : X → Type 0) (xs : List X) → All P xs → All P (reverse xs)
All-reverse P xs all = All-permutation P xs (reverse xs) (IsPermutation-reverse xs) all

All-reversed : {X : Type 0} (P : X → Type 0) (xs : List X) → All P (reverse xs) → All P xs
All-reversed P xs all = subst (All P) (reverse-reverse xs) (All-reverse P (reverse xs) all)

All-right : {X : Type 0} (P : X → Type 0) (xs ys : List X) → All P (xs ++ ys) → All P ys
All-right P [] ys all = all
All-right P (x ∷ xs) ys all = All-right P xs ys (All-tail P x (xs ++ ys) all)

All-left : {X : Type 0} (P : X → Type 0) (xs ys : List X) → All P (xs ++ ys) → All P xs
All-left P [] ys all = All-nil P
All-left P (x ∷ xs) ys all =
    All-cons P x xs (All-head P x (xs ++ ys) all) (All-left P xs ys (All-tail P x (xs ++ ys) all))

-- ---- whatever goes is kept

module _ (roots : List ℕ) (made : Objects) where
  -- a made object of this name is kept
  abbrev Leads : ℕ → Type 0
  Leads name = IsSome (object_of name made) → IsKept roots made name

  abbrev IsPart : Objects → Type 0
  IsPart left = (name : ℕ) (object : Object) → object_of name left ≡ Some object → object_of name made ≡ Some object

  -- what goes is kept, where all names on the pile lead to kept objects
  abbrev TakesKept : (List ℕ → Objects → Objects) → Type 0
  TakesKept after = (pile : List ℕ) (left : Objects) → All Leads pile → IsPart left
      → (name : ℕ) → IsSome (object_of name left) → object_of name (after pile left) ≡ None → IsKept roots made name

  module _ (after : List ℕ → Objects → Objects) (takes : TakesKept after) (first : ℕ) (pile : List ℕ) (left : Objects) (leads : All Leads (first ∷ pile)) (part : IsPart left) where
    first_kept : (object : Object) → object_of first left ≡ Some object → IsKept roots made first
    first_kept object found = All-head Leads first pile leads (ap is_some (part first object found))

    references_lead : (object : Object) → object_of first left ≡ Some object → All Leads (references_of object)
    references_lead object found = All-weaker (Contains (references_of object)) Leads
        (λ name among some. reached first name object (first_kept object found) (part first object found) among some)
        (references_of object) (All-contains_itself (references_of object))

    found_kept : (found : Option Object) → object_of first left ≡ found
        → (name : ℕ) → IsSome (object_of name left) → object_of name (on_found after first pile left found) ≡ None → IsKept roots made name
    found_kept None is name some gone = takes pile left (All-tail Leads first pile leads) part name some gone
    found_kept (Some object) is name some gone = elim (eqb_tells first name) [
      | inl same ↦ subst (IsKept roots made) same.1 (first_kept object is)
      | inr apart ↦ takes (reverse (references_of object) ++ pile) (without first left)
          (All-append Leads (reverse (references_of object)) pile (All-reverse Leads (references_of object) (references_lead object is)) (All-tail Leads first pile leads))
          (λ other found there. part other found (part_without first other found left there))
          name (ap is_some (others_stay first name left apart.1) ∙ some) gone
    ]

  still_there : {X : Type 0} (o : Option X) → IsSome o → o ≡ None → ⊥
  still_there o some none = false≢true (sym (ap is_some none) ∙ some)

  takes_kept : (steps : ℕ) → TakesKept (left_after steps)
  takes_kept zero pile left leads part name some gone = absurd (still_there (object_of name left) some gone)
  takes_kept (suc steps) [] left leads part name some gone = absurd (still_there (object_of name left) some gone)
  takes_kept (suc steps) (first ∷ pile) left leads part name some gone =
      found_kept (left_after steps) (takes_kept steps) first pile left leads part (object_of first left) refl name some gone

-- ---- whatever is kept goes

abbrev IsGone : Objects → ℕ → Type 0
IsGone rest name = object_of name rest ≡ None

-- what is left once the pile is empty
record IsRest (pile : List ℕ) (left rest : Objects) : Type 0 where
  part : (name : ℕ) (object : Object) → object_of name rest ≡ Some object → object_of name left ≡ Some object
  taken : All (IsGone rest) pile
  closed : (name : ℕ) (object : Object) → object_of name left ≡ Some object → IsGone rest name → All (IsGone rest) (references_of object)

-- enough names may be taken
abbrev Empties : ℕ → (List ℕ → Objects → Objects) → Type 0
Empties steps after = (pile : List ℕ) (left : Objects) → length pile + reference_count left ≤ steps → IsRest pile left (after pile left)

rest_end : (left : Objects) → IsRest [] left left
rest_end left = record {
  part = λ name object is. is;
  taken = All-nil (IsGone left);
  closed = λ name object is gone. absurd (none-some object (sym gone ∙ is));
}

-- a name of nothing that is left was taken
rest_over : (first : ℕ) (pile : List ℕ) (left rest : Objects) → object_of first left ≡ None → IsRest pile left rest → IsRest (first ∷ pile) left rest
rest_over first pile left rest none is = record {
  part = is.part;
  taken = All-cons (IsGone rest) first pile (none_unless (object_of first rest) (λ object found. none-some object (sym none ∙ is.part first object found))) is.taken;
  closed = is.closed;
}

-- the name of an object that is left was taken
module _ (first : ℕ) (pile : List ℕ) (left rest : Objects) (object : Object) (found : object_of first left ≡ Some object)
    (is : IsRest (reverse (references_of object) ++ pile) (without first left) rest) where
  rest_part : (name : ℕ) (other : Object) → object_of name rest ≡ Some other → object_of name left ≡ Some other
  rest_part name other there = part_without first name other left (is.part name other there)

  rest_closed : (name : ℕ) (other : Object) → object_of name left ≡ Some other → IsGone rest name → All (IsGone rest) (references_of other)
  rest_closed name other there gone = elim (eqb_tells first name) [
    | inl same ↦
        let one : object ≡ other = same_Some object other (sym found ∙ ap (λ n. object_of n left) same.1 ∙ there) in
        subst (λ o. All (IsGone rest) (references_of o)) one
        (All-reversed (IsGone rest) (references_of object) (All-left (IsGone rest) (reverse (references_of object)) pile is.taken))
    | inr apart ↦ is.closed name other (others_stay first name left apart.1 ∙ there) gone
  ]

  rest_found : IsRest (first ∷ pile) left rest
  rest_found = record {
    part = rest_part;
    taken = All-cons (IsGone rest) first pile
        (none_unless (object_of first rest) (λ other there. none-some other (sym (itself_gone first left) ∙ is.part first other there)))
        (All-right (IsGone rest) (reverse (references_of object)) pile is.taken);
    closed = rest_closed;
  }

empties_found : (steps : ℕ) (after : List ℕ → Objects → Objects) → Empties steps after → (first : ℕ) (pile : List ℕ) (left : Objects)
    → length pile + reference_count left ≤ steps → (found : Option Object) → object_of first left ≡ found
    → IsRest (first ∷ pile) left (on_found after first pile left found)
empties_found steps after empties first pile left enough None is =
    rest_over first pile left (after pile left) is (empties pile left enough)
empties_found steps after empties first pile left enough (Some object) is =
    let more = reverse (references_of object) ++ pile in
    let longer : length more ≡ length (references_of object) + length pile = length-append (reverse (references_of object)) pile ∙ ap (λ n. n + length pile) (length-reverse (references_of object)) in
    let fewer = count_without first object left is in
    let enough_left : length more + reference_count (without first left) ≤ steps = omega (arith, longer, fewer, enough) in
    rest_found first pile left (after more (without first left)) object is (empties more (without first left) enough_left)

empties : (steps : ℕ) → Empties steps (left_after steps)
empties zero [] left enough = rest_end left
empties zero (first ∷ pile) left enough = absurd (omega (arith, enough))
empties (suc steps) [] left enough = rest_end left
empties (suc steps) (first ∷ pile) left enough =
    empties_found steps (left_after steps) (empties steps) first pile left (omega (arith, enough)) (object_of first left) refl

-- ---- the kept objects

module _ (roots : List ℕ) (made : Objects) where
  rest_is : IsRest (reverse roots) made (dropped roots made)
  unfolding dropped
  rest_is =
      let same = length-reverse roots in
      empties (length roots + reference_count made) (reverse roots) made (omega (arith, same))

  kept_gone : {name : ℕ} → IsKept roots made name → IsGone (dropped roots made) name
  kept_gone (root name among some) =
      All-contains (IsGone (dropped roots made)) roots name (All-reversed (IsGone (dropped roots made)) roots rest_is.taken) among
  kept_gone (reached from name object kept is among some) =
      All-contains (IsGone (dropped roots made)) (references_of object) name (rest_is.closed from object is (kept_gone kept)) among

  kept_some : {name : ℕ} → IsKept roots made name → IsSome (object_of name made)
  kept_some (root name among some) = some
  kept_some (reached from name object kept is among some) = some

  gone_kept : (name : ℕ) → IsSome (object_of name made) → IsGone (dropped roots made) name → IsKept roots made name
  unfolding dropped
  gone_kept name some gone = takes_kept roots made (length roots + reference_count made) (reverse roots) made
      (All-reverse (Leads roots made) roots (All-weaker (Contains roots) (Leads roots made) (λ n among some. root n among some) roots (All-contains_itself roots)))
      (λ n object is. is) name some gone

  -- what is found among the kept objects
  find_kept : (name : ℕ) → object_of name (kept_of roots made) ≡ cond (is_none (object_of name (dropped roots made))) (object_of name made) None
  unfolding kept_of
  find_kept name = find-where_key nat_cmp (λ key. is_none (object_of key (dropped roots made))) name
      (alike (λ key. is_none (object_of key (dropped roots made))) name) made

  kept_from : (name : ℕ) (rest : Option Object) → object_of name (dropped roots made) ≡ rest
      → IsSome (cond (is_none rest) (object_of name made) None) → IsKept roots made name
  kept_from name None is some = gone_kept name some is
  kept_from name (Some object) is some = absurd (false≢true some)

  pub kept_names : (name : ℕ) → IsSome (object_of name (kept_of roots made)) ↔ IsKept roots made name
  kept_names name = (
    λ some. kept_from name _ refl (ap is_some (sym (find_kept name)) ∙ some),
    λ kept. ap is_some (find_kept name ∙ ap (λ rest. cond (is_none rest) (object_of name made) None) (kept_gone kept)) ∙ kept_some kept,
  )

  pub kept_objects : (name : ℕ) (object : Object) → object_of name (kept_of roots made) ≡ Some object → object_of name made ≡ Some object
  kept_objects name object found =
      made_one (is_none (object_of name (dropped roots made))) (sym (find_kept name) ∙ found)
    where
      made_one : (b : Bool) → cond b (object_of name made) None ≡ Some object → object_of name made ≡ Some object
      made_one true is = is
      made_one false is = absurd (none-some object is)

  names_filter : (p : ℕ → Bool) (objects : Objects) → names_of (filter (λ entry. p entry.0) objects) ≡ filter p (names_of objects)
  names_filter p [] = refl
  names_filter p (entry ∷ objects) =
      elim (p entry.0) as (λ b. names_of (cond b (entry ∷ filter (λ e. p e.0) objects) (filter (λ e. p e.0) objects)) ≡ cond b (entry.0 ∷ filter p (names_of objects)) (filter p (names_of objects))) [
        | true ↦ ap (λ names. entry.0 ∷ names) (names_filter p objects)
        | false ↦ names_filter p objects
      ]

  pub kept_ascend : Ascends nat_cmp made → Ascends nat_cmp (kept_of roots made)
  unfolding kept_of
  kept_ascend ascends =
      let p : ℕ → Bool = λ key. is_none (object_of key (dropped roots made)) in
      subst (IsStrictlySortedBy nat_cmp) (sym (names_filter p made)) (IsStrictlySortedBy-filter nat_cmp p (names_of made) ascends)
