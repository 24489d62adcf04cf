-- What marks leave of objects whose names ascend.
use Rattle.std.proofs.Common.{◌≡◌, ℕ, zero, suc, ◌+◌, ◌<◌, Bool, true, false, cond, not, List, [], ◌∷◌, ◌++◌, length, filter, get_or, set, replicate, drop, Option, Some, None, refl, sym, ap, subst, ◌∙◌, append_assoc, append-nil, arith}
use Rattle.std.specs.declared.cmp.Ordering.{Ordering}
use Rattle.std.specs.declared.cmp.Ordering.TheVariants.{Less, Equal, Greater}
use Rattle.std.specs.Ordering.{nat_cmp, is_eq, eq_by_cmp, ordering_reverse}
use Rattle.std.specs.Option.{is_none}
use Rattle.std.specs.List.{AllByRecursion}
use Rattle.std.specs.Cmp.{tied_itself}
use Rattle.std.proofs.Math.Seq.{drop-cons, drop-length}
use Rattle.std.proofs.lemmas.Cmp.{nat_cmp_total}
use Rattle.std.proofs.lemmas.Bool.{false≢true}
use Rattle.std.proofs.lemmas.Map.Keys.{sorted_head, sorted_tail}
use Rattle.std.proofs.lemmas.Map.Lookups.{exact_unsigned}
use Rattle.sorted_pairs.specs.Place.{Ascends, StandsAt, FitsAt}
use Rattle.gem_object.specs.References.{references_of}
use Rattle.gem_object.specs.declared.object.Object.{Object}
use Rattle.kept_set.specs.Kept.{Objects, object_of, names_of, without, reference_count, kept_of, dropped}
use Rattle.kept_set.specs.Worklist.{unseen, name_seen, marked}

-- no object has this name
abbrev pub AreOthers : ℕ → Objects → Type 0
AreOthers name objects = AllByRecursion (λ entry. eq_by_cmp nat_cmp name entry.0 ≡ false) objects

module _ (name : ℕ) where
  -- so it isn't found
  pub none_of : (objects : Objects) (marks : List Bool) → AreOthers name objects → object_of name (unseen objects marks) ≡ None
  none_of [] marks others = refl
  none_of (entry ∷ objects) [] others = refl
  none_of (entry ∷ objects) (true ∷ marks) others = none_of objects marks others.1
  none_of (entry ∷ objects) (false ∷ marks) others =
      ap (λ b. cond b (Some entry.1) (object_of name (unseen objects marks))) others.0 ∙ none_of objects marks others.1

  -- and nothing is taken away
  pub same_without : (objects : Objects) (marks : List Bool) → AreOthers name objects → without name (unseen objects marks) ≡ unseen objects marks
  same_without [] marks others = refl
  same_without (entry ∷ objects) [] others = refl
  same_without (entry ∷ objects) (true ∷ marks) others = same_without objects marks others.1
  same_without (entry ∷ objects) (false ∷ marks) others =
      ap (λ b. cond (not b) (entry ∷ without name (unseen objects marks)) (without name (unseen objects marks))) others.0
      ∙ ap (λ rest. entry ∷ rest) (same_without objects marks others.1)

  -- names above this one
  others_above : (objects : Objects) → AllByRecursion (λ key. nat_cmp name key ≡ Less) (names_of objects) → AreOthers name objects
  others_above [] above = tt
  others_above (entry ∷ objects) above = (ap is_eq above.0, others_above objects above.1)

  turned : (other : ℕ) (r : Ordering) → nat_cmp other name ≡ r → nat_cmp name other ≡ ordering_reverse r
  turned other r is = nat_cmp_total.antisymm name other ∙ ap ordering_reverse is

  others_greater : (objects : Objects) → AllByRecursion (λ entry. nat_cmp entry.0 name ≡ Greater) objects → AreOthers name objects
  others_greater [] above = tt
  others_greater (entry ∷ objects) above = (ap is_eq (turned entry.0 Greater above.0), others_greater objects above.1)

  -- the name would stand here, so no object has it
  pub others_fit : (objects : Objects) (at : ℕ) → FitsAt nat_cmp name objects at → AreOthers name objects
  others_fit objects zero fits = others_greater objects fits
  others_fit [] (suc at) fits = tt
  others_fit (entry ∷ objects) (suc at) fits = (ap is_eq (turned entry.0 Less fits.0), others_fit objects at fits.1)

-- those after the first have other names
pub others_after : (entry : ℕ × Object) (objects : Objects) → Ascends nat_cmp (entry ∷ objects) → AreOthers entry.0 objects
others_after entry objects ascends = others_above entry.0 objects (sorted_head nat_cmp entry.0 (names_of objects) ascends)

ascend_after : (entry : ℕ × Object) (objects : Objects) → Ascends nat_cmp (entry ∷ objects) → Ascends nat_cmp objects
ascend_after entry objects ascends = sorted_tail nat_cmp entry.0 (names_of objects) ascends

-- the object that stands here was marked before, and so isn't found
pub none_marked : (name : ℕ) (objects : Objects) (marks : List Bool) (at : ℕ) (d : Bool) → Ascends nat_cmp objects → StandsAt nat_cmp name objects at
    → at < length marks → get_or marks at d ≡ true → object_of name (unseen objects marks) ≡ None
none_marked name [] marks at d ascends stands within is = absurd stands
none_marked name (entry ∷ objects) [] at d ascends stands within is = refl
none_marked name (entry ∷ objects) (true ∷ marks) zero d ascends stands within is =
    let same = exact_unsigned entry.0 name stands in
    ap (λ n. object_of n (unseen objects marks)) (sym same) ∙ none_of entry.0 objects marks (others_after entry objects ascends)
none_marked name (entry ∷ objects) (false ∷ marks) zero d ascends stands within is = absurd (false≢true is)
none_marked name (entry ∷ objects) (true ∷ marks) (suc at) d ascends stands within is =
    none_marked name objects marks at d (ascend_after entry objects ascends) stands.1 (omega (arith, within)) is
none_marked name (entry ∷ objects) (false ∷ marks) (suc at) d ascends stands within is =
    ap (λ r. cond (is_eq r) (Some entry.1) (object_of name (unseen objects marks))) (turned name entry.0 Less stands.0)
    ∙ none_marked name objects marks at d (ascend_after entry objects ascends) stands.1 (omega (arith, within)) is

-- The object that stands here is marked now: it was found, it is taken away, and its references are
-- fewer.
pub record IsMarked (name : ℕ) (objects : Objects) (marks : List Bool) (at : ℕ) (object : Object) : Type 0 where
  pub found : object_of name (unseen objects marks) ≡ Some object
  pub gone : unseen objects (set marks at true) ≡ without name (unseen objects marks)
  pub fewer : reference_count (unseen objects (set marks at true)) + length (references_of object) ≡ reference_count (unseen objects marks)

marked_first : (name : ℕ) (entry : ℕ × Object) (objects : Objects) (marks : List Bool) → Ascends nat_cmp (entry ∷ objects) → nat_cmp entry.0 name ≡ Equal
    → IsMarked name (entry ∷ objects) (false ∷ marks) 0 entry.1
marked_first name entry objects marks ascends tie =
    let test : nat_cmp name entry.0 ≡ Equal = turned name entry.0 Equal tie in
    let others : AreOthers name objects = subst (λ n. AreOthers n objects) (exact_unsigned entry.0 name tie) (others_after entry objects ascends) in
    record {
      found = ap (λ r. cond (is_eq r) (Some entry.1) (object_of name (unseen objects marks))) test;
      gone = sym (same_without name objects marks others)
          ∙ sym (ap (λ r. cond (not (is_eq r)) (entry ∷ without name (unseen objects marks)) (without name (unseen objects marks))) test);
      fewer = omega arith;
    }

marked_later : (name : ℕ) (entry : ℕ × Object) (objects : Objects) (mark : Bool) (marks : List Bool) (at : ℕ) (object : Object) → nat_cmp entry.0 name ≡ Less
    → IsMarked name objects marks at object → IsMarked name (entry ∷ objects) (mark ∷ marks) (suc at) object
marked_later name entry objects true marks at object below is = record { found = is.found; gone = is.gone; fewer = is.fewer }
marked_later name entry objects false marks at object below is =
    let test : nat_cmp name entry.0 ≡ Greater = turned name entry.0 Less below in
    let fewer = is.fewer in
    record {
      found = ap (λ r. cond (is_eq r) (Some entry.1) (object_of name (unseen objects marks))) test ∙ is.found;
      gone = ap (λ rest. entry ∷ rest) is.gone
          ∙ sym (ap (λ r. cond (not (is_eq r)) (entry ∷ without name (unseen objects marks)) (without name (unseen objects marks))) test);
      fewer = omega (arith, fewer);
    }

pub now_marked : (name : ℕ) (objects : Objects) (marks : List Bool) (at : ℕ) (d : Bool) (entry : ℕ × Object) → Ascends nat_cmp objects → StandsAt nat_cmp name objects at
    → at < length marks → get_or marks at d ≡ false → IsMarked name objects marks at (get_or objects at entry).1
now_marked name [] marks at d entry ascends stands within is = absurd stands
now_marked name (first ∷ objects) [] at d entry ascends stands within is = absurd (omega (arith, within))
now_marked name (first ∷ objects) (true ∷ marks) zero d entry ascends stands within is = absurd (false≢true (sym is))
now_marked name (first ∷ objects) (false ∷ marks) zero d entry ascends stands within is = marked_first name first objects marks ascends stands
now_marked name (first ∷ objects) (mark ∷ marks) (suc at) d entry ascends stands within is =
    marked_later name first objects mark marks at (get_or objects at entry).1 stands.0
    (now_marked name objects marks at d entry (ascend_after first objects ascends) stands.1 (omega (arith, within)) is)

-- before the first mark all objects are left
none_seen : (objects : Objects) → unseen objects (replicate (length objects) false) ≡ objects
none_seen [] = refl
none_seen (entry ∷ objects) = ap (λ rest. entry ∷ rest) (none_seen objects)

pub no_marks : (objects : Objects) (n : ℕ) (marks : List Bool) → n ≡ length objects → marks ≡ replicate n false → unseen objects marks ≡ objects
no_marks objects n marks all is = ap (unseen objects) (is ∙ ap (λ k. replicate k false) all) ∙ none_seen objects

-- ---- the names of the marked objects

-- an object and those after it are found in two lists alike
abbrev FindAlike : Objects → Objects → Objects → Type 0
FindAlike whole left objects = AllByRecursion (λ entry. object_of entry.0 whole ≡ object_of entry.0 left) objects

find_itself : (left objects : Objects) → FindAlike left left objects
find_itself left [] = tt
find_itself left (entry ∷ objects) = (refl, find_itself left objects)

find_later : (whole : Objects) (first : ℕ × Object) (left objects : Objects) → AllByRecursion (λ key. nat_cmp first.0 key ≡ Less) (names_of objects)
    → FindAlike whole (first ∷ left) objects → FindAlike whole left objects
find_later whole first left [] above alike = tt
find_later whole first left (entry ∷ objects) above alike = (
  alike.0 ∙ ap (λ r. cond (is_eq r) (Some first.1) (object_of entry.0 left)) (turned entry.0 first.0 Less above.0),
  find_later whole first left objects above.1 alike.1,
)

marked_are : (whole objects : Objects) (marks : List Bool) → length marks ≡ length objects → Ascends nat_cmp objects → FindAlike whole (unseen objects marks) objects
    → marked objects marks ≡ names_of (filter (λ entry. is_none (object_of entry.0 whole)) objects)
marked_are whole [] marks same ascends alike = refl
marked_are whole (entry ∷ objects) [] same ascends alike = absurd (omega (arith, same))
marked_are whole (entry ∷ objects) (true ∷ marks) same ascends alike =
    let rest = filter (λ e. is_none (object_of e.0 whole)) objects in
    let gone : object_of entry.0 whole ≡ None = alike.0 ∙ none_of entry.0 objects marks (others_after entry objects ascends) in
    ap (λ names. entry.0 ∷ names) (marked_are whole objects marks (omega (arith, same)) (ascend_after entry objects ascends) alike.1)
    ∙ sym (ap (λ (o : Option Object). names_of (cond (is_none o) (entry ∷ rest) rest)) gone)
marked_are whole (entry ∷ objects) (false ∷ marks) same ascends alike =
    let rest = filter (λ e. is_none (object_of e.0 whole)) objects in
    let there : object_of entry.0 whole ≡ Some entry.1 = alike.0 ∙ ap (λ r. cond (is_eq r) (Some entry.1) (object_of entry.0 (unseen objects marks))) (tied_itself nat_cmp_total entry.0) in
    marked_are whole objects marks (omega (arith, same)) (ascend_after entry objects ascends)
    (find_later whole entry (unseen objects marks) objects (sorted_head nat_cmp entry.0 (names_of objects) ascends) alike.1)
    ∙ sym (ap (λ (o : Option Object). names_of (cond (is_none o) (entry ∷ rest) rest)) there)

-- the marked objects are the kept ones, once nothing is left that a root leads to
pub kept_marked : (roots : List ℕ) (made : Objects) (marks : List Bool) → length marks ≡ length made → Ascends nat_cmp made → unseen made marks ≡ dropped roots made
    → marked made marks ≡ names_of (kept_of roots made)
unfolding kept_of
kept_marked roots made marks same ascends is =
    marked_are (unseen made marks) made marks same ascends (find_itself (unseen made marks) made)
    ∙ ap (λ whole. names_of (filter (λ entry. is_none (object_of entry.0 whole)) made)) is

-- the names from this place on
pub marked_next : (objects : Objects) (marks : List Bool) (at : ℕ) (entry : ℕ × Object) (d : Bool) → at < length objects → at < length marks → entry ≡ get_or objects at entry
    → marked (drop at objects) (drop at marks) ≡ name_seen (get_or marks at d) entry.0 ++ marked (drop (suc at) objects) (drop (suc at) marks)
marked_next objects marks at entry d within in_marks is =
    (λ i. marked (here i) (mark i))
  where
    here : drop at objects ≡ entry ∷ drop (suc at) objects
    here = drop-cons objects at entry within ∙ ap (λ e. e ∷ drop (suc at) objects) (sym is)

    mark : drop at marks ≡ get_or marks at d ∷ drop (suc at) marks
    mark = drop-cons marks at d in_marks

-- one more name is there
pub next_marked : (objects : Objects) (marks : List Bool) (at : ℕ) (entry : ℕ × Object) (d : Bool) (before now : List ℕ) → at < length objects → at < length marks → entry ≡ get_or objects at entry
    → now ≡ before ++ name_seen (get_or marks at d) entry.0
    → before ++ marked (drop at objects) (drop at marks) ≡ marked objects marks
    → now ++ marked (drop (at + 1) objects) (drop (at + 1) marks) ≡ marked objects marks
next_marked objects marks at entry d before now within in_marks is added so_far =
    let one : at + 1 ≡ suc at = omega arith in
    let rest = marked (drop (suc at) objects) (drop (suc at) marks) in
    ap (λ n. now ++ marked (drop n objects) (drop n marks)) one
    ∙ ap (λ names. names ++ rest) added
    ∙ append_assoc before (name_seen (get_or marks at d) entry.0) rest
    ∙ ap (λ names. before ++ names) (sym (marked_next objects marks at entry d within in_marks is))
    ∙ so_far

-- nothing comes after the last place
pub marked_end : (objects : Objects) (marks : List Bool) (at : ℕ) (now : List ℕ) → at ≡ length objects
    → now ++ marked (drop at objects) (drop at marks) ≡ marked objects marks → now ≡ marked objects marks
marked_end objects marks at now over so_far =
    sym (ap (λ (rest : Objects). now ++ marked rest (drop at marks)) (ap (λ n. drop n objects) over ∙ drop-length objects) ∙ append-nil now) ∙ so_far
