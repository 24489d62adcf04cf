-- Lists of pages: runs that grow, and what is one of a list.
use Rattle.std.proofs.Common.{◌≡◌, ◌≢◌, ℕ, ◌+◌, ◌-◌, ◌≤◌, ◌<◌, ◌==◌, Bool, true, false, ◌||◌, List, [], ◌∷◌, ◌++◌, length, refl, sym, ap, subst, ◌∙◌, arith, length-append, append_assoc}
use Rattle.std.proofs.lemmas.Bool.{false≢true, eq-eqb}
use Rattle.std.proofs.lemmas.Bool.Decides.{nat_tests}
use Rattle.extent_pages.specs.Pages.{most_pages, is_one_of}
use Rattle.extent_pages.proofs.Tests.{one_right, one_here}
use Rattle.extent_plan.specs.Runs.{AscendFrom, behind, AreKept, IsRun}

pub run_more : (kept : List ℕ) (from : ℕ) (pages : List ℕ) (page : ℕ) → IsRun kept from pages
    → behind from pages ≤ page → AreKept kept (behind from pages) page
    → is_one_of page kept ≡ false → page < most_pages → IsRun kept from (pages ++ page ∷ [])
run_more kept from [] page run least between free few = (least, free, few, between, tt)
run_more kept from (first ∷ pages) page run least between free few =
    (run.0, run.1, run.2, run.3, run_more kept (first + 1) pages page run.4 least between free few)

pub behind_more : (from : ℕ) (pages : List ℕ) (page : ℕ) → behind from (pages ++ page ∷ []) ≡ page + 1
behind_more from [] page = refl
behind_more from (first ∷ pages) page = behind_more (first + 1) pages page

pub not_same : (page other : ℕ) → page ≢ other → (page == other) ≡ false
not_same page other differ = grind (arith, nat_tests)

-- a page below all of them is none of them
pub none_from : (page from : ℕ) (pages : List ℕ) → page < from → AscendFrom from pages
    → is_one_of page pages ≡ false
none_from page from [] below ascend = refl
none_from page from (first ∷ pages) below ascend =
    ap (λ b. b || is_one_of page pages) (not_same page first (λ e. omega (arith, ascend.0, below, e)))
    ∙ none_from page (first + 1) pages (omega (arith, ascend.0, below)) ascend.1

-- none of two lists
pub none_of_both : (page : ℕ) (pages more : List ℕ) → is_one_of page pages ≡ false
    → is_one_of page more ≡ false → is_one_of page (pages ++ more) ≡ false
none_of_both page [] more none other = other
none_of_both page (first ∷ pages) more none other = by (page == first) none (none_of_both page pages more) where
  by : (b : Bool) → (b || is_one_of page pages) ≡ false
      → (is_one_of page pages ≡ false → is_one_of page more ≡ false → is_one_of page (pages ++ more) ≡ false)
      → (b || is_one_of page (pages ++ more)) ≡ false
  by true e further = e
  by false e further = further e other

-- ---- the walk over the pages that are used

-- some of the used pages are passed; so many pages were taken, each below this one
pub record Walked (used rest pages : List ℕ) (page : ℕ) : Type 0 where
  pub done : List ℕ
  pub whole : used ≡ done ++ rest
  pub ascend : AscendFrom page rest
  pub run : IsRun used 3 pages
  pub least : behind 3 pages ≤ page
  pub between : AreKept used (behind 3 pages) page
  pub passed : (other : ℕ) → page ≤ other → is_one_of other done ≡ false
  pub count : page ≡ 3 + length done + length pages

pub walk_start : (used : List ℕ) → AscendFrom 3 used → Walked used used [] 3
walk_start used ascend = record {
  done = [];
  whole = refl;
  ascend = ascend;
  run = tt;
  least = omega arith;
  between = λ page least most. absurd (omega (arith, least, most));
  passed = λ other least. refl;
  count = refl;
}

pub walk_skip : (used pages behind_it : List ℕ) (page : ℕ) → Walked used (page ∷ behind_it) pages page
    → Walked used behind_it pages (page + 1)
walk_skip used pages behind_it page w = record {
  done = w.done ++ page ∷ [];
  whole = w.whole ∙ sym (append_assoc w.done (page ∷ []) behind_it);
  ascend = w.ascend.1;
  run = w.run;
  least = omega (arith, w.least);
  between = between;
  passed = λ other least. none_of_both other w.done (page ∷ []) (w.passed other (omega (arith, least)))
      (ap (λ b. b || false) (not_same other page (λ e. omega (arith, least, e))));
  count = omega (arith, w.count, length-append w.done (page ∷ []));
} where
  here : is_one_of page used ≡ true
  here = subst (λ l. is_one_of page l ≡ true) (sym w.whole)
      (one_right page w.done (page ∷ behind_it) (one_here page behind_it))

  between : AreKept used (behind 3 pages) (page + 1)
  between other least most = by (other == page) refl where
    by : (b : Bool) → (other == page) ≡ b → is_one_of other used ≡ true
    by true e =
        let same : other ≡ page = grind (arith, nat_tests, e) in
        subst (λ (p : ℕ). is_one_of p used ≡ true) (sym same) here
    by false e =
        let differ : other ≢ page = λ is. false≢true (sym e ∙ eq-eqb other page is) in
        w.between other least (omega (arith, most, differ))

-- a list that begins with another page goes on from the next one
later : (page : ℕ) (rest : List ℕ) → AscendFrom page rest → ((behind_it : List ℕ) → rest ≢ page ∷ behind_it)
    → AscendFrom (page + 1) rest
later page [] ascend other = tt
later page (first ∷ rest) ascend other =
    let differ : first ≢ page = λ e. other rest (ap (λ (p : ℕ). p ∷ rest) e) in
    (omega (arith, ascend.0, differ), ascend.1)

pub walk_take : (used rest pages : List ℕ) (page : ℕ) → Walked used rest pages page
    → ((behind_it : List ℕ) → rest ≢ page ∷ behind_it) → page < most_pages
    → Walked used rest (pages ++ page ∷ []) (page + 1)
walk_take used rest pages page w other few =
    let ascend = later page rest w.ascend other in
    let free : is_one_of page used ≡ false = subst (λ l. is_one_of page l ≡ false) (sym w.whole)
    (none_of_both page w.done rest (w.passed page (omega arith)) (none_from page (page + 1) rest (omega arith) ascend)) in
    let last = behind_more 3 pages page in
    record {
      done = w.done;
      whole = w.whole;
      ascend = ascend;
      run = run_more used 3 pages page w.run w.least w.between free few;
      least = omega (arith, last);
      between = λ p least most. absurd (omega (arith, last, least, most));
      passed = λ p least. w.passed p (omega (arith, least));
      count = omega (arith, w.count, length-append pages (page ∷ []));
    }

-- fewer are passed than are used
pub walk_room : (used rest pages : List ℕ) (page : ℕ) → Walked used rest pages page
    → length used ≡ length rest + (page - 3 - length pages)
walk_room used rest pages page w =
    let whole : length used ≡ length w.done + length rest = ap length w.whole ∙ length-append w.done rest in
    omega (arith, whole, w.count)
