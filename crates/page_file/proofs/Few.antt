-- An extent uses no page twice, so it uses no more pages than there are numbers for them, and as many
-- as a list has that names each of them once.
use Rattle.std.proofs.Common.{◌≡◌, ℕ, ◌+◌, ◌*◌, ◌≤◌, ◌<◌, Bool, true, false, cond, not, ◌||◌, ◌==◌, eqb, ltb, leb, List, [], ◌∷◌, ◌++◌, length, Some, None, refl, sym, ap, subst, ◌∙◌, arith, append-nil, length-append}
use Rattle.std.proofs.lemmas.Bool.{false≢true}
use Rattle.std.proofs.lemmas.Bool.Decides.{nat_tests}
use Rattle.std.specs.List.{AllByRecursion, IsDistinct, list_any}
use Rattle.std.proofs.lemmas.Map.Steps.{length-le_from_distinct_below}
use Rattle.std.proofs.lemmas.Map.Made.{length-from_same_keys}
use Rattle.std.proofs.lemmas.Cmp.{nat_eq_equiv}
use Rattle.extent_pages.specs.Pages.{page_size, most_pages, page_of, is_inside, pages_of, is_one_of, is_free}
use Rattle.extent_pages.specs.Extent.{Leaf, Extent, pages_of_leaves, pages_used}
use Rattle.extent_pages.specs.Laid.{Links, AreFree, LeavesLie, IsLaid}
use Rattle.extent_pages.proofs.Tests.{both_true, one_here, one_later}
use Rattle.extent_plan.specs.Runs.{AscendFrom}
use Rattle.extent_plan.proofs.Marking.{one_of_both}
use Rattle.page_file.proofs.Files.{Each, each_with, each_used}

-- ---- numbers of pages

abbrev pub IsNumber : ℕ → Type 0
IsNumber page = page < most_pages

there_few : (file : List ℕ) (page : ℕ) (bytes : List ℕ) → pages_of file page ≡ Some bytes → IsNumber page
there_few file page bytes there = by (is_inside file page) refl there
  where
    by : (b : Bool) → is_inside file page ≡ b → cond b (Some (page_of file page)) None ≡ Some bytes → IsNumber page
    by false is e = absurd cc
    by true is e = let both = both_true (ltb page most_pages) (leb (page_size * page + page_size) (length file)) is in grind (arith, nat_tests, both.0)

links_few : (file : List ℕ) (pages payload : List ℕ) → Links (pages_of file) pages payload → Each IsNumber pages
links_few file [] payload links = absurd links
links_few file (page ∷ []) payload (bytes, is, holds) = each_with IsNumber page [] (there_few file page bytes is.there) (λ other one. absurd (false≢true one))
links_few file (page ∷ next ∷ pages) payload (bytes, rest, is, holds, links) =
    each_with IsNumber page (next ∷ pages) (there_few file page bytes is.there) (links_few file (next ∷ pages) rest links)

pub used_few : (file : List ℕ) (page : ℕ) (extent : Extent) → IsLaid (pages_of file) page extent → (other : ℕ)
    → is_one_of other (pages_used extent) ≡ true → other < most_pages
used_few file page extent laid = each_used IsNumber (pages_of file) (λ taken chain is. links_few file chain.pages chain.payload is.links) page extent laid

-- ---- none twice

-- pages taken one after the other
abbrev walked : List ℕ → List ℕ → List ℕ
walked [] taken = taken
walked (page ∷ pages) taken = walked pages (page ∷ taken)

abbrev Same : List ℕ → List ℕ → Type 0
Same seen taken = (page : ℕ) → is_one_of page seen ≡ is_one_of page taken

or_swap : (a b c : Bool) → (a || (b || c)) ≡ (b || (a || c))
or_swap true true c = refl
or_swap true false c = refl
or_swap false true c = refl
or_swap false false c = refl

middle : (page first : ℕ) (pages more : List ℕ)
    → ((page == first) || is_one_of page (pages ++ more)) ≡ is_one_of page (pages ++ first ∷ more)
middle page first [] more = refl
middle page first (other ∷ pages) more =
    or_swap (page == first) (page == other) (is_one_of page (pages ++ more)) ∙ ap (λ (b : Bool). (page == other) || b) (middle page first pages more)

or_none : (a b : Bool) → (a || b) ≡ false → (a ≡ false) × (b ≡ false)
or_none true b e = absurd (false≢true (sym e))
or_none false b e = (refl, e)

apart_from : (page : ℕ) (taken : List ℕ) → is_one_of page taken ≡ false
    → AllByRecursion (λ (other : ℕ). eqb page other ≡ false) taken
apart_from page [] none = tt
apart_from page (other ∷ taken) none = let both = or_none (page == other) (is_one_of page taken) none in (both.0, apart_from page taken both.1)

not_taken : (taken : List ℕ) (page : ℕ) → is_free taken page ≡ true → is_one_of page taken ≡ false
not_taken taken page free = by (is_one_of page taken) refl (both_true (leb 3 page) (not (is_one_of page taken)) free).1
  where
    by : (b : Bool) → is_one_of page taken ≡ b → not b ≡ true → b ≡ false
    by true is e = absurd (false≢true e)
    by false is e = refl

none_twice : (page : ℕ) (taken : List ℕ) → is_one_of page taken ≡ false → IsDistinct eqb taken
    → IsDistinct eqb (page ∷ taken)
unfolding IsDistinct
none_twice page taken none distinct = (apart_from page taken none, distinct)

nothing_twice : IsDistinct eqb []
unfolding IsDistinct
nothing_twice = tt

-- pages that were taken, none twice, beside those that are said to be
record Walk (seen taken : List ℕ) (count : ℕ) : Type 0 where
  distinct : IsDistinct eqb taken
  same : Same seen taken
  long : length taken ≡ count
  each : Each IsNumber taken

walk : (pages seen taken : List ℕ) (count : ℕ) → AreFree seen pages → Each IsNumber pages → Walk seen taken count
    → Walk (pages ++ seen) (walked pages taken) (count + length pages)
walk [] seen taken count free each so_far = record {
  distinct = so_far.distinct;
  same = so_far.same;
  long = omega (arith, so_far.long);
  each = so_far.each;
}
walk (page ∷ pages) seen taken count (here, free) each so_far =
    let none : is_one_of page taken ≡ false = sym (so_far.same page) ∙ not_taken seen page here in
    let further = walk pages (page ∷ seen) (page ∷ taken) (count + 1) free (λ p one. each p (later p one)) record {
      distinct = none_twice page taken none so_far.distinct;
      same = λ p. ap (λ (b : Bool). (p == page) || b) (so_far.same p);
      long = omega (arith, so_far.long);
      each = each_with IsNumber page taken (each page (first page pages)) so_far.each;
    } in
    record {
      distinct = further.distinct;
      same = λ p. middle p page pages seen ∙ further.same p;
      long = omega (arith, further.long);
      each = further.each;
    }
  where
    later : (p : ℕ) → is_one_of p pages ≡ true → is_one_of p (page ∷ pages) ≡ true
    later p one = one_later p page pages one

    first : (p : ℕ) (rest : List ℕ) → is_one_of p (p ∷ rest) ≡ true
    first p rest = one_here p rest

or_regroup : (a b c : Bool) → (a || (b || c)) ≡ ((b || a) || c)
or_regroup true true c = refl
or_regroup true false c = refl
or_regroup false true c = refl
or_regroup false false c = refl

or_swapped : (a b : Bool) → (a || b) ≡ (b || a)
or_swapped true true = refl
or_swapped true false = refl
or_swapped false true = refl
or_swapped false false = refl

-- pages that ascend differ
above_apart : (page from : ℕ) (pages : List ℕ) → page < from → AscendFrom from pages
    → AllByRecursion (λ (other : ℕ). eqb page other ≡ false) pages
above_apart page from [] less ascend = tt
above_apart page from (other ∷ pages) less (here, ascend) =
    (not_same page other (omega (arith, less, here)), above_apart page (other + 1) pages (omega (arith, less, here)) ascend)
  where
    not_same : (a b : ℕ) → a < b → eqb a b ≡ false
    not_same a b low = grind (arith, nat_tests)

ascend_distinct : (from : ℕ) (pages : List ℕ) → AscendFrom from pages → IsDistinct eqb pages
unfolding IsDistinct
ascend_distinct from [] ascend = tt
ascend_distinct from (page ∷ pages) (here, ascend) = (above_apart page (page + 1) pages (omega arith) ascend, ascend_distinct (page + 1) pages ascend)

-- the walk over leaves
record Walked (seen pages : List ℕ) (count : ℕ) : Type 0 where
  taken : List ℕ
  distinct : IsDistinct eqb taken
  long : length taken ≡ count
  each : Each IsNumber taken
  same : (page : ℕ) → is_one_of page taken ≡ (is_one_of page pages || is_one_of page seen)

walk_leaves : (file seen taken : List ℕ) (count : ℕ) (leaves : List Leaf) → LeavesLie (pages_of file) seen leaves
    → Walk seen taken count
    → Walked seen (pages_of_leaves leaves) (count + length (pages_of_leaves leaves))
walk_leaves file seen taken count [] lie so_far = record {
  taken = taken;
  distinct = so_far.distinct;
  long = omega (arith, so_far.long);
  each = so_far.each;
  same = λ page. sym (so_far.same page);
}
walk_leaves file seen taken count (leaf ∷ leaves) (lies, lie) so_far =
    let next = walk leaf.pages seen taken count lies.chain.free (links_few file leaf.pages lies.payload lies.chain.links) so_far in
    let further = walk_leaves file (leaf.pages ++ seen) (walked leaf.pages taken) (count + length leaf.pages) leaves lie next in
    record {
      taken = further.taken;
      distinct = further.distinct;
      long = further.long ∙ sum (length leaf.pages) (length (pages_of_leaves leaves)) (length (pages_of_leaves (leaf ∷ leaves))) (length-append leaf.pages (pages_of_leaves leaves));
      each = further.each;
      same = λ page. further.same page ∙ regroup page;
    }
  where
    sum : (a b c : ℕ) → c ≡ a + b → (count + a) + b ≡ count + c
    sum a b c e = omega (arith, e)

    regroup : (page : ℕ) → (is_one_of page (pages_of_leaves leaves) || is_one_of page (leaf.pages ++ seen))
        ≡ (is_one_of page (leaf.pages ++ pages_of_leaves leaves) || is_one_of page seen)
    regroup page = ap (λ (b : Bool). is_one_of page (pages_of_leaves leaves) || b) (one_of_both page leaf.pages seen)
        ∙ or_regroup (is_one_of page (pages_of_leaves leaves)) (is_one_of page leaf.pages) (is_one_of page seen)
        ∙ ap (λ (b : Bool). b || is_one_of page seen) (sym (one_of_both page leaf.pages (pages_of_leaves leaves)))

any_one : (page : ℕ) (pages : List ℕ) → list_any (eqb page) pages ≡ is_one_of page pages
any_one page [] = refl
any_one page (other ∷ pages) = ap (λ (b : Bool). eqb page other || b) (any_one page pages)

module _ (file : List ℕ) (page : ℕ) (extent : Extent) (laid : IsLaid (pages_of file) page extent) where
  all_walked : Walked extent.directory (pages_of_leaves extent.leaves)
      (0 + length extent.directory + length (pages_of_leaves extent.leaves))
  all_walked =
      let start : Walk [] [] 0 = record { distinct = nothing_twice; same = λ p. refl; long = refl; each = λ p one. absurd (false≢true one) } in
      let directory = walk extent.directory [] [] 0 laid.chain.free (links_few file extent.directory laid.payload laid.chain.links) start in
      let from : Walk extent.directory (walked extent.directory []) (0 + length extent.directory) =
      subst (λ (l : List ℕ). Walk l (walked extent.directory []) (0 + length extent.directory)) (append-nil extent.directory) directory in
      walk_leaves file extent.directory (walked extent.directory []) (0 + length extent.directory) extent.leaves laid.leaves from

  -- the pages of the leaves are no more than there are numbers
  pub leaves_few : length (pages_of_leaves extent.leaves) ≤ most_pages
  leaves_few =
      let all = all_walked in
      let few = length-le_from_distinct_below all.taken most_pages all.distinct (λ p one. all.each p (sym (any_one p all.taken) ∙ one)) in
      omega (arith, few, all.long)

  -- pages that ascend, and are those that the extent uses, are as many
  pub used_many : (used : List ℕ) (from : ℕ) → AscendFrom from used
      → ((p : ℕ) → is_one_of p used ≡ is_one_of p (pages_used extent)) → length used ≡ length (pages_used extent)
  used_many used from ascend are =
      let all = all_walked in
      let same = length-from_same_keys nat_eq_equiv used all.taken (ascend_distinct from used ascend) all.distinct
      (λ p. any_one p used ∙ are p ∙ one_of_both p extent.directory (pages_of_leaves extent.leaves) ∙ or_swapped (is_one_of p extent.directory) (is_one_of p (pages_of_leaves extent.leaves))
      ∙ sym (all.same p) ∙ sym (any_one p all.taken)) in
      let sum = length-append extent.directory (pages_of_leaves extent.leaves) in
      omega (arith, same, sum, all.long)
