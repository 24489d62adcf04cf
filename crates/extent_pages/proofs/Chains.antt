-- A chain that is read page by page.
use Rattle.std.proofs.Common.{◌≡◌, ◌≢◌, ℕ, suc, ◌≤◌, Bool, true, false, cond, ◌||◌, eqb, List, [], ◌∷◌, ◌++◌, length, Result, Ok, Err, refl, sym, ap, subst, ◌∙◌, append_assoc, arith}
use Rattle.std.proofs.lemmas.Bool.{eq-eqb}
use Rattle.std.proofs.lemmas.Bool.Decides.{nat_tests}
use Rattle.gem_disk.specs.declared.disk.Which.TheVariants.{Extent}
use Rattle.gem_disk.specs.Disk.{Past, reads}
use Rattle.extent_pages.specs.declared.fault.PageRule.{PageRule}
use Rattle.extent_pages.specs.declared.fault.PageRule.TheVariants as rule
use Rattle.extent_pages.specs.declared.fault.PageFault.{PageFault}
use Rattle.extent_pages.specs.declared.fault.PageFault.TheVariants.{NotPages, Disk, NoMemory}
use Rattle.extent_pages.specs.Pages.{most_pages, Book, pages_of, next_in, payload_in, is_one_of, Fault, page_at, Chain, one_page, in_front, linked, chain_at, chain_from}
use Rattle.extent_pages.specs.Reads.{IsFault, BreaksPage, Marks}

-- what was read so far in front of what is left
pub in_fronts : List ℕ → List ℕ → Result Chain Fault → Result Chain Fault
in_fronts pages payload (Ok chain) = Ok (record { pages = pages ++ chain.pages; payload = payload ++ chain.payload })
in_fronts pages payload (Err fault) = Err fault

fronts_none : (r : Result Chain Fault) → in_fronts [] [] r ≡ r
unfolding in_fronts
fronts_none (Ok chain) = refl
fronts_none (Err fault) = refl

fronts_more : (pages payload : List ℕ) (page : ℕ) (bytes : List ℕ) (r : Result Chain Fault)
    → in_fronts pages payload (in_front page bytes r) ≡ in_fronts (pages ++ page ∷ []) (payload ++ payload_in bytes) r
unfolding in_fronts
fronts_more pages payload page bytes (Ok chain) = rw (
  append_assoc pages (page ∷ []) chain.pages,
  append_assoc payload (payload_in bytes) chain.payload,
) refl
fronts_more pages payload page bytes (Err fault) = refl

or_swap : (a b c : Bool) → (a || (b || c)) ≡ (b || (a || c))
or_swap true true c = refl
or_swap true false c = refl
or_swap false true c = refl
or_swap false false c = refl

one_between : (p page : ℕ) (pages taken : List ℕ)
    → (eqb p page || is_one_of p (pages ++ taken)) ≡ is_one_of p ((pages ++ page ∷ []) ++ taken)
one_between p page [] taken = refl
one_between p page (q ∷ pages) taken =
    or_swap (eqb p page) (eqb p q) (is_one_of p (pages ++ taken))
    ∙ ap (λ b. eqb p q || b) (one_between p page pages taken)

-- So much of a chain was read: these pages, which hold this payload. So many pages may follow, of
-- which this is the first.
pub record ChainSoFar (book : Book) (taken : List ℕ) (first : ℕ) (marks : List Bool) (pages payload : List ℕ) (page left : ℕ) : Type 0 where
  pub used : List ℕ
  pub marked : Marks marks used
  pub used_are : (p : ℕ) → is_one_of p used ≡ is_one_of p (pages ++ taken)
  pub whole : chain_from book taken first ≡ in_fronts pages payload (chain_at left book used page)

pub chain_first : (book : Book) (taken : List ℕ) (first : ℕ) (marks : List Bool) (left : ℕ) → left ≡ most_pages
    → Marks marks taken → ChainSoFar book taken first marks [] [] first left
unfolding chain_from
chain_first book taken first marks left most marked = record {
  used = taken;
  marked = marked;
  used_are = λ p. refl;
  whole = ap (λ (n : ℕ). chain_at n book taken first) (sym most) ∙ sym (fronts_none (chain_at left book taken first));
}

module _ (book : Book) (taken : List ℕ) (first : ℕ) (marks : List Bool) (pages payload : List ℕ) (page left : ℕ)
    (so_far : ChainSoFar book taken first marks pages payload page (suc left)) where
  abbrev behind : List ℕ → Result Chain Fault
  behind bytes = chain_at left book (page ∷ so_far.used) (next_in bytes)

  -- the page that the definition looks at next
  pub at_page : (r : Result (List ℕ) PageRule) → page_at book so_far.used page ≡ r
      → chain_from book taken first ≡ in_fronts pages payload (linked page r behind)
  at_page r e = so_far.whole ∙ ap (λ z. in_fronts pages payload (linked page z behind)) e

  pub chain_more : (bytes : List ℕ) (marks' : List Bool) → page_at book so_far.used page ≡ Ok bytes
      → eqb (next_in bytes) 0 ≡ false → Marks marks' (page ∷ so_far.used)
      → ChainSoFar book taken first marks' (pages ++ page ∷ []) (payload ++ payload_in bytes) (next_in bytes) left
  chain_more bytes marks' read goes marked = record {
    used = page ∷ so_far.used;
    marked = marked;
    used_are = λ p. ap (λ b. eqb p page || b) (so_far.used_are p) ∙ one_between p page pages taken;
    whole = at_page (Ok bytes) read
        ∙ ap (λ b. in_fronts pages payload (cond b (Ok (one_page page bytes)) (in_front page bytes (behind bytes)))) goes
        ∙ fronts_more pages payload page bytes (behind bytes);
  }

  pub chain_ends : (bytes : List ℕ) → page_at book so_far.used page ≡ Ok bytes → eqb (next_in bytes) 0 ≡ true
      → chain_from book taken first ≡ Ok (record { pages = pages ++ page ∷ []; payload = payload ++ payload_in bytes })
  unfolding in_fronts
  chain_ends bytes read ends = at_page (Ok bytes) read
      ∙ ap (λ b. in_fronts pages payload (cond b (Ok (one_page page bytes)) (in_front page bytes (behind bytes)))) ends

  pub chain_marked : (marks' : List Bool) → Marks marks' (page ∷ so_far.used) → Marks marks' ((pages ++ page ∷ []) ++ taken)
  chain_marked marks' marked p below = marked p below
      ∙ ap (λ b. eqb p page || b) (so_far.used_are p) ∙ one_between p page pages taken

  pub chain_breaks : (fault : PageFault) → BreaksPage page fault (page_at book so_far.used page)
      → IsFault fault (chain_from book taken first)
  unfolding in_fronts
  chain_breaks (NotPages at broken) breaks = (page, breaks.0, at_page (Err broken) breaks.1)
  chain_breaks Disk breaks = tt
  chain_breaks NoMemory breaks = tt

-- no page is left that the chain could use once
pub chain_over : (book : Book) (taken : List ℕ) (first : ℕ) (marks : List Bool) (pages payload : List ℕ) (page left : ℕ)
    → left ≡ 0 → ChainSoFar book taken first marks pages payload page left
    → chain_from book taken first ≡ Err (page, rule.Taken)
unfolding in_fronts
chain_over book taken first marks pages payload page left none so_far =
    so_far.whole ∙ ap (λ (n : ℕ). in_fronts pages payload (chain_at n book so_far.used page)) none

-- what the loop keeps
pub record ChainRuns (tells : Type 0) (before now : Past) (was is : ℕ) (marks_before marks : List Bool) (first : ℕ)
    (pages payload : List ℕ) (page left : ℕ) : Type 0 where
  pub past : tells → now ≡ before
  pub later : was ≤ is
  pub quiet : is ≡ was
  pub long : length marks ≡ most_pages
  pub so_far : (taken : List ℕ) → tells → Marks marks_before taken
      → ChainSoFar (pages_of (reads before Extent)) taken first marks pages payload page left

pub runs_first : (tells : Type 0) (before now : Past) (was is : ℕ) (marks : List Bool) (first left : ℕ) → left ≡ most_pages
    → (tells → now ≡ before) → is ≡ was → length marks ≡ most_pages
    → ChainRuns tells before now was is marks marks first [] [] first left
runs_first tells before now was is marks first left most past quiet long = record {
  past = past;
  later = omega (arith, quiet);
  quiet = quiet;
  long = long;
  so_far = λ taken tell marked. chain_first (pages_of (reads before Extent)) taken first marks left most marked;
}

module _ (tells : Type 0) (before now : Past) (was is : ℕ) (marks_before marks : List Bool) (first : ℕ)
    (pages payload : List ℕ) (page left less : ℕ) (one : left ≡ suc less)
    (runs : ChainRuns tells before now was is marks_before marks first pages payload page left) where
  here : (taken : List ℕ) → tells → Marks marks_before taken
      → ChainSoFar (pages_of (reads before Extent)) taken first marks pages payload page (suc less)
  here taken tell marked = subst (λ (n : ℕ). ChainSoFar (pages_of (reads before Extent)) taken first marks pages payload page n)
      one (runs.so_far taken tell marked)

  pub runs_breaks : (fault : PageFault)
      → ((taken : List ℕ) → tells → Marks marks taken → BreaksPage page fault (page_at (pages_of (reads now Extent)) taken page))
      → (taken : List ℕ) → tells → Marks marks_before taken
      → IsFault fault (chain_from (pages_of (reads before Extent)) taken first)
  runs_breaks fault breaks taken tell marked =
      let so = here taken tell marked in
      chain_breaks (pages_of (reads before Extent)) taken first marks pages payload page less so fault
      (subst (λ p. BreaksPage page fault (page_at (pages_of (reads p Extent)) so.used page)) (runs.past tell) (breaks so.used tell so.marked))

  module _ (bytes : List ℕ) (marks' : List Bool) (next : ℕ) (next_is : next ≡ next_in bytes)
      (read : (taken : List ℕ) → tells → Marks marks taken → page_at (pages_of (reads now Extent)) taken page ≡ Ok bytes)
      (marked_new : (taken : List ℕ) → tells → Marks marks taken → Marks marks' (page ∷ taken))
      (pages' payload' : List ℕ) (pages_are : pages' ≡ pages ++ page ∷ []) (payload_is : payload' ≡ payload ++ payload_in bytes) where
    read_here : (taken : List ℕ) (tell : tells) (marked : Marks marks_before taken)
        → page_at (pages_of (reads before Extent)) (here taken tell marked).used page ≡ Ok bytes
    read_here taken tell marked =
        let so = here taken tell marked in
        subst (λ p. page_at (pages_of (reads p Extent)) so.used page ≡ Ok bytes) (runs.past tell) (read so.used tell so.marked)

    pub runs_end : next ≡ 0 → (taken : List ℕ) → tells → Marks marks_before taken
        → chain_from (pages_of (reads before Extent)) taken first ≡ Ok (record { pages = pages'; payload = payload' })
    runs_end none taken tell marked =
        let so = here taken tell marked in
        let ends : eqb (next_in bytes) 0 ≡ true = eq-eqb (next_in bytes) 0 (sym next_is ∙ none) in
        rw (pages_are, payload_is) (chain_ends (pages_of (reads before Extent)) taken first marks pages payload page less so bytes
        (read_here taken tell marked) ends)

    pub runs_marked : (taken : List ℕ) → tells → Marks marks_before taken → Marks marks' (pages' ++ taken)
    runs_marked taken tell marked =
        let so = here taken tell marked in
        subst (λ (l : List ℕ). Marks marks' (l ++ taken)) (sym pages_are)
        (chain_marked (pages_of (reads before Extent)) taken first marks pages payload page less so marks' (marked_new so.used tell so.marked))

    pub runs_more : next ≢ 0 → (later : Past) (then : ℕ) → (tells → later ≡ now) → then ≡ is → length marks' ≡ most_pages
        → ChainRuns tells before later was then marks_before marks' first pages' payload' next less
    runs_more some later then same after long =
        let goes : eqb (next_in bytes) 0 ≡ false = grind (arith, nat_tests, some, next_is) in
        record {
          past = λ tell. same tell ∙ runs.past tell;
          later = omega (arith, runs.later, after);
          quiet = after ∙ runs.quiet;
          long = long;
          so_far = λ taken tell marked.
              let so = here taken tell marked in
              rw (pages_are, payload_is, next_is) (chain_more (pages_of (reads before Extent)) taken first marks pages payload page less so
              bytes marks' (read_here taken tell marked) goes (marked_new so.used tell so.marked));
        }

pub runs_over : (tells : Type 0) (before now : Past) (was is : ℕ) (marks_before marks : List Bool) (first : ℕ)
    (pages payload : List ℕ) (page left : ℕ) → left ≡ 0
    → ChainRuns tells before now was is marks_before marks first pages payload page left
    → (taken : List ℕ) → tells → Marks marks_before taken
    → chain_from (pages_of (reads before Extent)) taken first ≡ Err (page, rule.Taken)
runs_over tells before now was is marks_before marks first pages payload page left none runs taken tell marked =
    chain_over (pages_of (reads before Extent)) taken first marks pages payload page left none (runs.so_far taken tell marked)
