-- Pages that are marked, and those that are collected.
use Rattle.std.proofs.Common.{◌≡◌, ◌≢◌, ◌⊎◌, inl, inr, ℕ, zero, suc, replicate, ◌+◌, ◌≤◌, ◌<◌, ◌==◌, Bool, true, false, ◌||◌, List, [], ◌∷◌, ◌++◌, length, take, drop, get_or, refl, sym, ap, subst, ◌∙◌, length-append, arith}
use Rattle.std.specs.List.{AllByRecursion}
use Rattle.std.proofs.lemmas.Bool.{eq-eqb}
use Rattle.std.proofs.lemmas.List.{take_at}
use Rattle.extent_pages.specs.Pages.{is_one_of}
use Rattle.extent_plan.specs.Runs.{AscendFrom, behind}
use Rattle.extent_plan.specs.Used.{Collected}
use Rattle.extent_plan.proofs.Runs.{behind_more, not_same, none_of_both}

or_assoc : (a b c : Bool) → ((a || b) || c) ≡ (a || (b || c))
or_assoc true b c = refl
or_assoc false b c = refl

pub or_none : (b : Bool) → (b || false) ≡ b
or_none true = refl
or_none false = refl

-- what is one of two lists
pub one_of_both : (page : ℕ) (pages more : List ℕ) → is_one_of page (pages ++ more) ≡ (is_one_of page pages || is_one_of page more)
one_of_both page [] more = refl
one_of_both page (first ∷ pages) more =
    ap (λ b. (page == first) || b) (one_of_both page pages more) ∙ sym (or_assoc (page == first) (is_one_of page pages) (is_one_of page more))

-- the marks of what is left, with those so far, are the marks of all
abbrev pub Marking : List Bool → List Bool → List ℕ → List ℕ → Type 0
Marking old now rest whole = (page : ℕ) → page < length old
    → (get_or now page false || is_one_of page rest) ≡ (get_or old page false || is_one_of page whole)

pub mark_more : (old now new : List Bool) (pages rest whole : List ℕ) → length now ≡ length old
    → ((page : ℕ) → page < length now → get_or new page false ≡ (get_or now page false || is_one_of page pages))
    → Marking old now (pages ++ rest) whole → Marking old new rest whole
mark_more old now new pages rest whole long marked so page inside =
    ap (λ b. b || is_one_of page rest) (marked page (subst (λ (n : ℕ). page < n) (sym long) inside))
    ∙ or_assoc (get_or now page false) (is_one_of page pages) (is_one_of page rest)
    ∙ ap (λ b. get_or now page false || b) (sym (one_of_both page pages rest)) ∙ so page inside

pub mark_end : (old now : List Bool) (whole : List ℕ) → Marking old now [] whole
    → (page : ℕ) → page < length old → get_or now page false ≡ (get_or old page false || is_one_of page whole)
mark_end old now whole so page inside = sym (or_none (get_or now page false)) ∙ so page inside

-- ---- collecting

ascend_more : (from : ℕ) (pages : List ℕ) (page : ℕ) → AscendFrom from pages → behind from pages ≤ page → AscendFrom from (pages ++ page ∷ [])
ascend_more from [] page ascend last = (last, tt)
ascend_more from (first ∷ pages) page ascend last = (ascend.0, ascend_more (first + 1) pages page ascend.1 last)

split : (a b : ℕ) → a < b + 1 → (a < b) ⊎ (a ≡ b)
split a b below = search arith

pub collect_none : (from : ℕ) (test : ℕ → Bool) → Collected from test [] from
collect_none from test = record {
  ascend = tt;
  last = omega arith;
  few = omega arith;
  are = λ number low high. absurd (omega (arith, low, high));
  low = λ number low. refl;
  high = λ number high. refl;
}

pub collect_take : (from : ℕ) (test : ℕ → Bool) (numbers : List ℕ) (to : ℕ) → from ≤ to → Collected from test numbers to → test to ≡ true
    → Collected from test (numbers ++ to ∷ []) (to + 1)
collect_take from test numbers to least is marked = record {
  ascend = ascend_more from numbers to is.ascend is.last;
  last = omega (arith, behind_more from numbers to);
  few = omega (arith, is.few, length-append numbers (to ∷ []));
  are = λ number low high. by number low (split number to high);
  low = λ number low. none number (λ e. omega (arith, e, low, least)) (is.low number low);
  high = λ number high. none number (λ e. omega (arith, e, high)) (is.high number (omega (arith, high)));
} where
  none : (number : ℕ) → number ≢ to → is_one_of number numbers ≡ false → is_one_of number (numbers ++ to ∷ []) ≡ false
  none number differ other = none_of_both number numbers (to ∷ []) other (ap (λ b. b || false) (not_same number to differ))

  by : (number : ℕ) → from ≤ number → (number < to) ⊎ (number ≡ to) → is_one_of number (numbers ++ to ∷ []) ≡ test number
  by number low (inl below) = one_of_both number numbers (to ∷ [])
      ∙ ap (λ b. is_one_of number numbers || (b || false)) (not_same number to (λ e. omega (arith, e, below)))
      ∙ or_none (is_one_of number numbers) ∙ is.are number low below
  by number low (inr here) = one_of_both number numbers (to ∷ [])
      ∙ ap (λ b. b || is_one_of number (to ∷ [])) (is.high number (omega (arith, here)))
      ∙ ap (λ b. b || false) (eq-eqb number to here) ∙ sym (ap test here ∙ marked)

-- there are none up to this number
pub collect_over : (from : ℕ) (test : ℕ → Bool) (numbers : List ℕ) (to high : ℕ) → to ≤ high → Collected from test numbers to
    → ((number : ℕ) → to ≤ number → number < high → test number ≡ false) → Collected from test numbers high
collect_over from test numbers to high more is none = record {
  ascend = is.ascend;
  last = omega (arith, is.last, more);
  few = omega (arith, is.few, more);
  are = λ number least below. by number least below (side number to);
  low = is.low;
  high = λ number above. is.high number (omega (arith, above, more));
} where
  side : (a b : ℕ) → (a < b) ⊎ (b ≤ a)
  side a b = search arith

  by : (number : ℕ) → from ≤ number → number < high → (number < to) ⊎ (to ≤ number) → is_one_of number numbers ≡ test number
  by number least below (inl less) = is.are number least less
  by number least below (inr above) = is.high number above ∙ sym (none number above below)

-- numbers that ascend are below what is behind them
behind_least : (from : ℕ) (numbers : List ℕ) → AscendFrom from numbers → from ≤ behind from numbers
behind_least from [] ascend = omega arith
behind_least from (first ∷ numbers) ascend = omega (arith, ascend.0, behind_least (first + 1) numbers ascend.1)

pub ascend_low : (from to : ℕ) (numbers : List ℕ) → AscendFrom from numbers → behind from numbers ≤ to
    → AllByRecursion (λ number. number < to) numbers
ascend_low from to [] ascend last = tt
ascend_low from to (first ∷ numbers) ascend last =
    (omega (arith, behind_least (first + 1) numbers ascend.1, last), ascend_low (first + 1) to numbers ascend.1 last)

-- one page more is marked
pub mark_one : (old now new : List Bool) (page : ℕ) (rest whole : List ℕ) → length now ≡ length old
    → ((other : ℕ) → other < length now → get_or new other false ≡ (get_or now other false || (other == page)))
    → Marking old now (page ∷ rest) whole → Marking old new rest whole
mark_one old now new page rest whole long marked so =
    mark_more old now new (page ∷ []) rest whole long
    (λ other inside. marked other inside ∙ ap (λ b. get_or now other false || b) (sym (or_none (other == page)))) so

pub none_outside : (from : ℕ) (test : ℕ → Bool) (numbers : List ℕ) (to number : ℕ) → Collected from test numbers to
    → (number < from) ⊎ (to ≤ number) → is_one_of number numbers ≡ false
none_outside from test numbers to number is (inl low) = is.low number low
none_outside from test numbers to number is (inr high) = is.high number high

-- the marks of two lists, one after the other
pub both_marked : (none one two given : List Bool) (first second : List ℕ) (page : ℕ) → page < length none
    → get_or none page false ≡ false
    → ((p : ℕ) → p < length none → get_or one p false ≡ (get_or none p false || is_one_of p first)) → length one ≡ length none
    → ((p : ℕ) → p < length one → get_or two p false ≡ (get_or one p false || is_one_of p second)) → given ≡ two
    → get_or given page false ≡ is_one_of page (first ++ second)
both_marked none one two given first second page inside clear a long b same =
    ap (λ (l : List Bool). get_or l page false) same
    ∙ b page (subst (λ (n : ℕ). page < n) (sym long) inside)
    ∙ ap (λ m. m || is_one_of page second) (a page inside)
    ∙ ap (λ m. (m || is_one_of page first) || is_one_of page second) clear
    ∙ sym (one_of_both page first second)

-- where no mark is set
pub no_mark : (count page : ℕ) → get_or (replicate count false) page false ≡ false
no_mark zero page = refl
no_mark (suc count) zero = refl
no_mark (suc count) (suc page) = no_mark count page

-- a slice of all marks that was changed in place
pub whole_again : (len : ℕ) (new items : List Bool) → length new ≡ length items → len ≡ length items
    → take len (new ++ drop (length new) items) ≡ new
whole_again len new items long len_is = take_at new (drop (length new) items) len (long ∙ sym len_is)
