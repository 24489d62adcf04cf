-- The numbers of the commits along a log, and a root among them.
use Rattle.std.proofs.Common.{◌≡◌, ℕ, ◌+◌, ◌^◌, ◌<◌, ◌≤◌, Bool, true, false, cond, eqb, ltb, ◌&&◌, IsTrue, List, [], ◌∷◌, ◌++◌, length, Option, Some, None, refl, sym, ap, subst, ◌∙◌, inl, inr, arith}
use Rattle.std.proofs.lemmas.Bool.{cases_lt, and_parts, false≢true, eq-eqb}
use Rattle.std.proofs.lemmas.Bool.Decides.{nat_tests}
use Rattle.std.proofs.lemmas.List.Elements.{filter-append}
use Rattle.tran_log.specs.declared.logged.Logged.{Logged}
use Rattle.tran_log.specs.Log.{LogRecord, effect_of, spelled, follows, AreRecords, logged_from, last_number as log_last}
use Rattle.tran_log.specs.Reads.{AreRead}
use Rattle.stone_store.specs.Store.{is_after, records_after, last_of, misfit_among, misfit, last_number}

-- each record is of the commit after that of the one before it, the first after this one
abbrev pub Consecutive : ℕ → List Logged → Type 0
Consecutive last [] = Unit {0}
Consecutive last (one ∷ logged) = (one.effect.number ≡ last + 1) × Consecutive one.effect.number logged

-- the same of all records, whatever the first is
abbrev pub InTurn : List Logged → Type 0
InTurn [] = Unit {0}
InTurn (one ∷ logged) = Consecutive one.effect.number logged

next_number : (last number : ℕ) → IsTrue (follows (Some last) number) → number ≡ last + 1
next_number last number follow =
    let parts = and_parts (eqb number (last + 1)) (ltb number (2 ^ 63)) follow in
    grind (arith, nat_tests, parts.0)

consecutive : (at last : ℕ) (records : List LogRecord) → AreRecords (Some last) records → Consecutive last (logged_from at records)
consecutive at last [] are = tt
consecutive at last (one ∷ records) are = (
  next_number last (effect_of one).number are.0.number,
  consecutive (at + (1 + length (spelled one))) (effect_of one).number records are.1,
)

in_turn_from : (records : List LogRecord) → AreRecords None records → InTurn (logged_from 0 records)
in_turn_from [] are = tt
in_turn_from (one ∷ records) are = consecutive (0 + (1 + length (spelled one))) (effect_of one).number records are.1

pub in_turn : (logged : List Logged) → AreRead logged → InTurn logged
in_turn logged read = subst InTurn (sym read.logged_is) (in_turn_from read.records read.follow)

true_is : (b : Bool) → b ≡ true → IsTrue b
true_is true e = refl
true_is false e = absurd (false≢true e)

eqb_yes : (a b : ℕ) → a ≡ b → eqb a b ≡ true
eqb_yes a b e = eq-eqb a b e

-- ---- a root among them

pub after_yes : (n : ℕ) (one : Logged) → n < one.effect.number → is_after n one ≡ true
after_yes n one above = grind (arith, nat_tests, above)

pub after_no : (n : ℕ) (one : Logged) → one.effect.number ≤ n → is_after n one ≡ false
after_no n one below = grind (arith, nat_tests, below)

pub drops : (n : ℕ) (one : Logged) (logged : List Logged) → one.effect.number ≤ n
    → records_after n (one ∷ logged) ≡ records_after n logged
drops n one logged below =
    ap (λ b. cond b (one ∷ records_after n logged) (records_after n logged)) (after_no n one below)

pub keeps : (n : ℕ) (one : Logged) (logged : List Logged) → n < one.effect.number
    → records_after n (one ∷ logged) ≡ one ∷ records_after n logged
keeps n one logged above =
    ap (λ b. cond b (one ∷ records_after n logged) (records_after n logged)) (after_yes n one above)

pub last_grows : (last : ℕ) (logged : List Logged) → Consecutive last logged → last ≤ last_number last logged
last_grows last [] all = omega arith
last_grows last (one ∷ logged) all =
    let more = last_grows one.effect.number logged all.1 in
    omega (arith, more, all.0)

-- behind a root all are kept
all_kept : (n last : ℕ) (logged : List Logged) → n ≤ last → Consecutive last logged → records_after n logged ≡ logged
all_kept n last [] low all = refl
all_kept n last (one ∷ logged) low all =
    let above : n < one.effect.number = omega (arith, low, all.0) in
    keeps n one logged above
    ∙ ap (λ (l : List Logged). one ∷ l) (all_kept n one.effect.number logged (omega (arith, above)) all.1)

-- By where the last of them is: the records behind the root end with it, or there are none.
pub record IsSplit (n start last : ℕ) (kept : List Logged) : Type 0 where
  pub above : n < last → last_number start kept ≡ last
  pub below : last ≤ n → kept ≡ []

split_here : (n start : ℕ) (one : Logged) (logged : List Logged) → Consecutive one.effect.number logged
    → n < one.effect.number → IsSplit n start (last_number one.effect.number logged) (records_after n (one ∷ logged))
split_here n start one logged all above =
    let kept = keeps n one logged above ∙ ap (λ (l : List Logged). one ∷ l)
    (all_kept n one.effect.number logged (omega (arith, above)) all) in
    let more = last_grows one.effect.number logged all in
    record {
      above = λ _. ap (last_number start) kept;
      below = λ below. absurd (omega (arith, below, more, above));
    }

split_behind : (n start last : ℕ) (logged : List Logged) → Consecutive last logged → last ≤ n
    → IsSplit n start (last_number last logged) (records_after n logged)
split_behind n start last [] all low =
    record { above = λ above. absurd (omega (arith, above, low)); below = λ _. refl }
split_behind n start last (one ∷ logged) all low = elim (cases_lt n one.effect.number) [
  | inl above ↦ split_here n start one logged all.1 above
  | inr below ↦ subst (IsSplit n start (last_number one.effect.number logged)) (sym (drops n one logged below))
      (split_behind n start one.effect.number logged all.1 below)
]

pub split : (n start : ℕ) (one : Logged) (logged : List Logged) → Consecutive one.effect.number logged
    → IsSplit n start (last_number one.effect.number logged) (records_after n (one ∷ logged))
split n start one logged all = elim (cases_lt n one.effect.number) [
  | inl above ↦ split_here n start one logged all above
  | inr below ↦ subst (IsSplit n start (last_number one.effect.number logged)) (sym (drops n one logged below))
      (split_behind n start one.effect.number logged all below)
]

-- ---- the last one

log_last_is : (last : ℕ) (logged : List Logged) → log_last (Some last) logged ≡ Some (last_number last logged)
log_last_is last [] = refl
log_last_is last (one ∷ logged) = log_last_is one.effect.number logged

-- the last record of a list, by its number
pub record LastIs (number : ℕ) (last : Option Logged) : Type 0 where
  pub one : Logged
  pub is : last ≡ Some one
  pub number_is : one.effect.number ≡ number

last_is : (one : Logged) (logged : List Logged) → LastIs (last_number one.effect.number logged) (last_of (Some one) logged)
last_is one [] = record { one = one; is = refl; number_is = refl }
last_is one (next ∷ logged) = last_is next logged

none_some : {G : Type 0} (one : Logged) → ◌≡◌ {A = Option Logged} (Some one) None → G
none_some one e = absurd cc

-- where none is behind the root, the last one isn't before it
not_before : (n : ℕ) (one : Logged) → misfit_among n [] (Some one) ≡ None → n ≤ one.effect.number
not_before n one fits = elim (cases_lt one.effect.number n) [
  | inl low ↦ none_some one
      (sym (ap (λ b. cond b (Some one) None) (yes low)) ∙ fits)
  | inr high ↦ high
]
  where
    yes : one.effect.number < n → ltb one.effect.number n ≡ true
    yes low = grind (arith, nat_tests, low)

-- the number of the last commit that a root and the log behind it hold
abbrev pub number_with : ℕ → List Logged → ℕ
number_with n logged = last_number n (records_after n logged)

-- the last record of a log that fits behind a root is that of the last commit
pub first_fits : (n : ℕ) (one : Logged) (logged : List Logged) → Consecutive one.effect.number logged
    → misfit n (one ∷ logged) ≡ None → last_number one.effect.number logged ≡ number_with n (one ∷ logged)
first_fits n one logged all fits = elim (cases_lt n (last_number one.effect.number logged)) [
  | inl above ↦ sym ((split n n one logged all).above above)
  | inr low ↦
      let none : records_after n (one ∷ logged) ≡ [] = (split n n one logged all).below low in
      let last = last_is one logged in
      let still : misfit_among n [] (Some last.one) ≡ None =
      ap (λ (o : Option Logged). misfit_among n [] o) (sym last.is)
      ∙ ap (λ (l : List Logged). misfit_among n l (last_of (Some one) logged)) (sym none) ∙ fits in
      let high = not_before n last.one still in
      let same : last_number one.effect.number logged ≡ n = omega (arith, low, high, last.number_is) in
      same ∙ sym (ap (last_number n) none)
]

pub number_grows : (n : ℕ) (logged : List Logged) → InTurn logged → n ≤ number_with n logged
number_grows n [] turn = omega arith
number_grows n (one ∷ logged) turn = elim (cases_lt n (last_number one.effect.number logged)) [
  | inl above ↦ subst (λ (m : ℕ). n ≤ m) (sym ((split n n one logged turn).above above)) (omega (arith, above))
  | inr low ↦ subst (λ (m : ℕ). n ≤ m) (sym (ap (last_number n) ((split n n one logged turn).below low))) (omega arith)
]

-- ---- a root that goes up to the last commit

pub record IsUpTo (number : ℕ) (logged : List Logged) : Type 0 where
  pub none : records_after number logged ≡ []
  pub fits : misfit number logged ≡ None

pub up_to : (n : ℕ) (logged : List Logged) → InTurn logged → misfit n logged ≡ None → IsUpTo (number_with n logged) logged
up_to n [] turn fits = record { none = refl; fits = refl }
up_to n (one ∷ logged) turn fits =
    let number : ℕ = number_with n (one ∷ logged) in
    let same : last_number one.effect.number logged ≡ number = first_fits n one logged turn fits in
    let none : records_after number (one ∷ logged) ≡ [] = (split number number one logged turn).below (omega (arith, same)) in
    let last = last_is one logged in
    let not_lower : ltb last.one.effect.number number ≡ false = grind (arith, nat_tests, last.number_is, same) in
    record {
      none = none;
      fits = ap (λ (l : List Logged). misfit_among number l (last_of (Some one) logged)) none
          ∙ ap (misfit_among number []) last.is
          ∙ ap (λ b. cond b (Some last.one) None) not_lower;
    }

-- ---- the record of the next commit

pub next_follows : (n number : ℕ) (logged : List Logged) → InTurn logged → misfit n logged ≡ None
    → number_with n logged ≡ number → number + 1 < 2 ^ 63 → IsTrue (follows (log_last None logged) (number + 1))
next_follows n number [] turn fits is small = true_is (ltb (number + 1) (2 ^ 63)) (grind (arith, nat_tests, small))
next_follows n number (one ∷ logged) turn fits is small =
    let last : log_last (Some one.effect.number) logged ≡ Some number =
    log_last_is one.effect.number logged ∙ ap (λ (m : ℕ). Some m) (first_fits n one logged turn fits ∙ is) in
    subst (λ (o : Option ℕ). IsTrue (follows o (number + 1))) (sym last)
    (true_is (eqb (number + 1) (number + 1) && ltb (number + 1) (2 ^ 63)) (grind (arith, nat_tests, small)))

among_more : (n : ℕ) (one : Logged) (kept : List Logged) (last other : Option Logged) → misfit_among n kept last ≡ None
    → one.effect.number ≡ last_number n kept + 1 → misfit_among n (kept ++ one ∷ []) other ≡ None
among_more n one [] last other fits next =
    ap (λ b. cond b None (Some one)) (eqb_yes one.effect.number (n + 1) next)
among_more n one (first ∷ kept) last other fits next = fits

pub record IsWithNext (n : ℕ) (logged : List Logged) (one : Logged) : Type 0 where
  pub fits : misfit n (logged ++ one ∷ []) ≡ None
  pub kept : records_after n (logged ++ one ∷ []) ≡ records_after n logged ++ one ∷ []

pub with_next : (n : ℕ) (logged : List Logged) (one : Logged) → InTurn logged → misfit n logged ≡ None
    → one.effect.number ≡ number_with n logged + 1 → IsWithNext n logged one
with_next n logged one turn fits next =
    let grows = number_grows n logged turn in
    let above : n < one.effect.number = omega (arith, grows, next) in
    let kept : records_after n (logged ++ one ∷ []) ≡ records_after n logged ++ one ∷ [] =
    filter-append (is_after n) logged (one ∷ []) ∙ ap (λ (l : List Logged). records_after n logged ++ l) (keeps n one [] above) in
    record {
      fits = ap (λ (l : List Logged). misfit_among n l (last_of None (logged ++ one ∷ []))) kept
          ∙ among_more n one (records_after n logged) (last_of None logged) (last_of None (logged ++ one ∷ [])) fits next;
      kept = kept;
    }

pub last_more : (n : ℕ) (kept : List Logged) (one : Logged) → last_number n (kept ++ one ∷ []) ≡ one.effect.number
last_more n [] one = refl
last_more n (first ∷ kept) one = last_more first.effect.number kept one
