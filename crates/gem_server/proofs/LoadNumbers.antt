-- The numbers of a load: of each session as many as it has rounds, each from 1 to 9.
use Rattle.std.proofs.Common.{◌≡◌, ℕ, zero, suc, ◌+◌, ◌*◌, ◌≤◌, List, [], ◌∷◌, length, refl, ap, arith}
use Rattle.std.specs.Prelude.{sum}
use Rattle.std.specs.List.{AllByRecursion}
use Rattle.std.proofs.lemmas.Nat.{mul-le}
use Rattle.std.proofs.lemmas.List.Recursion.{is_sum_by}
use Rattle.load_maker.specs.Numbers.{next_state, number_of, round_numbers, state_after, load_numbers, load_sum}
use Rattle.gem_server.proofs.LoadRounds.{sum_over}
use Rattle.gem_server.proofs.LoadWalk.{IsDigit}

-- the numbers of one session
pub record AreNumbers (rounds : ℕ) (numbers : List ℕ) : Type 0 where
  pub count : length numbers ≡ rounds
  pub digits : AllByRecursion IsDigit numbers

digit : (state : ℕ) → IsDigit (number_of state)
digit state = (omega arith, omega arith)

some_numbers : (rounds state : ℕ) → AreNumbers rounds (round_numbers rounds state)
some_numbers zero state = record { count = refl; digits = tt }
some_numbers (suc rounds) state = let rest = some_numbers rounds (next_state state) in record {
  count = ap suc rest.count;
  digits = (digit (next_state state), rest.digits);
}

pub all_numbers : (sessions rounds state : ℕ) → AllByRecursion (AreNumbers rounds) (load_numbers sessions rounds state)
all_numbers zero rounds state = tt
all_numbers (suc sessions) rounds state = (some_numbers rounds state, all_numbers sessions rounds (state_after rounds state))

pub all_sessions : (sessions rounds state : ℕ) → length (load_numbers sessions rounds state) ≡ sessions
all_sessions zero rounds state = refl
all_sessions (suc sessions) rounds state = ap suc (all_sessions sessions rounds (state_after rounds state))

sum_is : (numbers : List ℕ) → sum_over (λ (n : ℕ). n) numbers ≡ sum numbers
sum_is numbers = is_sum_by (sum_over (λ (n : ℕ). n)) (λ (n : ℕ). n) refl (λ n more. refl) numbers

pub load_sum_is : (seed sessions rounds : ℕ)
    → sum_over (sum_over (λ (n : ℕ). n)) (load_numbers sessions rounds seed) ≡ load_sum seed sessions rounds
load_sum_is seed sessions rounds = is_sum_by (sum_over (sum_over (λ (n : ℕ). n))) sum refl
    (λ numbers all. ap (λ (n : ℕ). n + sum_over (sum_over (λ (n : ℕ). n)) all) (sum_is numbers)) (load_numbers sessions rounds seed)

-- ---- how much they come to

most_of : (numbers : List ℕ) → AllByRecursion IsDigit numbers → sum_over (λ (n : ℕ). n) numbers ≤ 9 * length numbers
most_of [] digits = omega arith
most_of (number ∷ numbers) digits =
    let here = digits.0.1 in let rest = most_of numbers digits.1 in omega (arith, here, rest)

most_of_all : (rounds : ℕ) (all : List (List ℕ)) → AllByRecursion (AreNumbers rounds) all
    → sum_over (sum_over (λ (n : ℕ). n)) all ≤ length all * (9 * rounds)
most_of_all rounds [] are = omega arith
most_of_all rounds (numbers ∷ all) are =
    let here = most_of numbers are.0.digits in
    let count = are.0.count in
    let rest = most_of_all rounds all are.1 in grind (arith, here, count, rest)

pub load_sum_most : (seed sessions rounds : ℕ) → sessions ≤ 16 → rounds ≤ 1000 → load_sum seed sessions rounds ≤ 144000
load_sum_most seed sessions rounds sessions_to rounds_to =
    let is = load_sum_is seed sessions rounds in
    let most = most_of_all rounds (load_numbers sessions rounds seed) (all_numbers sessions rounds seed) in
    let sizes = all_sessions sessions rounds seed in
    let product = mul-le (length (load_numbers sessions rounds seed)) (9 * rounds) 16 9000 (omega (arith, sizes, sessions_to))
    (omega (arith, rounds_to)) in omega (arith, is, most, product)
