-- What is left of a load to be added makes of what was added what the whole makes of nothing.
use Rattle.std.proofs.Common.{◌≡◌, ℕ, suc, ◌-◌, ◌+◌, ◌≤◌, ◌<◌, List, sum, sym, ap, ap₂, ◌∙◌, arith}
use Rattle.std.specs.List.{fold}
use Rattle.load_maker.specs.Numbers.{next_state, number_of, round_numbers, state_after, load_numbers}

-- the total with these numbers, and with the sums of these lists
abbrev pub added : ℕ → List ℕ → ℕ
added total numbers = fold (λ a x. a + x) total numbers

abbrev pub sums_added : ℕ → List (List ℕ) → ℕ
sums_added total lists = fold (λ a numbers. a + sum numbers) total lists

pub number_added : (rounds i whole total next state later number : ℕ) → i < rounds → later ≡ next_state state
    → number ≡ number_of later → next ≡ total + number → added total (round_numbers (rounds - i) state) ≡ whole
    → added next (round_numbers (rounds - (i + 1)) later) ≡ whole
number_added rounds i whole total next state later number below step drawn is so_far =
    let k : rounds - i ≡ suc (rounds - (i + 1)) = omega arith in
    let falls : added total (round_numbers (rounds - i) state)
    ≡ added (total + number_of (next_state state)) (round_numbers (rounds - (i + 1)) (next_state state)) =
    ap (λ (left : ℕ). added total (round_numbers left state)) k in
    ap₂ (λ (t s : ℕ). added t (round_numbers (rounds - (i + 1)) s)) (is ∙ ap (λ (n : ℕ). total + n) (drawn ∙ ap number_of step)) step
    ∙ sym falls ∙ so_far

pub numbers_end : (rounds i whole total state : ℕ) → rounds ≤ i → added total (round_numbers (rounds - i) state) ≡ whole → total ≡ whole
numbers_end rounds i whole total state over so_far =
    let k : rounds - i ≡ 0 = omega arith in
    sym (ap (λ (left : ℕ). added total (round_numbers left state)) k) ∙ so_far

pub session_added : (sessions rounds i whole total next state later more : ℕ) → i < sessions → later ≡ state_after rounds state
    → more ≡ sum (round_numbers rounds state) → next ≡ total + more → sums_added total (load_numbers (sessions - i) rounds state) ≡ whole
    → sums_added next (load_numbers (sessions - (i + 1)) rounds later) ≡ whole
session_added sessions rounds i whole total next state later more below step makes is so_far =
    let k : sessions - i ≡ suc (sessions - (i + 1)) = omega arith in
    let falls : sums_added total (load_numbers (sessions - i) rounds state)
    ≡ sums_added (total + sum (round_numbers rounds state)) (load_numbers (sessions - (i + 1)) rounds (state_after rounds state)) =
    ap (λ (left : ℕ). sums_added total (load_numbers left rounds state)) k in
    ap₂ (λ (t s : ℕ). sums_added t (load_numbers (sessions - (i + 1)) rounds s)) (is ∙ ap (λ (n : ℕ). total + n) makes) step
    ∙ sym falls ∙ so_far

pub sessions_added : (sessions rounds i whole total state : ℕ) → sessions ≤ i
    → sums_added total (load_numbers (sessions - i) rounds state) ≡ whole → total ≡ whole
sessions_added sessions rounds i whole total state over so_far =
    let k : sessions - i ≡ 0 = omega arith in
    sym (ap (λ (left : ℕ). sums_added total (load_numbers left rounds state)) k) ∙ so_far

pub number_is_small : (state number : ℕ) → number ≡ number_of state → number ≤ 9
number_is_small state number is = omega (arith, is)
