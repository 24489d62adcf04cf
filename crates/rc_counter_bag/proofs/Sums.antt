-- Sums of a counter in either order.
use Rattle.std.proofs.Common.{◌≡◌, Some, ℤ, ◌+ℤ◌, List, arith}
use Rattle.std.proofs.lemmas.Int.{ints}
use Rattle.std.proofs.lemmas.Option.{cond_some, option_and_then_some}
use Rattle.texts.specs.SmallInteger.{is_small_integer}
use Rattle.rc_counter_bag.specs.Counter.{small_integer, total, updated, merged}
use Rattle.rc_counter_bag.specs.Turns.{raised_twice, sums_merged}

small_is : (n m : ℤ) → small_integer n ≡ Some m → n ≡ m
small_is n m e = (cond_some (is_small_integer n) n m e).1

added_up : (value first second one : ℤ) → raised_twice first second value ≡ Some one → one ≡ (value +ℤ first) +ℤ second
added_up value first second one e = option_and_then_some (updated second) (updated first value) one e (λ after p q.
    let a = small_is (value +ℤ first) after p in
    let b = small_is (after +ℤ second) one q in
    omega (arith, ints))

pub increments_commute : (value first second one other : ℤ) → raised_twice first second value ≡ Some one → raised_twice second first value ≡ Some other → one ≡ other
increments_commute value first second one other e f =
    let a = added_up value first second one e in
    let b = added_up value second first other f in
    omega (arith, ints)

merged_up : (view place : ℤ) (first second : List ℤ) (one : ℤ) → sums_merged view place first second ≡ Some one → one ≡ (place +ℤ total first) +ℤ total second
merged_up view place first second one e = option_and_then_some (λ after. merged view after second) (merged view place first) one e (λ after p q.
    let a = small_is (place +ℤ total first) after p in
    let b = small_is (after +ℤ total second) one q in
    omega (arith, ints))

pub merges_commute : (view place : ℤ) (first second : List ℤ) (one other : ℤ) → sums_merged view place first second ≡ Some one → sums_merged view place second first ≡ Some other → one ≡ other
merges_commute view place first second one other e f =
    let a = merged_up view place first second one e in
    let b = merged_up view place second first other f in
    omega (arith, ints)
