-- What a map that is made from a function has at each key.
use Rattle.std.proofs.Common.{◌≡◌, ◌≢◌, ℕ, zero, suc, ◌+◌, ◌<◌, ◌≤◌, true, false, cond, Option, None, Some, refl, sym, ap, ◌∙◌, inl, inr, arith}
use Rattle.std.proofs.lemmas.Bool.{cases_eq, cases_lt}
use Rattle.std.proofs.lemmas.Cmp.{nat_cmp_total}
use Rattle.std.specs.Cmp.{tied_itself}
use Rattle.std.specs.Ordering.{is_eq, eq_by_cmp, nat_cmp}
use Rattle.std.specs.declared.cmp.Ordering.TheVariants.{Less, Equal, Greater}
use Rattle.std.specs.FinMap.{FinMap, get, insert, len, get-empty, get-insert, len-empty, len-insert, same_map, nat_cmp-IsAntisymmetric}
use Rattle.radix_pages.specs.Table.{table, with_option}

-- maps with the same at each key are the same
pub same_keys : {X : Type 0} (m n : FinMap nat_cmp X) → ((q : ℕ) → get m q ≡ get n q) → m ≡ n
same_keys m n same = same_map nat_cmp_total nat_cmp-IsAntisymmetric m n same

is_itself : (k q : ℕ) → q ≡ k → eq_by_cmp nat_cmp q k ≡ true
is_itself k q same = ap (λ (n : ℕ). eq_by_cmp nat_cmp n k) same ∙ ap is_eq (tied_itself nat_cmp_total k)

is_other : (k q : ℕ) → q ≢ k → eq_by_cmp nat_cmp q k ≡ false
is_other k q apart =
    elim (nat_cmp q k) as (λ r. nat_cmp q k ≡ r → is_eq r ≡ false) [
      | Less ↦ λ e. refl
      | Equal ↦ λ e. absurd (apart (nat_cmp-IsAntisymmetric q k e))
      | Greater ↦ λ e. refl
    ] refl

pub get-insert_same : {X : Type 0} (m : FinMap nat_cmp X) (k : ℕ) (v : X) (q : ℕ) → q ≡ k
    → get (insert m k v) q ≡ Some v
get-insert_same m k v q same = get-insert nat_cmp_total m k v q ∙ ap (λ b. cond b (Some v) (get m q)) (is_itself k q same)

pub get-insert_other : {X : Type 0} (m : FinMap nat_cmp X) (k : ℕ) (v : X) (q : ℕ) → q ≢ k
    → get (insert m k v) q ≡ get m q
get-insert_other m k v q apart = get-insert nat_cmp_total m k v q ∙ ap (λ b. cond b (Some v) (get m q)) (is_other k q apart)

get-with_same : {X : Type 0} (m : FinMap nat_cmp X) (k : ℕ) (o : Option X) (q : ℕ) → q ≡ k
    → get m q ≡ None → get (with_option m k o) q ≡ o
get-with_same m k None q same none = none
get-with_same m k (Some v) q same none = get-insert_same m k v q same

get-with_other : {X : Type 0} (m : FinMap nat_cmp X) (k : ℕ) (o : Option X) (q : ℕ) → q ≢ k
    → get (with_option m k o) q ≡ get m q
get-with_other m k None q apart = refl
get-with_other m k (Some v) q apart = get-insert_other m k v q apart

pub get-table_above : {X : Type 0} (n : ℕ) (f : ℕ → Option X) (q : ℕ) → n ≤ q
    → get (table n f) q ≡ None
unfolding table
get-table_above zero f q above = get-empty nat_cmp q
get-table_above (suc n) f q above = get-with_other (table n f) n (f n) q (omega arith) ∙ get-table_above n f q (omega arith)

pub get-table_below : {X : Type 0} (n : ℕ) (f : ℕ → Option X) (q : ℕ) → q < n
    → get (table n f) q ≡ f q
unfolding table
get-table_below zero f q below = absurd (omega arith)
get-table_below (suc n) f q below = elim (cases_eq q n) [
  | inl same ↦ get-with_same (table n f) n (f n) q same (get-table_above n f q (omega (arith, same))) ∙ sym (ap f same)
  | inr apart ↦ get-with_other (table n f) n (f n) q apart ∙ get-table_below n f q (omega (arith, apart))
]

-- the map of a table is what it has at each key below n, and nothing above
pub table_is : {X : Type 0} (n : ℕ) (f : ℕ → Option X) (m : FinMap nat_cmp X)
    → ((q : ℕ) → q < n → f q ≡ get m q) → ((q : ℕ) → n ≤ q → get m q ≡ None) → table n f ≡ m
table_is n f m below above = same_keys _ _ (λ q. elim (cases_lt q n) [
  | inl within ↦ get-table_below n f q within ∙ below q within
  | inr past ↦ get-table_above n f q past ∙ sym (above q past)
])

pub same_table : {X : Type 0} (n : ℕ) (f g : ℕ → Option X) → ((q : ℕ) → q < n → g q ≡ f q)
    → table n g ≡ table n f
same_table n f g same = table_is n g (table n f) (λ q within. same q within ∙ sym (get-table_below n f q within)) (get-table_above n f)

pub table-insert : {X : Type 0} (n : ℕ) (f g : ℕ → Option X) (k : ℕ) (v : X) → k < n → g k ≡ Some v
    → ((q : ℕ) → q < n → q ≢ k → g q ≡ f q) → table n g ≡ insert (table n f) k v
table-insert n f g k v within here there = table_is n g (insert (table n f) k v)
    (λ q below. elim (cases_eq q k) [
      | inl same ↦ ap g same ∙ here ∙ sym (get-insert_same (table n f) k v q same)
      | inr apart ↦ there q below apart ∙ sym (get-insert_other (table n f) k v q apart ∙ get-table_below n f q below)
    ])
    (λ q above. get-insert_other (table n f) k v q (omega arith) ∙ get-table_above n f q above)

more_of : {X : Type 0} (m : FinMap nat_cmp X) (k n : ℕ) (v : X) → len m ≤ n
    → len (insert m k v) ≤ n + 1
more_of m k n v few = grind (arith, len-insert nat_cmp_total m k v)

with_few : {X : Type 0} (m : FinMap nat_cmp X) (k n : ℕ) (o : Option X) → len m ≤ n
    → len (with_option m k o) ≤ n + 1
with_few m k n None few = omega arith
with_few m k n (Some v) few = more_of m k n v few

pub len-table : {X : Type 0} (n : ℕ) (f : ℕ → Option X) → len (table n f) ≤ n
unfolding table
len-table {X} zero f = omega (arith, len-empty nat_cmp X)
len-table (suc n) f = omega (arith, with_few (table n f) n n (f n) (len-table n f))

pub insert_again : {X : Type 0} (m : FinMap nat_cmp X) (k : ℕ) (first last : X)
    → insert (insert m k first) k last ≡ insert m k last
insert_again m k first last = same_keys _ _ (λ q. elim (cases_eq q k) [
  | inl same ↦ get-insert_same (insert m k first) k last q same ∙ sym (get-insert_same m k last q same)
  | inr apart ↦ get-insert_other (insert m k first) k last q apart ∙ get-insert_other m k first q apart
      ∙ sym (get-insert_other m k last q apart)
])

pub insert_apart : {X : Type 0} (m : FinMap nat_cmp X) (k other : ℕ) (v w : X) → other ≢ k
    → insert (insert m k v) other w ≡ insert (insert m other w) k v
insert_apart m k other v w two = same_keys _ _ (λ q. elim (cases_eq q k) [
  | inl is ↦
      let apart : q ≢ other = λ e. two (sym e ∙ is) in
      get-insert_other (insert m k v) other w q apart ∙ get-insert_same m k v q is ∙ sym (get-insert_same (insert m other w) k v q is)
  | inr not_k ↦ elim (cases_eq q other) [
    | inl is ↦ get-insert_same (insert m k v) other w q is
        ∙ sym (get-insert_other (insert m other w) k v q not_k ∙ get-insert_same m other w q is)
    | inr not_other ↦ get-insert_other (insert m k v) other w q not_other ∙ get-insert_other m k v q not_k
        ∙ sym (get-insert_other (insert m other w) k v q not_k ∙ get-insert_other m other w q not_other)
  ]
])
