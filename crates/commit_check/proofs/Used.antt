-- The names that a transaction used, by what it did there.
use Rattle.std.proofs.Common.{◌≡◌, ℕ, Bool, true, false, ◌&&◌, ◌||◌, ◌⊎◌, inl, inr, ⊎_elim, List, [], ◌∷◌, Some, IsTrue, IsSome, ◌↔◌, Contains, if◌then◌else◌, Ordering, Less, Equal, Greater, nat_cmp, refl, sym, ap, ◌∙◌}
use Rattle.std.specs.Ordering.{eq_by_cmp, is_eq}
use Rattle.std.specs.List.{list_any}
use Rattle.std.specs.Cmp.{tied_itself}
use Rattle.std.proofs.lemmas.Bool.{false≢true}
use Rattle.std.proofs.lemmas.Cmp.{nat_cmp_total}
use Rattle.std.proofs.lemmas.Map.Lookups.{exact_unsigned}
use Rattle.gem_record.specs.Names.{under}
use Rattle.gem_record.specs.declared.record.TxnRecord.{TxnRecord}
use Rattle.commit_check.specs.Union.{union}
use Rattle.gem_record.specs.declared.mode.Mode.{Mode}
use Rattle.gem_record.specs.declared.mode.Mode.TheVariants.{Full, NoRw}
use Rattle.commit_check.specs.Conflicts.{checks_reads, names_of, names_used, is_touched}
use Rattle.commit_check.specs.Table.{IsTouched, IsWritten, IsUpdated}
use Rattle.commit_check.proofs.Members.{IsOneOf, one_of, contained}
use Rattle.commit_check.proofs.Unions.{in_left, in_right}

tied : (r : Ordering) → is_eq r ≡ true → r ≡ Equal
tied Less e = absurd (false≢true e)
tied Equal e = refl
tied Greater e = absurd (false≢true e)

pub either : (a b : Bool) → (a || b) ≡ true → (a ≡ true) ⊎ (b ≡ true)
either true b e = inl refl
either false b e = inr e

pub first_true : (a b : Bool) → a ≡ true → (a || b) ≡ true
first_true true b e = refl
first_true false b e = absurd (false≢true e)

pub second_true : (a b : Bool) → b ≡ true → (a || b) ≡ true
second_true true b e = refl
second_true false b e = e

pub and_parts : (a b : Bool) → (a && b) ≡ true → (a ≡ true) × (b ≡ true)
and_parts true b e = (refl, e)
and_parts false b e = absurd (false≢true e)

pub and_from : (a b : Bool) → a ≡ true → b ≡ true → (a && b) ≡ true
and_from true b one both = both
and_from false b one both = absurd (false≢true one)

pub is_full : (mode : Mode) → checks_reads mode ≡ true → mode ≡ Full
is_full Full e = refl
is_full NoRw e = absurd (false≢true e)

pub from_any : (oid : ℕ) (names : List ℕ) → list_any (eq_by_cmp nat_cmp oid) names ≡ true
    → IsOneOf oid names
from_any oid [] e = absurd (false≢true e)
from_any oid (n ∷ ns) e = ⊎_elim
    (λ h. inl (sym (exact_unsigned oid n (tied (nat_cmp oid n) h))))
    (λ h. inr (from_any oid ns h))
    (either (eq_by_cmp nat_cmp oid n) (list_any (eq_by_cmp nat_cmp oid) ns) e)

pub to_any : (oid : ℕ) (names : List ℕ) → IsOneOf oid names
    → list_any (eq_by_cmp nat_cmp oid) names ≡ true
to_any oid [] none = absurd none
to_any oid (n ∷ ns) (inl same) =
    first_true (eq_by_cmp nat_cmp oid n) (list_any (eq_by_cmp nat_cmp oid) ns)
    (ap is_eq (ap (λ k. nat_cmp oid k) same ∙ tied_itself nat_cmp_total oid))
to_any oid (n ∷ ns) (inr there) =
    second_true (eq_by_cmp nat_cmp oid n) (list_any (eq_by_cmp nat_cmp oid) ns) (to_any oid ns there)

same_test : (a b : Bool) → (a ≡ true → b ≡ true) → (b ≡ true → a ≡ true) → a ≡ b
same_test true b to from = sym (to refl)
same_test false true to from = from refl
same_test false false to from = refl

pub touched_is : (transaction : TxnRecord) (oid : ℕ) (result : Bool)
    → (IsTrue result ↔ Contains transaction.touched oid) → result ≡ is_touched transaction oid
touched_is transaction oid result says = same_test result (is_touched transaction oid)
    (λ h. to_any oid transaction.touched (one_of oid transaction.touched (says.0 h)))
    (λ h. says.1 (contained oid transaction.touched (from_any oid transaction.touched h)))

module _ {T : Type 0} where
  under_by : (oid : ℕ) (pair : ℕ × T) (rest : List (ℕ × T)) (r : Ordering) → nat_cmp pair.0 oid ≡ r
      → (IsSome (under oid rest) → IsOneOf oid (names_of rest))
      → IsSome (if is_eq r then Some pair.1 else under oid rest) → IsOneOf oid (pair.0 ∷ names_of rest)
  under_by oid pair rest Less is later some = inr (later some)
  under_by oid pair rest Equal is later some = inl (exact_unsigned pair.0 oid is)
  under_by oid pair rest Greater is later some = inr (later some)

  pub named : (oid : ℕ) (pairs : List (ℕ × T)) → IsSome (under oid pairs)
      → IsOneOf oid (names_of pairs)
  named oid [] some = absurd (false≢true some)
  named oid (pair ∷ rest) some =
      under_by oid pair rest (nat_cmp pair.0 oid) refl (named oid rest) some

module _ (transaction : TxnRecord) (oid : ℕ) where
  pub touched_used : IsTouched transaction oid → IsOneOf oid (names_used transaction)
  touched_used touched = in_left oid (union transaction.touched (names_of transaction.written))
      (names_of transaction.updates) (in_left oid transaction.touched (names_of transaction.written)
      (one_of oid transaction.touched touched))

  pub written_used : IsWritten transaction oid → IsOneOf oid (names_used transaction)
  written_used written = in_left oid (union transaction.touched (names_of transaction.written))
      (names_of transaction.updates) (in_right oid transaction.touched (names_of transaction.written)
      (named oid transaction.written written))

  pub updated_used : IsUpdated transaction oid → IsOneOf oid (names_used transaction)
  updated_used updated = in_right oid (union transaction.touched (names_of transaction.written))
      (names_of transaction.updates) (named oid transaction.updates updated)
