-- Readers of the lists in bodies.
use Rattle.std.proofs.Common.{◌≡◌, ℕ, ◌<◌, ◌^◌, IsTrue, All, List, [], length, map, Option, Some, None, option_map, refl, sym, subst}
use Rattle.std.specs.List.Sorted.{IsStrictlySortedBy}
use Rattle.std.specs.Cmp.{IsTotalOrder}
use Rattle.std.proofs.lemmas.Cmp.{nat_list_cmp_total}
use Rattle.std.proofs.lemmas.List.{map-id}
use Rattle.std.proofs.lemmas.List.Elements.{All-from_recursion, recursion_from_All}
use Rattle.gem_object.specs.texts.Bytes.{Bytes as Text}
use Rattle.gem_object.specs.seg_rights.declared.right.Right.{Right}
use Rattle.gem_object.specs.Order.{value_order, same_value}
use Rattle.gem_object.specs.Spelling.{IsText, IsStorable, AreStorable, IsDictionary, IsMethod, AreMethods, IsItems, IsKeyDictionary, Ascend}
use Rattle.gem_object.specs.declared.value.Value.{Value}
use Rattle.gem_object.specs.declared.body.Method.{Method}
use Rattle.body_codec.specs.Spelled.{spelled_text, spelled_value, spelled_pair, spelled_occurrences, spelled_grant, spelled_method, short_list, long_list}
use Rattle.body_codec.specs.Reading.{last_of, is_above, text_at, value_at, short_at, long_at}
use Rattle.body_codec.specs.ReadingBodies.{text_order, method_at, grant_at, group_at, occurrences_at, sorted_pair_at, pair_at}
use Rattle.body_codec.proofs.Takes.{Reads, IsTimes, text_reads}
use Rattle.body_codec.proofs.Values.{IsKeyUpTo, value_reads}
use Rattle.body_codec.proofs.Lists.{AllAfter, IsListed, short_reads, long_reads}
use Rattle.body_codec.proofs.InOrder.{all_hold, all_sorted, all_after, all_kept, all_distinct, all_new, any_hold, any_after}
use Rattle.body_codec.proofs.Equal.{total, symmetric}
use Rattle.body_codec.proofs.Parts.{told_reads, IsGiven, IsNextMethod, method_reads, IsNextGrant, grant_reads, IsNextGroup, group_reads, IsNextItem, occurrences_reads, IsNextPair, sorted_pair_reads, IsNewPair, pair_reads, key_told, key_from, not_nil, any_key}

text_total : IsTotalOrder text_order
text_total = nat_list_cmp_total

-- ---- values and names, which don't depend on those before them

pub values_reads : Reads AreStorable (long_list spelled_value) (long_at (λ _. value_at))
values_reads = told_reads (IsListed (λ _ x. IsStorable x) (2 ^ 32)) AreStorable (long_list spelled_value) (long_at (λ _. value_at))
    (λ xs is. record { count = is.count; each = All-from_recursion IsStorable xs (any_hold IsStorable [] xs is.each) })
    (λ xs is. record { count = is.count; each = any_after IsStorable [] xs (recursion_from_All IsStorable xs is.each) })
    (long_reads (λ _ x. IsStorable x) spelled_value (λ _. value_at) (λ _. value_reads))

pub record AreNames (names : List Text) : Type 0 where
  pub count : length names < 2 ^ 16
  pub each : All IsText names

pub names_reads : Reads AreNames (short_list spelled_text) (short_at (λ _. text_at))
names_reads = told_reads (IsListed (λ _ x. IsText x) (2 ^ 16)) AreNames (short_list spelled_text) (short_at (λ _. text_at))
    (λ xs is. record { count = is.count; each = All-from_recursion IsText xs (any_hold IsText [] xs is.each) })
    (λ xs is. record { count = is.count; each = any_after IsText [] xs (recursion_from_All IsText xs is.each) })
    (short_reads (λ _ x. IsText x) spelled_text (λ _. text_at) (λ _. text_reads))

-- ---- methods

pub methods_reads : Reads AreMethods (short_list spelled_method) (short_at method_at)
methods_reads = told_reads (IsListed IsNextMethod (2 ^ 16)) AreMethods (short_list spelled_method) (short_at method_at)
    (λ xs is. record {
      count = is.count;
      each = All-from_recursion IsMethod xs (all_hold (λ (m : Method). m.selector) text_order text_total IsNextMethod IsMethod
          (λ before m next. ((next.0.0, next.1), next.0.1)) [] xs is.each);
      ascend = all_sorted (λ (m : Method). m.selector) text_order text_total IsNextMethod IsMethod
          (λ before m next. ((next.0.0, next.1), next.0.1)) xs is.each;
    })
    (λ xs is. record {
      count = is.count;
      each = all_after (λ (m : Method). m.selector) text_order text_total IsNextMethod IsMethod
          (λ before m q above. ((q.0, above), q.1)) xs is.ascend (recursion_from_All IsMethod xs is.each);
    })
    (short_reads IsNextMethod spelled_method method_at method_reads)

-- ---- groups

pub record AreGrants (groups : List (Text × Right)) : Type 0 where
  pub count : length groups < 2 ^ 16
  pub names : All (λ group. IsText group.0) groups
  pub ascend : Ascend (map (λ group. group.0) groups)
  pub given : All (λ group. IsGiven group.1) groups

abbrev IsGrant : Text × Right → Type 0
IsGrant grant = IsText grant.0 × IsGiven grant.1

pub grants_reads : Reads AreGrants (short_list spelled_grant) (short_at grant_at)
grants_reads = told_reads (IsListed IsNextGrant (2 ^ 16)) AreGrants (short_list spelled_grant) (short_at grant_at)
    (λ xs is.
    let all = All-from_recursion IsGrant xs (all_hold (λ (grant : Text × Right). grant.0) text_order text_total IsNextGrant IsGrant
    (λ before grant next. ((next.0.0, next.1), next.0.1)) [] xs is.each) in
    record {
      count = is.count;
      names = λ k d below. (all k d below).0;
      ascend = all_sorted (λ (grant : Text × Right). grant.0) text_order text_total IsNextGrant IsGrant
          (λ before grant next. ((next.0.0, next.1), next.0.1)) xs is.each;
      given = λ k d below. (all k d below).1;
    })
    (λ xs is. record {
      count = is.count;
      each = all_after (λ (grant : Text × Right). grant.0) text_order text_total IsNextGrant IsGrant
          (λ before grant q above. ((q.0, above), q.1)) xs is.ascend
          (recursion_from_All IsGrant xs (λ k d below. (is.names k d below, is.given k d below)));
    })
    (short_reads IsNextGrant spelled_grant grant_at grant_reads)

pub record AreGroups (groups : List Text) : Type 0 where
  pub count : length groups < 2 ^ 16
  pub each : All IsText groups
  pub ascend : Ascend groups

same_last : (o : Option Text) → option_map (λ x. x) o ≡ o
same_last None = refl
same_last (Some x) = refl

to_last : (before : List Text) (x : Text) → IsNextGroup before x
    → IsText x × IsTrue (is_above text_order (option_map (λ x. x) (last_of before)) x)
to_last before x next =
    (next.0, subst (λ o. IsTrue (is_above text_order o x)) (sym (same_last (last_of before))) next.1)

from_last : (before : List Text) (x : Text) → IsText x
    → IsTrue (is_above text_order (option_map (λ x. x) (last_of before)) x) → IsNextGroup before x
from_last before x text above =
    (text, subst (λ o. IsTrue (is_above text_order o x)) (same_last (last_of before)) above)

pub groups_reads : Reads AreGroups (short_list spelled_text) (short_at group_at)
groups_reads = told_reads (IsListed IsNextGroup (2 ^ 16)) AreGroups (short_list spelled_text) (short_at group_at)
    (λ xs is. record {
      count = is.count;
      each = All-from_recursion IsText xs (all_hold (λ (x : Text). x) text_order text_total IsNextGroup IsText to_last [] xs is.each);
      ascend = subst (IsStrictlySortedBy text_order) (map-id xs)
          (all_sorted (λ (x : Text). x) text_order text_total IsNextGroup IsText to_last xs is.each);
    })
    (λ xs is. record {
      count = is.count;
      each = all_after (λ (x : Text). x) text_order text_total IsNextGroup IsText from_last xs
          (subst (IsStrictlySortedBy text_order) (sym (map-id xs)) is.ascend) (recursion_from_All IsText xs is.each);
    })
    (short_reads IsNextGroup spelled_text group_at group_reads)

-- ---- bags

abbrev IsItem : Value × ℕ → Type 0
IsItem pair = IsStorable pair.0 × IsTimes pair.1

pub items_sorted : (xs : List (Value × ℕ)) → AllAfter IsNextItem [] xs
    → IsStrictlySortedBy value_order (map (λ pair. pair.0) xs)
items_sorted xs each = all_sorted (λ (pair : Value × ℕ). pair.0) value_order total IsNextItem IsItem
    (λ before pair next. ((next.0.0, next.1), next.0.1)) xs each

pub items_reads : Reads IsItems (long_list spelled_occurrences) (long_at occurrences_at)
items_reads = told_reads (IsListed IsNextItem (2 ^ 32)) IsItems (long_list spelled_occurrences) (long_at occurrences_at)
    (λ xs is.
    let all = All-from_recursion IsItem xs (all_hold (λ (pair : Value × ℕ). pair.0) value_order total IsNextItem IsItem
    (λ before pair next. ((next.0.0, next.1), next.0.1)) [] xs is.each) in
    record {
      count = is.count;
      each = λ k d below. (all k d below).0;
      ascend = items_sorted xs is.each;
      occur = λ k d below. (all k d below).1;
    })
    (λ xs is. record {
      count = is.count;
      each = all_after (λ (pair : Value × ℕ). pair.0) value_order total IsNextItem IsItem
          (λ before pair q above. ((q.0, above), q.1)) xs is.ascend
          (recursion_from_All IsItem xs (λ k d below. (is.each k d below, is.occur k d below)));
    })
    (long_reads IsNextItem spelled_occurrences occurrences_at occurrences_reads)

-- ---- dictionaries

abbrev IsKeyPair : Value × Value → Type 0
IsKeyPair pair = IsKeyUpTo 5 pair.0 × IsStorable pair.1

pub pairs_sorted : (xs : List (Value × Value)) → AllAfter IsNextPair [] xs
    → IsStrictlySortedBy value_order (map (λ pair. pair.0) xs)
pairs_sorted xs each = all_sorted (λ (pair : Value × Value). pair.0) value_order total IsNextPair IsKeyPair
    (λ before pair next. ((next.0.0, next.1), next.0.1)) xs each

pub sorted_pairs_reads : Reads IsKeyDictionary (long_list spelled_pair) (long_at sorted_pair_at)
sorted_pairs_reads = told_reads (IsListed IsNextPair (2 ^ 32)) IsKeyDictionary (long_list spelled_pair) (long_at sorted_pair_at)
    (λ xs is.
    let all = All-from_recursion IsKeyPair xs (all_hold (λ (pair : Value × Value). pair.0) value_order total IsNextPair IsKeyPair
    (λ before pair next. ((next.0.0, next.1), next.0.1)) [] xs is.each) in
    record {
      count = is.count;
      each = λ k d below. ((all k d below).0.stored, (all k d below).1);
      ascend = pairs_sorted xs is.each;
      keys = λ k d below. key_told _ (all k d below).0;
    })
    (λ xs is. record {
      count = is.count;
      each = all_after (λ (pair : Value × Value). pair.0) value_order total IsNextPair IsKeyPair
          (λ before pair q above. ((q.0, above), q.1)) xs is.ascend
          (recursion_from_All IsKeyPair xs (λ k d below. (key_from _ (is.each k d below).0 (is.keys k d below), (is.each k d below).1)));
    })
    (long_reads IsNextPair spelled_pair sorted_pair_at sorted_pair_reads)

abbrev IsAnyPair : Value × Value → Type 0
IsAnyPair pair = IsKeyUpTo 6 pair.0 × IsStorable pair.1

pub pairs_reads : Reads IsDictionary (long_list spelled_pair) (long_at pair_at)
pairs_reads = told_reads (IsListed IsNewPair (2 ^ 32)) IsDictionary (long_list spelled_pair) (long_at pair_at)
    (λ xs is.
    let all = All-from_recursion IsAnyPair xs (all_kept same_value symmetric IsNewPair IsAnyPair
    (λ before pair new. ((new.0.0, new.1), new.0.1)) [] xs is.each) in
    record {
      count = is.count;
      each = λ k d below. ((all k d below).0.stored, (all k d below).1);
      distinct = all_distinct same_value symmetric IsNewPair IsAnyPair (λ before pair new. ((new.0.0, new.1), new.0.1)) xs is.each;
      no_nil = λ k d below. not_nil _ (all k d below).0;
    })
    (λ xs is. record {
      count = is.count;
      each = all_new same_value symmetric IsNewPair IsAnyPair (λ before pair q new. ((q.0, new), q.1)) xs is.distinct
          (recursion_from_All IsAnyPair xs (λ k d below. (any_key _ (is.each k d below).0 (is.no_nil k d below), (is.each k d below).1)));
    })
    (long_reads IsNewPair spelled_pair pair_at pair_reads)
