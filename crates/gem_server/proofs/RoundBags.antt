-- The bag of a load, by the numbers of its names.
use Rattle.std.proofs.Common.{◌≡◌, ℕ, suc, ◌+◌, ◌*◌, ◌^◌, ◌<◌, ◌≤◌, Bool, true, ◌&&◌, List, [], ◌∷◌, ◌++◌, map, length, refl, sym, ap, ap₂, ◌∙◌, codes, arith}
use Rattle.std.specs.Prelude.{sum_by}
use Rattle.std.specs.declared.cmp.Ordering.{Ordering}
use Rattle.std.specs.declared.cmp.Ordering.TheVariants.{Less, Equal, Greater}
use Rattle.std.specs.Ordering.{nat_cmp, MatchOrdering, match_ordering, ordering_then, is_lt}
use Rattle.std.specs.List.{AllByRecursion, list_all}
use Rattle.std.specs.Fmt.{decimal}
use Rattle.std.proofs.lemmas.Cmp.{ranked}
use Rattle.std.proofs.lemmas.Bool.{lt-ltb, le-leb, and_from}
use Rattle.std.proofs.lemmas.Fmt.{decimal_digit}
use Rattle.std.proofs.lemmas.List.Recursion.{is_sum_by}
use Rattle.gem_meaning.specs.texts.Bytes.{Bytes}
use Rattle.gem_meaning.specs.gem_object.Order.{value_order}
use Rattle.gem_meaning.specs.gem_object.References.{names_in_body}
use Rattle.gem_meaning.specs.gem_object.Sizes.{occurrences_size, fields_size}
use Rattle.gem_meaning.specs.gem_object.declared.value.Value.{Value}
use Rattle.gem_meaning.specs.gem_object.declared.value.Value.TheVariants.{Sym}
use Rattle.gem_meaning.specs.rc_counter_bag.Bag.{one_more, with_one_more}
use Rattle.gem_meaning.specs.object_programs.Budget.{is_within_limits}
use Rattle.gem_meaning.specs.object_programs.Spelled.{is_storable, ascends_after, ascends, occurs, are_items}
use Rattle.gem_server.specs.AfterLoad.{IsRoundName}
use Rattle.gem_server.specs.Rounds.{names_contents, round_name, with_name}

-- the items of a bag with the names of these numbers, each with how often it occurs
abbrev pub items : List (ℕ × ℕ) → List (Value × ℕ)
items counts = map (λ (entry : ℕ × ℕ). (round_name entry.0, entry.1)) counts

abbrev pub with_number : ℕ → List (ℕ × ℕ) → List (ℕ × ℕ)
with_number number counts = with_one_more nat_cmp number counts

-- how often all of them occur
abbrev pub occurrences : {X : Type 0} → List (X × ℕ) → ℕ
occurrences [] = 0
occurrences (entry ∷ counts) = entry.1 + occurrences counts

-- the numbers ascend, above this one and up to 9, and each name occurs
abbrev pub AscendAbove : ℕ → List (ℕ × ℕ) → Type 0
AscendAbove low [] = Unit {0}
AscendAbove low (entry ∷ counts) = (low < entry.0) × (entry.0 ≤ 9) × (0 < entry.1) × AscendAbove entry.0 counts

-- ---- the order of names

pub text_is : (number : ℕ) → number ≤ 9 → codes "n" ++ decimal number ≡ 110 ∷ (48 + number) ∷ []
text_is number to = ap (λ (digits : Bytes). codes "n" ++ digits) (decimal_digit number (omega (arith, to)))

then_equal : (order : Ordering) → ordering_then order Equal ≡ order
then_equal Less = refl
then_equal Equal = refl
then_equal Greater = refl

same_rank : (a b : ℕ) (shifted order : Ordering)
    → MatchOrdering shifted (48 + a < 48 + b) (48 + a ≡ 48 + b) (48 + b < 48 + a)
    → MatchOrdering order (a < b) (a ≡ b) (b < a) → shifted ≡ order
same_rank a b Less Less one other = refl
same_rank a b Less Equal one other = absurd (omega (arith, one, other))
same_rank a b Less Greater one other = absurd (omega (arith, one, other))
same_rank a b Equal Less one other = absurd (omega (arith, one, other))
same_rank a b Equal Equal one other = refl
same_rank a b Equal Greater one other = absurd (omega (arith, one, other))
same_rank a b Greater Less one other = absurd (omega (arith, one, other))
same_rank a b Greater Equal one other = absurd (omega (arith, one, other))
same_rank a b Greater Greater one other = refl

order_is : (a b : ℕ) → a ≤ 9 → b ≤ 9 → value_order (round_name a) (round_name b) ≡ nat_cmp a b
order_is a b a_to b_to =
    ap₂ (λ (one other : Bytes). value_order (Sym one) (Sym other)) (text_is a a_to) (text_is b b_to)
    ∙ then_equal (nat_cmp (48 + a) (48 + b))
    ∙ same_rank a b (nat_cmp (48 + a) (48 + b)) (nat_cmp a b) (ranked (48 + a) (48 + b) _ refl) (ranked a b _ refl)

-- ---- one more

-- the bag with the name once more is that with its number
pub with_name_is : (low number : ℕ) (counts : List (ℕ × ℕ)) → AscendAbove low counts → number ≤ 9
    → with_name number (items counts) ≡ items (with_number number counts)
with_name_is low number [] ascend to = refl
with_name_is low number (entry ∷ counts) ascend to =
    ap (λ (order : Ordering). match_ordering order
    ((round_name entry.0, entry.1) ∷ with_name number (items counts))
    ((round_name entry.0, one_more entry.1) ∷ items counts)
    ((round_name number, 1) ∷ items (entry ∷ counts))) (order_is entry.0 number ascend.1 to)
    ∙ by (with_name_is entry.0 number counts ascend.3 to) (nat_cmp entry.0 number)
  where
    by : with_name number (items counts) ≡ items (with_number number counts) → (order : Ordering) → match_ordering order
        ((round_name entry.0, entry.1) ∷ with_name number (items counts))
        ((round_name entry.0, one_more entry.1) ∷ items counts)
        ((round_name number, 1) ∷ items (entry ∷ counts))
        ≡ items (match_ordering order (entry ∷ with_number number counts) ((entry.0, one_more entry.1) ∷ counts)
        ((number, 1) ∷ entry ∷ counts))
    by rest Less = ap (λ (list : List (Value × ℕ)). (round_name entry.0, entry.1) ∷ list) rest
    by rest Equal = refl
    by rest Greater = refl

one_more_is : (n : ℕ) → n < 20000 → one_more n ≡ n + 1
one_more_is n below = omega (arith, below)

pub ascend_with : (low number : ℕ) (counts : List (ℕ × ℕ)) → AscendAbove low counts → low < number → number ≤ 9
    → occurrences counts < 20000 → AscendAbove low (with_number number counts)
ascend_with low number [] ascend from to few = (from, to, omega arith, tt)
ascend_with low number (entry ∷ counts) ascend from to few =
    by (λ below. ascend_with entry.0 number counts ascend.3 below to (omega (arith, few))) (nat_cmp entry.0 number)
    (ranked entry.0 number _ refl)
  where
    by : (entry.0 < number → AscendAbove entry.0 (with_number number counts)) → (order : Ordering)
        → MatchOrdering order (entry.0 < number) (entry.0 ≡ number) (number < entry.0)
        → AscendAbove low (match_ordering order (entry ∷ with_number number counts) ((entry.0, one_more entry.1) ∷ counts)
        ((number, 1) ∷ entry ∷ counts))
    by rest Less is = (ascend.0, ascend.1, ascend.2, rest is)
    by rest Equal is =
        let e = one_more_is entry.1 (omega (arith, few)) in (ascend.0, ascend.1, omega (arith, e), ascend.3)
    by rest Greater is = (from, to, omega arith, (is, ascend.1, ascend.2, ascend.3))

pub occurrences_with : (number : ℕ) (counts : List (ℕ × ℕ)) → occurrences counts < 20000
    → occurrences (with_number number counts) ≡ occurrences counts + 1
occurrences_with number [] few = refl
occurrences_with number (entry ∷ counts) few =
    by (occurrences_with number counts (omega (arith, few))) (nat_cmp entry.0 number)
  where
    by : occurrences (with_number number counts) ≡ occurrences counts + 1 → (order : Ordering)
        → occurrences (match_ordering order (entry ∷ with_number number counts) ((entry.0, one_more entry.1) ∷ counts)
        ((number, 1) ∷ entry ∷ counts)) ≡ entry.1 + occurrences counts + 1
    by rest Less = omega (arith, rest)
    by rest Equal = let e = one_more_is entry.1 (omega (arith, few)) in omega (arith, e)
    by rest Greater = omega arith

-- ---- what such a bag is

few_items : (low : ℕ) (counts : List (ℕ × ℕ)) → low ≤ 9 → AscendAbove low counts → low + length counts ≤ 9
few_items low [] to ascend = omega (arith, to)
few_items low (entry ∷ counts) to ascend =
    let rest = few_items entry.0 counts ascend.1 ascend.3 in let above = ascend.0 in omega (arith, rest, above)

same_occurrences : (counts : List (ℕ × ℕ)) → occurrences (items counts) ≡ occurrences counts
same_occurrences [] = refl
same_occurrences (entry ∷ counts) = ap (λ (n : ℕ). entry.1 + n) (same_occurrences counts)

pub counted : (counts : List (ℕ × ℕ)) → sum_by (λ (pair : Value × ℕ). pair.1) (items counts) ≡ occurrences counts
counted counts = sym (is_sum_by occurrences (λ (pair : Value × ℕ). pair.1) refl (λ pair pairs. refl) (items counts))
    ∙ same_occurrences counts

pub all_named : (low : ℕ) (counts : List (ℕ × ℕ)) → AscendAbove low counts
    → AllByRecursion (λ (pair : Value × ℕ). IsRoundName pair.0) (items counts)
all_named low [] ascend = tt
all_named low (entry ∷ counts) ascend = ((entry.0, ascend.1, refl), all_named entry.0 counts ascend.3)

no_names : (counts : List (ℕ × ℕ)) → names_in_body (names_contents (items counts)).body ≡ []
no_names [] = refl
no_names (entry ∷ counts) = no_names counts

pub storable : (number : ℕ) → number ≤ 9 → is_storable (round_name number) ≡ true
storable number to = ap (λ (text : Bytes). is_storable (Sym text)) (text_is number to)
    ∙ ap (λ (b : Bool). b && true) (lt-ltb (48 + number) 128 (omega (arith, to)))

all_storable : (low : ℕ) (counts : List (ℕ × ℕ)) → AscendAbove low counts
    → list_all (λ (pair : Value × ℕ). is_storable pair.0) (items counts) ≡ true
all_storable low [] ascend = refl
all_storable low (entry ∷ counts) ascend =
    and_from _ _ (storable entry.0 ascend.1) (all_storable entry.0 counts ascend.3)

less : (a b : ℕ) → a < b → is_lt (nat_cmp a b) ≡ true
less a b below = by (nat_cmp a b) (ranked a b _ refl)
  where
    by : (order : Ordering) → MatchOrdering order (a < b) (a ≡ b) (b < a) → is_lt order ≡ true
    by Less is = refl
    by Equal is = absurd (omega (arith, is, below))
    by Greater is = absurd (omega (arith, is, below))

ascends_from : (low : ℕ) (counts : List (ℕ × ℕ)) → low ≤ 9 → AscendAbove low counts
    → ascends_after value_order (round_name low) (map (λ (pair : Value × ℕ). pair.0) (items counts)) ≡ true
ascends_from low [] to ascend = refl
ascends_from low (entry ∷ counts) to ascend =
    and_from _ _ (ap is_lt (order_is low entry.0 to ascend.1) ∙ less low entry.0 ascend.0)
    (ascends_from entry.0 counts ascend.1 ascend.3)

all_ascend : (low : ℕ) (counts : List (ℕ × ℕ)) → AscendAbove low counts
    → ascends value_order (map (λ (pair : Value × ℕ). pair.0) (items counts)) ≡ true
all_ascend low [] ascend = refl
all_ascend low (entry ∷ counts) ascend = ascends_from entry.0 counts ascend.1 ascend.3

all_occur : (low : ℕ) (counts : List (ℕ × ℕ)) → AscendAbove low counts → occurrences counts ≤ 20000
    → list_all occurs (items counts) ≡ true
all_occur low [] ascend few = refl
all_occur low (entry ∷ counts) ascend few =
    and_from _ _ (and_from _ _ (lt-ltb 0 entry.1 ascend.2) (lt-ltb entry.1 (2 ^ 64) (omega (arith, few))))
    (all_occur entry.0 counts ascend.3 (omega (arith, few)))

length_items : (counts : List (ℕ × ℕ)) → length (items counts) ≡ length counts
length_items [] = refl
length_items (entry ∷ counts) = ap suc (length_items counts)

are_few_items : (counts : List (ℕ × ℕ)) → AscendAbove 0 counts → occurrences counts ≤ 20000 → are_items (items counts) ≡ true
are_few_items counts ascend few =
    let n = few_items 0 counts (omega arith) ascend in
    let same = length_items counts in
    and_from _ _ (lt-ltb (length (items counts)) (2 ^ 32) (omega (arith, n, same)))
    (and_from _ _ (all_storable 0 counts ascend) (and_from _ _ (all_ascend 0 counts ascend) (all_occur 0 counts ascend few)))

-- ---- its size

abbrev size_of : List (Value × ℕ) → ℕ
size_of [] = 0
size_of (pair ∷ pairs) = occurrences_size pair + size_of pairs

item_size : (entry : ℕ × ℕ) → entry.0 ≤ 9 → occurrences_size (round_name entry.0, entry.1) ≡ 13
item_size entry to = ap (λ (text : Bytes). occurrences_size (Sym text, entry.1)) (text_is entry.0 to)

sizes : (low : ℕ) (counts : List (ℕ × ℕ)) → AscendAbove low counts → size_of (items counts) ≡ 13 * length counts
sizes low [] ascend = omega arith
sizes low (entry ∷ counts) ascend =
    let one = item_size entry ascend.1 in let rest = sizes entry.0 counts ascend.3 in omega (arith, one, rest)

pub bag_size : (counts : List (ℕ × ℕ)) → AscendAbove 0 counts → fields_size (names_contents (items counts)).body ≤ 121
bag_size counts ascend =
    let all : size_of (items counts) ≡ sum_by occurrences_size (items counts) =
    is_sum_by size_of occurrences_size refl (λ pair pairs. refl) (items counts) in
    let each = sizes 0 counts ascend in
    let n = few_items 0 counts (omega arith) ascend in omega (arith, all, each, n)

within_limits : (counts : List (ℕ × ℕ)) → AscendAbove 0 counts → occurrences counts ≤ 20000
    → is_within_limits (names_contents (items counts)) ≡ true
within_limits counts ascend few =
    let slots = counted counts in
    let bytes = bag_size counts ascend in
    and_from _ _ (le-leb (sum_by (λ (pair : Value × ℕ). pair.1) (items counts)) 65000 (omega (arith, slots, few)))
    (le-leb (17 + fields_size (names_contents (items counts)).body) 1048576 (omega (arith, bytes)))

-- what is asked of a bag that a round meets or leaves
pub record IsSmallBag (counts : List (ℕ × ℕ)) : Type 0 where
  pub limits : is_within_limits (names_contents (items counts)) ≡ true
  pub refers : names_in_body (names_contents (items counts)).body ≡ []
  pub stored : are_items (items counts) ≡ true

pub small_bag : (counts : List (ℕ × ℕ)) → AscendAbove 0 counts → occurrences counts ≤ 20000 → IsSmallBag counts
small_bag counts ascend few = record {
  limits = within_limits counts ascend few;
  refers = no_names counts;
  stored = are_few_items counts ascend few;
}
