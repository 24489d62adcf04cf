-- The root of a map, before a change and after it.
use Rattle.std.proofs.Common.{◌≡◌, ℕ, ◌+◌, ◌-◌, ◌*◌, ◌^◌, ◌<◌, ◌≤◌, Bool, cond, Option, None, Some, Bor, option_copied, is_some, refl, sym, ap, subst, ◌∙◌, arith}
use Rattle.std.proofs.Math.Nat.{pow-le-pow_right}
use Rattle.std.proofs.lemmas.Cmp.{nat_cmp_total}
use Rattle.std.specs.Ordering.{nat_cmp}
use Rattle.std.specs.FinMap.{FinMap, get, insert, len, contains_key, get-empty, len-empty, len-insert}
use Rattle.radix_pages.specs.declared.node.Slot.{Slot}
use Rattle.radix_pages.specs.declared.node.Slot.TheVariants.{Empty}
use Rattle.radix_pages.specs.Node.{SlotFits, slot_map}
use Rattle.radix_pages.specs.Root.{AllBelow, IsRoot}
use Rattle.radix_pages.proofs.Tables.{table_is, len-table, get-insert_other}

-- a map with nothing from n on has at most n keys
few_keys : {X : Type 0} (n : ℕ) (m : FinMap nat_cmp X) → AllBelow n m → len m ≤ n
few_keys n m below = subst (λ map. len map ≤ n) (table_is n (get m) m (λ q within. refl) below) (len-table n (get m))

below-insert : {X : Type 0} (n : ℕ) (m : FinMap nat_cmp X) (k : ℕ) (v : X) → k < n → AllBelow n m
    → AllBelow n (insert m k v)
below-insert n m k v within below q past = get-insert_other m k v q (omega (arith, within, past)) ∙ below q past

-- an empty root
pub new_root : {X : Type 0} (bits levels : ℕ) → 0 < bits → bits ≤ 8 → 0 < levels
    → bits * levels ≤ 48 → IsRoot {X = X} bits levels Empty 0
new_root {X} bits levels some_bits few_bits some_levels in_range = record {
  some_bits = some_bits;
  few_bits = few_bits;
  some_levels = some_levels;
  in_range = in_range;
  fits = tt;
  below = λ q past. get-empty nat_cmp q;
  counted = sym (len-empty nat_cmp X);
}

pub none_in_empty : {X : Type 0} (root : Slot X) (m : FinMap nat_cmp X) (k : ℕ) → root ≡ Empty
    → slot_map root ≡ m → get m k ≡ None
none_in_empty root m k is view = ap (λ map. get map k) (sym view ∙ ap slot_map is) ∙ get-empty nat_cmp k

module _ {X : Type 0} (bits levels : ℕ) (root : Slot X) (count : ℕ) (whole : IsRoot bits levels root count) where
  pub count_bound : count ≤ 2 ^ (bits * levels)
  count_bound = omega (arith, whole.counted, few_keys (2 ^ (bits * levels)) (slot_map root) whole.below)

  pub count_small : count ≤ 2 ^ 48
  count_small = omega (arith, count_bound, pow-le-pow_right {n = 2} (omega arith) whole.in_range)

  -- the root with one key set
  pub root_set : (slot : Slot X) (more : ℕ) (k : ℕ) (v : X) → k < 2 ^ (bits * levels)
      → SlotFits bits levels slot
      → slot_map slot ≡ insert (slot_map root) k v → cond (contains_key (slot_map root) k) count (count + 1) ≡ more → IsRoot bits levels slot more
  root_set slot more k v within fits is counts = record {
    some_bits = whole.some_bits;
    few_bits = whole.few_bits;
    some_levels = whole.some_levels;
    in_range = whole.in_range;
    fits = fits;
    below = subst (AllBelow (2 ^ (bits * levels))) (sym is) (below-insert (2 ^ (bits * levels)) (slot_map root) k v within whole.below);
    counted = sym counts
        ∙ ap (λ (n : ℕ). cond (contains_key (slot_map root) k) n (n + 1)) whole.counted
        ∙ sym (len-insert nat_cmp_total (slot_map root) k v) ∙ ap len (sym is);
  }

same_some : {X : Type 0} (found : Option (Bor X)) → is_some (option_copied found) ≡ is_some found
same_some None = refl
same_some (Some x) = refl

-- whether a key was found says whether it stands in the root
pub stands : {X : Type 0} (root : Slot X) (m : FinMap nat_cmp X) (k : ℕ) (found : Option (Bor X))
    (test : Bool) → slot_map root ≡ m → option_copied found ≡ get m k → is_some found ≡ test
    → contains_key (slot_map root) k ≡ test
stands root m k found test view copied is =
    ap (λ map. contains_key map k) view ∙ sym (ap is_some copied) ∙ same_some found ∙ is

pub one_lower : (n : ℕ) → 0 < n → n - 1 + 1 ≡ n
one_lower n some = omega arith
