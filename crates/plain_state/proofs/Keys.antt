-- A dictionary without a key.
use Rattle.std.proofs.Common.{◌≡◌, ◌∙◌, refl, sym, ap, ap₂, ℕ, suc, ◌<◌, ◌≤◌, Bool, true, false, ◌&&◌, ◌||◌, not, cond, Option, Some, None, List, [], ◌∷◌, length, Ok, arith}
use Rattle.std.proofs.lemmas.Bool.{false≢true, true≢false, and_parts, and_from, ltb-true, lt-ltb}
use Rattle.std.proofs.lemmas.List.Folds.{list_all-append}
use Rattle.std.specs.List.{list_all, list_any}
use Rattle.std.specs.FinMap.{get}
use Rattle.gem_object.specs.insertion_map.Pairs.{without_key}
use Rattle.gem_object.specs.Edits.{without_value_at}
use Rattle.gem_object.specs.Kinds.{is_shared}
use Rattle.gem_object.specs.Order.{same_value}
use Rattle.gem_object.specs.References.{names_in, names_in_pairs}
use Rattle.gem_object.specs.declared.value.Value.{Value}
use Rattle.gem_object.specs.declared.body.Body.{Body}
use Rattle.gem_object.specs.declared.body.Body.TheVariants as body
use Rattle.gem_image.specs.Image.{Contents}
use Rattle.gem_world.specs.Changes.{with_body}
use Rattle.object_programs.specs.Fixed.{fixed_by}
use Rattle.object_programs.specs.Guard.{Parts, holds_of, is_known, may_replace}
use Rattle.object_programs.specs.Spelled.{is_storable_pair, is_nil, keys_differ, is_dictionary_body}
use Rattle.running_objects.specs.Seen.{Seen, IsSoundState}
use Rattle.running_objects.specs.Acted.{Edited}
use Rattle.running_objects.specs.Fitting.{is_known_value, can_count}
use Rattle.running_objects.proofs.Edits.{all_known, pairs_fit, old_pairs}
use Rattle.running_objects.proofs.Puts.{edit_of_same}
use Rattle.plain_state.specs.Classes.{has_pairs}
use Rattle.plain_state.specs.Parts.{edited_in}
use Rattle.plain_state.proofs.Slots.{old_shown, edit_done}

unfoldable pub pair_known : Parts → Value × Value → Bool
pair_known parts pair = list_all (is_known_value parts) (pair.0 ∷ pair.1 ∷ [])

pub pairs_known : (parts : Parts) (pairs : List (Value × Value))
    → list_all (is_known parts) (names_in_pairs pairs) ≡ list_all (pair_known parts) pairs
unfolding pair_known
pairs_known parts [] = refl
pairs_known parts (pair ∷ rest) = list_all-append (is_known parts) (names_in (pair.0 ∷ pair.1 ∷ [])) (names_in_pairs rest)
    ∙ ap₂ (λ a b. a && b) (all_known parts (pair.0 ∷ pair.1 ∷ [])) (pairs_known parts rest)

left_by : (test : Value × Value → Bool) (pair : Value × Value) (rest left : List (Value × Value)) (b : Bool)
    → test pair ≡ true → list_all test rest ≡ true → list_all test left ≡ true
    → list_all test (cond b rest (pair ∷ left)) ≡ true
left_by test pair rest left true first others fewer = others
left_by test pair rest left false first others fewer = and_from (test pair) (list_all test left) first fewer

none_by : (test : Value × Value → Bool) (pair : Value × Value) (rest left : List (Value × Value)) (b first : Bool)
    → test pair ≡ first → (first || list_any test rest) ≡ false → (list_any test rest ≡ false → list_any test left ≡ false)
    → list_any test (cond b rest (pair ∷ left)) ≡ false
none_by test pair rest left b true is none fewer = absurd (true≢false none)
none_by test pair rest left true false is none fewer = none
none_by test pair rest left false false is none fewer = ap (λ a. a || list_any test left) is ∙ fewer none

pub not_false : (b : Bool) → not b ≡ true → b ≡ false
not_false true is = absurd (false≢true is)
not_false false is = refl

fewer_by : (pair : Value × Value) (rest left : List (Value × Value)) (b : Bool) → length left ≤ length rest
    → length (cond b rest (pair ∷ left)) ≤ suc (length rest)
fewer_by pair rest left true fewer = omega arith
fewer_by pair rest left false fewer = omega (arith, fewer)

module _ (key : Value) where
  -- what holds of all pairs holds of those that are left
  all_left : (test : Value × Value → Bool) (pairs : List (Value × Value)) → list_all test pairs ≡ true
      → list_all test (without_key same_value key pairs) ≡ true
  all_left test [] all = refl
  all_left test (pair ∷ rest) all =
      let both = and_parts (test pair) (list_all test rest) all in
      left_by test pair rest (without_key same_value key rest) (same_value key pair.0) both.0 both.1 (all_left test rest both.1)

  none_left : (test : Value × Value → Bool) (pairs : List (Value × Value)) → list_any test pairs ≡ false
      → list_any test (without_key same_value key pairs) ≡ false
  none_left test [] none = refl
  none_left test (pair ∷ rest) none =
      none_by test pair rest (without_key same_value key rest) (same_value key pair.0) (test pair) refl none (none_left test rest)

  differ_by : (pair : Value × Value) (rest left : List (Value × Value)) (b : Bool)
      → list_any (λ other. same_value pair.0 other.0) rest ≡ false → list_any (λ other. same_value pair.0 other.0) left ≡ false
      → keys_differ rest ≡ true → keys_differ left ≡ true → keys_differ (cond b rest (pair ∷ left)) ≡ true
  differ_by pair rest left true none fewer others rest_differ = others
  differ_by pair rest left false none fewer others rest_differ =
      and_from (not (list_any (λ other. same_value pair.0 other.0) left)) (keys_differ left) (ap not fewer) rest_differ

  differ_left : (pairs : List (Value × Value)) → keys_differ pairs ≡ true → keys_differ (without_key same_value key pairs) ≡ true
  differ_left [] differ = refl
  differ_left (pair ∷ rest) differ =
      let both = and_parts (not (list_any (λ other. same_value pair.0 other.0) rest)) (keys_differ rest) differ in
      let none = not_false (list_any (λ other. same_value pair.0 other.0) rest) both.0 in
      differ_by pair rest (without_key same_value key rest) (same_value key pair.0) none
      (none_left (λ other. same_value pair.0 other.0) rest none) both.1 (differ_left rest both.1)

  fewer_left : (pairs : List (Value × Value)) → length (without_key same_value key pairs) ≤ length pairs
  fewer_left [] = omega arith
  fewer_left (pair ∷ rest) = fewer_by pair rest (without_key same_value key rest) (same_value key pair.0) (fewer_left rest)

  dictionary_left : (pairs : List (Value × Value)) → is_dictionary_body pairs ≡ true
      → is_dictionary_body (without_key same_value key pairs) ≡ true
  dictionary_left pairs whole =
      let left : List (Value × Value) = without_key same_value key pairs in
      let count = and_parts (can_count (length pairs)) _ whole in
      let stored = and_parts (list_all is_storable_pair pairs) _ count.1 in
      let differ = and_parts (keys_differ pairs) _ stored.1 in
      let few : length pairs < 4294967296 = ltb-true (length pairs) 4294967296 count.0 in
      let fewer = fewer_left pairs in
      and_from (can_count (length left)) _ (lt-ltb (length left) 4294967296 (omega (arith, few, fewer)))
      (and_from (list_all is_storable_pair left) _ (all_left is_storable_pair pairs stored.0)
      (and_from (keys_differ left) _ (differ_left pairs differ.0) (all_left (λ pair. not (is_nil pair.0)) pairs differ.1)))

module _ (x : Seen) (name : ℕ) (key : Value) (sound : IsSoundState x) where
  pub pairs_by : (one : Body) → has_pairs one ≡ true → (pairs : List (Value × Value)) × (one ≡ body.Dict pairs)
  pairs_by (body.Dict pairs) has = (pairs, refl)
  pairs_by (body.Plain values) has = absurd (false≢true has)
  pairs_by (body.Bytes bytes) has = absurd (false≢true has)
  pairs_by (body.Class class) has = absurd (false≢true has)
  pairs_by (body.Segment rights) has = absurd (false≢true has)
  pairs_by (body.User user) has = absurd (false≢true has)
  pairs_by (body.Counter counter) has = absurd (false≢true has)
  pairs_by (body.Bag pairs) has = absurd (false≢true has)
  pairs_by (body.RcDict pairs) has = absurd (false≢true has)
  pairs_by (body.Queue queue) has = absurd (false≢true has)

  removal_fits : (old : Contents) (pairs : List (Value × Value)) → get x.world.changes name ≡ Some old → old.body ≡ body.Dict pairs
      → may_replace name old (with_body (without_value_at key old.body) old) x.setting x.world ≡ true
  removal_fits old pairs written is =
      let parts : Parts = fixed_by x.setting x.world in
      let there = old_shown x name old written in
      let own = old_pairs x.setting x.world name old sound there pairs is in
      ap (λ (one : Body). may_replace name old (with_body (without_value_at key one) old) x.setting x.world) is
      ∙ pairs_fit x.setting x.world name old sound there pairs (without_key same_value key pairs) is
      ∙ and_from _ _ (pairs_known parts (without_key same_value key pairs)
      ∙ all_left key (pair_known parts) pairs (sym (pairs_known parts pairs) ∙ own.0))
      (dictionary_left key pairs own.1)

  removed_by : (found : Option Contents) → get x.world.changes name ≡ found → holds_of (λ object. has_pairs object.body) found ≡ true
      → Edited name (without_value_at key) x (Ok tt) (edited_in name (λ object. with_body (without_value_at key object.body) object) x)
  removed_by None there has = absurd (false≢true has)
  removed_by (Some old) there has =
      let pairs = pairs_by old.body has in
      edit_done x name old there (without_value_at key) (λ object. with_body (without_value_at key object.body) object) refl
      (ap is_shared pairs.1) (removal_fits old pairs.0 there pairs.1)

  pub removal_done : holds_of (λ object. has_pairs object.body) (get x.world.changes name) ≡ true
      → Edited name (without_value_at key) x (Ok tt) (edited_in name (λ object. with_body (without_value_at key object.body) object) x)
  removal_done has = removed_by (get x.world.changes name) refl has

  no_pairs_in : (one : Body) → has_pairs one ≡ false → without_value_at key one ≡ one
  no_pairs_in (body.Dict pairs) none = absurd (true≢false none)
  no_pairs_in (body.Plain values) none = refl
  no_pairs_in (body.Bytes bytes) none = refl
  no_pairs_in (body.Class class) none = refl
  no_pairs_in (body.Segment rights) none = refl
  no_pairs_in (body.User user) none = refl
  no_pairs_in (body.Counter counter) none = refl
  no_pairs_in (body.Bag pairs) none = refl
  no_pairs_in (body.RcDict pairs) none = refl
  no_pairs_in (body.Queue queue) none = refl

  pub no_removal : holds_of (λ object. has_pairs object.body) (get x.world.changes name) ≡ false
      → Edited name (without_value_at key) x (Ok tt) x
  no_removal none = edit_of_same x name sound (without_value_at key) (λ old written.
      no_pairs_in old.body (sym (ap (holds_of (λ object. has_pairs object.body)) written) ∙ none))
