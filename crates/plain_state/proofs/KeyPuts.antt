-- A dictionary with a value at a key.
use Rattle.std.proofs.Common.{◌≡◌, ◌∙◌, refl, sym, ap, ap₂, subst, ℕ, suc, ◌+◌, Bool, true, false, ◌&&◌, ◌||◌, not, cond, Option, Some, None, List, [], ◌∷◌, ◌++◌, length, fold, is_some, Ok, Err, arith}
use Rattle.std.proofs.lemmas.Bool.{false≢true, true≢false, and_parts, and_from}
use Rattle.std.proofs.lemmas.List.Sums.{fold-append}
use Rattle.std.specs.List.{list_all, list_any}
use Rattle.std.specs.Cmp.{Equal-is}
use Rattle.std.specs.FinMap.{get}
use Rattle.gem_object.specs.insertion_map.Pairs.{entry_of, with_pair}
use Rattle.gem_object.specs.Edits.{with_value_at}
use Rattle.gem_object.specs.Kinds.{is_shared}
use Rattle.gem_object.specs.Order.{value_order, same_value}
use Rattle.gem_object.specs.References.{names_in, names_in_pairs, names_in_body}
use Rattle.gem_object.specs.declared.value.Value.{Value}
use Rattle.gem_object.specs.declared.body.Body.{Body}
use Rattle.gem_object.specs.declared.body.Body.TheVariants as body
use Rattle.gem_object.proofs.Ties.{ties}
use Rattle.gem_image.specs.Image.{Contents}
use Rattle.gem_world.specs.World.{World, shown}
use Rattle.gem_world.specs.Changes.{with_body}
use Rattle.object_programs.specs.Fixed.{class_part, fixed_of, fixed_by}
use Rattle.object_programs.specs.Guard.{Parts, holds_of, is_known, asked_names, line_of_class, line_at, may_replace}
use Rattle.object_programs.specs.Atom.{Put, with_missing, touch_missing}
use Rattle.object_programs.specs.Laws.{lacking}
use Rattle.object_programs.specs.Spelled.{is_storable, is_storable_pair, is_nil, keys_differ}
use Rattle.running_objects.specs.Seen.{Seen, IsSoundState}
use Rattle.running_objects.specs.Acted.{Edited}
use Rattle.running_objects.specs.Fitting.{is_known_value, can_count}
use Rattle.running_objects.proofs.Edits.{parts_stay, pairs_fit, old_pairs}
use Rattle.running_objects.proofs.Puts.{none_missing, known_refs, rest_known, edit_of_same}
use Rattle.plain_state.specs.Classes.{has_pairs}
use Rattle.plain_state.specs.Keys.{may_put}
use Rattle.running_objects.specs.declared.stop.Stop.TheVariants as stop
use Rattle.running_objects.proofs.Running.{acted_nothing}
use Rattle.plain_state.specs.Parts.{missed_value, edited_in, SameObjects}
use Rattle.plain_state.proofs.Touched.{keeps_touched}
use Rattle.plain_state.proofs.Slots.{old_shown, edit_done, edit_lacks, value_missing, refs_of_one, values_missing, value_missed, missed_setting, missed_budget}
use Rattle.plain_state.proofs.Keys.{pair_known, pairs_known, pairs_by, not_false}

-- values that are the same are equal
same_is : (value other : Value) → same_value value other ≡ true → value ≡ other
same_is value other same = ties value other ((Equal-is (value_order value other)).0 same)

pub last_true : (b : Bool) → (b && true) ≡ b
last_true true = refl
last_true false = refl

module _ (key value : Value) where
  -- a test that holds of all pairs holds of those with a new one where it holds of this
  put_by : (test : Value × Value → Bool) (pair : Value × Value) (rest new : List (Value × Value)) (b : Bool)
      → same_value key pair.0 ≡ b → test pair ≡ true → list_all test rest ≡ true → list_all test new ≡ test (key, value)
      → list_all test (cond b ((pair.0, value) ∷ rest) (pair ∷ new)) ≡ test (key, value)
  put_by test pair rest new true same first others more =
      ap₂ (λ a b. a && b) (ap (λ (k : Value). test (k, value)) (sym (same_is key pair.0 same))) others
      ∙ last_true (test (key, value))
  put_by test pair rest new false apart first others more = ap (λ a. a && list_all test new) first ∙ more

  pub all_put : (test : Value × Value → Bool) (pairs : List (Value × Value)) → list_all test pairs ≡ true
      → list_all test (with_pair same_value key value pairs) ≡ test (key, value)
  all_put test [] all = last_true (test (key, value))
  all_put test (pair ∷ rest) all =
      let both = and_parts (test pair) (list_all test rest) all in
      put_by test pair rest (with_pair same_value key value rest) (same_value key pair.0) refl both.0 both.1
      (all_put test rest both.1)

  -- the number of pairs
  long_by : (pair : Value × Value) (rest new : List (Value × Value)) (b : Bool) (found : Option Value)
      → length new ≡ cond (is_some found) (length rest) (length rest + 1)
      → length (cond b ((pair.0, value) ∷ rest) (pair ∷ new))
      ≡ cond (is_some (cond b (Some pair.1) found)) (suc (length rest)) (suc (length rest) + 1)
  long_by pair rest new true found long = refl
  long_by pair rest new false None long = let more : length new ≡ length rest + 1 = long in omega (arith, more)
  long_by pair rest new false (Some other) long = ap suc long

  long_put : (pairs : List (Value × Value)) → length (with_pair same_value key value pairs)
      ≡ cond (is_some (entry_of same_value key pairs)) (length pairs) (length pairs + 1)
  long_put [] = refl
  long_put (pair ∷ rest) = long_by pair rest (with_pair same_value key value rest) (same_value key pair.0)
      (entry_of same_value key rest) (long_put rest)

  count_by : (count : ℕ) (there : Bool) → can_count count ≡ true
      → can_count (cond there count (count + 1)) ≡ (can_count (count + 1) || there)
  count_by count true fits = fits ∙ sym (or_true (can_count (count + 1)))
    where
      or_true : (b : Bool) → (b || true) ≡ true
      or_true true = refl
      or_true false = refl
  count_by count false fits = sym (or_false (can_count (count + 1)))
    where
      or_false : (b : Bool) → (b || false) ≡ b
      or_false true = refl
      or_false false = refl

  -- the keys still differ
  other_way : (other : Value) (b : Bool) → same_value key other ≡ false → same_value other key ≡ b → b ≡ false
  other_way other true apart same =
      let is : other ≡ key = same_is other key same in
      absurd (true≢false (sym same ∙ ap (λ (v : Value). same_value v key) is
      ∙ sym (ap (same_value key) is) ∙ apart))
  other_way other false apart same = refl

  none_by : (asked : Value) (pair : Value × Value) (rest new : List (Value × Value)) (b first : Bool)
      → same_value asked pair.0 ≡ first → (first || list_any (λ other. same_value asked other.0) rest) ≡ false
      → (list_any (λ other. same_value asked other.0) rest ≡ false → list_any (λ other. same_value asked other.0) new ≡ false)
      → list_any (λ other. same_value asked other.0) (cond b ((pair.0, value) ∷ rest) (pair ∷ new)) ≡ false
  none_by asked pair rest new b true is none more = absurd (true≢false none)
  none_by asked pair rest new true false is none more =
      ap (λ a. a || list_any (λ other. same_value asked other.0) rest) is ∙ none
  none_by asked pair rest new false false is none more =
      ap (λ a. a || list_any (λ other. same_value asked other.0) new) is ∙ more none

  none_put : (asked : Value) → same_value asked key ≡ false → (pairs : List (Value × Value))
      → list_any (λ other. same_value asked other.0) pairs ≡ false
      → list_any (λ other. same_value asked other.0) (with_pair same_value key value pairs) ≡ false
  none_put asked apart [] none = ap (λ a. a || false) apart
  none_put asked apart (pair ∷ rest) none = none_by asked pair rest (with_pair same_value key value rest)
      (same_value key pair.0) (same_value asked pair.0) refl none (none_put asked apart rest)

  differ_by : (pair : Value × Value) (rest new : List (Value × Value)) (b : Bool) → same_value key pair.0 ≡ b
      → list_any (λ other. same_value pair.0 other.0) rest ≡ false
      → (same_value pair.0 key ≡ false → list_any (λ other. same_value pair.0 other.0) new ≡ false)
      → keys_differ rest ≡ true → keys_differ new ≡ true
      → keys_differ (cond b ((pair.0, value) ∷ rest) (pair ∷ new)) ≡ true
  differ_by pair rest new true same none more others new_differ =
      and_from (not (list_any (λ other. same_value pair.0 other.0) rest)) (keys_differ rest) (ap not none) others
  differ_by pair rest new false apart none more others new_differ =
      and_from (not (list_any (λ other. same_value pair.0 other.0) new)) (keys_differ new)
      (ap not (more (other_way pair.0 (same_value pair.0 key) apart refl))) new_differ

  differ_put : (pairs : List (Value × Value)) → keys_differ pairs ≡ true
      → keys_differ (with_pair same_value key value pairs) ≡ true
  differ_put [] differ = refl
  differ_put (pair ∷ rest) differ =
      let both = and_parts (not (list_any (λ other. same_value pair.0 other.0) rest)) (keys_differ rest) differ in
      let none = not_false (list_any (λ other. same_value pair.0 other.0) rest) both.0 in
      differ_by pair rest (with_pair same_value key value rest) (same_value key pair.0) refl none
      (λ apart. none_put pair.0 apart rest none) both.1 (differ_put rest both.1)

  -- what the pairs lack is what the new one lacks
  pub pair_missing : (parts : Parts) (touched : List ℕ) → fold (with_missing parts) touched (names_in (key ∷ value ∷ []))
      ≡ value_missing parts (value_missing parts touched key) value
  pair_missing parts touched = key_by key
    where
      key_by : (one : Value) → fold (with_missing parts) touched (names_in (one ∷ value ∷ []))
          ≡ value_missing parts (value_missing parts touched one) value
      key_by one = refs_of_one parts touched one (value ∷ [])
          ∙ refs_of_one parts (value_missing parts touched one) value []

  missing_by : (parts : Parts) (touched : List ℕ) (pair : Value × Value) (rest new : List (Value × Value)) (b : Bool)
      → same_value key pair.0 ≡ b → pair_known parts pair ≡ true → list_all (pair_known parts) rest ≡ true
      → fold (with_missing parts) touched (names_in_pairs new) ≡ value_missing parts (value_missing parts touched key) value
      → fold (with_missing parts) touched (names_in_pairs (cond b ((pair.0, value) ∷ rest) (pair ∷ new)))
      ≡ value_missing parts (value_missing parts touched key) value
  unfolding pair_known
  missing_by parts touched pair rest new true same first others more =
      ap (λ (k : Value). fold (with_missing parts) touched (names_in_pairs ((k, value) ∷ rest))) (sym (same_is key pair.0 same))
      ∙ fold-append (with_missing parts) touched (names_in (key ∷ value ∷ [])) (names_in_pairs rest)
      ∙ none_missing parts (names_in_pairs rest) _ (pairs_known parts rest ∙ others)
      ∙ pair_missing parts touched
  missing_by parts touched pair rest new false apart first others more =
      fold-append (with_missing parts) touched (names_in (pair.0 ∷ pair.1 ∷ [])) (names_in_pairs new)
      ∙ ap (λ begun. fold (with_missing parts) begun (names_in_pairs new))
      (values_missing parts touched (pair.0 ∷ pair.1 ∷ []) first)
      ∙ more

  put_missing : (parts : Parts) (touched : List ℕ) (pairs : List (Value × Value)) → list_all (pair_known parts) pairs ≡ true
      → fold (with_missing parts) touched (names_in_pairs (with_pair same_value key value pairs))
      ≡ value_missing parts (value_missing parts touched key) value
  put_missing parts touched [] all = fold-append (with_missing parts) touched (names_in (key ∷ value ∷ [])) (names_in_pairs [])
      ∙ pair_missing parts touched
  put_missing parts touched (pair ∷ rest) all =
      let both = and_parts (pair_known parts pair) (list_all (pair_known parts) rest) all in
      missing_by parts touched pair rest (with_pair same_value key value rest) (same_value key pair.0) refl both.0 both.1
      (put_missing parts touched rest both.1)

-- the tests in the order of the code
reordered : (kk ks vk vs some room : Bool) → ((kk && (vk && true)) && (room && ((ks && vs) && (true && some))))
    ≡ ((kk && ks) && ((vk && vs) && (some && room)))
reordered false ks vk vs some room = refl
reordered true true false vs some room = refl
reordered true false false vs some room = refl
reordered true false true vs some true = refl
reordered true false true vs some false = refl
reordered true true true false some true = refl
reordered true true true false some false = refl
reordered true true true true false true = refl
reordered true true true true false false = refl
reordered true true true true true true = refl
reordered true true true true true false = refl

-- Another body with the same fixed part asks for what it refers to, and for nothing else that may be missing.
module _ (x : Seen) (name : ℕ) (sound : IsSoundState x) where
  pub body_lacks : (old : Contents) (new : Body) (touched : List ℕ) → shown name x.setting x.world ≡ Some old
      → fixed_of (with_body new old) ≡ fixed_of old → class_part new ≡ class_part old.body
      → fold (with_missing (fixed_by x.setting x.world)) x.world.touched (names_in_body new) ≡ touched
      → lacking name (with_body new old) x.setting x.world ≡ record x.world { touched = touched }
  unfolding touch_missing
  body_lacks old new touched there fixed part lacks =
      let parts : Parts = fixed_by x.setting x.world in
      let refs = known_refs x.setting x.world sound name old there in
      let class = and_parts (is_known parts old.class) _ refs in
      let segment = and_parts (is_known parts old.segment) _ class.1 in
      let above : List ℕ = line_at parts old.class ++ line_of_class (class_part new) (line_at parts) in
      let line : list_all (is_known parts) above ≡ true =
      ap (λ part. list_all (is_known parts) (line_at parts old.class ++ line_of_class part (line_at parts))) part
      ∙ rest_known x.setting x.world sound name old there in
      let head : list_all (is_known parts) (old.class ∷ old.segment ∷ []) ≡ true =
      and_from _ _ class.0 (and_from _ _ segment.0 refl) in
      ap (λ (parts : Parts). touch_missing parts (asked_names parts (with_body new old)) x.world)
      (parts_stay x.setting x.world name old sound there (with_body new old) fixed)
      ∙ ap (λ touched. record x.world { touched = touched })
      (fold-append (with_missing parts) x.world.touched (old.class ∷ old.segment ∷ names_in_body new) above
      ∙ none_missing parts above _ line
      ∙ fold-append (with_missing parts) x.world.touched (old.class ∷ old.segment ∷ []) (names_in_body new)
      ∙ ap (λ begun. fold (with_missing parts) begun (names_in_body new))
      (none_missing parts (old.class ∷ old.segment ∷ []) x.world.touched head)
      ∙ lacks)

-- where memory ran out after touches
pub edited_kept : (x y : Seen) (name : ℕ) (edit : Body → Body) → SameObjects x y → Edited name edit x (Err stop.NoMemory) y
edited_kept x y name edit same object there = acted_nothing (Put name (edit object.body)) x y (keeps_touched x y same)

-- two values that are touched one after the other, where they are missing
pub both_missed : (x : Seen) (one other : Value)
    → record x.world { touched = value_missing (fixed_by x.setting x.world) (value_missing (fixed_by x.setting x.world) x.world.touched one) other }
    ≡ (missed_value other (missed_value one x)).world
both_missed x one other =
    let begun : World = record x.world { touched = value_missing (fixed_by x.setting x.world) x.world.touched one } in
    let next : Seen = missed_value one x in
    let At : World → Type 0 = λ world. record x.world {
      touched =
          value_missing (fixed_by x.setting x.world) (value_missing (fixed_by x.setting x.world) x.world.touched one) other;
    }
    ≡ record world { touched = value_missing (fixed_by x.setting world) world.touched other } in
    subst At (value_missed x one) refl
    ∙ ap (λ setting. record next.world { touched = value_missing (fixed_by setting next.world) next.world.touched other })
    (sym (missed_setting x one))
    ∙ value_missed next other

module _ (x : Seen) (name : ℕ) (key value : Value) (sound : IsSoundState x) where
  put_fits : (old : Contents) (pairs : List (Value × Value)) → shown name x.setting x.world ≡ Some old → old.body ≡ body.Dict pairs
      → may_replace name old (with_body (with_value_at key value old.body) old) x.setting x.world
      ≡ may_put (fixed_by x.setting x.world) key value old.body
  unfolding pair_known
  put_fits old pairs there is =
      let parts : Parts = fixed_by x.setting x.world in
      let new : List (Value × Value) = with_pair same_value key value pairs in
      let own = old_pairs x.setting x.world name old sound there pairs is in
      let count = and_parts (can_count (length pairs)) _ own.1 in
      let stored = and_parts (list_all is_storable_pair pairs) _ count.1 in
      let differ = and_parts (keys_differ pairs) _ stored.1 in
      let known : list_all (is_known parts) (names_in_pairs new) ≡ pair_known parts (key, value) =
      pairs_known parts new ∙ all_put key value (pair_known parts) pairs (sym (pairs_known parts pairs) ∙ own.0) in
      let long : can_count (length new) ≡ (can_count (length pairs + 1) || is_some (entry_of same_value key pairs)) =
      ap can_count (long_put key value pairs)
      ∙ count_by key value (length pairs) (is_some (entry_of same_value key pairs)) count.0 in
      ap (λ (one : Body). may_replace name old (with_body (with_value_at key value one) old) x.setting x.world) is
      ∙ pairs_fit x.setting x.world name old sound there pairs new is
      ∙ ap₂ (λ a b. a && b) known
      (ap₂ (λ a b. a && b) long
      (ap₂ (λ a b. a && b) (all_put key value is_storable_pair pairs stored.0)
      (ap₂ (λ a b. a && b) (differ_put key value pairs differ.0)
      (all_put key value (λ pair. not (is_nil pair.0)) pairs differ.1))))
      ∙ reordered (is_known_value parts key) (is_storable key) (is_known_value parts value) (is_storable value)
      (not (is_nil key)) (can_count (length pairs + 1) || is_some (entry_of same_value key pairs))
      ∙ sym (ap (may_put parts key value) is)

  put_done_by : (found : Option Contents) → get x.world.changes name ≡ found → holds_of (λ object. has_pairs object.body) found ≡ true
      → holds_of (λ object. may_put (fixed_by x.setting x.world) key value object.body) found ≡ true
      → Edited name (with_value_at key value) x (Ok tt) (edited_in name (λ object. with_body (with_value_at key value object.body) object) x)
  put_done_by None there has may = absurd (false≢true has)
  put_done_by (Some old) there has may =
      let pairs = pairs_by x name key sound old.body has in
      edit_done x name old there (with_value_at key value) (λ object. with_body (with_value_at key value object.body) object) refl
      (ap is_shared pairs.1) (put_fits old pairs.0 (old_shown x name old there) pairs.1 ∙ may)

  pub put_done : holds_of (λ object. has_pairs object.body) (get x.world.changes name) ≡ true
      → holds_of (λ object. may_put (fixed_by x.setting x.world) key value object.body) (get x.world.changes name) ≡ true
      → Edited name (with_value_at key value) x (Ok tt) (edited_in name (λ object. with_body (with_value_at key value object.body) object) x)
  put_done has may = put_done_by (get x.world.changes name) refl has may

  put_lacks_by : (found : Option Contents) → get x.world.changes name ≡ found → holds_of (λ object. has_pairs object.body) found ≡ true
      → holds_of (λ object. may_put (fixed_by x.setting x.world) key value object.body) found ≡ false
      → Edited name (with_value_at key value) x (Ok tt) (missed_value value (missed_value key x))
  put_lacks_by None there has may = absurd (false≢true has)
  put_lacks_by (Some old) written has may =
      let parts : Parts = fixed_by x.setting x.world in
      let next : Seen = missed_value key x in
      let there = old_shown x name old written in
      let found = pairs_by x name key sound old.body has in
      let pairs = found.0 in
      let is = found.1 in
      let own = old_pairs x.setting x.world name old sound there pairs is in
      let new : List (Value × Value) = with_pair same_value key value pairs in
      let kind : fixed_of (with_body (body.Dict new) old) ≡ fixed_of old =
      sym (ap (λ (one : Body). fixed_of (with_body one old)) is) in
      let part : class_part (body.Dict new) ≡ class_part old.body = sym (ap class_part is) in
      edit_lacks x name old written (with_value_at key value) (missed_value value next)
      (missed_setting next value ∙ missed_setting x key) (missed_budget next value ∙ missed_budget x key)
      (put_fits old pairs there is ∙ may)
      (ap (λ (one : Body). lacking name (with_body (with_value_at key value one) old) x.setting x.world) is
      ∙ body_lacks x name sound old (body.Dict new) (value_missing parts (value_missing parts x.world.touched key) value) there kind part
      (put_missing key value parts x.world.touched pairs (sym (pairs_known parts pairs) ∙ own.0))
      ∙ both_missed x key value)

  pub put_lacks : holds_of (λ object. has_pairs object.body) (get x.world.changes name) ≡ true
      → holds_of (λ object. may_put (fixed_by x.setting x.world) key value object.body) (get x.world.changes name) ≡ false
      → Edited name (with_value_at key value) x (Ok tt) (missed_value value (missed_value key x))
  put_lacks has may = put_lacks_by (get x.world.changes name) refl has may

  no_put_in : (one : Body) → has_pairs one ≡ false → with_value_at key value one ≡ one
  no_put_in (body.Dict pairs) none = absurd (true≢false none)
  no_put_in (body.Plain values) none = refl
  no_put_in (body.Bytes bytes) none = refl
  no_put_in (body.Class class) none = refl
  no_put_in (body.Segment rights) none = refl
  no_put_in (body.User user) none = refl
  no_put_in (body.Counter counter) none = refl
  no_put_in (body.Bag pairs) none = refl
  no_put_in (body.RcDict pairs) none = refl
  no_put_in (body.Queue queue) none = refl

  pub no_put : holds_of (λ object. has_pairs object.body) (get x.world.changes name) ≡ false
      → Edited name (with_value_at key value) x (Ok tt) x
  no_put none = edit_of_same x name sound (with_value_at key value) (λ old written.
      no_put_in old.body (sym (ap (holds_of (λ object. has_pairs object.body)) written) ∙ none))
