-- What an edit of a written object does, and what one does that doesn't fit.
use Rattle.std.proofs.Common.{◌≡◌, ◌∙◌, refl, sym, ap, ap₂, subst, ℕ, suc, ◌<◌, Bool, true, false, cond, nat_lt, Option, Some, None, List, [], ◌∷◌, ◌++◌, length, take, drop, slice_set, fold, is_some, option_map, Result, Ok, Err, arith}
use Rattle.std.proofs.lemmas.Bool.{false≢true, and_parts, and_from, ltb-true, ltb-false}
use Rattle.std.proofs.lemmas.List.{set_split, set_past as list_set_past}
use Rattle.std.proofs.lemmas.List.Elements.{filter_map-append}
use Rattle.std.proofs.lemmas.List.Sums.{fold-append}
use Rattle.std.specs.List.{list_all}
use Rattle.std.specs.Ordering.{nat_cmp}
use Rattle.std.specs.FinMap.{FinMap, get, insert}
use Rattle.gem_object.specs.Edits.{plain_slots, body_bytes, with_slot, with_byte}
use Rattle.gem_object.specs.Kinds.{is_shared}
use Rattle.gem_object.specs.References.{reference_of, names_in as names_in_values, names_in_body}
use Rattle.gem_object.specs.declared.value.Value.{Value}
use Rattle.gem_object.specs.declared.value.Value.TheVariants as value
use Rattle.gem_object.specs.declared.body.Body.{Body}
use Rattle.gem_object.specs.declared.body.Body.TheVariants as body
use Rattle.gem_image.specs.Image.{Contents}
use Rattle.gem_world.specs.World.{shown, with_name}
use Rattle.gem_world.specs.Changes.{with_body, put}
use Rattle.object_programs.specs.Fixed.{class_part, fixed_of, fixed_by}
use Rattle.object_programs.specs.Guard.{Parts, holds_of, is_known, asked_names, line_of_class, line_at, may_replace}
use Rattle.object_programs.specs.Spelled.{is_plain_byte}
use Rattle.object_programs.specs.Atom.{Put, with_missing, touch_missing, edited}
use Rattle.object_programs.specs.Laws.{answered, lacking}
use Rattle.object_programs.proofs.Worlds.{changed_shown}
use Rattle.object_programs.proofs.Exact.{edited_written, edited_unfit}
use Rattle.running_objects.specs.Seen.{Seen, object_at, IsSoundState}
use Rattle.running_objects.specs.Acted.{Acted, Edited}
use Rattle.running_objects.specs.Fitting.{is_known_value, may_enter}
use Rattle.running_objects.specs.declared.stop.Stop.{Stop}
use Rattle.running_objects.specs.declared.stop.Stop.TheVariants as stop
use Rattle.running_objects.proofs.Running.{keeps_same, acted_says, acted_nothing, seen_twice}
use Rattle.running_objects.proofs.Edits.{parts_stay, slot_fits, byte_fits, old_known, all_known, all_split}
use Rattle.running_objects.proofs.Puts.{none_missing, nothing_missed, rest_known, known_refs, asked_known, edit_of_same}
use Rattle.plain_state.specs.Overlay.{changed_at}
use Rattle.plain_state.specs.Parts.{missed, missed_value, edited_in}

module _ (x : Seen) (name : ℕ) (old : Contents) (written : get x.world.changes name ≡ Some old) where
  pub old_shown : shown name x.setting x.world ≡ Some old
  old_shown = changed_shown x.setting name old x.world written

  -- where what the put leaves is known for the object that was written, it is known
  put_by : (edit : Body → Body) (y : Seen) → y.setting ≡ x.setting → y.budget ≡ x.budget
      → edited name (with_body (edit old.body)) x.setting x.world ≡ y.world → Edited name edit x (Ok tt) y
  put_by edit y setting budget left object there =
      let one : object ≡ old = seen_twice there (sym old_shown) in
      acted_says (Put name (edit object.body)) x y tt setting
      (ap (λ (object : Contents). answered tt (edited name (with_body (edit object.body)) x.setting x.world) x.budget) one
      ∙ ap₂ (λ world budget. answered tt world budget) left (sym budget))

  -- an edit that fits
  pub edit_done : (edit : Body → Body) (change : Contents → Contents) → change old ≡ with_body (edit old.body) old
      → is_shared old.body ≡ false → may_replace name old (with_body (edit old.body) old) x.setting x.world ≡ true
      → Edited name edit x (Ok tt) (edited_in name change x)
  unfolding put
  edit_done edit change is ordinary fit = put_by edit (edited_in name change x) refl refl
      (edited_written name old x.setting x.world (with_body (edit old.body)) written ordinary fit
      ∙ ap (λ (changes : FinMap nat_cmp Contents). record x.world { changes = changes })
      (ap (insert x.world.changes name) (sym is)
      ∙ sym (ap (λ (found : Option Contents). changed_at name change found x.world.changes) written)))

  -- an edit that doesn't fit leaves what it lacks
  pub edit_lacks : (edit : Body → Body) (y : Seen) → y.setting ≡ x.setting → y.budget ≡ x.budget
      → may_replace name old (with_body (edit old.body) old) x.setting x.world ≡ false
      → lacking name (with_body (edit old.body) old) x.setting x.world ≡ y.world → Edited name edit x (Ok tt) y
  edit_lacks edit y setting budget unfit left = put_by edit y setting budget
      (edited_unfit name old x.setting x.world (with_body (edit old.body)) written unfit ∙ left)

-- ---- what values lack

unfoldable pub value_missing : (parts : Parts) (touched : List ℕ) (value : Value) → List ℕ
value_missing parts touched (value.Ref name) = cond (is_some (parts name)) touched (with_name touched name)
value_missing parts touched value.Nil = touched
value_missing parts touched value.False = touched
value_missing parts touched value.True = touched
value_missing parts touched (value.Int number) = touched
value_missing parts touched (value.Char code) = touched
value_missing parts touched (value.Sym name) = touched
value_missing parts touched (value.Block block) = touched

pub refs_of_one : (parts : Parts) (touched : List ℕ) (value : Value) (rest : List Value)
    → fold (with_missing parts) touched (names_in_values (value ∷ rest))
    ≡ fold (with_missing parts) (value_missing parts touched value) (names_in_values rest)
unfolding value_missing
refs_of_one parts touched (value.Ref name) rest = refl
refs_of_one parts touched value.Nil rest = refl
refs_of_one parts touched value.False rest = refl
refs_of_one parts touched value.True rest = refl
refs_of_one parts touched (value.Int number) rest = refl
refs_of_one parts touched (value.Char code) rest = refl
refs_of_one parts touched (value.Sym name) rest = refl
refs_of_one parts touched (value.Block block) rest = refl

pub values_missing : (parts : Parts) (touched : List ℕ) (values : List Value) → list_all (is_known_value parts) values ≡ true
    → fold (with_missing parts) touched (names_in_values values) ≡ touched
values_missing parts touched values known = none_missing parts (names_in_values values) touched (all_known parts values ∙ known)

pub around_missing : (parts : Parts) (touched : List ℕ) (before after : List Value) (value : Value)
    → list_all (is_known_value parts) before ≡ true → list_all (is_known_value parts) after ≡ true
    → fold (with_missing parts) touched (names_in_values (before ++ value ∷ after)) ≡ value_missing parts touched value
around_missing parts touched before after value first last =
    ap (fold (with_missing parts) touched) (filter_map-append reference_of before (value ∷ after))
    ∙ fold-append (with_missing parts) touched (names_in_values before) (names_in_values (value ∷ after))
    ∙ ap (λ begun. fold (with_missing parts) begun (names_in_values (value ∷ after))) (values_missing parts touched before first)
    ∙ refs_of_one parts touched value after
    ∙ values_missing parts (value_missing parts touched value) after last

-- what a value lacks is what a call touches for it
missed_by : (x : Seen) (name : ℕ) (found : Option Contents) → object_at name x ≡ found
    → record x { world = record x.world { touched = cond (is_some (option_map fixed_of found)) x.world.touched (with_name x.world.touched name) } }
    ≡ cond (is_some found) x (missed name x)
missed_by x name None there = refl
missed_by x name (Some object) there = refl

pub value_missed : (x : Seen) (value : Value)
    → (record x.world { touched = value_missing (fixed_by x.setting x.world) x.world.touched value }) ≡ (missed_value value x).world
unfolding value_missing
value_missed x (value.Ref name) = ap (λ (seen : Seen). seen.world) (missed_by x name (object_at name x) refl)
value_missed x value.Nil = refl
value_missed x value.False = refl
value_missed x value.True = refl
value_missed x (value.Int number) = refl
value_missed x (value.Char code) = refl
value_missed x (value.Sym name) = refl
value_missed x (value.Block block) = refl

missed_setting_by : (b : Bool) (x y : Seen) → y.setting ≡ x.setting → (cond b x y).setting ≡ x.setting
missed_setting_by true x y same = refl
missed_setting_by false x y same = same

missed_budget_by : (b : Bool) (x y : Seen) → y.budget ≡ x.budget → (cond b x y).budget ≡ x.budget
missed_budget_by true x y same = refl
missed_budget_by false x y same = same

pub missed_setting : (x : Seen) (value : Value) → (missed_value value x).setting ≡ x.setting
missed_setting x (value.Ref name) = missed_setting_by (is_some (object_at name x)) x (missed name x) refl
missed_setting x value.Nil = refl
missed_setting x value.False = refl
missed_setting x value.True = refl
missed_setting x (value.Int number) = refl
missed_setting x (value.Char code) = refl
missed_setting x (value.Sym name) = refl
missed_setting x (value.Block block) = refl

pub missed_budget : (x : Seen) (value : Value) → (missed_value value x).budget ≡ x.budget
missed_budget x (value.Ref name) = missed_budget_by (is_some (object_at name x)) x (missed name x) refl
missed_budget x value.Nil = refl
missed_budget x value.False = refl
missed_budget x value.True = refl
missed_budget x (value.Int number) = refl
missed_budget x (value.Char code) = refl
missed_budget x (value.Sym name) = refl
missed_budget x (value.Block block) = refl

-- ---- a value in a slot

module _ (x : Seen) (name at : ℕ) (value : Value) (sound : IsSoundState x) where
  -- the object with other slots asks for what these lack, and for nothing else
  pub slots_lack : (old : Contents) (values new : List Value) → shown name x.setting x.world ≡ Some old → old.body ≡ body.Plain values
      → (touched : List ℕ)
      → fold (with_missing (fixed_by x.setting x.world)) x.world.touched (names_in_values new) ≡ touched
      → lacking name (with_body (body.Plain new) old) x.setting x.world ≡ record x.world { touched = touched }
  unfolding touch_missing
  slots_lack old values new there is touched lacks =
      let parts : Parts = fixed_by x.setting x.world in
      let kind : fixed_of (with_body (body.Plain new) old) ≡ fixed_of old =
      sym (ap (λ (one : Body). fixed_of (with_body one old)) is) in
      let refs = known_refs x.setting x.world sound name old there in
      let class = and_parts (is_known parts old.class) _ refs in
      let segment = and_parts (is_known parts old.segment) _ class.1 in
      let line : list_all (is_known parts) (line_at parts old.class ++ []) ≡ true =
      ap (λ (one : Body). list_all (is_known parts) (line_at parts old.class ++ line_of_class (class_part one) (line_at parts)))
      (sym is) ∙ rest_known x.setting x.world sound name old there in
      let head : list_all (is_known parts) (old.class ∷ old.segment ∷ []) ≡ true =
      and_from _ _ class.0 (and_from _ _ segment.0 refl) in
      ap (λ (parts : Parts). touch_missing parts (asked_names parts (with_body (body.Plain new) old)) x.world)
      (parts_stay x.setting x.world name old sound there (with_body (body.Plain new) old) kind)
      ∙ ap (λ touched. record x.world { touched = touched })
      (fold-append (with_missing parts) x.world.touched (old.class ∷ old.segment ∷ names_in_values new) (line_at parts old.class ++ [])
      ∙ none_missing parts (line_at parts old.class ++ []) _ line
      ∙ fold-append (with_missing parts) x.world.touched (old.class ∷ old.segment ∷ []) (names_in_values new)
      ∙ ap (λ begun. fold (with_missing parts) begun (names_in_values new))
      (none_missing parts (old.class ∷ old.segment ∷ []) x.world.touched head)
      ∙ lacks)

  slots_known : (old : Contents) (values : List Value) → shown name x.setting x.world ≡ Some old → old.body ≡ body.Plain values
      → list_all (is_known_value (fixed_by x.setting x.world)) values ≡ true
  slots_known old values there is = sym (all_known (fixed_by x.setting x.world) values)
      ∙ sym (ap (λ (one : Body). list_all (is_known (fixed_by x.setting x.world)) (names_in_body one)) is)
      ∙ old_known x.setting x.world name old sound there

  -- what has the slot is a written object with slots
  slot_in : (one : Body) → nat_lt at (plain_slots one) ≡ true → (values : List Value) × ((one ≡ body.Plain values) × (at < length values))
  slot_in (body.Plain values) within = (values, (refl, ltb-true at (length values) within))
  slot_in (body.Bytes bytes) within = absurd (omega (arith, ltb-true at 0 within))
  slot_in (body.Dict pairs) within = absurd (omega (arith, ltb-true at 0 within))
  slot_in (body.Class class) within = absurd (omega (arith, ltb-true at 0 within))
  slot_in (body.Segment rights) within = absurd (omega (arith, ltb-true at 0 within))
  slot_in (body.User user) within = absurd (omega (arith, ltb-true at 0 within))
  slot_in (body.Counter counter) within = absurd (omega (arith, ltb-true at 0 within))
  slot_in (body.Bag pairs) within = absurd (omega (arith, ltb-true at 0 within))
  slot_in (body.RcDict pairs) within = absurd (omega (arith, ltb-true at 0 within))
  slot_in (body.Queue queue) within = absurd (omega (arith, ltb-true at 0 within))

  has_by : (found : Option Contents) → get x.world.changes name ≡ found
      → holds_of (λ object. nat_lt at (plain_slots object.body)) found ≡ true
      → (old : Contents) × (values : List Value) × ((get x.world.changes name ≡ Some old) × ((old.body ≡ body.Plain values) × (at < length values)))
  has_by None there has = absurd (false≢true has)
  has_by (Some old) there has = let slots = slot_in old.body has in (old, slots.0, (there, slots.1))

  pub slot_set : holds_of (λ object. nat_lt at (plain_slots object.body)) (get x.world.changes name) ≡ true
      → may_enter (fixed_by x.setting x.world) value ≡ true
      → Edited name (with_slot at value) x (Ok tt) (edited_in name (λ object. with_body (with_slot at value object.body) object) x)
  slot_set has enters =
      let found = has_by (get x.world.changes name) refl has in
      let old = found.0 in
      let there = old_shown x name old found.2.0 in
      let fit = slot_fits x.setting x.world name old sound there found.1 at value found.2.1.0 found.2.1.1 ∙ enters in
      edit_done x name old found.2.0 (with_slot at value) (λ object. with_body (with_slot at value object.body) object) refl
      (ap is_shared found.2.1.0)
      (ap (λ (one : Body). may_replace name old (with_body (with_slot at value one) old) x.setting x.world) found.2.1.0 ∙ fit)

  pub slot_lacks : holds_of (λ object. nat_lt at (plain_slots object.body)) (get x.world.changes name) ≡ true
      → may_enter (fixed_by x.setting x.world) value ≡ false
      → Edited name (with_slot at value) x (Ok tt) (missed_value value x)
  slot_lacks has enters =
      let found = has_by (get x.world.changes name) refl has in
      let old = found.0 in
      let values = found.1 in
      let parts : Parts = fixed_by x.setting x.world in
      let there = old_shown x name old found.2.0 in
      let known = slots_known old values there found.2.1.0 in
      let unfit = slot_fits x.setting x.world name old sound there values at value found.2.1.0 found.2.1.1 ∙ enters in
      let lacks : fold (with_missing parts) x.world.touched (names_in_values (slice_set values at value)) ≡ value_missing parts x.world.touched value =
      ap (λ some. fold (with_missing parts) x.world.touched (names_in_values some)) (set_split values at value found.2.1.1)
      ∙ around_missing parts x.world.touched (take at values) (drop (suc at) values) value
      (all_split (is_known_value parts) at values known).0 (all_split (is_known_value parts) (suc at) values known).1 in
      edit_lacks x name old found.2.0 (with_slot at value) (missed_value value x) (missed_setting x value) (missed_budget x value)
      (ap (λ (one : Body). may_replace name old (with_body (with_slot at value one) old) x.setting x.world) found.2.1.0 ∙ unfit)
      (ap (λ (one : Body). lacking name (with_body (with_slot at value one) old) x.setting x.world) found.2.1.0
      ∙ slots_lack old values (slice_set values at value) there found.2.1.0 (value_missing parts x.world.touched value) lacks
      ∙ value_missed x value)

  -- without that slot nothing changes
  set_past : (values : List Value) (at : ℕ) → nat_lt at (length values) ≡ false → slice_set values at value ≡ values
  set_past values at past = list_set_past values at value (ltb-false at (length values) past)

  pub no_slot_in : (one : Body) → nat_lt at (plain_slots one) ≡ false → with_slot at value one ≡ one
  no_slot_in (body.Plain values) past = ap body.Plain (set_past values at past)
  no_slot_in (body.Bytes bytes) past = refl
  no_slot_in (body.Dict pairs) past = refl
  no_slot_in (body.Class class) past = refl
  no_slot_in (body.Segment rights) past = refl
  no_slot_in (body.User user) past = refl
  no_slot_in (body.Counter counter) past = refl
  no_slot_in (body.Bag pairs) past = refl
  no_slot_in (body.RcDict pairs) past = refl
  no_slot_in (body.Queue queue) past = refl

  pub no_slot : holds_of (λ object. nat_lt at (plain_slots object.body)) (get x.world.changes name) ≡ false
      → Edited name (with_slot at value) x (Ok tt) x
  no_slot has = edit_of_same x name sound (with_slot at value) (λ old written.
      no_slot_in old.body (sym (ap (holds_of (λ object. nat_lt at (plain_slots object.body))) written) ∙ has))

-- where memory ran out before anything was done, and how a state that is told by an equation was edited
pub edited_nothing : {x y : Seen} (name : ℕ) (edit : Body → Body) → y ≡ x → Edited name edit x (Err stop.NoMemory) y
edited_nothing {x} {y} name edit is object there =
    let P : Seen → Type 0 = λ s. Acted (Put name (edit object.body)) x (Err stop.NoMemory) s in
    subst P (sym is) (acted_nothing (Put name (edit object.body)) x x (keeps_same x))

pub edited_as : {x y z : Seen} {result : Result (Unit {0}) Stop}
    (name : ℕ) (edit : Body → Body) → Edited name edit x result y → z ≡ y → Edited name edit x result z
edited_as {x} {y} {z} {result} name edit edited is object there =
    let P : Seen → Type 0 = λ s. Acted (Put name (edit object.body)) x result s in
    subst P (sym is) (edited object there)

-- ---- a byte

module _ (x : Seen) (name at byte : ℕ) (sound : IsSoundState x) where
  byte_in : (one : Body) → nat_lt at (body_bytes one) ≡ true → (bytes : List ℕ) × ((one ≡ body.Bytes bytes) × (at < length bytes))
  byte_in (body.Bytes bytes) within = (bytes, (refl, ltb-true at (length bytes) within))
  byte_in (body.Plain values) within = absurd (omega (arith, ltb-true at 0 within))
  byte_in (body.Dict pairs) within = absurd (omega (arith, ltb-true at 0 within))
  byte_in (body.Class class) within = absurd (omega (arith, ltb-true at 0 within))
  byte_in (body.Segment rights) within = absurd (omega (arith, ltb-true at 0 within))
  byte_in (body.User user) within = absurd (omega (arith, ltb-true at 0 within))
  byte_in (body.Counter counter) within = absurd (omega (arith, ltb-true at 0 within))
  byte_in (body.Bag pairs) within = absurd (omega (arith, ltb-true at 0 within))
  byte_in (body.RcDict pairs) within = absurd (omega (arith, ltb-true at 0 within))
  byte_in (body.Queue queue) within = absurd (omega (arith, ltb-true at 0 within))

  has_byte_by : (found : Option Contents) → get x.world.changes name ≡ found
      → holds_of (λ object. nat_lt at (body_bytes object.body)) found ≡ true
      → (old : Contents) × (bytes : List ℕ) × ((get x.world.changes name ≡ Some old) × ((old.body ≡ body.Bytes bytes) × (at < length bytes)))
  has_byte_by None there has = absurd (false≢true has)
  has_byte_by (Some old) there has = let bytes = byte_in old.body has in (old, bytes.0, (there, bytes.1))

  pub byte_set : holds_of (λ object. nat_lt at (body_bytes object.body)) (get x.world.changes name) ≡ true
      → is_plain_byte byte ≡ true
      → Edited name (with_byte at byte) x (Ok tt) (edited_in name (λ object. with_body (with_byte at byte object.body) object) x)
  byte_set has plain =
      let found = has_byte_by (get x.world.changes name) refl has in
      let old = found.0 in
      let there = old_shown x name old found.2.0 in
      edit_done x name old found.2.0 (with_byte at byte) (λ object. with_body (with_byte at byte object.body) object) refl
      (ap is_shared found.2.1.0)
      (ap (λ (one : Body). may_replace name old (with_body (with_byte at byte one) old) x.setting x.world) found.2.1.0
      ∙ byte_fits x.setting x.world name old sound there found.1 at byte found.2.1.0 found.2.1.1 ∙ plain)

  -- other bytes lack nothing
  bytes_lack : (old : Contents) (bytes new : List ℕ) → shown name x.setting x.world ≡ Some old → old.body ≡ body.Bytes bytes
      → lacking name (with_body (body.Bytes new) old) x.setting x.world ≡ x.world
  bytes_lack old bytes new there is =
      let parts : Parts = fixed_by x.setting x.world in
      let kind : fixed_of (with_body (body.Bytes new) old) ≡ fixed_of old =
      sym (ap (λ (one : Body). fixed_of (with_body one old)) is) in
      let all : list_all (is_known parts) (asked_names parts (with_body (body.Bytes new) old)) ≡ true =
      sym (ap (λ (one : Body). list_all (is_known parts) (asked_names parts (with_body one old))) is)
      ∙ asked_known x.setting x.world sound name old there in
      ap (λ (parts : Parts). touch_missing parts (asked_names parts (with_body (body.Bytes new) old)) x.world)
      (parts_stay x.setting x.world name old sound there (with_body (body.Bytes new) old) kind)
      ∙ nothing_missed parts (asked_names parts (with_body (body.Bytes new) old)) x.world all

  pub byte_lacks : holds_of (λ object. nat_lt at (body_bytes object.body)) (get x.world.changes name) ≡ true
      → is_plain_byte byte ≡ false → Edited name (with_byte at byte) x (Ok tt) x
  byte_lacks has plain =
      let found = has_byte_by (get x.world.changes name) refl has in
      let old = found.0 in
      let there = old_shown x name old found.2.0 in
      edit_lacks x name old found.2.0 (with_byte at byte) x refl refl
      (ap (λ (one : Body). may_replace name old (with_body (with_byte at byte one) old) x.setting x.world) found.2.1.0
      ∙ byte_fits x.setting x.world name old sound there found.1 at byte found.2.1.0 found.2.1.1 ∙ plain)
      (ap (λ (one : Body). lacking name (with_body (with_byte at byte one) old) x.setting x.world) found.2.1.0
      ∙ bytes_lack old found.1 (slice_set found.1 at byte) there found.2.1.0)

  no_byte_in : (one : Body) → nat_lt at (body_bytes one) ≡ false → with_byte at byte one ≡ one
  no_byte_in (body.Bytes bytes) past = ap body.Bytes (list_set_past bytes at byte (ltb-false at (length bytes) past))
  no_byte_in (body.Plain values) past = refl
  no_byte_in (body.Dict pairs) past = refl
  no_byte_in (body.Class class) past = refl
  no_byte_in (body.Segment rights) past = refl
  no_byte_in (body.User user) past = refl
  no_byte_in (body.Counter counter) past = refl
  no_byte_in (body.Bag pairs) past = refl
  no_byte_in (body.RcDict pairs) past = refl
  no_byte_in (body.Queue queue) past = refl

  pub no_byte : holds_of (λ object. nat_lt at (body_bytes object.body)) (get x.world.changes name) ≡ false
      → Edited name (with_byte at byte) x (Ok tt) x
  no_byte has = edit_of_same x name sound (with_byte at byte) (λ old written.
      no_byte_in old.body (sym (ap (holds_of (λ object. nat_lt at (body_bytes object.body))) written) ∙ has))
