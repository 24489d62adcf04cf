-- A slot more and a slot less.
use Rattle.std.proofs.Common.{◌≡◌, ◌∙◌, refl, sym, ap, ap₂, ℕ, zero, suc, ◌+◌, ◌-◌, ◌<◌, ◌≤◌, Bool, true, false, ◌&&◌, ◌||◌, not, nat_eq, nat_lt, nat_le, Option, Some, None, List, [], ◌∷◌, ◌++◌, length, take, drop, is_some, slice_get, inl, inr, Ok, arith}
use Rattle.std.proofs.lemmas.Bool.{false≢true, and_parts, ltb-true, lt-ltb, le-ltb, or_left}
use Rattle.std.proofs.lemmas.Bool.Decides.{leb_tells}
use Rattle.std.proofs.Math.Dec.{eqb-suc-zero}
use Rattle.std.proofs.lemmas.List.{length-append, length-take-le, take-append-drop}
use Rattle.std.specs.List.{list_all}
use Rattle.std.specs.FinMap.{get}
use Rattle.gem_object.specs.Edits.{with_slot_more, without_slot}
use Rattle.gem_object.specs.Kinds.{is_shared}
use Rattle.gem_object.specs.References.{names_in_body}
use Rattle.gem_object.specs.declared.value.Value.{Value}
use Rattle.gem_object.specs.declared.value.Value.TheVariants as value
use Rattle.gem_object.specs.declared.body.Body.{Body}
use Rattle.gem_object.specs.declared.body.Body.TheVariants as body
use Rattle.gem_image.specs.Image.{Contents}
use Rattle.gem_world.specs.World.{Setting, World, shown}
use Rattle.gem_world.specs.Changes.{with_body}
use Rattle.object_programs.specs.gem_sound.Kernel.{KernelBody, a_class, a_dictionary, a_segment, a_user, no_slots, kernel_classes, kernel_bodies, kernel_body}
use Rattle.object_programs.specs.Fixed.{ClassPart, class_part, Fixed, fixed_of, fixed_by}
use Rattle.object_programs.specs.Guard.{Parts, holds_of, is_known, names_at, is_transcript, accepts_by, accepts, kernel_fits_by, kernel_fits, may_replace}
use Rattle.object_programs.specs.Programs.{part_of}
use Rattle.object_programs.specs.Spelled.{is_storable, is_spelled}
use Rattle.object_programs.specs.Laws.{AreSound, lacking}
use Rattle.running_objects.specs.Seen.{Seen, IsSoundState}
use Rattle.running_objects.specs.Acted.{Edited}
use Rattle.running_objects.proofs.Puts.{edit_of_same}
use Rattle.std.specs.Option.{unwrap_or}
use Rattle.std.proofs.Math.ListN.{drop_of_length-le}
use Rattle.plain_state.specs.Parts.{missed_value, edited_in}
use Rattle.plain_state.proofs.Slots.{old_shown, edit_done, edit_lacks, value_missing, around_missing, values_missing, value_missed, missed_setting, missed_budget, slots_lack}
use Rattle.running_objects.specs.Fitting.{is_known_value, can_count}
use Rattle.running_objects.proofs.Edits.{kind_of_slots, old_rest, old_known, body_fits, replace_is, all_known, all_split, all_inserted, all_removed}
use Rattle.object_guard.specs.Parts.{has_room}
use Rattle.plain_state.specs.Classes.{accepts_slots_by, accepts_slots, is_in_kernel, may_insert, slots_of, slots_in}

-- ---- whether a class may have so many slots

transcript_is : (class : ℕ) (values : List Value)
    → is_transcript class (body.Plain values) ≡ (nat_eq (length values) 0 && nat_eq class 26)
transcript_is class [] = refl
transcript_is class (value ∷ values) = sym (ap (λ b. b && nat_eq class 26) (eqb-suc-zero (length values)))

accepted_by : (parts : Parts) (class : ℕ) (part : Option ClassPart) (values : List Value)
    → accepts_by parts class (body.Plain values) part ≡ accepts_slots_by parts class (length values) part
accepted_by parts class None values = refl
accepted_by parts class (Some part) values = ap₂ (λ a b. (a && holds_of (has_room (length values)) (names_at parts class)) || (false || b))
    (kind_of_slots part.kind values []) (transcript_is class values)

accepted_at : (parts : Parts) (class : ℕ) (found : Option Fixed) (values : List Value)
    → holds_of (λ fixed. accepts_by parts class (body.Plain values) fixed.as_class) found
    ≡ accepts_slots_by parts class (length values) (part_of found)
accepted_at parts class None values = refl
accepted_at parts class (Some fixed) values = accepted_by parts class fixed.as_class values

pub accepted_is : (parts : Parts) (class : ℕ) (values : List Value)
    → accepts parts class (body.Plain values) ≡ accepts_slots parts class (length values)
accepted_is parts class values = accepted_at parts class (parts class) values

-- ---- the kernel

get_within : {X : Type 0} (xs : List X) (at : ℕ) → is_some (slice_get xs at) ≡ nat_lt at (length xs)
get_within [] at = sym (le-ltb at 0 (omega arith))
get_within (x ∷ xs) zero = sym (lt-ltb 0 (suc (length xs)) (omega arith))
get_within (x ∷ xs) (suc at) = get_within xs at ∙ same at (length xs)
  where
    same : (a b : ℕ) → nat_lt a b ≡ nat_lt (suc a) (suc b)
    same a b = elim (leb_tells (suc a) b) [
      | inl tells ↦ tells.0 ∙ sym (lt-ltb (suc a) (suc b) (let within = tells.1 in omega (arith, within)))
      | inr tells ↦ tells.0 ∙ sym (le-ltb (suc a) (suc b) (let past = tells.1 in omega (arith, past)))
    ]

thirty_five : length kernel_bodies ≡ 35
unfolding kernel_bodies kernel_classes
thirty_five = refl

pub kernel_is : (name : ℕ) → is_some (kernel_body name) ≡ is_in_kernel name
kernel_is zero = refl
kernel_is (suc before) = get_within kernel_bodies before ∙ ap (nat_lt before) thirty_five ∙ same before
  where
    same : (n : ℕ) → nat_lt n 35 ≡ (nat_lt 0 (suc n) && nat_le (suc n) 35)
    same n = ap (λ b. b && nat_le (suc n) 35) (sym (lt-ltb 0 (suc n) (omega arith)))

kernel_more : (found : Option KernelBody) (values : List Value) (value : Value) (rest : List Value)
    → kernel_fits_by found (body.Plain values) ≡ true
    → kernel_fits_by found (body.Plain (value ∷ rest)) ≡ (nat_lt 0 (length values) || not (is_some found))
kernel_more None [] value rest fits = refl
kernel_more None (first ∷ values) value rest fits = sym (or_left _ _ (lt-ltb 0 (length (first ∷ values)) (omega arith)))
kernel_more (Some no_slots) [] value rest fits = refl
kernel_more (Some no_slots) (first ∷ values) value rest fits = absurd (false≢true fits)
kernel_more (Some a_class) values value rest fits = absurd (false≢true fits)
kernel_more (Some a_dictionary) values value rest fits = absurd (false≢true fits)
kernel_more (Some a_segment) values value rest fits = absurd (false≢true fits)
kernel_more (Some a_user) values value rest fits = absurd (false≢true fits)

kernel_less : (found : Option KernelBody) (values new : List Value) → 0 < length values
    → kernel_fits_by found (body.Plain values) ≡ true → kernel_fits_by found (body.Plain new) ≡ true
kernel_less None values new some fits = refl
kernel_less (Some no_slots) [] new some fits = absurd (omega (arith, some))
kernel_less (Some no_slots) (first ∷ values) new some fits = absurd (false≢true fits)
kernel_less (Some a_class) values new some fits = absurd (false≢true fits)
kernel_less (Some a_dictionary) values new some fits = absurd (false≢true fits)
kernel_less (Some a_segment) values new some fits = absurd (false≢true fits)
kernel_less (Some a_user) values new some fits = absurd (false≢true fits)

-- the new slots aren't empty
kernel_inserted : (found : Option KernelBody) (values before after : List Value) (value : Value)
    → kernel_fits_by found (body.Plain values) ≡ true
    → kernel_fits_by found (body.Plain (before ++ value ∷ after)) ≡ (nat_lt 0 (length values) || not (is_some found))
kernel_inserted found values [] after value fits = kernel_more found values value after fits
kernel_inserted found values (first ∷ before) after value fits = kernel_more found values first (before ++ value ∷ after) fits

-- ---- what the guard asks

module _ (setting : Setting) (world : World) (name : ℕ) (old : Contents)
    (sound : AreSound setting world) (there : shown name setting world ≡ Some old)
    (values : List Value) (is : old.body ≡ body.Plain values) where
  own_known : list_all (is_known_value (fixed_by setting world)) values ≡ true
  own_known = sym (all_known (fixed_by setting world) values)
      ∙ sym (ap (λ (one : Body). list_all (is_known (fixed_by setting world)) (names_in_body one)) is)
      ∙ old_known setting world name old sound there

  own_kernel : kernel_fits name (body.Plain values) ≡ true
  own_kernel = sym (ap (λ (one : Body). kernel_fits name one) is) ∙ (old_rest setting world name old sound there).1.0

  own_stored : (can_count (length values) ≡ true) × (list_all is_storable values ≡ true)
  unfolding is_spelled
  own_stored = and_parts (can_count (length values)) (list_all is_storable values)
      (sym (ap is_spelled is) ∙ (old_rest setting world name old sound there).1.1)

  -- other slots
  slots_fit : (new : List Value) → may_replace name old (with_body (body.Plain new) old) setting world
      ≡ (list_all (is_known_value (fixed_by setting world)) new
      && (accepts_slots (fixed_by setting world) old.class (length new)
      && (kernel_fits name (body.Plain new) && (can_count (length new) && list_all is_storable new))))
  unfolding is_spelled
  slots_fit new =
      let parts : Parts = fixed_by setting world in
      replace_is setting world name old sound there (with_body (body.Plain new) old)
      (sym (ap (λ (one : Body). fixed_of (with_body one old)) is))
      ∙ body_fits setting world name old sound there (body.Plain new) (sym (ap class_part is))
      ∙ ap₂ (λ a b. a && (b && (kernel_fits name (body.Plain new) && (can_count (length new) && list_all is_storable new))))
      (all_known parts new) (accepted_is parts old.class new)

  length_more : (at : ℕ) (value : Value) → length (take at values ++ value ∷ drop at values) ≡ length values + 1
  length_more at value =
      let whole = ap length (take-append-drop at values) in
      let split = length-append (take at values) (drop at values) in
      let more = length-append (take at values) (value ∷ drop at values) in
      omega (arith, whole, split, more)

  length_less : (at : ℕ) → at < length values → length (take at values ++ drop (at + 1) values) ≡ length values - 1
  length_less at within =
      let first = length-take-le at values (omega (arith, within)) in
      let one = length-take-le (at + 1) values (omega (arith, within)) in
      let whole = ap length (take-append-drop (at + 1) values) in
      let split = length-append (take (at + 1) values) (drop (at + 1) values) in
      let join = length-append (take at values) (drop (at + 1) values) in
      omega (arith, within, first, one, whole, split, join)

  pub insert_fits : (at : ℕ) (value : Value)
      → may_replace name old (with_body (body.Plain (take at values ++ value ∷ drop at values)) old) setting world
      ≡ may_insert (fixed_by setting world) name old.class (length values) value
  insert_fits at value =
      let parts : Parts = fixed_by setting world in
      let new : List Value = take at values ++ value ∷ drop at values in
      let long : length new ≡ length values + 1 = length_more at value in
      slots_fit new
      ∙ ap₂ (λ a n. a && (accepts_slots parts old.class n && (kernel_fits name (body.Plain new) && (can_count n && list_all is_storable new))))
      (all_inserted (is_known_value parts) values at value own_known) long
      ∙ ap₂ (λ k s. is_known_value parts value && (accepts_slots parts old.class (length values + 1) && (k && (can_count (length values + 1) && s))))
      (kernel_inserted (kernel_body name) values (take at values) (drop at values) value own_kernel
      ∙ ap (λ b. nat_lt 0 (length values) || not b) (kernel_is name))
      (all_inserted is_storable values at value own_stored.1)

  pub remove_fits : (at : ℕ) → at < length values
      → may_replace name old (with_body (body.Plain (take at values ++ drop (at + 1) values)) old) setting world
      ≡ accepts_slots (fixed_by setting world) old.class (length values - 1)
  remove_fits at within =
      let parts : Parts = fixed_by setting world in
      let new : List Value = take at values ++ drop (at + 1) values in
      let short : length new ≡ length values - 1 = length_less at within in
      let fits : length values < 4294967296 = ltb-true (length values) 4294967296 own_stored.0 in
      let known : list_all (is_known_value parts) new ≡ true = all_removed (is_known_value parts) values at own_known in
      let stored : list_all is_storable new ≡ true = all_removed is_storable values at own_stored.1 in
      let kernel : kernel_fits name (body.Plain new) ≡ true = kernel_less (kernel_body name) values new (omega (arith, within)) own_kernel in
      let count : can_count (length new) ≡ true = ap can_count short ∙ lt-ltb (length values - 1) 4294967296 (omega (arith, fits)) in
      slots_fit new ∙ rw (known, kernel, count, stored) (with_true (accepts_slots parts old.class (length new)))
      ∙ ap (accepts_slots parts old.class) short
    where
      with_true : (b : Bool) → (b && true) ≡ b
      with_true true = refl
      with_true false = refl

-- ---- the edits

module _ (x : Seen) (name at : ℕ) (sound : IsSoundState x) where
  slots_by : (class : ℕ) (one : Body) (other count : ℕ) → slots_of class one ≡ Some (other, count)
      → (values : List Value) × ((one ≡ body.Plain values) × ((class ≡ other) × (length values ≡ count)))
  slots_by class (body.Plain values) other count is = (
    values,
    (
      refl,
      (ap (λ (pair : Option (ℕ × ℕ)). (unwrap_or pair (0, 0)).0) is, ap (λ (pair : Option (ℕ × ℕ)). (unwrap_or pair (0, 0)).1) is),
    ),
  )
  slots_by class (body.Bytes bytes) other count is = cc
  slots_by class (body.Dict pairs) other count is = cc
  slots_by class (body.Class body) other count is = cc
  slots_by class (body.Segment rights) other count is = cc
  slots_by class (body.User user) other count is = cc
  slots_by class (body.Counter counter) other count is = cc
  slots_by class (body.Bag pairs) other count is = cc
  slots_by class (body.RcDict pairs) other count is = cc
  slots_by class (body.Queue queue) other count is = cc

  in_by : (found : Option Contents) (class count : ℕ) → get x.world.changes name ≡ found → slots_in found ≡ Some (class, count)
      → (old : Contents) × (values : List Value) × ((get x.world.changes name ≡ Some old)
      × ((old.body ≡ body.Plain values) × ((old.class ≡ class) × (length values ≡ count))))
  in_by None class count there has = cc
  in_by (Some old) class count there has = let slots = slots_by old.class old.body class count has in (old, slots.0, (there, slots.1))

  pub slot_more : (class count : ℕ) (value : Value) → slots_in (get x.world.changes name) ≡ Some (class, count)
      → may_insert (fixed_by x.setting x.world) name class count value ≡ true
      → Edited name (with_slot_more at value) x (Ok tt)
      (edited_in name (λ object. with_body (with_slot_more at value object.body) object) x)
  slot_more class count value has enters =
      let found = in_by (get x.world.changes name) class count refl has in
      let old = found.0 in
      let there = old_shown x name old found.2.0 in
      edit_done x name old found.2.0 (with_slot_more at value) (λ object. with_body (with_slot_more at value object.body) object) refl
      (ap is_shared found.2.1.0)
      (ap (λ (one : Body). may_replace name old (with_body (with_slot_more at value one) old) x.setting x.world) found.2.1.0
      ∙ insert_fits x.setting x.world name old sound there found.1 found.2.1.0 at value
      ∙ ap₂ (λ c n. may_insert (fixed_by x.setting x.world) name c n value) found.2.1.1.0 found.2.1.1.1 ∙ enters)

  pub slot_more_lacks : (class count : ℕ) (value : Value) → slots_in (get x.world.changes name) ≡ Some (class, count)
      → may_insert (fixed_by x.setting x.world) name class count value ≡ false
      → Edited name (with_slot_more at value) x (Ok tt) (missed_value value x)
  slot_more_lacks class count value has enters =
      let found = in_by (get x.world.changes name) class count refl has in
      let old = found.0 in
      let values = found.1 in
      let parts : Parts = fixed_by x.setting x.world in
      let there = old_shown x name old found.2.0 in
      let known = own_known x.setting x.world name old sound there values found.2.1.0 in
      let lacks = around_missing parts x.world.touched (take at values) (drop at values) value
      (all_split (is_known_value parts) at values known).0 (all_split (is_known_value parts) at values known).1 in
      edit_lacks x name old found.2.0 (with_slot_more at value) (missed_value value x) (missed_setting x value) (missed_budget x value)
      (ap (λ (one : Body). may_replace name old (with_body (with_slot_more at value one) old) x.setting x.world) found.2.1.0
      ∙ insert_fits x.setting x.world name old sound there values found.2.1.0 at value
      ∙ ap₂ (λ c n. may_insert parts name c n value) found.2.1.1.0 found.2.1.1.1 ∙ enters)
      (ap (λ (one : Body). lacking name (with_body (with_slot_more at value one) old) x.setting x.world) found.2.1.0
      ∙ slots_lack x name at value sound old values (take at values ++ value ∷ drop at values) there found.2.1.0
      (value_missing parts x.world.touched value) lacks
      ∙ value_missed x value)

  pub slot_less : (class count : ℕ) → slots_in (get x.world.changes name) ≡ Some (class, count) → at < count
      → accepts_slots (fixed_by x.setting x.world) class (count - 1) ≡ true
      → Edited name (without_slot at) x (Ok tt) (edited_in name (λ object. with_body (without_slot at object.body) object) x)
  slot_less class count has within accepts =
      let found = in_by (get x.world.changes name) class count refl has in
      let old = found.0 in
      let there = old_shown x name old found.2.0 in
      let long = found.2.1.1.1 in
      edit_done x name old found.2.0 (without_slot at) (λ object. with_body (without_slot at object.body) object) refl
      (ap is_shared found.2.1.0)
      (ap (λ (one : Body). may_replace name old (with_body (without_slot at one) old) x.setting x.world) found.2.1.0
      ∙ remove_fits x.setting x.world name old sound there found.1 found.2.1.0 at (omega (arith, within, long))
      ∙ ap₂ (λ c n. accepts_slots (fixed_by x.setting x.world) c (n - 1)) found.2.1.1.0 found.2.1.1.1 ∙ accepts)

  pub slot_less_lacks : (class count : ℕ) → slots_in (get x.world.changes name) ≡ Some (class, count) → at < count
      → accepts_slots (fixed_by x.setting x.world) class (count - 1) ≡ false
      → Edited name (without_slot at) x (Ok tt) x
  slot_less_lacks class count has within accepts =
      let found = in_by (get x.world.changes name) class count refl has in
      let old = found.0 in
      let values = found.1 in
      let parts : Parts = fixed_by x.setting x.world in
      let there = old_shown x name old found.2.0 in
      let long = found.2.1.1.1 in
      let known = own_known x.setting x.world name old sound there values found.2.1.0 in
      edit_lacks x name old found.2.0 (without_slot at) x refl refl
      (ap (λ (one : Body). may_replace name old (with_body (without_slot at one) old) x.setting x.world) found.2.1.0
      ∙ remove_fits x.setting x.world name old sound there values found.2.1.0 at (omega (arith, within, long))
      ∙ ap₂ (λ c n. accepts_slots parts c (n - 1)) found.2.1.1.0 found.2.1.1.1 ∙ accepts)
      (ap (λ (one : Body). lacking name (with_body (without_slot at one) old) x.setting x.world) found.2.1.0
      ∙ slots_lack x name at value.Nil sound old values (take at values ++ drop (at + 1) values) there found.2.1.0
      x.world.touched (values_missing parts x.world.touched (take at values ++ drop (at + 1) values)
      (all_removed (is_known_value parts) values at known)))

  none_by : (found : Option Contents) (old : Contents) → found ≡ Some old → slots_in found ≡ None → slots_of old.class old.body ≡ None
  none_by None old there none = cc
  none_by (Some other) old there none =
      let same : other ≡ old = ap (λ (found : Option Contents). unwrap_or found other) there in
      ap (λ (one : Contents). slots_of one.class one.body) (sym same) ∙ none

  no_more_in : (value : Value) (class : ℕ) (one : Body) → slots_of class one ≡ None → with_slot_more at value one ≡ one
  no_more_in value class (body.Plain values) none = cc
  no_more_in value class (body.Bytes bytes) none = refl
  no_more_in value class (body.Dict pairs) none = refl
  no_more_in value class (body.Class body) none = refl
  no_more_in value class (body.Segment rights) none = refl
  no_more_in value class (body.User user) none = refl
  no_more_in value class (body.Counter counter) none = refl
  no_more_in value class (body.Bag pairs) none = refl
  no_more_in value class (body.RcDict pairs) none = refl
  no_more_in value class (body.Queue queue) none = refl

  pub no_slot_more : (value : Value) → slots_in (get x.world.changes name) ≡ None → Edited name (with_slot_more at value) x (Ok tt) x
  no_slot_more value none = edit_of_same x name sound (with_slot_more at value) (λ old written.
      no_more_in value old.class old.body (none_by (get x.world.changes name) old written none))

  no_less_in : (class : ℕ) (one : Body) → slots_of class one ≡ None → without_slot at one ≡ one
  no_less_in class (body.Plain values) none = cc
  no_less_in class (body.Bytes bytes) none = refl
  no_less_in class (body.Dict pairs) none = refl
  no_less_in class (body.Class body) none = refl
  no_less_in class (body.Segment rights) none = refl
  no_less_in class (body.User user) none = refl
  no_less_in class (body.Counter counter) none = refl
  no_less_in class (body.Bag pairs) none = refl
  no_less_in class (body.RcDict pairs) none = refl
  no_less_in class (body.Queue queue) none = refl

  pub no_slot_less : slots_in (get x.world.changes name) ≡ None → Edited name (without_slot at) x (Ok tt) x
  no_slot_less none = edit_of_same x name sound (without_slot at) (λ old written.
      no_less_in old.class old.body (none_by (get x.world.changes name) old written none))

  past_end : (values : List Value) → length values ≤ at → take at values ++ drop (at + 1) values ≡ values
  past_end values past = ap (λ rest. take at values ++ rest)
      (drop_of_length-le values {i = at + 1} (omega (arith, past)) ∙ sym (drop_of_length-le values {i = at} past))
      ∙ take-append-drop at values

  pub slot_past : (class count : ℕ) → slots_in (get x.world.changes name) ≡ Some (class, count) → count ≤ at
      → Edited name (without_slot at) x (Ok tt) x
  slot_past class count has past = edit_of_same x name sound (without_slot at) (λ old written.
      let slots = slots_by old.class old.body class count (sym (ap slots_in written) ∙ has) in
      let long = slots.1.1.1 in
      ap (without_slot at) slots.1.0 ∙ ap body.Plain (past_end slots.0 (omega (arith, long, past))) ∙ sym slots.1.0)
