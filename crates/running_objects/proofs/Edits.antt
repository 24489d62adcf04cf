-- What the guard asks of an object whose body is edited, where all objects that are seen are sound.
use Rattle.std.proofs.Common.{◌≡◌, ◌∙◌, refl, sym, ap, ap₂, ℕ, suc, ◌+◌, ◌<◌, Bool, true, false, ◌&&◌, ◌||◌, cond, nat_eq, nat_lt, nat_le, Option, Some, None, List, [], ◌∷◌, ◌++◌, length, take, drop, slice_set, option_map, arith}
use Rattle.std.proofs.Math.Path.{fun_ext}
use Rattle.std.proofs.lemmas.Bool.{and_parts, and_from, eqb-true, eq-eqb}
use Rattle.std.proofs.lemmas.List.{length-set, set_split, take-append-drop}
use Rattle.std.proofs.lemmas.List.Folds.{list_all-append}
use Rattle.std.specs.List.{list_all}
use Rattle.std.specs.Cmp.Lexicographic.{pointwise}
use Rattle.std.specs.Prelude.{bytes_eq}
use Rattle.gem_object.specs.texts.Bytes.{Bytes as Text}
use Rattle.gem_object.specs.Kinds as kinds
use Rattle.gem_object.specs.References.{names_in as names_in_values, names_in_pairs, names_in_body}
use Rattle.gem_object.specs.declared.kind.Kind.{Kind}
use Rattle.gem_object.specs.declared.kind.Kind.TheVariants as kind
use Rattle.gem_object.specs.declared.value.Value.{Value}
use Rattle.gem_object.specs.declared.value.Value.TheVariants as value
use Rattle.gem_object.specs.declared.body.Body.{Body}
use Rattle.gem_object.specs.declared.body.Body.TheVariants as body
use Rattle.object_programs.specs.gem_image.Image.{Contents}
use Rattle.object_programs.specs.gem_world.World.{Setting, World, shown}
use Rattle.object_programs.specs.gem_world.Changes.{with_body}
use Rattle.object_programs.specs.Kernel.{KernelBody, a_class, a_dictionary, a_segment, a_user, no_slots, kernel_body}
use Rattle.object_programs.specs.Sound.{names_in}
use Rattle.object_programs.specs.Fixed.{BodyKind, PlainKind, BytesKind, DictKind, ClassKind, SegmentKind, UserKind, CounterKind, BagKind, RcDictKind, QueueKind, ClassPart, class_part, Fixed, fixed_of, fixed_by, same_body_kind, same_number, same_part, same_fixed}
use Rattle.object_programs.specs.Guard.{Parts, parts_with, holds_of, is_known, is_segment_at, names_at, has_slots, is_transcript, accepts_by, accepts, named_fit, kernel_fits_by, kernel_fits, place_fits, fits, may_replace}
use Rattle.object_programs.specs.Methods.{methods_fit}
use Rattle.object_programs.specs.Spelled.{is_plain_byte, is_storable, is_dictionary_body, is_spelled}
use Rattle.object_programs.specs.Laws.{AreSound}
use Rattle.running_objects.specs.Fitting.{is_known_value, may_enter, can_count}

-- ---- a fixed part is the same as itself

texts_self : (text : Text) → bytes_eq text text ≡ true
texts_self [] = refl
texts_self (byte ∷ rest) = and_from (nat_eq byte byte) (bytes_eq rest rest) (eq-eqb byte byte refl) (texts_self rest)

names_self : (names : List Text) → pointwise bytes_eq names names ≡ true
names_self [] = refl
names_self (name ∷ rest) = and_from (bytes_eq name name) (pointwise bytes_eq rest rest) (texts_self name) (names_self rest)

number_self : (number : Option ℕ) → same_number number number ≡ true
number_self None = refl
number_self (Some number) = eq-eqb number number refl

body_kind_self : (one : BodyKind) → same_body_kind one one ≡ true
body_kind_self PlainKind = refl
body_kind_self BytesKind = refl
body_kind_self DictKind = refl
body_kind_self ClassKind = refl
body_kind_self SegmentKind = refl
body_kind_self UserKind = refl
body_kind_self CounterKind = refl
body_kind_self BagKind = refl
body_kind_self RcDictKind = refl
body_kind_self QueueKind = refl

part_self : (part : Option ClassPart) → same_part part part ≡ true
part_self None = refl
part_self (Some part) = and_from _ _
    (and_from _ _ (number_self part.superclass) (eq-eqb (kinds.kind_number part.kind) (kinds.kind_number part.kind) refl))
    (names_self part.names)

pub fixed_self : (fixed : Fixed) → same_fixed fixed fixed ≡ true
unfolding same_fixed
fixed_self fixed = and_from _ _ (and_from _ _ (eq-eqb fixed.class fixed.class refl) (body_kind_self fixed.kind))
    (part_self fixed.as_class)

-- ---- lists of values

-- the values of which a test holds, with one of them replaced, with one more, and with one less
pub all_split : {X : Type 0} (test : X → Bool) (at : ℕ) (xs : List X) → list_all test xs ≡ true
    → (list_all test (take at xs) ≡ true) × (list_all test (drop at xs) ≡ true)
all_split test at xs all = and_parts (list_all test (take at xs)) (list_all test (drop at xs))
    (sym (list_all-append test (take at xs) (drop at xs)) ∙ ap (list_all test) (take-append-drop at xs) ∙ all)

all_around : {X : Type 0} (test : X → Bool) (before after : List X) (x : X) → list_all test before ≡ true
    → list_all test after ≡ true → list_all test (before ++ x ∷ after) ≡ test x
all_around test before after x first last =
    list_all-append test before (x ∷ after) ∙ ap₂ (λ a b. a && (test x && b)) first last ∙ with_true (test x)
  where
    with_true : (b : Bool) → true && (b && true) ≡ b
    with_true true = refl
    with_true false = refl

pub all_set : {X : Type 0} (test : X → Bool) (xs : List X) (at : ℕ) (x : X) → list_all test xs ≡ true
    → at < length xs → list_all test (slice_set xs at x) ≡ test x
all_set test xs at x all within = ap (list_all test) (set_split xs at x within)
    ∙ all_around test (take at xs) (drop (suc at) xs) x (all_split test at xs all).0 (all_split test (suc at) xs all).1

pub all_inserted : {X : Type 0} (test : X → Bool) (xs : List X) (at : ℕ) (x : X) → list_all test xs ≡ true
    → list_all test (take at xs ++ x ∷ drop at xs) ≡ test x
all_inserted test xs at x all = all_around test (take at xs) (drop at xs) x (all_split test at xs all).0 (all_split test at xs all).1

pub all_removed : {X : Type 0} (test : X → Bool) (xs : List X) (at : ℕ) → list_all test xs ≡ true
    → list_all test (take at xs ++ drop (at + 1) xs) ≡ true
all_removed test xs at all = list_all-append test (take at xs) (drop (at + 1) xs)
    ∙ and_from _ _ (all_split test at xs all).0 (all_split test (at + 1) xs all).1

-- the names to which values refer
pub all_known : (parts : Parts) (values : List Value)
    → list_all (is_known parts) (names_in_values values) ≡ list_all (is_known_value parts) values
all_known parts [] = refl
all_known parts (value.Nil ∷ rest) = all_known parts rest
all_known parts (value.False ∷ rest) = all_known parts rest
all_known parts (value.True ∷ rest) = all_known parts rest
all_known parts (value.Int number ∷ rest) = all_known parts rest
all_known parts (value.Char code ∷ rest) = all_known parts rest
all_known parts (value.Sym name ∷ rest) = all_known parts rest
all_known parts (value.Ref oid ∷ rest) = ap (λ b. is_known parts oid && b) (all_known parts rest)
all_known parts (value.Block block ∷ rest) = all_known parts rest

-- ---- slots of as many values fit alike

pub kind_of_slots : (one : Kind) (values others : List Value) → kinds.fits one (body.Plain values) ≡ kinds.fits one (body.Plain others)
kind_of_slots kind.None values others = refl
kind_of_slots kind.Plain values others = refl
kind_of_slots kind.Indexed values others = refl
kind_of_slots kind.Bytes values others = refl
kind_of_slots kind.Dict values others = refl
kind_of_slots kind.Segment values others = refl
kind_of_slots kind.User values others = refl
kind_of_slots kind.Counter values others = refl
kind_of_slots kind.Bag values others = refl
kind_of_slots kind.RcDict values others = refl
kind_of_slots kind.Queue values others = refl

slots_of_names : (names : Option (List Text)) (values others : List Value) → length values ≡ length others
    → holds_of (has_slots (body.Plain values)) names ≡ holds_of (has_slots (body.Plain others)) names
slots_of_names None values others same = refl
slots_of_names (Some names) values others same = ap (nat_le (length names)) same

transcript_alike : (class : ℕ) (values others : List Value) → length values ≡ length others
    → is_transcript class (body.Plain values) ≡ is_transcript class (body.Plain others)
transcript_alike class [] [] same = refl
transcript_alike class [] (other ∷ others) same = absurd (omega (arith, same))
transcript_alike class (value ∷ values) [] same = absurd (omega (arith, same))
transcript_alike class (value ∷ values) (other ∷ others) same = refl

accepted_by : (parts : Parts) (class : ℕ) (part : Option ClassPart) (values others : List Value) → length values ≡ length others
    → accepts_by parts class (body.Plain values) part ≡ accepts_by parts class (body.Plain others) part
accepted_by parts class None values others same = refl
accepted_by parts class (Some part) values others same =
    ap₂ (λ a b. a || (false || b))
    (ap₂ (λ a b. a && b) (kind_of_slots part.kind values others) (slots_of_names (names_at parts class) values others same))
    (transcript_alike class values others same)

accepted_at : (parts : Parts) (class : ℕ) (found : Option Fixed) (values others : List Value) → length values ≡ length others
    → holds_of (λ fixed. accepts_by parts class (body.Plain values) fixed.as_class) found
    ≡ holds_of (λ fixed. accepts_by parts class (body.Plain others) fixed.as_class) found
accepted_at parts class None values others same = refl
accepted_at parts class (Some fixed) values others same = accepted_by parts class fixed.as_class values others same

pub accepted_alike : (parts : Parts) (class : ℕ) (values others : List Value) → length values ≡ length others
    → accepts parts class (body.Plain values) ≡ accepts parts class (body.Plain others)
accepted_alike parts class values others same = accepted_at parts class (parts class) values others same

kernel_by : (found : Option KernelBody) (values others : List Value) → length values ≡ length others
    → kernel_fits_by found (body.Plain values) ≡ kernel_fits_by found (body.Plain others)
kernel_by None values others same = refl
kernel_by (Some a_class) values others same = refl
kernel_by (Some a_dictionary) values others same = refl
kernel_by (Some a_segment) values others same = refl
kernel_by (Some a_user) values others same = refl
kernel_by (Some no_slots) [] [] same = refl
kernel_by (Some no_slots) [] (other ∷ others) same = absurd (omega (arith, same))
kernel_by (Some no_slots) (value ∷ values) [] same = absurd (omega (arith, same))
kernel_by (Some no_slots) (value ∷ values) (other ∷ others) same = refl

-- ---- what the guard asks

module _ (setting : Setting) (world : World) (name : ℕ) (old : Contents)
    (sound : AreSound setting world) (there : shown name setting world ≡ Some old) where
  same_here : (fixed : Fixed) → fixed ≡ fixed_of old → (other : ℕ) (here : Bool) → nat_eq other name ≡ here
      → cond here (Some fixed) (fixed_by setting world other) ≡ fixed_by setting world other
  same_here fixed same other true is = ap Some same ∙ sym (ap (option_map fixed_of) there)
      ∙ sym (ap (λ (n : ℕ). fixed_by setting world n) (eqb-true other name is))
  same_here fixed same other false is = refl

  -- an object with the same fixed part leaves all fixed parts
  pub parts_stay : (new : Contents) → fixed_of new ≡ fixed_of old
      → parts_with name new setting world ≡ fixed_by setting world
  parts_stay new same = fun_ext (λ other. same_here (fixed_of new) same other (nat_eq other name) refl)

  pub replace_is : (new : Contents) → fixed_of new ≡ fixed_of old
      → may_replace name old new setting world ≡ fits (fixed_by setting world) name new
  unfolding may_replace
  replace_is new same =
      ap (λ b. b && fits (parts_with name new setting world) name new)
      (ap (same_fixed (fixed_of old)) same ∙ fixed_self (fixed_of old))
      ∙ ap (λ (parts : Parts). fits parts name new) (parts_stay new same)

  -- What is left to be asked of another body of the same kind.
  pub body_fits : (new : Body) → class_part new ≡ class_part old.body
      → fits (fixed_by setting world) name (with_body new old)
      ≡ (list_all (is_known (fixed_by setting world)) (names_in_body new)
      && (accepts (fixed_by setting world) old.class new
      && (named_fit (fixed_by setting world) new
      && (kernel_fits name new && (methods_fit name new && is_spelled new)))))
  unfolding fits
  body_fits new same =
      let parts : Parts = fixed_by setting world in
      let whole = sound.each name old there in
      let one = and_parts (nat_lt 0 name) _ whole in
      let two = and_parts (list_all (is_known parts) (names_in old)) _ one.1 in
      let class = and_parts (is_known parts old.class) _ two.0 in
      let segment = and_parts (is_known parts old.segment) _ class.1 in
      let three = and_parts (is_segment_at parts old.segment) _ two.1 in
      let four = and_parts (accepts parts old.class old.body) _ three.1 in
      let five = and_parts (named_fit parts old.body) _ four.1 in
      let six = and_parts (kernel_fits name old.body) _ five.1 in
      let seven = and_parts (place_fits parts name (class_part old.body)) _ six.1 in
      rw (one.0, class.0, segment.0, three.0, same, seven.0) refl

  -- A sound object's own parts.
  pub old_known : list_all (is_known (fixed_by setting world)) (names_in_body old.body) ≡ true
  unfolding fits
  old_known =
      let parts : Parts = fixed_by setting world in
      let one = and_parts (nat_lt 0 name) _ (sound.each name old there) in
      let two = and_parts (list_all (is_known parts) (names_in old)) _ one.1 in
      let class = and_parts (is_known parts old.class) _ two.0 in
      (and_parts (is_known parts old.segment) _ class.1).1

  pub old_rest : (accepts (fixed_by setting world) old.class old.body ≡ true)
      × ((kernel_fits name old.body ≡ true) × (is_spelled old.body ≡ true))
  unfolding fits
  old_rest =
      let parts : Parts = fixed_by setting world in
      let one = and_parts (nat_lt 0 name) _ (sound.each name old there) in
      let two = and_parts (list_all (is_known parts) (names_in old)) _ one.1 in
      let three = and_parts (is_segment_at parts old.segment) _ two.1 in
      let four = and_parts (accepts parts old.class old.body) _ three.1 in
      let five = and_parts (named_fit parts old.body) _ four.1 in
      let six = and_parts (kernel_fits name old.body) _ five.1 in
      let seven = and_parts (place_fits parts name (class_part old.body)) _ six.1 in
      (four.0, (six.0, (and_parts (methods_fit name old.body) _ seven.1).1))

  -- a value in a slot that is there
  pub slot_fits : (values : List Value) (at : ℕ) (value : Value) → old.body ≡ body.Plain values → at < length values
      → may_replace name old (with_body (body.Plain (slice_set values at value)) old) setting world
      ≡ may_enter (fixed_by setting world) value
  unfolding is_spelled
  slot_fits values at value is within =
      let parts : Parts = fixed_by setting world in
      let new : List Value = slice_set values at value in
      let long : length new ≡ length values = length-set values at value in
      let known : list_all (is_known_value parts) values ≡ true =
      sym (all_known parts values) ∙ sym (ap (λ (one : Body). list_all (is_known parts) (names_in_body one)) is) ∙ old_known in
      let whole : is_spelled (body.Plain values) ≡ true = sym (ap is_spelled is) ∙ old_rest.1.1 in
      let stored = and_parts (can_count (length values)) (list_all is_storable values) whole in
      let taken : accepts parts old.class (body.Plain new) ≡ true = accepted_alike parts old.class new values long
      ∙ sym (ap (λ (one : Body). accepts parts old.class one) is) ∙ old_rest.0 in
      let kernel : kernel_fits name (body.Plain new) ≡ true = kernel_by (kernel_body name) new values long
      ∙ sym (ap (λ (one : Body). kernel_fits name one) is) ∙ old_rest.1.0 in
      let kind : fixed_of (with_body (body.Plain new) old) ≡ fixed_of old =
      sym (ap (λ (one : Body). fixed_of (with_body one old)) is) in
      let part : class_part (body.Plain new) ≡ class_part old.body = sym (ap class_part is) in
      let count : can_count (length new) ≡ true = ap can_count long ∙ stored.0 in
      replace_is (with_body (body.Plain new) old) kind
      ∙ body_fits (body.Plain new) part
      ∙ ap₂ (λ a b. a && b) (all_known parts new ∙ all_set (is_known_value parts) values at value known within)
      (rw (taken, kernel, count) (all_set is_storable values at value stored.1 within))

-- ---- bytes, and pairs of a dictionary

kind_of_bytes : (one : Kind) (bytes others : List ℕ) → kinds.fits one (body.Bytes bytes) ≡ kinds.fits one (body.Bytes others)
kind_of_bytes kind.None bytes others = refl
kind_of_bytes kind.Plain bytes others = refl
kind_of_bytes kind.Indexed bytes others = refl
kind_of_bytes kind.Bytes bytes others = refl
kind_of_bytes kind.Dict bytes others = refl
kind_of_bytes kind.Segment bytes others = refl
kind_of_bytes kind.User bytes others = refl
kind_of_bytes kind.Counter bytes others = refl
kind_of_bytes kind.Bag bytes others = refl
kind_of_bytes kind.RcDict bytes others = refl
kind_of_bytes kind.Queue bytes others = refl

kind_of_pairs : (one : Kind) (pairs others : List (Value × Value)) → kinds.fits one (body.Dict pairs) ≡ kinds.fits one (body.Dict others)
kind_of_pairs kind.None pairs others = refl
kind_of_pairs kind.Plain pairs others = refl
kind_of_pairs kind.Indexed pairs others = refl
kind_of_pairs kind.Bytes pairs others = refl
kind_of_pairs kind.Dict pairs others = refl
kind_of_pairs kind.Segment pairs others = refl
kind_of_pairs kind.User pairs others = refl
kind_of_pairs kind.Counter pairs others = refl
kind_of_pairs kind.Bag pairs others = refl
kind_of_pairs kind.RcDict pairs others = refl
kind_of_pairs kind.Queue pairs others = refl

no_slots_of : (names : Option (List Text)) (one other : Body) → has_slots one ≡ has_slots other
    → holds_of (has_slots one) names ≡ holds_of (has_slots other) names
no_slots_of None one other same = refl
no_slots_of (Some names) one other same = ap (λ test. test names) same

bytes_accepted_at : (parts : Parts) (class : ℕ) (found : Option Fixed) (bytes others : List ℕ)
    → holds_of (λ fixed. accepts_by parts class (body.Bytes bytes) fixed.as_class) found
    ≡ holds_of (λ fixed. accepts_by parts class (body.Bytes others) fixed.as_class) found
bytes_accepted_at parts class None bytes others = refl
bytes_accepted_at parts class (Some fixed) bytes others = by fixed.as_class
  where
    by : (part : Option ClassPart) → accepts_by parts class (body.Bytes bytes) part ≡ accepts_by parts class (body.Bytes others) part
    by None = refl
    by (Some part) = ap (λ a. (a && holds_of (has_slots (body.Bytes bytes)) (names_at parts class)) || (false || false))
        (kind_of_bytes part.kind bytes others)
        ∙ ap (λ a. (kinds.fits part.kind (body.Bytes others) && a) || (false || false))
        (no_slots_of (names_at parts class) (body.Bytes bytes) (body.Bytes others) refl)

pairs_accepted_at : (parts : Parts) (class : ℕ) (found : Option Fixed) (pairs others : List (Value × Value))
    → holds_of (λ fixed. accepts_by parts class (body.Dict pairs) fixed.as_class) found
    ≡ holds_of (λ fixed. accepts_by parts class (body.Dict others) fixed.as_class) found
pairs_accepted_at parts class None pairs others = refl
pairs_accepted_at parts class (Some fixed) pairs others = by fixed.as_class
  where
    by : (part : Option ClassPart) → accepts_by parts class (body.Dict pairs) part ≡ accepts_by parts class (body.Dict others) part
    by None = refl
    by (Some part) = ap (λ a. (a && holds_of (has_slots (body.Dict pairs)) (names_at parts class)) || (false || false))
        (kind_of_pairs part.kind pairs others)
        ∙ ap (λ a. (kinds.fits part.kind (body.Dict others) && a) || (false || false))
        (no_slots_of (names_at parts class) (body.Dict pairs) (body.Dict others) refl)

kernel_bytes : (found : Option KernelBody) (bytes others : List ℕ)
    → kernel_fits_by found (body.Bytes bytes) ≡ kernel_fits_by found (body.Bytes others)
kernel_bytes None bytes others = refl
kernel_bytes (Some a_class) bytes others = refl
kernel_bytes (Some a_dictionary) bytes others = refl
kernel_bytes (Some a_segment) bytes others = refl
kernel_bytes (Some a_user) bytes others = refl
kernel_bytes (Some no_slots) bytes others = refl

kernel_pairs : (found : Option KernelBody) (pairs others : List (Value × Value))
    → kernel_fits_by found (body.Dict pairs) ≡ kernel_fits_by found (body.Dict others)
kernel_pairs None pairs others = refl
kernel_pairs (Some a_class) pairs others = refl
kernel_pairs (Some a_dictionary) pairs others = refl
kernel_pairs (Some a_segment) pairs others = refl
kernel_pairs (Some a_user) pairs others = refl
kernel_pairs (Some no_slots) pairs others = refl

module _ (setting : Setting) (world : World) (name : ℕ) (old : Contents)
    (sound : AreSound setting world) (there : shown name setting world ≡ Some old) where
  -- a byte at a place that is there
  pub byte_fits : (bytes : List ℕ) (at byte : ℕ) → old.body ≡ body.Bytes bytes → at < length bytes
      → may_replace name old (with_body (body.Bytes (slice_set bytes at byte)) old) setting world
      ≡ is_plain_byte byte
  unfolding is_spelled
  byte_fits bytes at byte is within =
      let parts : Parts = fixed_by setting world in
      let new : List ℕ = slice_set bytes at byte in
      let whole : is_spelled (body.Bytes bytes) ≡ true = sym (ap is_spelled is)
      ∙ (old_rest setting world name old sound there).1.1 in
      let stored = and_parts (can_count (length bytes)) (list_all is_plain_byte bytes) whole in
      let taken : accepts parts old.class (body.Bytes new) ≡ true = bytes_accepted_at parts old.class (parts old.class) new bytes
      ∙ sym (ap (λ (one : Body). accepts parts old.class one) is) ∙ (old_rest setting world name old sound there).0 in
      let kernel : kernel_fits name (body.Bytes new) ≡ true = kernel_bytes (kernel_body name) new bytes
      ∙ sym (ap (λ (one : Body). kernel_fits name one) is) ∙ (old_rest setting world name old sound there).1.0 in
      let kind : fixed_of (with_body (body.Bytes new) old) ≡ fixed_of old =
      sym (ap (λ (one : Body). fixed_of (with_body one old)) is) in
      let part : class_part (body.Bytes new) ≡ class_part old.body = sym (ap class_part is) in
      let count : can_count (length new) ≡ true = ap can_count (length-set bytes at byte) ∙ stored.0 in
      replace_is setting world name old sound there (with_body (body.Bytes new) old) kind
      ∙ body_fits setting world name old sound there (body.Bytes new) part
      ∙ rw (taken, kernel, count) (all_set is_plain_byte bytes at byte stored.1 within)

  -- What is asked of other pairs of a dictionary.
  pub pairs_fit : (pairs new : List (Value × Value)) → old.body ≡ body.Dict pairs
      → may_replace name old (with_body (body.Dict new) old) setting world
      ≡ (list_all (is_known (fixed_by setting world)) (names_in_pairs new) && is_dictionary_body new)
  unfolding is_spelled
  pairs_fit pairs new is =
      let parts : Parts = fixed_by setting world in
      let taken : accepts parts old.class (body.Dict new) ≡ true = pairs_accepted_at parts old.class (parts old.class) new pairs
      ∙ sym (ap (λ (one : Body). accepts parts old.class one) is) ∙ (old_rest setting world name old sound there).0 in
      let kernel : kernel_fits name (body.Dict new) ≡ true = kernel_pairs (kernel_body name) new pairs
      ∙ sym (ap (λ (one : Body). kernel_fits name one) is) ∙ (old_rest setting world name old sound there).1.0 in
      let kind : fixed_of (with_body (body.Dict new) old) ≡ fixed_of old =
      sym (ap (λ (one : Body). fixed_of (with_body one old)) is) in
      let part : class_part (body.Dict new) ≡ class_part old.body = sym (ap class_part is) in
      replace_is setting world name old sound there (with_body (body.Dict new) old) kind
      ∙ body_fits setting world name old sound there (body.Dict new) part
      ∙ rw (taken, kernel) refl

  -- a dictionary's own pairs
  pub old_pairs : (pairs : List (Value × Value)) → old.body ≡ body.Dict pairs
      → (list_all (is_known (fixed_by setting world)) (names_in_pairs pairs) ≡ true) × (is_dictionary_body pairs ≡ true)
  unfolding is_spelled
  old_pairs pairs is = (
    sym (ap (λ (one : Body). list_all (is_known (fixed_by setting world)) (names_in_body one)) is) ∙ old_known setting world name old sound there,
    sym (ap is_spelled is) ∙ (old_rest setting world name old sound there).1.1,
  )
