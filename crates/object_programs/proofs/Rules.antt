-- What the tests of the guard mean: where they hold, an objects of what is seen keeps the rules.
use Rattle.std.proofs.Common.{◌≡◌, ◌∙◌, refl, sym, ap, subst, ℕ, zero, suc, ◌<◌, Bool, true, false, ◌&&◌, ◌||◌, cond, nat_eq, nat_lt, length, Option, Some, None, List, [], ◌∷◌, ◌++◌, option_map, is_some, inl, inr, arith}
use Rattle.std.specs.List.{All, list_all}
use Rattle.std.specs.Option.{IfSome, IsSome, option_and_then}
use Rattle.std.proofs.lemmas.Bool.{false≢true, and_parts, or_cases, eqb-true, leb-true, ltb-true}
use Rattle.std.proofs.lemmas.List.Elements.{All-nil, All-cons}
use Rattle.gem_object.specs.texts.Bytes.{Bytes as Text}
use Rattle.gem_object.specs.Edits.{plain_slots}
use Rattle.gem_object.specs.Kinds as kinds
use Rattle.gem_sound.specs.Sound.{names_in}
use Rattle.gem_object.specs.declared.body.ClassBody.{ClassBody}
use Rattle.gem_object.specs.declared.body.Body.{Body}
use Rattle.gem_object.specs.declared.body.Body.TheVariants.{Plain, Bytes, Dict, Class, Segment, User, Counter, Bag, RcDict, Queue}
use Rattle.gem_world.specs.gem_image.Image.{Contents, Objects}
use Rattle.gem_world.specs.World.{Setting, World, name_of, shown}
use Rattle.gem_sound.specs.Parts.{class_of, user_of, dictionary_of, class_at}
use Rattle.gem_world.specs.gem_image.Rights.{rights_of, rights_at}
use Rattle.gem_sound.specs.Kernel.{KernelClass, kernel_class, KernelBody, kernel_body}
use Rattle.gem_sound.specs.Inherited.{HasNames, at_the_end, under}
use Rattle.gem_sound.specs.Sound.{HasPlace, HasPlaceByRow, HasInheritedKind, FitsClass, by_kind, class_object, transcript, NamesFit, HasKernelBody, has_named_slots, ImageRule, KeepsRule, i1, i2, i3, i4, i5, KeepsRuleAt, IsSoundFor}
use Rattle.object_programs.specs.Fixed.{body_kind, ClassPart, class_part, Fixed, fixed_of, fixed_by, same_kind, same_number}
use Rattle.object_programs.specs.Guard.{Parts, holds_of, is_there, is_segment, is_user, is_dictionary, is_known, is_segment_at, names_above, names_of_class, names_of_part, names_within, chain_limit, names_at, has_slots, is_class_object, is_transcript, accepts_by, accepts, named_fit, kernel_fits_by, kernel_fits, kind_is_inherited, has_none, row_fits, are_few, place_fits, fits}
use Rattle.object_programs.specs.Methods.{methods_fit}
use Rattle.object_programs.specs.Spelled.{is_spelled}
use Rattle.object_programs.specs.Laws.{AreSound, HasSpelling, AreStored, Shows}
use Rattle.object_programs.proofs.Bases.{some_there}
use Rattle.object_programs.proofs.Sames.{kind_is, number_is}
use Rattle.object_programs.proofs.Spells.{tells_spelled}
use Rattle.object_programs.proofs.MethodRules.{tells_methods_fit}

-- what a test holds of is there
held_of : {X : Type 0} (test : X → Bool) (found : Option X) → holds_of test found ≡ true
    → (x : X) × (found ≡ Some x) × (test x ≡ true)
held_of test None holds = absurd (false≢true holds)
held_of test (Some x) holds = (x, refl, holds)

abbrev pub part_of : ClassBody → ClassPart
part_of class = record { superclass = class.superclass; kind = class.kind; names = class.names }

class_body : (body : Body) (part : ClassPart) → class_part body ≡ Some part
    → (class : ClassBody) × (class_of body ≡ Some class) × (part_of class ≡ part)
class_body (Class class) part is = (class, refl, cc)
class_body (Plain values) part is = absurd (false≢true (ap is_some is))
class_body (Bytes bytes) part is = absurd (false≢true (ap is_some is))
class_body (Dict pairs) part is = absurd (false≢true (ap is_some is))
class_body (Segment rights) part is = absurd (false≢true (ap is_some is))
class_body (User user) part is = absurd (false≢true (ap is_some is))
class_body (Counter counter) part is = absurd (false≢true (ap is_some is))
class_body (Bag pairs) part is = absurd (false≢true (ap is_some is))
class_body (RcDict pairs) part is = absurd (false≢true (ap is_some is))
class_body (Queue queue) part is = absurd (false≢true (ap is_some is))

segment_body : (body : Body) → is_segment (body_kind body) ≡ true → is_some (rights_of body) ≡ true
segment_body (Segment rights) is = refl
segment_body (Class class) is = absurd (false≢true is)
segment_body (Plain values) is = absurd (false≢true is)
segment_body (Bytes bytes) is = absurd (false≢true is)
segment_body (Dict pairs) is = absurd (false≢true is)
segment_body (User user) is = absurd (false≢true is)
segment_body (Counter counter) is = absurd (false≢true is)
segment_body (Bag pairs) is = absurd (false≢true is)
segment_body (RcDict pairs) is = absurd (false≢true is)
segment_body (Queue queue) is = absurd (false≢true is)

user_body : (body : Body) → is_user (body_kind body) ≡ true → is_some (user_of body) ≡ true
user_body (User user) is = refl
user_body (Segment rights) is = absurd (false≢true is)
user_body (Class class) is = absurd (false≢true is)
user_body (Plain values) is = absurd (false≢true is)
user_body (Bytes bytes) is = absurd (false≢true is)
user_body (Dict pairs) is = absurd (false≢true is)
user_body (Counter counter) is = absurd (false≢true is)
user_body (Bag pairs) is = absurd (false≢true is)
user_body (RcDict pairs) is = absurd (false≢true is)
user_body (Queue queue) is = absurd (false≢true is)

dictionary_body : (body : Body) → is_dictionary (body_kind body) ≡ true → is_some (dictionary_of body) ≡ true
dictionary_body (Dict pairs) is = refl
dictionary_body (User user) is = absurd (false≢true is)
dictionary_body (Segment rights) is = absurd (false≢true is)
dictionary_body (Class class) is = absurd (false≢true is)
dictionary_body (Plain values) is = absurd (false≢true is)
dictionary_body (Bytes bytes) is = absurd (false≢true is)
dictionary_body (Counter counter) is = absurd (false≢true is)
dictionary_body (Bag pairs) is = absurd (false≢true is)
dictionary_body (RcDict pairs) is = absurd (false≢true is)
dictionary_body (Queue queue) is = absurd (false≢true is)

no_names : (names : List Text) → has_none names ≡ true → names ≡ []
no_names [] none = refl
no_names (name ∷ names) none = absurd (false≢true none)

named_slots : (names : List Text) (kind : Bool) → has_none names || kind ≡ true → 0 < length names → kind ≡ true
named_slots [] kind holds some = absurd (omega (arith, some))
named_slots (name ∷ names) kind holds some = holds

if_there : {X : Type 0} (P : X → Type 0) (found : Option X) (x : X) → found ≡ Some x → P x → IfSome found P
if_there P found x is holds = subst (λ some. IfSome some P) (sym is) holds

module _ (objects : Objects) (setting : Setting) (world : World) (shows : Shows objects setting world) where
  abbrev parts : Parts
  parts = fixed_by setting world

  object_there : (name : ℕ) (fixed : Fixed) → parts name ≡ Some fixed
      → (object : Contents) × (objects name ≡ Some object) × (fixed_of object ≡ fixed)
  object_there name fixed is =
      let found = some_there (shown name setting world) fixed is in
      (found.0, shows name ∙ found.1, found.2)

  class_there : (name : ℕ) (fixed : Fixed) (part : ClassPart) → parts name ≡ Some fixed
      → fixed.as_class ≡ Some part
      → (class : ClassBody) × (class_at objects name ≡ Some class) × (part_of class ≡ part)
  class_there name fixed part is as_class =
      let found = object_there name fixed is in
      let body = class_body found.0.body part (ap (λ (some : Fixed). some.as_class) found.2 ∙ as_class) in
      (body.0, ap (option_and_then (λ object. class_of object.body)) found.1 ∙ body.1, body.2)

  -- a test of the kind of body, at a name
  kind_there : {X : Type 0} (test : Fixed → Bool) (what : Body → Option X) (name : ℕ)
      → ((object : Contents) → test (fixed_of object) ≡ true → is_some (what object.body) ≡ true)
      → holds_of test (parts name) ≡ true
      → is_some (option_and_then (λ (object : Contents). what object.body) (objects name)) ≡ true
  kind_there test what name means holds =
      let held = held_of test (parts name) holds in
      let found = object_there name held.0 held.1 in
      ap (λ some. is_some (option_and_then (λ (object : Contents). what object.body) some)) found.1
      ∙ means found.0 (ap test found.2 ∙ held.2)

  known_there : (name : ℕ) → is_known parts name ≡ true → IsSome (objects name)
  known_there name holds =
      let held = held_of is_there (parts name) holds in
      ap is_some (object_there name held.0 held.1).1

  all_there : (names : List ℕ) → list_all (is_known parts) names ≡ true → All (λ name. IsSome (objects name)) names
  all_there [] holds = All-nil (λ name. IsSome (objects name))
  all_there (name ∷ names) holds =
      let both = and_parts (is_known parts name) (list_all (is_known parts) names) holds in
      All-cons (λ some. IsSome (objects some)) name names (known_there name both.0) (all_there names both.1)

  -- the names of a class, by those of the classes above it
  chain_above : (name : ℕ) (class : ClassBody) (superclass : Option ℕ) (above : ℕ → Option (List Text))
      (names : List Text)
      → class.superclass ≡ superclass → class_at objects name ≡ Some class
      → ((other : ℕ) (some : List Text) → above other ≡ Some some → HasNames objects other some)
      → option_map (λ inherited. inherited ++ class.names) (names_above name superclass above) ≡ Some names
      → HasNames objects name names
  chain_above name class None above names is there higher given = by (nat_eq name 1) refl given
    where
      by : (end : Bool) → nat_eq name 1 ≡ end
          → option_map (λ inherited. inherited ++ class.names) (cond end (Some []) None) ≡ Some names
          → HasNames objects name names
      by false apart given = absurd (false≢true (ap is_some given))
      by true same given =
          let at = eqb-true name 1 same in
          let all : class.names ≡ names = cc in
          subst (λ some. HasNames objects some names) (sym at)
          (subst (HasNames objects 1) all
          (at_the_end class (subst (λ some. class_at objects some ≡ Some class) at there) is))
  chain_above name class (Some superclass) above names is there higher given = by (above superclass) refl given
    where
      by : (found : Option (List Text)) → above superclass ≡ found
          → option_map (λ inherited. inherited ++ class.names) found ≡ Some names → HasNames objects name names
      by None found given = absurd (false≢true (ap is_some given))
      by (Some inherited) found given =
          let all : inherited ++ class.names ≡ names = cc in
          subst (HasNames objects name) all
          (under name superclass class inherited there is (higher superclass inherited found))

  chain_of : (name : ℕ) (part : ClassPart) (class : ClassBody) (above : ℕ → Option (List Text)) (names : List Text)
      → part_of class ≡ part → class_at objects name ≡ Some class
      → ((other : ℕ) (some : List Text) → above other ≡ Some some → HasNames objects other some)
      → names_of_class name (Some part) above ≡ Some names → HasNames objects name names
  chain_of name part class above names is there higher given =
      chain_above name class class.superclass above names refl there higher
      (ap (λ some. names_of_class name (Some some) above) is ∙ given)

  chain_found : (name : ℕ) (found : Option Fixed) (above : ℕ → Option (List Text)) (names : List Text)
      → parts name ≡ found → ((other : ℕ) (some : List Text) → above other ≡ Some some → HasNames objects other some)
      → names_of_part name found above ≡ Some names → HasNames objects name names
  chain_found name None above names at higher given = absurd (false≢true (ap is_some given))
  chain_found name (Some fixed) above names at higher given = by fixed.as_class refl given
    where
      by : (as_class : Option ClassPart) → fixed.as_class ≡ as_class
          → names_of_class name as_class above ≡ Some names → HasNames objects name names
      by None is given = absurd (false≢true (ap is_some given))
      by (Some part) is given =
          let found = class_there name fixed part at is in
          chain_of name part found.0 above names found.2 found.1 higher given

  chain_within : (limit name : ℕ) (names : List Text) → names_within parts limit name ≡ Some names
      → HasNames objects name names
  chain_within zero name names given = absurd (false≢true (ap is_some given))
  chain_within (suc limit) name names given =
      chain_found name (parts name) (names_within parts limit) names refl (chain_within limit) given

  chain_at : (name : ℕ) (names : List Text) → names_at parts name ≡ Some names → HasNames objects name names
  unfolding names_at
  chain_at name names given = chain_within chain_limit name names given

  -- I5
  accepted : (name : ℕ) (body : Body) → accepts parts name body ≡ true → FitsClass objects name body
  accepted name body holds =
      let held = held_of (λ fixed. accepts_by parts name body fixed.as_class) (parts name) holds in
      by held.0.as_class held.0 held.1 refl held.2
    where
      own_class : (class : ClassBody) (other : Body) → class_at objects name ≡ Some class
          → is_class_object name other ≡ true → FitsClass objects name other
      own_class class (Class of) there is =
          let at = eqb-true name 2 is in
          subst (λ some. FitsClass objects some (Class of)) (sym at)
          (class_object of (ap is_some (subst (λ some. class_at objects some ≡ Some class) at there)))
      own_class class (Plain values) there is = absurd (false≢true is)
      own_class class (Bytes bytes) there is = absurd (false≢true is)
      own_class class (Dict pairs) there is = absurd (false≢true is)
      own_class class (Segment rights) there is = absurd (false≢true is)
      own_class class (User user) there is = absurd (false≢true is)
      own_class class (Counter counter) there is = absurd (false≢true is)
      own_class class (Bag pairs) there is = absurd (false≢true is)
      own_class class (RcDict pairs) there is = absurd (false≢true is)
      own_class class (Queue queue) there is = absurd (false≢true is)

      own_transcript : (class : ClassBody) (other : Body) → class_at objects name ≡ Some class
          → is_transcript name other ≡ true → FitsClass objects name other
      own_transcript class (Plain []) there is =
          let at = eqb-true name 26 is in
          subst (λ some. FitsClass objects some (Plain [])) (sym at)
          (transcript (ap is_some (subst (λ some. class_at objects some ≡ Some class) at there)))
      own_transcript class (Plain (value ∷ values)) there is = absurd (false≢true is)
      own_transcript class (Class of) there is = absurd (false≢true is)
      own_transcript class (Bytes bytes) there is = absurd (false≢true is)
      own_transcript class (Dict pairs) there is = absurd (false≢true is)
      own_transcript class (Segment rights) there is = absurd (false≢true is)
      own_transcript class (User user) there is = absurd (false≢true is)
      own_transcript class (Counter counter) there is = absurd (false≢true is)
      own_transcript class (Bag pairs) there is = absurd (false≢true is)
      own_transcript class (RcDict pairs) there is = absurd (false≢true is)
      own_transcript class (Queue queue) there is = absurd (false≢true is)

      by : (as_class : Option ClassPart) (fixed : Fixed) → parts name ≡ Some fixed → fixed.as_class ≡ as_class
          → accepts_by parts name body as_class ≡ true → FitsClass objects name body
      by None fixed at is given = absurd (false≢true given)
      by (Some part) fixed at is given =
          let found = class_there name fixed part at is in
          elim (or_cases (kinds.fits part.kind body && holds_of (has_slots body) (names_at parts name))
          (is_class_object name body || is_transcript name body) given) [
            | inl kind ↦
                let both = and_parts (kinds.fits part.kind body)
                (holds_of (has_slots body) (names_at parts name)) kind in
                let names = held_of (has_slots body) (names_at parts name) both.1 in
                by_kind name found.0 names.0 body found.1
                (ap (λ (some : ClassPart). kinds.fits some.kind body) found.2 ∙ both.0)
                (chain_at name names.0 names.1)
                (leb-true (length names.0) (plain_slots body) names.2)
            | inr other ↦ elim (or_cases (is_class_object name body) (is_transcript name body) other) [
              | inl class ↦ own_class found.0 body found.1 class
              | inr empty ↦ own_transcript found.0 body found.1 empty
            ]
          ]

  segment_there : (name : ℕ) → is_segment_at parts name ≡ true → IsSome (rights_at objects name)
  segment_there name holds = kind_there (λ fixed. is_segment fixed.kind) rights_of name
      (λ object. segment_body object.body) holds

  named_there : (body : Body) → named_fit parts body ≡ true → NamesFit objects body
  named_there (Segment rights) holds = kind_there (λ fixed. is_user fixed.kind) user_of rights.owner
      (λ object. user_body object.body) holds
  named_there (User user) holds =
      let both = and_parts (is_segment_at parts user.default_segment) _ holds in (
        segment_there user.default_segment both.0,
        kind_there (λ fixed. is_dictionary fixed.kind) dictionary_of user.globals
            (λ object. dictionary_body object.body) both.1,
      )
  named_there (Class class) holds = tt
  named_there (Plain values) holds = tt
  named_there (Bytes bytes) holds = tt
  named_there (Dict pairs) holds = tt
  named_there (Counter counter) holds = tt
  named_there (Bag pairs) holds = tt
  named_there (RcDict pairs) holds = tt
  named_there (Queue queue) holds = tt

  -- I3
  row_there : (row : Option KernelClass) (class : ClassBody) → row_fits parts row (part_of class) ≡ true
      → HasPlaceByRow objects class row
  row_there (Some row) class holds =
      let both = and_parts (same_number class.superclass row.superclass)
      (same_kind class.kind row.kind && has_none class.names) holds in
      let more = and_parts (same_kind class.kind row.kind) (has_none class.names) both.1 in
      record {
        superclass = number_is class.superclass row.superclass both.0;
        kind = kind_is class.kind row.kind more.0;
        no_names = no_names class.names more.1;
      }
  row_there None class holds = by class.superclass holds
    where
      by : (superclass : Option ℕ) → kind_is_inherited parts superclass class.kind ≡ true
          → HasInheritedKind objects class superclass
      by None given = absurd (false≢true given)
      by (Some superclass) given =
          let held = held_of (λ fixed. holds_of (λ above. same_kind above.kind class.kind) fixed.as_class)
          (parts superclass) given in
          let part = held_of (λ above. same_kind above.kind class.kind) held.0.as_class held.2 in
          let found = class_there superclass held.0 part.0 held.1 part.1 in (
            found.0,
            found.1,
            ap (λ (some : ClassPart). some.kind) found.2 ∙ kind_is part.0.kind class.kind part.2,
          )

  place_there : (number : ℕ) (class : ClassBody) → class_at objects number ≡ Some class
      → place_fits parts number (Some (part_of class)) ≡ true → HasPlace objects number class
  place_there number class there holds =
      let part = part_of class in
      let both = and_parts (holds_of are_few (names_of_class number (Some part) (names_at parts)))
      (row_fits parts (kernel_class number) part && (has_none part.names || has_named_slots part.kind)) holds in
      let more = and_parts (row_fits parts (kernel_class number) part)
      (has_none part.names || has_named_slots part.kind) both.1 in
      let names = held_of are_few (names_of_class number (Some part) (names_at parts)) both.0 in
      record {
        names = names.0;
        chain = chain_of number part class (names_at parts) names.0 refl there chain_at names.1;
        few_names = leb-true (length names.0) 200 names.2;
        row = row_there (kernel_class number) class more.0;
        named = named_slots class.names (has_named_slots class.kind) more.1;
      }

  place_of : (number : ℕ) (body : Body)
      → option_and_then (λ (object : Contents). class_of object.body) (objects number) ≡ class_of body
      → place_fits parts number (class_part body) ≡ true → IfSome (class_of body) (HasPlace objects number)
  place_of number (Class class) there holds = place_there number class there holds
  place_of number (Plain values) there holds = tt
  place_of number (Bytes bytes) there holds = tt
  place_of number (Dict pairs) there holds = tt
  place_of number (Segment rights) there holds = tt
  place_of number (User user) there holds = tt
  place_of number (Counter counter) there holds = tt
  place_of number (Bag pairs) there holds = tt
  place_of number (RcDict pairs) there holds = tt
  place_of number (Queue queue) there holds = tt

  -- I4
  kernel_of : (row : Option KernelBody) (object : Contents) → kernel_fits_by row object.body ≡ true
      → HasKernelBody row (Some object)
  kernel_of None object holds = tt
  kernel_of (Some kind) object holds = holds

  module _ (number : ℕ) (object : Contents) (here : objects number ≡ Some object)
      (fitting : fits parts number object ≡ true) where
    abbrev tests : Type 0
    tests = (nat_lt 0 number ≡ true) × (list_all (is_known parts) (names_in object) ≡ true)
        × (is_segment_at parts object.segment ≡ true) × (accepts parts object.class object.body ≡ true)
        × (named_fit parts object.body ≡ true) × (kernel_fits number object.body ≡ true)
        × (place_fits parts number (class_part object.body) ≡ true)
        × (methods_fit number object.body ≡ true) × (is_spelled object.body ≡ true)

    passed : tests
    unfolding fits
    passed =
        let first = and_parts _ _ fitting in
        let second = and_parts _ _ first.1 in
        let third = and_parts _ _ second.1 in
        let fourth = and_parts _ _ third.1 in
        let fifth = and_parts _ _ fourth.1 in
        let sixth = and_parts _ _ fifth.1 in
        let seventh = and_parts _ _ sixth.1 in
        let last = and_parts _ _ seventh.1 in
        (first.0, second.0, third.0, fourth.0, fifth.0, sixth.0, seventh.0, last.0, last.1)

    pub keeps_references : KeepsRule objects i1 number object
    keeps_references =
        record { no_zero = ltb-true 0 number passed.0; there = all_there (names_in object) passed.1 }

    pub keeps_methods : KeepsRule objects i2 number object
    keeps_methods = (tells_methods_fit number object.body).to passed.7

    pub keeps_spelling : AreSound setting world → HasSpelling object
    keeps_spelling sound =
        let known = and_parts (is_known parts object.class) _ passed.1 in
        let more = and_parts (is_known parts object.segment) _ known.1 in
        record {
          class_name = sound.named object.class (seen_there object.class (known_there object.class known.0));
          segment_name = sound.named object.segment
              (seen_there object.segment (known_there object.segment more.0));
          body = (tells_spelled object.body).to passed.8;
        }
      where
        seen_there : (name : ℕ) → IsSome (objects name) → is_some (shown name setting world) ≡ true
        seen_there name there = sym (ap is_some (shows name)) ∙ there

    pub keeps_places : KeepsRule objects i3 number object
    keeps_places = place_of number object.body
        (ap (option_and_then (λ (some : Contents). class_of some.body)) here) passed.6

    pub keeps_kernel : KeepsRule objects i4 number object
    keeps_kernel = kernel_of (kernel_body number) object passed.5

    pub keeps_fitting : KeepsRule objects i5 number object
    keeps_fitting = record {
      class = accepted object.class object.body passed.3;
      segment = segment_there object.segment passed.2;
      names = named_there object.body passed.4;
    }

  -- the test holds of what a sound world shows
  pub fits_here : (number : ℕ) (object : Contents) → AreSound setting world → objects number ≡ Some object
      → fits parts number object ≡ true
  fits_here number object sound here = sound.each number object (sym (shows number) ∙ here)

  pub kernel_here : (number : ℕ) → AreSound setting world → IsSome (kernel_body number) → IsSome (objects number)
  kernel_here number sound needed = by (parts number) refl (sound.kernel number needed)
    where
      by : (found : Option Fixed) → parts number ≡ found → is_some found ≡ true → IsSome (objects number)
      by None at some = absurd (false≢true some)
      by (Some fixed) at some = ap is_some (object_there number fixed at).1

  keeps_each : (number : ℕ) (object : Contents) → AreSound setting world → objects number ≡ Some object
      → (rule : ImageRule) → KeepsRule objects rule number object
  keeps_each number object sound here i1 = keeps_references number object here (fits_here number object sound here)
  keeps_each number object sound here i2 = keeps_methods number object here (fits_here number object sound here)
  keeps_each number object sound here i3 = keeps_places number object here (fits_here number object sound here)
  keeps_each number object sound here i4 = keeps_kernel number object here (fits_here number object sound here)
  keeps_each number object sound here i5 = keeps_fitting number object here (fits_here number object sound here)

  none_there : (row : Option KernelBody) → (IsSome row → false ≡ true) → HasKernelBody row None
  none_there None needed = tt
  none_there (Some kind) needed = absurd (false≢true (needed refl))

  keeps_at : (number : ℕ) (found : Option Contents) → AreSound setting world → objects number ≡ found
      → (rule : ImageRule) → KeepsRuleAt objects rule number found
  keeps_at number (Some object) sound here rule = keeps_each number object sound here rule
  keeps_at number None sound here i1 = tt
  keeps_at number None sound here i2 = tt
  keeps_at number None sound here i3 = tt
  keeps_at number None sound here i4 = none_there (kernel_body number)
      (λ needed. sym (ap is_some here) ∙ kernel_here number sound needed)
  keeps_at number None sound here i5 = tt

  -- sound by the tests is sound by the rules, for the user and the names to be drawn
  pub sound_for : AreSound setting world → IsSoundFor objects setting.user setting.serial world.next
  sound_for sound = record {
    sound = λ number rule. keeps_at number (objects number) sound refl rule;
    user_there = kind_there (λ fixed. is_user fixed.kind) user_of setting.user (λ object. user_body object.body)
        sound.user;
    serial_bound = sound.serial_bound;
    some_name = sound.some_name;
    next_bound = sound.next_bound;
    free = λ counter from below. shows (name_of setting counter) ∙ sound.free counter from below;
  }

  pub stored : AreSound setting world → AreStored objects
  stored sound = record {
    named = λ name there. sound.named name (sym (ap is_some (shows name)) ∙ there);
    spelled = λ name object here. (keeps_spelling name object here (fits_here name object sound here) sound).body;
  }
