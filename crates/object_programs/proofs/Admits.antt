-- Sound objects that can be stored pass the tests of the guard.
use Rattle.std.proofs.Common.{◌≡◌, ◌∙◌, refl, sym, ap, subst, ℕ, zero, suc, ◌^◌, ◌<◌, ◌≤◌, Bool, true, false, ◌&&◌, ◌||◌, nat_eq, length, Option, Some, None, List, [], ◌∷◌, ◌++◌, option_map, is_some, inl, inr, arith}
use Rattle.std.specs.Bool.{IsTrue}
use Rattle.std.specs.List.{All, AllByRecursion, list_all, list_any, IsDistinct}
use Rattle.std.specs.Option.{IfSome, IsSome, option_and_then, option_or}
use Rattle.std.specs.Ordering.{nat_cmp}
use Rattle.std.specs.FinMap.{get, get-empty}
use Rattle.std.proofs.lemmas.Bool.{false≢true, and_from, or_left, or_right, or_cases, cond_both, eqb-true, eq-eqb, lt-ltb, le-leb, cases_lt, false_from_ne_true}
use Rattle.std.proofs.lemmas.List.Elements.{All-head, All-tail}
use Rattle.std.proofs.lemmas.Option.{same_Some}
use Rattle.std.proofs.lemmas.Map.Steps.{length-le_from_distinct_below}
use Rattle.gem_object.specs.texts.Bytes.{Bytes as Text}
use Rattle.gem_object.specs.Kinds as kinds
use Rattle.gem_object.specs.Kinds.{is_shared, kind_number}
use Rattle.gem_object.specs.Spelling.{IsSpelledBody}
use Rattle.gem_object.specs.Edits.{plain_slots}
use Rattle.gem_object.specs.declared.kind.Kind.{Kind}
use Rattle.gem_object.specs.declared.body.ClassBody.{ClassBody}
use Rattle.gem_object.specs.declared.body.Body.{Body}
use Rattle.gem_object.specs.declared.body.Body.TheVariants.{Plain, Bytes, Dict, Class, Segment, User, Counter, Bag, RcDict, Queue}
use Rattle.gem_object.specs.declared.object.Object.{Object}
use Rattle.gem_world.specs.gem_image.Image.{Image, IsImage, Contents, contents_of, Objects, objects_in}
use Rattle.gem_world.specs.gem_image.Rights.{rights_of, rights_at}
use Rattle.gem_world.specs.World.{Setting, World, untouched, as_of, before_changes, name_of, shown}
use Rattle.gem_sound.specs.Parts.{class_of, user_of, dictionary_of, class_at}
use Rattle.gem_sound.specs.Kernel.{object_class, class_class, transcript_class, KernelClass, kernel_class, KernelBody, kernel_body}
use Rattle.gem_sound.specs.Inherited.{HasNames, at_the_end, under}
use Rattle.gem_sound.specs.Sound.{names_in, has_named_slots, HasPlace, HasPlaceByRow, HasInheritedKind, FitsClass, by_kind, class_object, transcript, NamesFit, HasKernelBody, ImageRule, KeepsRule, i1, i2, i3, i4, i5, KeepsRuleAt, IsSoundFor}
use Rattle.object_programs.specs.Fixed.{body_kind, ClassPart, class_part, Fixed, fixed_of, fixed_by, same_kind, same_number}
use Rattle.object_programs.specs.Guard.{Parts, holds_of, is_there, is_segment, is_user, is_dictionary, is_known, is_segment_at, names_above, names_of_class, names_of_part, names_within, chain_limit, names_at, has_slots, is_class_object, is_transcript, accepts_by, accepts, named_fit, kernel_fits_by, kind_is_inherited, has_none, row_fits, are_few, place_fits, fits}
use Rattle.object_programs.specs.Laws.{AreSound, AreStored, Shows, begun_at}
use Rattle.object_programs.proofs.Guards.{found_more}
use Rattle.object_programs.proofs.Rules.{part_of}
use Rattle.object_programs.proofs.Spells.{tells_spelled}
use Rattle.object_programs.proofs.MethodRules.{tells_methods_fit}

-- ---- how deep a class stands under Object

module _ (objects : Objects) where
  depth : {name : ℕ} {names : List Text} → HasNames objects name names → ℕ
  depth (at_the_end class there none) = suc zero
  depth (under number superclass class inherited there is rest) = suc (depth rest)

  -- the names of the classes from this one up to Object
  line : {name : ℕ} {names : List Text} → HasNames objects name names → List ℕ
  line (at_the_end class there none) = object_class ∷ []
  line (under number superclass class inherited there is rest) = number ∷ line rest

  as_long : (name : ℕ) (names : List Text) (has : HasNames objects name names) → length (line has) ≡ depth has
  unfolding depth line
  as_long name names (at_the_end class there none) = refl
  as_long name names (under number superclass class inherited there is rest) =
      ap suc (as_long superclass inherited rest)

  one_class : (name other : ℕ) (class another : ClassBody) → class_at objects name ≡ Some class
      → class_at objects other ≡ Some another → name ≡ other → class ≡ another
  one_class name other class another here there same =
      same_Some class another (sym here ∙ (ap (class_at objects) same ∙ there))

  -- two lines of one class are as deep
  same_depth : (name other : ℕ) (names others : List Text) (has : HasNames objects name names)
      (also : HasNames objects other others) → name ≡ other → depth has ≡ depth also
  unfolding depth
  same_depth name other names others (at_the_end class here none) (at_the_end another there nothing) same = refl
  same_depth name other names others (at_the_end class here none)
      (under number superclass another inherited there is rest) same =
      let alike = one_class object_class number class another here there same in
      absurd (false≢true (ap is_some (sym none ∙ (ap (λ (some : ClassBody). some.superclass) alike ∙ is))))
  same_depth name other names others (under number superclass class inherited here is rest)
      (at_the_end another there none) same =
      let alike = one_class number object_class class another here there same in
      absurd (false≢true (ap is_some (sym none ∙ (sym (ap (λ (some : ClassBody). some.superclass) alike) ∙ is))))
  same_depth name other names others (under number superclass class inherited here is rest)
      (under another_number another_superclass another more there also others_rest) same =
      let alike = one_class number another_number class another here there same in
      let above = same_Some superclass another_superclass
      (sym is ∙ (ap (λ (some : ClassBody). some.superclass) alike ∙ also)) in
      ap suc (same_depth superclass another_superclass inherited more rest others_rest above)

  -- no deeper class stands on a line
  apart : (name other : ℕ) (names others : List Text) (has : HasNames objects name names)
      (also : HasNames objects other others) → depth also < depth has → nat_eq name other ≡ false
  apart name other names others has also below = false_from_ne_true (nat_eq name other)
      (λ same. omega (arith, below, same_depth name other names others has also (eqb-true name other same)))

  all_apart : (name other : ℕ) (names others : List Text) (has : HasNames objects name names)
      (also : HasNames objects other others) → depth also < depth has
      → AllByRecursion (λ some. nat_eq name some ≡ false) (line also)
  unfolding depth line
  all_apart name other names others has (at_the_end class there none) below =
      (apart name object_class names class.names has (at_the_end class there none) below, tt)
  all_apart name other names others has (under number superclass class inherited there is rest) below = (
    apart name number names (inherited ++ class.names) has
        (under number superclass class inherited there is rest) below,
    all_apart name superclass names inherited has rest (omega (arith, below)),
  )

  distinct : (name : ℕ) (names : List Text) (has : HasNames objects name names) → IsDistinct nat_eq (line has)
  unfolding depth line IsDistinct
  distinct name names (at_the_end class there none) = (tt, tt)
  distinct name names (under number superclass class inherited there is rest) = (
    all_apart number superclass (inherited ++ class.names) inherited
        (under number superclass class inherited there is rest) rest (omega arith),
    distinct superclass inherited rest,
  )

  class_there : (name : ℕ) (class : ClassBody) → class_at objects name ≡ Some class → IsSome (objects name)
  class_there name class there = by (objects name) there
    where
      by : (found : Option Contents) → option_and_then (λ (object : Contents). class_of object.body) found ≡ Some class
          → IsSome found
      by None given = absurd (false≢true (ap is_some given))
      by (Some object) given = refl

  named_line : ((name : ℕ) → IsSome (objects name) → name < 2 ^ 48) → (name : ℕ) (names : List Text)
      (has : HasNames objects name names) → (asked : ℕ) → list_any (nat_eq asked) (line has) ≡ true
      → asked < 2 ^ 48
  unfolding line
  named_line named name names (at_the_end class there none) asked here =
      elim (or_cases (nat_eq asked object_class) false here) [
        | inl same ↦ subst (λ some. some < 2 ^ 48) (sym (eqb-true asked object_class same))
            (named object_class (class_there object_class class there))
        | inr nowhere ↦ absurd (false≢true nowhere)
      ]
  named_line named name names (under number superclass class inherited there is rest) asked here =
      elim (or_cases (nat_eq asked number) (list_any (nat_eq asked) (line rest)) here) [
        | inl same ↦ subst (λ some. some < 2 ^ 48) (sym (eqb-true asked number same))
            (named number (class_there number class there))
        | inr more ↦ named_line named superclass inherited rest asked more
      ]

  -- no class is deeper than there are names
  few_above : ((name : ℕ) → IsSome (objects name) → name < 2 ^ 48) → (name : ℕ) (names : List Text)
      (has : HasNames objects name names) → depth has ≤ 2 ^ 48
  few_above named name names has =
      let few = length-le_from_distinct_below (line has) (2 ^ 48) (distinct name names has)
      (named_line named name names has) in
      omega (arith, few, as_long name names has)

-- ---- kinds of bodies

class_body_part : (body : Body) (class : ClassBody) → class_of body ≡ Some class
    → class_part body ≡ Some (part_of class)
class_body_part (Class own) class is = ap (λ (some : ClassBody). Some (part_of some)) (same_Some own class is)
class_body_part (Plain values) class is = absurd (false≢true (ap is_some is))
class_body_part (Bytes bytes) class is = absurd (false≢true (ap is_some is))
class_body_part (Dict pairs) class is = absurd (false≢true (ap is_some is))
class_body_part (Segment rights) class is = absurd (false≢true (ap is_some is))
class_body_part (User user) class is = absurd (false≢true (ap is_some is))
class_body_part (Counter counter) class is = absurd (false≢true (ap is_some is))
class_body_part (Bag pairs) class is = absurd (false≢true (ap is_some is))
class_body_part (RcDict pairs) class is = absurd (false≢true (ap is_some is))
class_body_part (Queue queue) class is = absurd (false≢true (ap is_some is))

segment_kind : (body : Body) → is_some (rights_of body) ≡ true → is_segment (body_kind body) ≡ true
segment_kind (Segment rights) is = refl
segment_kind (Class class) is = absurd (false≢true is)
segment_kind (Plain values) is = absurd (false≢true is)
segment_kind (Bytes bytes) is = absurd (false≢true is)
segment_kind (Dict pairs) is = absurd (false≢true is)
segment_kind (User user) is = absurd (false≢true is)
segment_kind (Counter counter) is = absurd (false≢true is)
segment_kind (Bag pairs) is = absurd (false≢true is)
segment_kind (RcDict pairs) is = absurd (false≢true is)
segment_kind (Queue queue) is = absurd (false≢true is)

user_kind : (body : Body) → is_some (user_of body) ≡ true → is_user (body_kind body) ≡ true
user_kind (User user) is = refl
user_kind (Segment rights) is = absurd (false≢true is)
user_kind (Class class) is = absurd (false≢true is)
user_kind (Plain values) is = absurd (false≢true is)
user_kind (Bytes bytes) is = absurd (false≢true is)
user_kind (Dict pairs) is = absurd (false≢true is)
user_kind (Counter counter) is = absurd (false≢true is)
user_kind (Bag pairs) is = absurd (false≢true is)
user_kind (RcDict pairs) is = absurd (false≢true is)
user_kind (Queue queue) is = absurd (false≢true is)

dictionary_kind : (body : Body) → is_some (dictionary_of body) ≡ true → is_dictionary (body_kind body) ≡ true
dictionary_kind (Dict pairs) is = refl
dictionary_kind (User user) is = absurd (false≢true is)
dictionary_kind (Segment rights) is = absurd (false≢true is)
dictionary_kind (Class class) is = absurd (false≢true is)
dictionary_kind (Plain values) is = absurd (false≢true is)
dictionary_kind (Bytes bytes) is = absurd (false≢true is)
dictionary_kind (Counter counter) is = absurd (false≢true is)
dictionary_kind (Bag pairs) is = absurd (false≢true is)
dictionary_kind (RcDict pairs) is = absurd (false≢true is)
dictionary_kind (Queue queue) is = absurd (false≢true is)

number_same : (one other : Option ℕ) → one ≡ other → same_number one other ≡ true
number_same None other is = subst (λ some. same_number None some ≡ true) is refl
number_same (Some number) other is =
    subst (λ some. same_number (Some number) some ≡ true) is (eq-eqb number number refl)

kind_same : (one other : Kind) → one ≡ other → same_kind one other ≡ true
kind_same one other is = eq-eqb (kind_number one) (kind_number other) (ap kind_number is)

none_named : (names : List Text) → names ≡ [] → has_none names ≡ true
none_named [] is = refl
none_named (name ∷ names) is = cc

slots_named : (names : List Text) (kind : Bool) → (0 < length names → IsTrue kind) → has_none names || kind ≡ true
slots_named [] kind holds = refl
slots_named (name ∷ names) kind holds = holds (omega arith)

-- ---- the tests

module _ (objects : Objects) (setting : Setting) (world : World) (shows : Shows objects setting world)
    (named : (name : ℕ) → IsSome (objects name) → name < 2 ^ 48) where
  abbrev parts : Parts
  parts = fixed_by setting world

  part_there : (name : ℕ) (object : Contents) → objects name ≡ Some object → parts name ≡ Some (fixed_of object)
  part_there name object here = ap (option_map fixed_of) (sym (shows name) ∙ here)

  -- what is there passes the tests that its body does
  kind_at : {X : Type 0} (test : Fixed → Bool) (what : Body → Option X) (name : ℕ)
      → ((object : Contents) → is_some (what object.body) ≡ true → test (fixed_of object) ≡ true)
      → is_some (option_and_then (λ (object : Contents). what object.body) (objects name)) ≡ true
      → holds_of test (parts name) ≡ true
  kind_at test what name means some = by (objects name) refl some
    where
      by : (found : Option Contents) → objects name ≡ found
          → is_some (option_and_then (λ (object : Contents). what object.body) found) ≡ true
          → holds_of test (parts name) ≡ true
      by None here given = absurd (false≢true given)
      by (Some object) here given = ap (holds_of test) (part_there name object here) ∙ means object given

  known_at : (name : ℕ) → IsSome (objects name) → is_known parts name ≡ true
  known_at name some = by (objects name) refl some
    where
      by : (found : Option Contents) → objects name ≡ found → IsSome found → is_known parts name ≡ true
      by None here given = absurd (false≢true given)
      by (Some object) here given = ap (holds_of is_there) (part_there name object here)

  all_known : (names : List ℕ) → All (λ name. IsSome (objects name)) names → list_all (is_known parts) names ≡ true
  all_known [] all = refl
  all_known (name ∷ names) all = and_from (is_known parts name) (list_all (is_known parts) names)
      (known_at name (All-head (λ some. IsSome (objects some)) name names all))
      (all_known names (All-tail (λ some. IsSome (objects some)) name names all))

  class_found : (name : ℕ) (class : ClassBody) → class_at objects name ≡ Some class
      → (fixed : Fixed) × (parts name ≡ Some fixed) × (fixed.as_class ≡ Some (part_of class))
  class_found name class there = by (objects name) refl there
    where
      by : (found : Option Contents) → objects name ≡ found
          → option_and_then (λ (object : Contents). class_of object.body) found ≡ Some class
          → (fixed : Fixed) × (parts name ≡ Some fixed) × (fixed.as_class ≡ Some (part_of class))
      by None here given = absurd (false≢true (ap is_some given))
      by (Some object) here given =
          (fixed_of object, part_there name object here, class_body_part object.body class given)

  -- the names of a class, by those above it
  class_step : (name : ℕ) (class : ClassBody) (superclass : Option ℕ) (above : ℕ → Option (List Text))
      (inherited : List Text) → class.superclass ≡ superclass → names_above name superclass above ≡ Some inherited
      → names_of_class name (Some (part_of class)) above ≡ Some (inherited ++ class.names)
  class_step name class superclass above inherited is given =
      ap (λ (found : Option ℕ). option_map (λ more. more ++ class.names) (names_above name found above)) is
      ∙ ap (option_map (λ more. more ++ class.names)) given

  part_step : (name : ℕ) (class : ClassBody) (superclass : Option ℕ) (above : ℕ → Option (List Text))
      (inherited : List Text) → class_at objects name ≡ Some class → class.superclass ≡ superclass
      → names_above name superclass above ≡ Some inherited
      → names_of_part name (parts name) above ≡ Some (inherited ++ class.names)
  part_step name class superclass above inherited there is given =
      let found = class_found name class there in
      ap (λ (some : Option Fixed). names_of_part name some above) found.1
      ∙ (ap (λ (some : Option ClassPart). names_of_class name some above) found.2
      ∙ class_step name class superclass above inherited is given)

  within_depth : (name : ℕ) (names : List Text) (has : HasNames objects name names)
      → names_within parts (depth objects has) name ≡ Some names
  unfolding depth
  within_depth name names (at_the_end class there none) =
      part_step object_class class None (names_within parts zero) [] there none refl
  within_depth name names (under number superclass class inherited there is rest) =
      part_step number class (Some superclass) (names_within parts (depth objects rest)) inherited there is
      (within_depth superclass inherited rest)

  limit_more : (limit more : ℕ) → limit ≤ more → (name : ℕ) (names : List Text)
      → names_within parts limit name ≡ Some names → names_within parts more name ≡ Some names
  limit_more zero more below name names is = absurd (false≢true (ap is_some is))
  limit_more (suc limit) zero below name names is = absurd (omega (arith, below))
  limit_more (suc limit) (suc more) below name names is =
      found_more parts parts (λ some fixed here. here) name (parts name) (names_within parts limit)
      (names_within parts more) names refl (limit_more limit more (omega (arith, below))) is

  chain_at : (name : ℕ) (names : List Text) → HasNames objects name names → names_at parts name ≡ Some names
  unfolding names_at
  chain_at name names has = limit_more (depth objects has) chain_limit (few_above objects named name names has) name
      names (within_depth name names has)

  chain_class : (name : ℕ) (names : List Text) → HasNames objects name names → (class : ClassBody)
      → class_at objects name ≡ Some class → names_of_class name (Some (part_of class)) (names_at parts) ≡ Some names
  chain_class name names (at_the_end own there none) class here =
      let alike = one_class objects object_class object_class own class there here refl in
      subst (λ (some : ClassBody). names_of_class object_class (Some (part_of some)) (names_at parts) ≡ Some own.names)
      alike (class_step object_class own None (names_at parts) [] none refl)
  chain_class name names (under number superclass own inherited there is rest) class here =
      let alike = one_class objects number number own class there here refl in
      subst (λ (some : ClassBody). names_of_class number (Some (part_of some)) (names_at parts)
      ≡ Some (inherited ++ own.names)) alike
      (class_step number own (Some superclass) (names_at parts) inherited is (chain_at superclass inherited rest))

  -- I5
  accepted : (name : ℕ) (body : Body) → FitsClass objects name body → accepts parts name body ≡ true
  accepted name body (by_kind at class names some there fitting chain enough) =
      let found = class_found at class there in
      let slots : holds_of (has_slots some) (names_at parts at) ≡ true
      = ap (holds_of (has_slots some)) (chain_at at names chain) ∙ le-leb (length names) (plain_slots some) enough in
      ap (holds_of (λ fixed. accepts_by parts at some fixed.as_class)) found.1
      ∙ (ap (accepts_by parts at some) found.2
      ∙ or_left (kinds.fits class.kind some && holds_of (has_slots some) (names_at parts at))
      (is_class_object at some || is_transcript at some)
      (and_from (kinds.fits class.kind some) (holds_of (has_slots some) (names_at parts at)) fitting slots))
  accepted name body (class_object class some) = by (class_at objects class_class) refl some
    where
      by : (found : Option ClassBody) → class_at objects class_class ≡ found → IsSome found
          → accepts parts class_class (Class class) ≡ true
      by None here given = absurd (false≢true given)
      by (Some own) here given =
          let at = class_found class_class own here in
          ap (holds_of (λ fixed. accepts_by parts class_class (Class class) fixed.as_class)) at.1
          ∙ (ap (accepts_by parts class_class (Class class)) at.2 ∙ or_right _ _ refl)
  accepted name body (transcript some) = by (class_at objects transcript_class) refl some
    where
      by : (found : Option ClassBody) → class_at objects transcript_class ≡ found → IsSome found
          → accepts parts transcript_class (Plain []) ≡ true
      by None here given = absurd (false≢true given)
      by (Some own) here given =
          let at = class_found transcript_class own here in
          ap (holds_of (λ fixed. accepts_by parts transcript_class (Plain []) fixed.as_class)) at.1
          ∙ (ap (accepts_by parts transcript_class (Plain [])) at.2 ∙ or_right _ _ refl)

  segment_at : (name : ℕ) → IsSome (rights_at objects name) → is_segment_at parts name ≡ true
  segment_at name some = kind_at (λ fixed. is_segment fixed.kind) rights_of name
      (λ object. segment_kind object.body) some

  names_fit : (body : Body) → NamesFit objects body → named_fit parts body ≡ true
  names_fit (Segment rights) fit = kind_at (λ fixed. is_user fixed.kind) user_of rights.owner
      (λ object. user_kind object.body) fit
  names_fit (User user) fit = and_from _ _ (segment_at user.default_segment fit.0)
      (kind_at (λ fixed. is_dictionary fixed.kind) dictionary_of user.globals
      (λ object. dictionary_kind object.body) fit.1)
  names_fit (Class class) fit = refl
  names_fit (Plain values) fit = refl
  names_fit (Bytes bytes) fit = refl
  names_fit (Dict pairs) fit = refl
  names_fit (Counter counter) fit = refl
  names_fit (Bag pairs) fit = refl
  names_fit (RcDict pairs) fit = refl
  names_fit (Queue queue) fit = refl

  -- I4
  kernel_row : (row : Option KernelBody) (object : Contents) → HasKernelBody row (Some object)
      → kernel_fits_by row object.body ≡ true
  kernel_row None object has = refl
  kernel_row (Some kind) object has = has

  -- I3
  inherited_kind : (superclass : Option ℕ) (class : ClassBody) → HasInheritedKind objects class superclass
      → kind_is_inherited parts superclass class.kind ≡ true
  inherited_kind None class has = absurd has
  inherited_kind (Some superclass) class has =
      let found = class_found superclass has.0 has.1 in
      ap (holds_of (λ fixed. holds_of (λ above. same_kind above.kind class.kind) fixed.as_class)) found.1
      ∙ (ap (holds_of (λ above. same_kind above.kind class.kind)) found.2
      ∙ kind_same has.0.kind class.kind has.2)

  row_fitting : (row : Option KernelClass) (class : ClassBody) → HasPlaceByRow objects class row
      → row_fits parts row (part_of class) ≡ true
  row_fitting (Some row) class has = and_from _ _ (number_same class.superclass row.superclass has.superclass)
      (and_from _ _ (kind_same class.kind row.kind has.kind) (none_named class.names has.no_names))
  row_fitting None class has = inherited_kind class.superclass class has

  place_class : (number : ℕ) (class : ClassBody) → class_at objects number ≡ Some class
      → HasPlace objects number class → place_fits parts number (Some (part_of class)) ≡ true
  place_class number class there has =
      and_from _ _ (ap (holds_of are_few) (chain_class number has.names has.chain class there)
      ∙ le-leb (length has.names) 200 has.few_names)
      (and_from _ _ (row_fitting (kernel_class number) class has.row)
      (slots_named class.names (has_named_slots class.kind) has.named))

  place_body : (number : ℕ) (body : Body)
      → option_and_then (λ (object : Contents). class_of object.body) (objects number) ≡ class_of body
      → IfSome (class_of body) (HasPlace objects number) → place_fits parts number (class_part body) ≡ true
  place_body number (Class class) there has = place_class number class there has
  place_body number (Plain values) there has = refl
  place_body number (Bytes bytes) there has = refl
  place_body number (Dict pairs) there has = refl
  place_body number (Segment rights) there has = refl
  place_body number (User user) there has = refl
  place_body number (Counter counter) there has = refl
  place_body number (Bag pairs) there has = refl
  place_body number (RcDict pairs) there has = refl
  place_body number (Queue queue) there has = refl

  fits_by : (number : ℕ) (object : Contents) → objects number ≡ Some object
      → ((rule : ImageRule) → KeepsRule objects rule number object) → IsSpelledBody object.body
      → fits parts number object ≡ true
  unfolding fits
  fits_by number object here keeps spelled =
      let first = keeps i1 in
      let last = keeps i5 in
      and_from _ _ (lt-ltb 0 number first.no_zero)
      (and_from _ _ (all_known (names_in object) first.there)
      (and_from _ _ (segment_at object.segment last.segment)
      (and_from _ _ (accepted object.class object.body last.class)
      (and_from _ _ (names_fit object.body last.names)
      (and_from _ _ (kernel_row (kernel_body number) object (keeps i4))
      (and_from _ _ (place_body number object.body
      (ap (option_and_then (λ (some : Contents). class_of some.body)) here) (keeps i3))
      (and_from _ _ ((tells_methods_fit number object.body).from (keeps i2))
      ((tells_spelled object.body).from spelled))))))))

  kernel_some : (row : Option KernelBody) (found : Option Contents) → IsSome row → HasKernelBody row found
      → IsSome found
  kernel_some None found needed has = absurd (false≢true needed)
  kernel_some (Some kind) None needed has = absurd has
  kernel_some (Some kind) (Some object) needed has = refl

  kernel_rule : (number : ℕ) (found : Option Contents) → KeepsRuleAt objects i4 number found
      → HasKernelBody (kernel_body number) found
  kernel_rule number None has = has
  kernel_rule number (Some object) has = has

  part_some : (name : ℕ) → IsSome (objects name) → is_some (parts name) ≡ true
  part_some name some = by (objects name) refl some
    where
      by : (found : Option Contents) → objects name ≡ found → IsSome found → is_some (parts name) ≡ true
      by None here given = absurd (false≢true given)
      by (Some object) here given = ap is_some (part_there name object here)

  admitted : AreStored objects → IsSoundFor objects setting.user setting.serial world.next → AreSound setting world
  admitted stored sound = record {
    serial_bound = sound.serial_bound;
    some_name = sound.some_name;
    next_bound = omega (arith, sound.next_bound);
    free = λ counter from below. sym (shows (name_of setting counter)) ∙ sound.free counter from (omega (arith, below));
    named = λ name some. named name (ap is_some (shows name) ∙ some);
    each = λ name object here.
        let there = shows name ∙ here in
        fits_by name object there (λ rule. subst (KeepsRuleAt objects rule name) there (sound.sound name rule))
        (stored.spelled name object there);
    kernel = λ name needed. part_some name
        (kernel_some (kernel_body name) (objects name) needed
        (kernel_rule name (objects name) (sound.sound name i4)));
    user = kind_at (λ fixed. is_user fixed.kind) user_of setting.user (λ object. user_kind object.body)
        sound.user_there;
  }

pub admits : (objects : Objects) (setting : Setting) (world : World) → Shows objects setting world
    → AreStored objects → IsSoundFor objects setting.user setting.serial world.next → AreSound setting world
admits objects setting world shows stored sound =
    admitted objects setting world shows (λ name there. stored.named name there) stored sound

-- ---- the beginning of a transaction

as_of_itself : (there : Option Contents) → as_of there there ≡ there
as_of_itself None = refl
as_of_itself (Some object) = cond_both (is_shared object.body) object object
    (λ some. Some some ≡ Some object) (λ _. refl) (λ _. refl)

module _ (image : Image) (user serial first : ℕ) where
  abbrev at_first : Setting
  at_first = begun_at image image user serial first

  pub shown_first : (name : ℕ) → objects_in image name ≡ shown name at_first (untouched first)
  shown_first name = sym (ap (λ found. option_or found (before_changes name at_first)) (get-empty nat_cmp name)
      ∙ as_of_itself (objects_in image name))

  image_stored : IsImage image → AreStored (objects_in image)
  image_stored is = record {
    named = λ name there. elim (cases_lt name (2 ^ 48)) [
      | inl below ↦ below
      | inr from ↦ absurd (false≢true (sym (ap (λ found. is_some (option_map contents_of found))
          (is.named name from)) ∙ there))
    ];
    spelled = λ name object here. by name object (get image name) refl here;
  }
    where
      by : (name : ℕ) (object : Contents) (found : Option Object) → get image name ≡ found
          → option_map contents_of found ≡ Some object → IsSpelledBody object.body
      by name object None at given = absurd (false≢true (ap is_some given))
      by name object (Some own) at given =
          subst (λ (some : Contents). IsSpelledBody some.body) (same_Some (contents_of own) object given)
          (is.spelled name own at).body

  pub admits_image : IsImage image → IsSoundFor (objects_in image) user serial first
      → AreSound at_first (untouched first)
  admits_image is sound = admits (objects_in image) at_first (untouched first) shown_first (image_stored is) sound
