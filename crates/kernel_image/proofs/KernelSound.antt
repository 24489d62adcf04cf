-- The image of the kernel is sound.
use Rattle.std.proofs.Common.{◌≡◌, ◌↔◌, ◌<◌, ◌≤◌, ◌+◌, ◌-◌, ℕ, zero, suc, Bool, true, ◌&&◌, List, [], ◌∷◌, ◌++◌, map, length, Option, Some, None, IsSome, is_some, All, refl, ap, sym, subst, ◌∙◌, arith}
use Rattle.std.specs.Prelude.{nat_lt, nat_eq, IsTrue}
use Rattle.std.specs.List.{slice_get, list_all}
use Rattle.std.specs.Option.{option_map, option_to_list}
use Rattle.std.proofs.Math.Path.{fun_ext}
use Rattle.std.proofs.lemmas.Bool.{false≢true, ltb-true, eqb-true}
use Rattle.std.proofs.lemmas.Option.{slice_get_past, slice_get_within, slice_get_cases}
use Rattle.std.proofs.lemmas.List.Sums.{AllPass-from_list_all}
use Rattle.std.proofs.lemmas.List.Elements.{All-nil, All-cons}
use Rattle.gem_object.specs.seg_rights.declared.rights.Rights.{Rights}
use Rattle.gem_object.specs.Kinds.{fits}
use Rattle.gem_object.specs.declared.kind.Kind.TheVariants as kind
use Rattle.gem_object.specs.declared.body.UserBody.{UserBody}
use Rattle.gem_object.specs.texts.Bytes.{Bytes as Text}
use Rattle.kernel_image.specs.Names.{kernel_names}
use Rattle.gem_object.specs.References.{names_in_pairs}
use Rattle.gem_object.specs.declared.value.Value.{Value}
use Rattle.gem_object.specs.declared.body.ClassBody.{ClassBody}
use Rattle.gem_object.specs.declared.body.Body.{Body}
use Rattle.gem_object.specs.declared.body.Body.TheVariants.{Plain, Dict, Segment, User}
use Rattle.gem_object.specs.declared.object.Object.{Object}
use Rattle.gem_image.specs.Image.{Objects, contents_of}
use Rattle.gem_image.specs.Rights.{rights_at}
use Rattle.gem_sound.specs.Parts.{class_at, user_at, dictionary_at}
use Rattle.gem_sound.specs.Kernel.{KernelBody, a_class, a_dictionary, a_segment, a_user, KernelClass, kernel_classes, kernel_class, kernel_body, kernel_bodies, numbered, object_class}
use Rattle.gem_sound.specs.Inherited.{HasNames, at_the_end, under}
use Rattle.gem_sound.specs.Sound.{HasPlaceByRow, HasKernelBody, ImageRule, i1, i2, i3, i4, i5, IsSound, IsSoundImage, KeepsRule, KeepsRuleAt, FitsClass, by_kind, class_object as fits_class, transcript as fits_transcript}
use Rattle.kernel_image.specs.Objects.{Protocol, protocols, kernel_object, dictionary, segment_object, user_object, class_in, class_object, class_objects, class_list, shared_objects, profiles, last_objects, other_objects, globals_entries, users_entries, other_entries, kernel_list, kernel_objects, kernel_image}
use Rattle.kernel_image.proofs.Sources.{both}
use Rattle.kernel_image.proofs.Named.{kernel_has, kernel_length}
use Rattle.kernel_image.proofs.Codes.{HasCodes, HaveCodes, have_codes}

-- what stands at each number
abbrev contents : Objects
contents number = option_map contents_of (kernel_objects number)

-- ---- the classes

-- a class of the kernel stands there, whose methods do what they may
record IsClassAt (number : ℕ) (row : KernelClass) (found : Option Object) : Type 0 where
  name : Text
  protocol : Protocol
  there : found ≡ Some (class_object name row protocol)
  codes : HasCodes number protocol

in_lists : (names : List Text) (rows : List KernelClass) (protocols : List Protocol) (others : List Object)
    (first at number : ℕ) (row : KernelClass) → number ≡ first + at → slice_get rows at ≡ Some row
    → length rows ≤ length names → length rows ≤ length protocols → HaveCodes first protocols
    → IsClassAt number row (slice_get (class_objects names rows protocols ++ others) at)
in_lists names [] protocols others first at number row is found few less codes =
    absurd (let none = slice_get_past {X = KernelClass} [] at (omega arith) in cc)
in_lists [] (one ∷ rows) protocols others first at number row is found few less codes = absurd (omega (arith, few))
in_lists (name ∷ names) (one ∷ rows) [] others first at number row is found few less codes = absurd (omega (arith, less))
in_lists (name ∷ names) (one ∷ rows) (protocol ∷ protocols) others first zero number row is found few less codes =
    let same : one ≡ row = cc in
    let here : first ≡ number = omega (arith, is) in
    record {
      name = name;
      protocol = protocol;
      there = ap (λ (r : KernelClass). Some (class_object name r protocol)) same;
      codes = subst (λ (n : ℕ). HasCodes n protocol) here codes.0;
    }
in_lists (name ∷ names) (one ∷ rows) (protocol ∷ protocols) others first (suc at) number row is found few less codes =
    in_lists names rows protocols others (first + 1) at number row (omega (arith, is)) found
    (omega (arith, few)) (omega (arith, less)) codes.1

names_enough : length kernel_classes ≤ length kernel_names
unfolding kernel_classes
names_enough = omega arith

protocols_enough : length kernel_classes ≤ length protocols
unfolding kernel_classes protocols
protocols_enough = omega arith

class_there : (number : ℕ) (row : KernelClass) → kernel_class number ≡ Some row
    → IsClassAt number row (kernel_objects number)
unfolding kernel_list class_list
class_there zero row found = absurd (let none : None ≡ Some row = found in cc)
class_there (suc at) row found =
    in_lists kernel_names kernel_classes protocols other_objects 1 at (suc at) row
    (omega arith) found names_enough protocols_enough have_codes

-- what a class of the kernel has, whatever its name and its methods are
record IsClassOf (row : KernelClass) (found : Option ClassBody) : Type 0 where
  class : ClassBody
  there : found ≡ Some class
  superclass : class.superclass ≡ row.superclass
  kind : class.kind ≡ row.kind
  no_names : class.names ≡ []

class_of_row : (number : ℕ) (row : KernelClass) → kernel_class number ≡ Some row
    → IsClassOf row (class_at contents number)
class_of_row number row found =
    let at = class_there number row found in
    record {
      class = _;
      there = ap (λ o. class_at (λ _. option_map contents_of o) 0) at.there;
      superclass = refl;
      kind = refl;
      no_names = refl;
    }

-- ---- their superclasses

-- a superclass has a lower number, and only Object has none
abbrev superclass_fits : ℕ → Option ℕ → Bool
superclass_fits number None = nat_eq number 1
superclass_fits number (Some superclass) = nat_lt 0 superclass && nat_lt superclass number

abbrev rows_fit : ℕ → List KernelClass → Bool
rows_fit first [] = true
rows_fit first (row ∷ rows) = superclass_fits first row.superclass && rows_fit (first + 1) rows

row_fits : (rows : List KernelClass) (first at number : ℕ) (row : KernelClass) → number ≡ first + at
    → rows_fit first rows ≡ true → slice_get rows at ≡ Some row → superclass_fits number row.superclass ≡ true
row_fits [] first at number row is fit found = absurd (let none = slice_get_past {X = KernelClass} [] at (omega arith) in cc)
row_fits (one ∷ rows) first zero number row is fit found =
    let parts = both (superclass_fits first one.superclass) (rows_fit (first + 1) rows) fit in
    let same : one ≡ row = cc in
    let here : first ≡ number = omega (arith, is) in
    subst (λ (n : ℕ). superclass_fits n row.superclass ≡ true) here
    (subst (λ (r : KernelClass). superclass_fits first r.superclass ≡ true) same parts.0)
row_fits (one ∷ rows) first (suc at) number row is fit found =
    let parts = both (superclass_fits first one.superclass) (rows_fit (first + 1) rows) fit in
    row_fits rows (first + 1) at number row (omega (arith, is)) parts.1 found

kernel_fits : (number : ℕ) (row : KernelClass) → kernel_class number ≡ Some row
    → superclass_fits number row.superclass ≡ true
unfolding kernel_classes
kernel_fits zero row found = absurd (let none : None ≡ Some row = found in cc)
kernel_fits (suc at) row found = row_fits kernel_classes 1 at (suc at) row (omega arith) refl found

-- the item of a list with this number, where there is one
item_at : {X : Type 0} (items : List X) (number : ℕ) → 0 < number → number ≤ length items
    → (item : X) × (numbered items number ≡ Some item)
item_at items zero some within = absurd (omega (arith, some))
item_at [] (suc at) some within = absurd (omega (arith, within))
item_at (item ∷ items) (suc zero) some within = (item, refl)
item_at (item ∷ items) (suc (suc at)) some within = item_at items (suc at) (omega arith) (omega (arith, within))

number_within : {X : Type 0} (items : List X) (number : ℕ) (item : X) → numbered items number ≡ Some item
    → number ≤ length items
number_within {X} items zero item found = absurd (let none : None ≡ Some item = found in cc)
number_within items (suc at) item found =
    let within = slice_get_within items at item found in
    omega (arith, within)

has_chain : (number : ℕ) (row : KernelClass) → (superclass : Option ℕ) → row.superclass ≡ superclass
    → superclass_fits number superclass ≡ true → IsClassOf row (class_at contents number)
    → ((above : ℕ) → 0 < above → above < number → HasNames contents above []) → HasNames contents number []
has_chain number row None none fit at chains =
    let one : number ≡ 1 = eqb-true number 1 fit in
    let here = subst (λ (n : ℕ). class_at contents n ≡ Some at.class) one at.there in
    subst (λ (n : ℕ). HasNames contents n []) (sym one)
    (subst (HasNames contents object_class) at.no_names (at_the_end at.class here (at.superclass ∙ none)))
has_chain number row (Some above) is fit at chains =
    let parts = both (nat_lt 0 above) (nat_lt above number) fit in
    let chain = chains above (ltb-true 0 above parts.0) (ltb-true above number parts.1) in
    subst (HasNames contents number) at.no_names
    (under number above at.class [] at.there (at.superclass ∙ is) chain)

chain_below : (fuel number : ℕ) → number < fuel → 0 < number → number ≤ length kernel_classes
    → HasNames contents number []
chain_below zero number below some within = absurd (omega (arith, below))
chain_below (suc fuel) number below some within =
    let item = item_at kernel_classes number some within in
    has_chain number item.0 item.0.superclass refl (kernel_fits number item.0 item.1) (class_of_row number item.0 item.1)
    (λ above one less. chain_below fuel above (omega (arith, below, less)) one (omega (arith, within, less)))

-- no class of the kernel has names of its own or inherited ones
kernel_chain : (number : ℕ) (row : KernelClass) → kernel_class number ≡ Some row → HasNames contents number []
kernel_chain zero row found = absurd (let none : None ≡ Some row = found in cc)
kernel_chain (suc at) row found =
    chain_below (suc (suc at)) (suc at) (omega arith) (omega arith) (number_within kernel_classes (suc at) row found)

-- ---- each rule, at a class

there : (number : ℕ) → 0 < number → number < 36 → IsSome (contents number)
there number some within =
    let length_is = kernel_length in
    let item = item_at kernel_list number some (omega (arith, within, length_is)) in
    ap (λ (o : Option Object). is_some (option_map contents_of o)) item.1

abbrev in_kernel : ℕ → Bool
in_kernel number = nat_lt 0 number && nat_lt number 36

all_there : (names : List ℕ) → list_all in_kernel names ≡ true → All (λ name. IsSome (contents name)) names
all_there names passed k d below =
    let parts = both _ _ (AllPass-from_list_all in_kernel names passed k d below) in
    there _ (ltb-true 0 _ parts.0) (ltb-true _ 36 parts.1)

-- segments and users of the kernel
system_segment : IsSome (rights_at contents 29)
unfolding kernel_list class_list protocols kernel_classes shared_objects profiles last_objects
system_segment = refl

curator_segment : IsSome (rights_at contents 30)
unfolding kernel_list class_list protocols kernel_classes shared_objects profiles last_objects
curator_segment = refl

class_is_class : IsSome (class_at contents 2)
unfolding kernel_list class_list protocols kernel_classes
class_is_class = refl

-- what a class refers to
abbrev IsThere : ℕ → Type 0
IsThere name = IsSome (contents name)

class_refers : (number : ℕ) (superclass : Option ℕ) → superclass_fits number superclass ≡ true → number ≤ 26
    → All IsThere (2 ∷ 29 ∷ option_to_list superclass)
class_refers number None fit within = all_there (2 ∷ 29 ∷ []) refl
class_refers number (Some above) fit within =
    let parts = both (nat_lt 0 above) (nat_lt above number) fit in
    let one = ltb-true 0 above parts.0 in
    let less = ltb-true above number parts.1 in
    All-cons IsThere 2 (29 ∷ above ∷ []) (there 2 (omega arith) (omega arith))
    (All-cons IsThere 29 (above ∷ []) (there 29 (omega arith) (omega arith))
    (All-cons IsThere above [] (there above one (omega (arith, less, within))) (All-nil IsThere)))

a_class_at : (rows : List KernelClass) (others : List KernelBody) (at : ℕ) (row : KernelClass) → slice_get rows at ≡ Some row
    → slice_get (map (λ (class : KernelClass). a_class) rows ++ others) at ≡ Some a_class
a_class_at [] others at row found = absurd (let none = slice_get_past {X = KernelClass} [] at (omega arith) in cc)
a_class_at (one ∷ rows) others zero row found = refl
a_class_at (one ∷ rows) others (suc at) row found = a_class_at rows others at row found

class_body : (number : ℕ) (row : KernelClass) → kernel_class number ≡ Some row → kernel_body number ≡ Some a_class
unfolding kernel_bodies
class_body zero row found = absurd (let none : None ≡ Some row = found in cc)
class_body (suc at) row found = a_class_at kernel_classes _ at row found

classes_count : length kernel_classes ≡ 26
unfolding kernel_classes
classes_count = refl

positive : (number : ℕ) (row : KernelClass) → kernel_class number ≡ Some row → 0 < number
positive zero row found = absurd (let none : None ≡ Some row = found in cc)
positive (suc at) row found = omega arith

abbrev Keeps : ℕ → Object → Type 0
Keeps number object = (rule : ImageRule) → KeepsRule contents rule number (contents_of object)

class_keeps : (number : ℕ) (row : KernelClass) → kernel_class number ≡ Some row → (name : Text) (protocol : Protocol)
    → HasCodes number protocol → Keeps number (class_object name row protocol)
class_keeps number row found name protocol codes i1 =
    let count = classes_count in
    let within = number_within kernel_classes number row found in
    record {
      no_zero = positive number row found;
      there = class_refers number row.superclass (kernel_fits number row found) (omega (arith, count, within));
    }
class_keeps number row found name protocol codes i2 =
    record { instances = codes.instances; class_side = codes.class_side }
class_keeps number row found name protocol codes i3 = record {
  names = [];
  chain = kernel_chain number row found;
  few_names = omega arith;
  row = subst (λ (r : Option KernelClass). HasPlaceByRow contents (class_in name row protocol) r) (sym found)
      record { superclass = refl; kind = refl; no_names = refl };
  named = λ some_names. absurd (omega (arith, some_names));
}
class_keeps number row found name protocol codes i4 =
    subst (λ kind. HasKernelBody kind (Some (contents_of (class_object name row protocol)))) (sym (class_body number row found)) refl
class_keeps number row found name protocol codes i5 = record {
  class = fits_class (class_in name row protocol) class_is_class;
  segment = system_segment;
  names = tt;
}

-- ---- the other objects

fits_there : (number : ℕ) (row : KernelClass) → kernel_class number ≡ Some row → (body : Body)
    → IsTrue (fits row.kind body) → FitsClass contents number body
fits_there number row found body fit =
    let at = class_of_row number row found in
    by_kind number at.class [] body at.there (subst (λ kind. IsTrue (fits kind body)) (sym at.kind) fit)
    (kernel_chain number row found) (omega arith)

dictionary_fits : (pairs : List (Value × Value)) → FitsClass contents 18 (Dict pairs)
unfolding kernel_classes
dictionary_fits pairs = fits_there 18 (record { superclass = Some 17; kind = kind.Dict }) refl (Dict pairs) refl

segment_fits : (rights : Rights Text) → FitsClass contents 23 (Segment rights)
unfolding kernel_classes
segment_fits rights = fits_there 23 (record { superclass = Some 1; kind = kind.Segment }) refl (Segment rights) refl

user_fits : (user : UserBody) → FitsClass contents 24 (User user)
unfolding kernel_classes
user_fits user = fits_there 24 (record { superclass = Some 1; kind = kind.User }) refl (User user) refl

dictionary_keeps : (number segment : ℕ) (pairs : List (Value × Value)) → 0 < number → kernel_body number ≡ Some a_dictionary
    → IsSome (rights_at contents segment) → list_all in_kernel (18 ∷ segment ∷ names_in_pairs pairs) ≡ true
    → Keeps number (dictionary segment pairs)
dictionary_keeps number segment pairs some body lies refers i1 =
    record { no_zero = some; there = all_there (18 ∷ segment ∷ names_in_pairs pairs) refers }
dictionary_keeps number segment pairs some body lies refers i2 = tt
dictionary_keeps number segment pairs some body lies refers i3 = tt
dictionary_keeps number segment pairs some body lies refers i4 =
    subst (λ kind. HasKernelBody kind (Some (contents_of (dictionary segment pairs)))) (sym body) refl
dictionary_keeps number segment pairs some body lies refers i5 =
    record { class = dictionary_fits pairs; segment = lies; names = tt }

segment_keeps : (number owner : ℕ) → 0 < number → kernel_body number ≡ Some a_segment
    → IsSome (rights_at contents number) → IsSome (user_at contents owner)
    → list_all in_kernel (23 ∷ number ∷ owner ∷ []) ≡ true → Keeps number (segment_object number owner)
segment_keeps number owner some body lies owned refers i1 =
    record { no_zero = some; there = all_there (23 ∷ number ∷ owner ∷ []) refers }
segment_keeps number owner some body lies owned refers i2 = tt
segment_keeps number owner some body lies owned refers i3 = tt
segment_keeps number owner some body lies owned refers i4 =
    subst (λ kind. HasKernelBody kind (Some (contents_of (segment_object number owner)))) (sym body) refl
segment_keeps number owner some body lies owned refers i5 =
    record { class = segment_fits _; segment = lies; names = owned }

user_keeps : (number : ℕ) (name : Text) (segment globals : ℕ) → 0 < number → kernel_body number ≡ Some a_user
    → IsSome (rights_at contents segment) → IsSome (dictionary_at contents globals)
    → list_all in_kernel (24 ∷ segment ∷ segment ∷ globals ∷ []) ≡ true → Keeps number (user_object name segment globals)
user_keeps number name segment globals some body lies owned refers i1 =
    record { no_zero = some; there = all_there (24 ∷ segment ∷ segment ∷ globals ∷ []) refers }
user_keeps number name segment globals some body lies owned refers i2 = tt
user_keeps number name segment globals some body lies owned refers i3 = tt
user_keeps number name segment globals some body lies owned refers i4 =
    subst (λ kind. HasKernelBody kind (Some (contents_of (user_object name segment globals)))) (sym body) refl
user_keeps number name segment globals some body lies owned refers i5 =
    record { class = user_fits _; segment = lies; names = (lies, owned) }

transcript_keeps : Keeps 35 (kernel_object 26 29 (Plain []))
unfolding kernel_bodies kernel_classes kernel_list class_list protocols
transcript_keeps i1 = record { no_zero = omega arith; there = all_there (26 ∷ 29 ∷ []) refl }
transcript_keeps i2 = tt
transcript_keeps i3 = tt
transcript_keeps i4 = refl
transcript_keeps i5 = record { class = fits_transcript refl; segment = system_segment; names = tt }

-- objects keep the rules, whose numbers count from one on
abbrev AllKeep : ℕ → List Object → Type 0
AllKeep first [] = Unit {0}
AllKeep first (object ∷ objects) = Keeps first object × AllKeep (first + 1) objects

others_keep : AllKeep 27 other_objects
unfolding kernel_list class_list protocols kernel_classes kernel_bodies shared_objects profiles last_objects globals_entries users_entries other_entries
others_keep = (
  dictionary_keeps 27 30 _ (omega arith) refl curator_segment refl,
  (
    dictionary_keeps 28 30 _ (omega arith) refl curator_segment refl,
    (
      segment_keeps 29 31 (omega arith) refl system_segment refl refl,
      (
        segment_keeps 30 32 (omega arith) refl curator_segment refl refl,
        (
          user_keeps 31 _ 29 33 (omega arith) refl system_segment refl refl,
          (
            user_keeps 32 _ 30 34 (omega arith) refl curator_segment refl refl,
            (
              dictionary_keeps 33 29 _ (omega arith) refl system_segment refl,
              (
                dictionary_keeps 34 30 _ (omega arith) refl curator_segment refl,
                (transcript_keeps, tt),
              ),
            ),
          ),
        ),
      ),
    ),
  ),
)

-- ---- all numbers

kept_at : (objects : List Object) (first at number : ℕ) (object : Object) → number ≡ first + at → AllKeep first objects
    → slice_get objects at ≡ Some object → Keeps number object
kept_at [] first at number object is keep found = absurd (let none = slice_get_past {X = Object} [] at (omega arith) in cc)
kept_at (one ∷ objects) first zero number object is keep found =
    let same : one ≡ object = cc in
    let here : first ≡ number = omega (arith, is) in
    subst (λ (n : ℕ). Keeps n object) here (subst (Keeps first) same keep.0)
kept_at (one ∷ objects) first (suc at) number object is keep found =
    kept_at objects (first + 1) at number object (omega (arith, is)) keep.1 found

behind : (objects others : List Object) (at more : ℕ) → at ≡ length objects + more
    → slice_get (objects ++ others) at ≡ slice_get others more
behind [] others at more is = ap (slice_get others) (omega (arith, is))
behind (one ∷ objects) others zero more is = absurd (omega (arith, is))
behind (one ∷ objects) others (suc at) more is = behind objects others at more (omega (arith, is))

class_count : length class_list ≡ 26
unfolding class_list protocols kernel_classes
class_count = refl

-- the rule is kept at a number where this object stands
kept_there : (rule : ImageRule) (number : ℕ) (object : Object) (found : Option Object) → found ≡ Some object
    → KeepsRule contents rule number (contents_of object)
    → KeepsRuleAt contents rule number (option_map contents_of found)
kept_there rule number object found is kept =
    subst (λ o. KeepsRuleAt contents rule number (option_map contents_of o)) (sym is) kept

kept_at_none : (rule : ImageRule) (number : ℕ) (found : Option Object) → found ≡ None → kernel_body number ≡ None
    → KeepsRuleAt contents rule number (option_map contents_of found)
kept_at_none i1 number found is none = subst (λ o. KeepsRuleAt contents i1 number (option_map contents_of o)) (sym is) tt
kept_at_none i2 number found is none = subst (λ o. KeepsRuleAt contents i2 number (option_map contents_of o)) (sym is) tt
kept_at_none i3 number found is none = subst (λ o. KeepsRuleAt contents i3 number (option_map contents_of o)) (sym is) tt
kept_at_none i4 number found is none =
    subst (λ o. KeepsRuleAt contents i4 number (option_map contents_of o)) (sym is)
    (subst (λ kind. HasKernelBody kind None) (sym none) tt)
kept_at_none i5 number found is none = subst (λ o. KeepsRuleAt contents i5 number (option_map contents_of o)) (sym is) tt

no_body_past : (at : ℕ) → 35 ≤ at → slice_get kernel_bodies at ≡ None
unfolding kernel_bodies kernel_classes
no_body_past at past = slice_get_past kernel_bodies at (omega (arith, past))

-- where nothing stands behind the classes, the number is past the last object
others_count : length other_objects ≡ 9
unfolding shared_objects profiles last_objects
others_count = refl

past_of : (at : ℕ) → 26 ≤ at → slice_get other_objects (at - 26) ≡ None → 35 ≤ at
past_of at past none =
    let count = others_count in
    let cases = slice_get_cases other_objects (at - 26) in
    grind (arith, none, count, slice_get_cases)

behind_classes : (at : ℕ) → slice_get kernel_classes at ≡ None → 26 ≤ at
behind_classes at none =
    let count = classes_count in
    grind (arith, none, count, slice_get_cases)

kept_behind : (rule : ImageRule) (at : ℕ) → 26 ≤ at → KeepsRuleAt contents rule (suc at) (contents (suc at))
unfolding kernel_list
kept_behind rule at past = by (slice_get other_objects (at - 26)) refl
  where
    same : slice_get kernel_list at ≡ slice_get other_objects (at - 26)
    same = let count = class_count in behind class_list other_objects at (at - 26) (omega (arith, count, past))

    by : (found : Option Object) → slice_get other_objects (at - 26) ≡ found
        → KeepsRuleAt contents rule (suc at) (contents (suc at))
    by (Some object) is = kept_there rule (suc at) object (slice_get kernel_list at) (same ∙ is)
        (kept_at other_objects 27 (at - 26) (suc at) object (omega (arith, past)) others_keep is rule)
    by None is = kept_at_none rule (suc at) (slice_get kernel_list at) (same ∙ is)
        (no_body_past at (past_of at past is))

kept_by : (rule : ImageRule) (number : ℕ) (row : Option KernelClass) → kernel_class number ≡ row
    → KeepsRuleAt contents rule number (contents number)
kept_by rule number (Some row) found =
    let at = class_there number row found in
    kept_there rule number (class_object at.name row at.protocol) (kernel_objects number) at.there
    (class_keeps number row found at.name at.protocol at.codes rule)
kept_by rule zero None found = kept_at_none rule zero None refl refl
kept_by rule (suc at) None found = kept_behind rule at (behind_classes at found)

pub kernel_is_sound : IsSoundImage kernel_image
kernel_is_sound =
    subst IsSound (sym (fun_ext (λ number. ap (option_map contents_of) (kernel_has number))))
    (λ number rule. kept_by rule number (kernel_class number) refl)

kernel_number : (number : ℕ) (found : Option Object) → kernel_objects number ≡ found → IsSome found
    → (0 < number) × (number ≤ 35)
kernel_number zero found is some = absurd (false≢true (ap is_some is ∙ some))
kernel_number number None is some = absurd (false≢true some)
kernel_number (suc at) (Some object) is some =
    let within = number_within kernel_list (suc at) object is in
    let count = kernel_length in
    (omega arith, omega (arith, within, count))

-- the numbers at which objects of the kernel stand
pub kernel_numbers : (number : ℕ) → IsSome (kernel_objects number) ↔ ((0 < number) × (number ≤ 35))
kernel_numbers number = (
  λ some. kernel_number number (kernel_objects number) refl some,
  λ bounds.
      let count = kernel_length in
      ap is_some (item_at kernel_list number bounds.0 (omega (arith, bounds.1, count))).1,
)
