-- What the guard asks of an object, taken apart as its test goes.
use Rattle.std.proofs.Common.{◌≡◌, ◌∙◌, refl, sym, ap, ap₂, ℕ, ◌^◌, ◌<◌, Bool, true, false, ◌&&◌, nat_lt, List, [], ◌∷◌, ◌+◌, map}
use Rattle.std.specs.List.{list_all}
use Rattle.std.proofs.lemmas.Bool.{and_parts, ltb-true}
use Rattle.std.proofs.lemmas.List.Folds.{list_all-append}
use Rattle.gem_object.specs.texts.Bytes.{Bytes as Text}
use Rattle.gem_object.specs.seg_rights.declared.rights.Rights.{Rights}
use Rattle.gem_object.specs.References.{names_in, names_in_pairs, names_in_items}
use Rattle.gem_object.specs.declared.value.Value.{Value}
use Rattle.gem_object.specs.declared.value.Value.TheVariants as value
use Rattle.gem_object.specs.declared.body.Body.{Body}
use Rattle.gem_object.specs.declared.body.Body.TheVariants as body
use Rattle.gem_object.specs.declared.object.Object.{Object}
use Rattle.object_programs.specs.gem_image.Image.{Contents, contents_of}
use Rattle.object_programs.specs.gem_sound.Sound.{names_in as names_in_object}
use Rattle.object_programs.specs.Fixed.{class_part}
use Rattle.object_programs.specs.Guard.{Parts, is_known, is_segment_at, accepts, named_fit, kernel_fits, place_fits, fits, all_fit}
use Rattle.object_programs.specs.Methods.{methods_fit}
use Rattle.object_programs.specs.Spelled.{is_oid, is_spelled}
use Rattle.running_objects.specs.Fitting.{is_known_value}
use Rattle.running_objects.proofs.Edits.{all_known}
use Rattle.object_guard.specs.Known.{is_known_pair, is_known_item}

-- ---- the order of the tests

moved : (k s c n e p spelled : Bool)
    → (k && (s && (c && (n && (e && (p && (true && spelled))))))) ≡ (spelled && (k && (s && (c && (n && (e && p))))))
moved true true true true true true true = refl
moved true true true true true true false = refl
moved true true true true true false true = refl
moved true true true true true false false = refl
moved true true true true false p true = refl
moved true true true true false p false = refl
moved true true true false e p true = refl
moved true true true false e p false = refl
moved true true false n e p true = refl
moved true true false n e p false = refl
moved true false c n e p true = refl
moved true false c n e p false = refl
moved false s c n e p true = refl
moved false s c n e p false = refl

-- the guard's test, where the methods fit
pub fits_by : (parts : Parts) (name : ℕ) (object : Contents) → methods_fit name object.body ≡ true
    → fits parts name object ≡ (nat_lt 0 name && (is_spelled object.body
    && (list_all (is_known parts) (names_in_object object) && (is_segment_at parts object.segment
    && (accepts parts object.class object.body && (named_fit parts object.body && (kernel_fits name object.body
    && place_fits parts name (class_part object.body))))))))
unfolding fits
fits_by parts name object methods = rw methods (ap (λ b. nat_lt 0 name && b)
    (moved (list_all (is_known parts) (names_in_object object)) (is_segment_at parts object.segment)
    (accepts parts object.class object.body) (named_fit parts object.body) (kernel_fits name object.body)
    (place_fits parts name (class_part object.body)) (is_spelled object.body)))

-- a segment's owner has a number of a name
pub owner_named : (rights : Rights Text) → is_spelled (body.Segment rights) ≡ true → rights.owner < 2 ^ 48
unfolding is_spelled
owner_named rights spelled = ltb-true rights.owner (2 ^ 48) (and_parts (is_oid rights.owner) _ spelled).0

pub owner_of : (one : Body) (rights : Rights Text) → one ≡ body.Segment rights → is_spelled one ≡ true → rights.owner < 2 ^ 48
owner_of one rights is spelled = owner_named rights (sym (ap is_spelled is) ∙ spelled)

-- the methods of the first of some objects, and those of the others
pub methods_first : (name : ℕ) (object : Object) (objects : List Object)
    → list_all (λ (some : Object). methods_fit name some.body) (object ∷ objects) ≡ true
    → (methods_fit name object.body ≡ true) × (list_all (λ (some : Object). methods_fit name some.body) objects ≡ true)
methods_first name object objects all = and_parts (methods_fit name object.body) _ all

pub method_first : (name : ℕ) (rest : List Object) (object : Object) (others : List Object) → rest ≡ object ∷ others
    → ((name : ℕ) → list_all (λ (some : Object). methods_fit name some.body) rest ≡ true) → methods_fit name object.body ≡ true
method_first name rest object others is all = (methods_first name object others
    (sym (ap (list_all (λ (some : Object). methods_fit name some.body)) is) ∙ all name)).0

pub methods_left : (rest : List Object) (object : Object) (others : List Object) → rest ≡ object ∷ others
    → ((name : ℕ) → list_all (λ (some : Object). methods_fit name some.body) rest ≡ true)
    → (name : ℕ) → list_all (λ (some : Object). methods_fit name some.body) others ≡ true
methods_left rest object others is all name = (methods_first name object others
    (sym (ap (list_all (λ (some : Object). methods_fit name some.body)) is) ∙ all name)).1

-- the first of some objects fits, so the others decide
pub others_left : (parts : Parts) (name number : ℕ) (rest : List Object) (object : Object) (others : List Object) (whole : Bool)
    → name ≡ number → rest ≡ object ∷ others → fits parts name (contents_of object) ≡ true
    → all_fit parts number (map contents_of rest) ≡ whole → all_fit parts (number + 1) (map contents_of others) ≡ whole
others_left parts name number rest object others whole same is fit so_far =
    let here : fits parts number (contents_of object) ≡ true = sym (ap (λ (n : ℕ). fits parts n (contents_of object)) same) ∙ fit in
    sym (ap (λ some. all_fit parts number (map contents_of some)) is
    ∙ ap (λ b. b && all_fit parts (number + 1) (map contents_of others)) here) ∙ so_far

-- ---- the names in bodies

pub pairs_known : (parts : Parts) (pairs : List (Value × Value))
    → list_all (is_known_pair parts) pairs ≡ list_all (is_known parts) (names_in_pairs pairs)
pairs_known parts [] = refl
pairs_known parts (pair ∷ rest) =
    let here : is_known_pair parts pair ≡ list_all (is_known parts) (names_in (pair.0 ∷ pair.1 ∷ [])) =
    pair_is (is_known_value parts pair.0) (is_known_value parts pair.1) ∙ sym (all_known parts (pair.0 ∷ pair.1 ∷ [])) in
    ap₂ (λ a b. a && b) here (pairs_known parts rest)
    ∙ sym (list_all-append (is_known parts) (names_in (pair.0 ∷ pair.1 ∷ [])) (names_in_pairs rest))
  where
    pair_is : (a b : Bool) → (a && b) ≡ (a && (b && true))
    pair_is false b = refl
    pair_is true false = refl
    pair_is true true = refl

pub items_known : (parts : Parts) (pairs : List (Value × ℕ))
    → list_all (is_known_item parts) pairs ≡ list_all (is_known parts) (names_in_items pairs)
items_known parts [] = refl
items_known parts ((value.Nil, count) ∷ rest) = items_known parts rest
items_known parts ((value.False, count) ∷ rest) = items_known parts rest
items_known parts ((value.True, count) ∷ rest) = items_known parts rest
items_known parts ((value.Int number, count) ∷ rest) = items_known parts rest
items_known parts ((value.Char code, count) ∷ rest) = items_known parts rest
items_known parts ((value.Sym name, count) ∷ rest) = items_known parts rest
items_known parts ((value.Ref oid, count) ∷ rest) = ap (λ b. is_known parts oid && b) (items_known parts rest)
items_known parts ((value.Block block, count) ∷ rest) = items_known parts rest

pub values_known : (parts : Parts) (values : List Value)
    → list_all (is_known_value parts) values ≡ list_all (is_known parts) (names_in values)
values_known parts values = sym (all_known parts values)
