-- What is told and listed of a body.
use Rattle.std.proofs.lemmas.Bool.{false≢true, and_parts}
use Rattle.std.proofs.Common.{◌≡◌, refl, sym, ap, ◌∙◌, ℕ, true, false, nat_lt, List, Option, Some, None, is_some, option_map}
use Rattle.std.specs.List.{list_all}
use Rattle.gem_object.specs.texts.Bytes.{Bytes as Text}
use Rattle.gem_object.specs.seg_rights.declared.rights.Rights.{Rights}
use Rattle.gem_object.specs.rc_counter_bag.declared.counter.Counter.{Counter}
use Rattle.gem_object.specs.declared.value.Value.{Value}
use Rattle.gem_object.specs.declared.body.UserBody.{UserBody}
use Rattle.gem_object.specs.declared.body.Body.{Body}
use Rattle.gem_object.specs.declared.body.Body.TheVariants as body
use Rattle.gem_sound.specs.gem_image.Image.{Contents}
use Rattle.gem_sound.specs.Sound.{names_in}
use Rattle.object_programs.specs.Fixed.{class_part}
use Rattle.object_programs.specs.Guard.{Parts, is_known, is_segment_at, accepts, named_fit, kernel_fits, place_fits, fits}
use Rattle.object_programs.specs.Methods.{methods_fit}
use Rattle.object_programs.specs.Spelled.{is_spelled, is_oid, is_segment_body}
use Rattle.running_objects.specs.Seen.{Seen, object_at, IsSoundState}
use Rattle.prim_parts.specs.Walks.{parts_seen}
use Rattle.prim_shared.specs.declared.told.Fact.{Fact}
use Rattle.prim_shared.specs.declared.told.Fact.TheVariants as fact
use Rattle.prim_shared.specs.declared.told.Listing.{Listing}
use Rattle.prim_shared.specs.Kinds.{held_in}
use Rattle.prim_shared.specs.Told.{kind_told, said_by, kind_listed, listed_by}

abbrev pub told_in : Fact → Body → Option Value
told_in one found = option_map (said_by one) (held_in (kind_told one) found)

abbrev pub listed_in : Listing → Body → Option (List Value)
listed_in one found = option_map (listed_by one) (held_in (kind_listed one) found)

-- a fact that is told of a body of its kind
pub told_so : {one other : Fact} (found : Body) {told : Option Value} → one ≡ other → told ≡ told_in other found
    → told ≡ told_in one found
told_so {one} {other} found {told} same is = is ∙ sym (ap (λ (some : Fact). told_in some found) same)

pub told_at : (one : Fact) {found shape : Body} {told : Option Value} → found ≡ shape → told ≡ told_in one shape
    → told ≡ told_in one found
told_at one {found} {shape} {told} same is = is ∙ sym (ap (told_in one) same)

-- and one that isn't told of a body of this kind
pub none_of_segment : (one : Fact) (rights : Rights Text) → (one ≡ fact.Owner → ⊥) → (one ≡ fact.OwnerRight → ⊥)
    → (one ≡ fact.WorldRight → ⊥) → None ≡ told_in one (body.Segment rights)
none_of_segment fact.Owner rights a b c = absurd (a refl)
none_of_segment fact.OwnerRight rights a b c = absurd (b refl)
none_of_segment fact.WorldRight rights a b c = absurd (c refl)
none_of_segment fact.UserName rights a b c = refl
none_of_segment fact.DefaultSegment rights a b c = refl
none_of_segment fact.Count rights a b c = refl

pub none_of_user : (one : Fact) (user : UserBody) → (one ≡ fact.UserName → ⊥) → (one ≡ fact.DefaultSegment → ⊥)
    → None ≡ told_in one (body.User user)
none_of_user fact.UserName user a b = absurd (a refl)
none_of_user fact.DefaultSegment user a b = absurd (b refl)
none_of_user fact.Owner user a b = refl
none_of_user fact.OwnerRight user a b = refl
none_of_user fact.WorldRight user a b = refl
none_of_user fact.Count user a b = refl

pub none_of_counter : (one : Fact) (counter : Counter) → (one ≡ fact.Count → ⊥) → None ≡ told_in one (body.Counter counter)
none_of_counter fact.Count counter a = absurd (a refl)
none_of_counter fact.Owner counter a = refl
none_of_counter fact.OwnerRight counter a = refl
none_of_counter fact.WorldRight counter a = refl
none_of_counter fact.UserName counter a = refl
none_of_counter fact.DefaultSegment counter a = refl

pub none_of_others : (one : Fact) (found : Body) → ((rights : Rights Text) → found ≡ body.Segment rights → ⊥)
    → ((user : UserBody) → found ≡ body.User user → ⊥) → ((counter : Counter) → found ≡ body.Counter counter → ⊥)
    → None ≡ told_in one found
none_of_others fact.Owner (body.Segment rights) a b c = absurd (a rights refl)
none_of_others fact.Owner _ a b c = refl
none_of_others fact.OwnerRight (body.Segment rights) a b c = absurd (a rights refl)
none_of_others fact.OwnerRight _ a b c = refl
none_of_others fact.WorldRight (body.Segment rights) a b c = absurd (a rights refl)
none_of_others fact.WorldRight _ a b c = refl
none_of_others fact.UserName (body.User user) a b c = absurd (b user refl)
none_of_others fact.UserName _ a b c = refl
none_of_others fact.DefaultSegment (body.User user) a b c = absurd (b user refl)
none_of_others fact.DefaultSegment _ a b c = refl
none_of_others fact.Count (body.Counter counter) a b c = absurd (c counter refl)
none_of_others fact.Count _ a b c = refl

-- a list of a body of its kind, and none of one of another kind
pub listed_so : {one other : Listing} {found shape : Body} {listed : Option (List Value)} → one ≡ other → found ≡ shape
    → listed ≡ listed_in other shape → listed ≡ listed_in one found
listed_so {one} {other} {found} {shape} {listed} same shown is = is
    ∙ sym (ap (λ (some : Listing). listed_in some shape) same) ∙ sym (ap (listed_in one) shown)

none_mapped : {A C : Type 0} (f : A → C) (found : Option A) → is_some found ≡ false → None ≡ option_map f found
none_mapped f None none = refl
none_mapped f (Some one) none = absurd (false≢true (sym none))

pub none_listed : {one other : Listing} (found : Body) → one ≡ other → is_some (held_in (kind_listed other) found) ≡ false
    → None ≡ listed_in one found
none_listed {one} {other} found same none = none_mapped (listed_by other) (held_in (kind_listed other) found) none
    ∙ sym (ap (λ (some : Listing). listed_in some found) same)

-- what was told of what a body holds, and that something was
pub said_is : {A C : Type 0} (says : A → C) {found : Option A} {held : A} {said : C} → found ≡ Some held
    → Some said ≡ option_map says found → says held ≡ said
said_is {A} {C} says {found} {held} {said} holds is =
    let same : Some said ≡ Some (says held) = is ∙ ap (option_map says) holds in
    cc

pub said_some : {A C : Type 0} (says : A → C) {found : Option A} {held : A} → found ≡ Some held
    → None ≡ option_map says found → ⊥
said_some says holds is = false≢true (ap is_some (is ∙ ap (option_map says) holds))

-- the owner of a segment that can be stored has a name
pub owner_spelled : (found : Body) (rights : Rights Text) → found ≡ body.Segment rights → is_spelled found ≡ true
    → is_oid rights.owner ≡ true
unfolding is_spelled
owner_spelled found rights shown can =
    let segment : is_segment_body rights ≡ true = sym (ap is_spelled shown) ∙ can in
    (and_parts (is_oid rights.owner) _ segment).0

-- an object that is seen can be stored
pub spelled : (seen : Seen) → IsSoundState seen → (name : ℕ) (object : Contents) → object_at name seen ≡ Some object
    → is_spelled object.body ≡ true
unfolding fits
spelled seen sound name object there =
    let parts : Parts = parts_seen seen in
    let one = and_parts (nat_lt 0 name) _ (sound.each name object there) in
    let two = and_parts (list_all (is_known parts) (names_in object)) _ one.1 in
    let three = and_parts (is_segment_at parts object.segment) _ two.1 in
    let four = and_parts (accepts parts object.class object.body) _ three.1 in
    let five = and_parts (named_fit parts object.body) _ four.1 in
    let six = and_parts (kernel_fits name object.body) _ five.1 in
    let seven = and_parts (place_fits parts name (class_part object.body)) _ six.1 in
    (and_parts (methods_fit name object.body) (is_spelled object.body) seven.1).1
