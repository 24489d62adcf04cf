-- A class without one of its methods still has only such as it may have.
use Rattle.std.proofs.Common.{◌≡◌, refl, sym, ap, ◌∙◌, ℕ, Bool, true, false, ◌&&◌, not, nat_lt, List, [], ◌∷◌, filter, if◌then◌else◌, Option, Some, None, Ok}
use Rattle.std.proofs.lemmas.Bool.{false≢true, and_parts, and_from}
use Rattle.std.specs.List.{list_all}
use Rattle.gem_object.specs.texts.Bytes.{Bytes as Text}
use Rattle.gem_object.specs.declared.body.ClassBody.{ClassBody}
use Rattle.gem_object.specs.declared.body.Body.{Body}
use Rattle.gem_object.specs.declared.body.Body.TheVariants as body
use Rattle.gem_image.specs.Image.{Contents}
use Rattle.prim_parts.specs.tree_meaning.Place.{MadeBlock}
use Rattle.object_programs.specs.Local.{Local}
use Rattle.object_programs.specs.Fixed.{class_part, fixed_by}
use Rattle.object_programs.specs.Guard.{Parts, is_known, is_segment_at, accepts, named_fit, kernel_fits, place_fits, fits}
use Rattle.object_programs.specs.Spelled.{is_spelled}
use Rattle.gem_sound.specs.Sound.{names_in}
use Rattle.object_programs.specs.Methods.{method_fits, methods_fit}
use Rattle.object_programs.specs.Run.{Ending, gives, Outcome}
use Rattle.object_programs.specs.Programs.{need}
use Rattle.object_programs.specs.declared.fault.Fault.{Fault}
use Rattle.object_programs.specs.declared.fault.Fault.TheVariants as fault
use Rattle.running_objects.specs.Seen.{Seen, object_at, with_local, IsSoundState}
use Rattle.prim_rules.specs.Parts.{class_in}
use Rattle.prim_rules.specs.Classes.{has_selector, without_method}
use Rattle.prim_parts.specs.Does.{Computes}

nowhere : Local MadeBlock
nowhere = record { scopes = []; blocks = []; living = [] }

abbrev is_given : {A : Type 0} → Ending A → Bool
is_given (gives answer) = true
is_given _ = false

abbrev given_or : {A : Type 0} → A → Ending A → A
given_or other (gives answer) = answer
given_or other _ = other

needed_by : {A : Type 0} (fault : Fault) (found : Option A) (one : A) (seen : Seen) → Computes (need fault found) (Ok one)
    → found ≡ Some one
needed_by {A} fault None one seen computes =
    absurd (false≢true (ap (λ (outcome : Outcome MadeBlock A). is_given outcome.end) (computes.ends seen.setting (with_local seen nowhere))))
needed_by {A} fault (Some other) one seen computes =
    ap (λ (outcome : Outcome MadeBlock A). Some (given_or one outcome.end)) (computes.ends seen.setting (with_local seen nowhere))

the_eighth : (a b c d e f g h i : Bool) → (a && (b && (c && (d && (e && (f && (g && (h && i)))))))) ≡ true → h ≡ true
the_eighth a b c d e f g h i is =
    let one = and_parts a (b && (c && (d && (e && (f && (g && (h && i))))))) is in
    let two = and_parts b (c && (d && (e && (f && (g && (h && i)))))) one.1 in
    let three = and_parts c (d && (e && (f && (g && (h && i))))) two.1 in
    let four = and_parts d (e && (f && (g && (h && i)))) three.1 in
    let five = and_parts e (f && (g && (h && i))) four.1 in
    let six = and_parts f (g && (h && i)) five.1 in
    let seven = and_parts g (h && i) six.1 in
    (and_parts h i seven.1).0

fits_methods : (parts : Parts) (name : ℕ) (object : Contents) → fits parts name object ≡ true
    → methods_fit name object.body ≡ true
unfolding fits
fits_methods parts name object is = the_eighth (nat_lt 0 name) (list_all (is_known parts) (names_in object))
    (is_segment_at parts object.segment) (accepts parts object.class object.body) (named_fit parts object.body)
    (kernel_fits name object.body) (place_fits parts name (class_part object.body)) (methods_fit name object.body)
    (is_spelled object.body) is

filter_by : {X : Type 0} (p : X → Bool) (keep : Bool) (x : X) (rest : List X) → p x ≡ true → list_all p rest ≡ true
    → list_all p (if keep then x ∷ rest else rest) ≡ true
filter_by p true x rest here more = and_from (p x) (list_all p rest) here more
filter_by p false x rest here more = more

kept_all : {X : Type 0} (p q : X → Bool) (xs : List X) → list_all p xs ≡ true → list_all p (filter q xs) ≡ true
kept_all p q [] all = refl
kept_all p q (x ∷ xs) all =
    let parts = and_parts (p x) (list_all p xs) all in
    filter_by p (q x) x (filter q xs) parts.0 (kept_all p q xs parts.1)

class_is : (one : Body) (class : ClassBody) → class_in one ≡ Some class → one ≡ body.Class class
class_is (body.Plain slots) class is = absurd (cc)
class_is (body.Bytes bytes) class is = absurd (cc)
class_is (body.Dict pairs) class is = absurd (cc)
class_is (body.Class other) class is = cc
class_is (body.Segment rights) class is = absurd (cc)
class_is (body.User user) class is = absurd (cc)
class_is (body.Counter counter) class is = absurd (cc)
class_is (body.Bag items) class is = absurd (cc)
class_is (body.RcDict pairs) class is = absurd (cc)
class_is (body.Queue queue) class is = absurd (cc)

pub removed_fits : (seen : Seen) (name : ℕ) (object : Contents) (class made : ClassBody) (selector : Text) → IsSoundState seen
    → object_at name seen ≡ Some object → Computes (need fault.ArgumentKind (class_in object.body)) (Ok class)
    → made ≡ without_method selector class → methods_fit name (body.Class made) ≡ true
removed_fits seen name object class made selector sound there found is =
    let this : object.body ≡ body.Class class =
    class_is object.body class (needed_by fault.ArgumentKind (class_in object.body) class seen found) in
    let whole : methods_fit name (body.Class class) ≡ true = sym (ap (λ (one : Body). methods_fit name one) this)
    ∙ fits_methods (fixed_by seen.setting seen.world) name object (sound.each name object there) in
    let parts = and_parts (list_all (method_fits name false) class.methods) (list_all (method_fits name true) class.class_methods) whole in
    let kept : methods_fit name (body.Class (without_method selector class)) ≡ true =
    and_from (list_all (method_fits name false) (filter (λ method. not (has_selector selector method)) class.methods))
    (list_all (method_fits name true) class.class_methods)
    (kept_all (method_fits name false) (λ method. not (has_selector selector method)) class.methods parts.0) parts.1 in
    ap (λ (one : ClassBody). methods_fit name (body.Class one)) is ∙ kept
