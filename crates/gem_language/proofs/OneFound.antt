-- A look-up finds at most one thing.
use Rattle.std.proofs.Common.{◌≡◌, refl, sym, subst, ℕ, Bool, true, false, Option, Some, None}
use Rattle.gem_object.specs.texts.Bytes.{Bytes as Text}
use Rattle.gem_object.specs.declared.value.Value.{Value}
use Rattle.gem_object.specs.declared.value.Value.TheVariants as value
use Rattle.gem_object.specs.declared.body.MethodCode.{MethodCode}
use Rattle.gem_object.specs.declared.body.ClassBody.{ClassBody}
use Rattle.object_programs.specs.gem_image.Image.{Contents, Objects}
use Rattle.object_programs.specs.gem_sound.Kernel.{class_class}
use Rattle.object_programs.specs.gem_sound.Parts.{class_at}
use Rattle.tree_meaning.specs.Place.{Frame}
use Rattle.prim_rules.specs.Parts.{class_of_plain}
use Rattle.gem_language.specs.declared.found.Found.{Found}
use Rattle.gem_language.specs.LookUp.{methods_on, code_of}
use Rattle.gem_language.specs.Finds.{Finds, in_class, above, no_class, past_class_sides, past_all, superclass_at, BeginsAt, at_class_side, at_class, at_kernel_class, at_superclass, FindsFor}

some_none : {A : Type 0} (a : A) → Some a ≡ None → ⊥
some_none a is = cc

module _ (objects : Objects) where
  module _ (selector : Text) where
    abbrev ByCode : Bool → ℕ → ClassBody → Option MethodCode → Option Found → Type 0
    ByCode class_side name class (Some code) found =
        found ≡ Some (record { code = code; holder = name; class_side = class_side })
    ByCode class_side name class None found = Finds objects selector class_side class.superclass found

    abbrev ByClass : Bool → ℕ → Option ClassBody → Option Found → Type 0
    ByClass class_side name None found = Finds objects selector class_side None found
    ByClass class_side name (Some class) found =
        ByCode class_side name class (code_of selector (methods_on class_side class)) found

    -- what is found, by the class and the side
    abbrev ByPlace : Bool → Option ℕ → Option Found → Type 0
    ByPlace class_side (Some name) found = ByClass class_side name (class_at objects name) found
    ByPlace true None found = Finds objects selector false (Some class_class) found
    ByPlace false None found = found ≡ None

    by_place : {class_side : Bool} {class : Option ℕ} {found : Option Found}
        → Finds objects selector class_side class found → ByPlace class_side class found
    by_place (in_class class_side name class code there has) =
        let made : Found = record { code = code; holder = name; class_side = class_side } in
        subst (λ (c : Option ClassBody). ByClass class_side name c (Some made)) (sym there)
        (subst (λ (k : Option MethodCode). ByCode class_side name class k (Some made)) (sym has) refl)
    by_place (above class_side name class found there has finds) =
        subst (λ (c : Option ClassBody). ByClass class_side name c found) (sym there)
        (subst (λ (k : Option MethodCode). ByCode class_side name class k found) (sym has) finds)
    by_place (no_class class_side name found there finds) =
        subst (λ (c : Option ClassBody). ByClass class_side name c found) (sym there) finds
    by_place (past_class_sides found finds) = finds
    by_place past_all = refl

    pub one_found : {class_side : Bool} {class : Option ℕ} {found : Option Found}
        → Finds objects selector class_side class found → (other : Option Found)
        → Finds objects selector class_side class other → found ≡ other
    one_found (in_class class_side name class code there has) other second =
        let at : ByClass class_side name (Some class) other =
        subst (λ (c : Option ClassBody). ByClass class_side name c other) there (by_place second) in
        sym (subst (λ (k : Option MethodCode). ByCode class_side name class k other) has at)
    one_found (above class_side name class found there has finds) other second =
        let at : ByClass class_side name (Some class) other =
        subst (λ (c : Option ClassBody). ByClass class_side name c other) there (by_place second) in
        one_found finds other (subst (λ (k : Option MethodCode). ByCode class_side name class k other) has at)
    one_found (no_class class_side name found there finds) other second =
        one_found finds other (subst (λ (c : Option ClassBody). ByClass class_side name c other) there (by_place second))
    one_found (past_class_sides found finds) other second = one_found finds other (by_place second)
    one_found past_all other second = sym (by_place second)

  module _ (frame : Frame) where
    abbrev ByObject : ℕ → Option ClassBody → Option Contents → Bool → Option ℕ → Type 0
    ByObject name (Some class) held class_side begun = (class_side ≡ true) × (begun ≡ Some name)
    ByObject name None (Some object) class_side begun = (class_side ≡ false) × (begun ≡ Some object.class)
    ByObject name None None class_side begun = ⊥

    -- where a look-up begins, by the receiver
    abbrev ByReceiver : Bool → Value → Bool → Option ℕ → Type 0
    ByReceiver true receiver class_side begun =
        (class_side ≡ frame.class_side) × (begun ≡ superclass_at objects frame.holder)
    ByReceiver false (value.Ref name) class_side begun =
        ByObject name (class_at objects name) (objects name) class_side begun
    ByReceiver false receiver class_side begun = (class_side ≡ false) × (begun ≡ class_of_plain receiver)

    plain_begun : (receiver : Value) (class : ℕ) → class_of_plain receiver ≡ Some class
        → ByReceiver false receiver false (Some class)
    plain_begun (value.Ref name) class is = absurd (some_none class (sym is))
    plain_begun value.Nil class is = (refl, sym is)
    plain_begun value.False class is = (refl, sym is)
    plain_begun value.True class is = (refl, sym is)
    plain_begun (value.Int n) class is = (refl, sym is)
    plain_begun (value.Char n) class is = (refl, sym is)
    plain_begun (value.Sym n) class is = (refl, sym is)
    plain_begun (value.Block n) class is = (refl, sym is)

    by_receiver : {to_super : Bool} {receiver : Value} {class_side : Bool} {begun : Option ℕ}
        → BeginsAt objects frame to_super receiver class_side begun → ByReceiver to_super receiver class_side begun
    by_receiver (at_class_side name class there) =
        subst (λ (c : Option ClassBody). ByObject name c (objects name) true (Some name)) (sym there) (refl, refl)
    by_receiver (at_class name object here there) =
        subst (λ (c : Option ClassBody). ByObject name c (objects name) false (Some object.class)) (sym there)
        (subst (λ (o : Option Contents). ByObject name None o false (Some object.class)) (sym here) (refl, refl))
    by_receiver (at_kernel_class receiver class is) = plain_begun receiver class is
    by_receiver (at_superclass receiver) = (refl, refl)

    one_object : (name : ℕ) (class : Option ClassBody) (held : Option Contents) (side other_side : Bool)
        (begun other : Option ℕ) → ByObject name class held side begun → ByObject name class held other_side other
        → (side ≡ other_side) × (begun ≡ other)
    one_object name (Some class) held side other_side begun other first second =
        (rw (first.0, second.0) refl, rw (first.1, second.1) refl)
    one_object name None (Some object) side other_side begun other first second =
        (rw (first.0, second.0) refl, rw (first.1, second.1) refl)
    one_object name None None side other_side begun other first second = absurd first

    one_plain : (plain : Option ℕ) (side other_side : Bool) (begun other : Option ℕ)
        → (side ≡ false) × (begun ≡ plain) → (other_side ≡ false) × (other ≡ plain)
        → (side ≡ other_side) × (begun ≡ other)
    one_plain plain side other_side begun other first second =
        (rw (first.0, second.0) refl, rw (first.1, second.1) refl)

    one_receiver : (to_super : Bool) (receiver : Value) (side other_side : Bool) (begun other : Option ℕ)
        → ByReceiver to_super receiver side begun → ByReceiver to_super receiver other_side other
        → (side ≡ other_side) × (begun ≡ other)
    one_receiver true receiver side other_side begun other first second =
        (rw (first.0, second.0) refl, rw (first.1, second.1) refl)
    one_receiver false (value.Ref name) side other_side begun other first second =
        one_object name (class_at objects name) (objects name) side other_side begun other first second
    one_receiver false value.Nil side other_side begun other first second =
        one_plain (class_of_plain value.Nil) side other_side begun other first second
    one_receiver false value.False side other_side begun other first second =
        one_plain (class_of_plain value.False) side other_side begun other first second
    one_receiver false value.True side other_side begun other first second =
        one_plain (class_of_plain value.True) side other_side begun other first second
    one_receiver false (value.Int n) side other_side begun other first second =
        one_plain (class_of_plain (value.Int n)) side other_side begun other first second
    one_receiver false (value.Char n) side other_side begun other first second =
        one_plain (class_of_plain (value.Char n)) side other_side begun other first second
    one_receiver false (value.Sym n) side other_side begun other first second =
        one_plain (class_of_plain (value.Sym n)) side other_side begun other first second
    one_receiver false (value.Block n) side other_side begun other first second =
        one_plain (class_of_plain (value.Block n)) side other_side begun other first second

    pub one_for : (to_super : Bool) (receiver : Value) (selector : Text) (found other : Option Found)
        → FindsFor objects frame to_super receiver selector found
        → FindsFor objects frame to_super receiver selector other → found ≡ other
    one_for to_super receiver selector found other first second =
        let same = one_receiver to_super receiver first.class_side second.class_side first.class second.class
        (by_receiver first.begins) (by_receiver second.begins) in
        one_found selector (subst (λ (class : Option ℕ). Finds objects selector second.class_side class found) same.1
        (subst (λ (side : Bool). Finds objects selector side first.class found) same.0 first.finds))
        other second.finds
