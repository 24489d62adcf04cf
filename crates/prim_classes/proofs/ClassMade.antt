-- A class that is made.
use Rattle.std.proofs.Common.{◌≡◌, sym, ap, ◌∙◌, subst, ℕ, Bool, true, false, ◌&&◌, List, [], ◌∷◌, length, map, Ok}
use Rattle.std.specs.List.{list_all}
use Rattle.gem_object.specs.declared.value.Value.{Value}
use Rattle.gem_object.specs.declared.value.Value.TheVariants.{Sym}
use Rattle.gem_object.specs.declared.body.ClassBody.{ClassBody}
use Rattle.gem_object.specs.declared.body.Method.{Method}
use Rattle.gem_object.specs.declared.body.Body.{Body}
use Rattle.gem_object.specs.declared.body.Body.TheVariants as body
use Rattle.gem_object.specs.declared.object.Object.{Object}
use Rattle.gem_image.specs.Image.{Contents, contents_of}
use Rattle.object_programs.specs.gem_world.World.{next_name}
use Rattle.gem_sound.specs.Kernel.{class_class}
use Rattle.object_programs.specs.Budget.{is_within_limits}
use Rattle.object_programs.specs.Methods.{method_fits, methods_fit}
use Rattle.running_objects.specs.Seen.{Seen}
use Rattle.prim_rules.specs.Classes.{NewClass, class_object, class_entry}
use Rattle.prim_parts.specs.Entering.{HasNames, AreEntered}
use Rattle.object_programs.specs.Run.{give}
use Rattle.prim_parts.specs.Does.{Does}
use Rattle.prim_parts.proofs.Does.{does_give}
use Rattle.prim_classes.specs.ClassWords.{IsNew, with_dictionary}

-- it stands there as the rule makes it
pub class_entered : (class : ClassBody) (segment : ℕ) (object : Object) (objects : List Object) (chosen : ℕ) (key : Value) (seen : Seen)
    → objects ≡ object ∷ [] → contents_of object ≡ class_object class segment
    → (HasNames 1 seen → chosen ≡ next_name seen.setting seen.world) → key ≡ Sym class.name
    → AreEntered (class_entry class segment) objects chosen key seen
class_entered class segment object objects chosen key seen are is named key_is =
    let same : class_object class segment ∷ [] ≡ map contents_of objects =
    sym (ap (λ (these : List Object). map contents_of these) are ∙ ap (λ (one : Contents). one ∷ []) is) in
    record {
      objects_are = λ has. same;
      chosen_is = λ has.
          let Left : ℕ → Type 0 = λ count. HasNames count seen in
          sym (named (subst Left (ap (λ (these : List Object). length these) are) has));
      key_is = sym key_is;
      count = sym (ap (λ (these : List Object). length these) are);
      sizes = ap (λ (these : List Contents). list_all is_within_limits these) same;
    }

-- it has no methods that might not fit
pub new_fits : (class : ClassBody) (object : Object) (objects : List Object) → IsNew class → objects ≡ object ∷ []
    → object.body ≡ body.Class class → (name : ℕ) → list_all (λ one. methods_fit name one.body) objects ≡ true
new_fits class object objects new are is name =
    let none : methods_fit name (body.Class class) ≡ true =
    ap (λ (methods : List Method). list_all (method_fits name false) methods && list_all (method_fits name true) class.class_methods) new.0
    ∙ ap (λ (methods : List Method). list_all (method_fits name true) methods) new.1 in
    ap (λ (these : List Object). list_all (λ one. methods_fit name one.body) these) are
    ∙ ap (λ (one : Body). methods_fit name one && true) is ∙ ap (λ (test : Bool). test && true) none

pub class_contents : (class : ClassBody) (segment of : ℕ) → of ≡ class_class
    → contents_of (record { class = of; segment = segment; changed = 0; body = body.Class class }) ≡ class_object class segment
class_contents class segment of is = ap (λ (n : ℕ). contents_of (record {
  class = n;
  segment = segment;
  changed = 0;
  body = body.Class class;
})) is

abbrev pub wanted_of : (dictionary : Value) → ClassBody → NewClass
wanted_of dictionary class = record { class = class; dictionary = dictionary }

pub gives_wanted : {dictionary : Value} {made class : ClassBody} {seen : Seen} → made ≡ class
    → Does (give (wanted_of dictionary class)) seen (with_dictionary dictionary (Ok made)) seen
gives_wanted {dictionary} {made} {class} {seen} is =
    let At : ClassBody → Type 0 = λ one. Does (give (wanted_of dictionary one)) seen (with_dictionary dictionary (Ok made)) seen in
    subst At is (does_give (wanted_of dictionary made) seen)
