-- The test of methods tells the rule of sound images on methods.
use Rattle.std.proofs.Common.{◌≡◌, refl, sym, ap, subst, ℕ, ◌^◌, Bool, true, false, nat_lt, Option, Some, None, Result, Ok, Err, List, length}
use Rattle.std.specs.List.{All, list_all}
use Rattle.std.specs.Option.{IfSome}
use Rattle.std.proofs.lemmas.Bool.{false≢true, and_parts, and_from, ltb-true, lt-ltb}
use Rattle.std.proofs.lemmas.Slice.Eq.{bytes_eq-Decides}
use Rattle.gem_object.specs.texts.Bytes.{Bytes as Text}
use Rattle.gem_sound.specs.st_tree.Trees.{Program}
use Rattle.gem_sound.specs.Grammar.{method}
use Rattle.gem_sound.specs.TreeOf.{tree_of}
use Rattle.gem_object.specs.declared.body.MethodCode.{MethodCode}
use Rattle.gem_object.specs.declared.body.MethodCode.TheVariants.{Source, Primitive}
use Rattle.gem_object.specs.declared.body.Method.{Method}
use Rattle.gem_object.specs.declared.body.ClassBody.{ClassBody}
use Rattle.gem_object.specs.declared.body.Body.{Body}
use Rattle.gem_object.specs.declared.body.Body.TheVariants.{Plain, Bytes, Dict, Class, Segment, User, Counter, Bag, RcDict, Queue}
use Rattle.gem_sound.specs.Parts.{class_of}
use Rattle.gem_sound.specs.Kernel.{may_stand}
use Rattle.gem_sound.specs.Sound.{IsSourceOf, IsCodeOf, IsMethodOf, HasMethods}
use Rattle.object_programs.specs.Methods.{has_selector, answers_to, is_source_of, code_fits, method_fits, methods_fit}
use Rattle.object_programs.proofs.Spells.{Tells, tells_all, tells_itself}

-- what a tree's selector tells
to_selector : (selector : Text) (found : Option Text) → has_selector selector found ≡ true → found ≡ Some selector
to_selector selector None holds = absurd (false≢true holds)
to_selector selector (Some other) holds = ap Some ((bytes_eq-Decides other selector).0 holds)

from_selector : (selector : Text) (found : Option Text) → found ≡ Some selector → has_selector selector found ≡ true
from_selector selector found is =
    subst (λ some. has_selector selector some ≡ true) (sym is) ((bytes_eq-Decides selector selector).1 refl)

abbrev HasTree : {F : Type 0} → Text → Result Program F → Type 0
HasTree {F} selector found = (program : Program) × (found ≡ Ok program) × (program.selector ≡ Some selector)

to_tree : {F : Type 0} (selector : Text) (found : Result Program F) → answers_to selector found ≡ true
    → HasTree selector found
to_tree selector (Ok program) holds = (program, refl, to_selector selector program.selector holds)
to_tree selector (Err fault) holds = absurd (false≢true holds)

from_tree : {F : Type 0} (selector : Text) (found : Result Program F) (program : Program) → found ≡ Ok program
    → program.selector ≡ Some selector → answers_to selector found ≡ true
from_tree selector found program is answers = subst (λ some. answers_to selector some ≡ true) (sym is)
    (from_selector selector program.selector answers)

tells_source : (selector source : Text) → Tells (is_source_of selector source) (IsSourceOf selector source)
unfolding is_source_of
tells_source selector source = record {
  to = λ holds.
      let both = and_parts (nat_lt (length source) (2 ^ 24)) (answers_to selector (tree_of method source)) holds in
      let tree = to_tree selector (tree_of method source) both.1 in
      record {
        short = ltb-true (length source) (2 ^ 24) both.0;
        program = tree.0;
        tree = tree.1;
        answers = tree.2;
      };
  from = λ is. and_from (nat_lt (length source) (2 ^ 24)) (answers_to selector (tree_of method source))
      (lt-ltb (length source) (2 ^ 24) is.short)
      (from_tree selector (tree_of method source) is.program is.tree is.answers);
}

tells_code_of : (class : ℕ) (class_side : Bool) (selector : Text) (code : MethodCode)
    → Tells (code_fits class class_side selector code) (IsCodeOf class class_side selector code)
tells_code_of class class_side selector (Source source) = tells_source selector source
tells_code_of class class_side selector (Primitive number) =
    tells_itself (may_stand class class_side selector number)

tells_methods_of : (class : ℕ) (class_side : Bool) (methods : List Method)
    → Tells (list_all (method_fits class class_side) methods) (All (IsMethodOf class class_side) methods)
tells_methods_of class class_side methods = tells_all (method_fits class class_side) (IsMethodOf class class_side)
    (λ entry. tells_code_of class class_side entry.selector entry.code) methods

pub tells_class_methods : (name : ℕ) (class : ClassBody)
    → Tells (methods_fit name (Class class)) (HasMethods name class)
tells_class_methods name class =
    let instances = tells_methods_of name false class.methods in
    let class_side = tells_methods_of name true class.class_methods in
    record {
      to = λ holds.
          let both = and_parts _ _ holds in
          record { instances = instances.to both.0; class_side = class_side.to both.1 };
      from = λ has. and_from _ _ (instances.from has.instances) (class_side.from has.class_side);
    }

pub tells_methods_fit : (name : ℕ) (body : Body)
    → Tells (methods_fit name body) (IfSome (class_of body) (HasMethods name))
tells_methods_fit name (Class class) = tells_class_methods name class
tells_methods_fit name (Plain values) = record { to = λ _. tt; from = λ _. refl }
tells_methods_fit name (Bytes bytes) = record { to = λ _. tt; from = λ _. refl }
tells_methods_fit name (Dict pairs) = record { to = λ _. tt; from = λ _. refl }
tells_methods_fit name (Segment rights) = record { to = λ _. tt; from = λ _. refl }
tells_methods_fit name (User user) = record { to = λ _. tt; from = λ _. refl }
tells_methods_fit name (Counter counter) = record { to = λ _. tt; from = λ _. refl }
tells_methods_fit name (Bag pairs) = record { to = λ _. tt; from = λ _. refl }
tells_methods_fit name (RcDict pairs) = record { to = λ _. tt; from = λ _. refl }
tells_methods_fit name (Queue queue) = record { to = λ _. tt; from = λ _. refl }
