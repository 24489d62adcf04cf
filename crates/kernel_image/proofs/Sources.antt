-- Tests of what a class's methods do, for tables whose tests compute.
use Rattle.std.proofs.Common.{◌≡◌, ◌<◌, ◌^◌, ℕ, Bool, true, false, ◌&&◌, length, List, Option, Some, None, Result, Ok, Err, All, refl, ap, arith}
use Rattle.std.specs.Prelude.{bytes_eq, nat_lt}
use Rattle.std.specs.List.{list_all}
use Rattle.std.proofs.lemmas.Bool.{false≢true, ltb-true}
use Rattle.std.proofs.lemmas.List.Sums.{AllPass-from_list_all}
use Rattle.std.proofs.lemmas.Slice.Eq.{bytes_eq-Decides}
use Rattle.gem_object.specs.texts.Bytes.{Bytes as Text}
use Rattle.gem_sound.specs.st_tree.Trees.{Program}
use Rattle.gem_sound.specs.st_grammar.Grammar.{method}
use Rattle.gem_sound.specs.st_grammar_laws.TreeOf.{tree_of, TextFault}
use Rattle.gem_object.specs.declared.body.MethodCode.{MethodCode}
use Rattle.gem_object.specs.declared.body.MethodCode.TheVariants.{Source, Primitive}
use Rattle.gem_object.specs.declared.body.Method.{Method}
use Rattle.gem_sound.specs.Kernel.{may_stand}
use Rattle.gem_sound.specs.Sound.{IsSourceOf, IsCodeOf, IsMethodOf}

abbrev has_selector : Text → Option Text → Bool
has_selector selector None = false
has_selector selector (Some other) = bytes_eq other selector

abbrev answers : Text → Result Program TextFault → Bool
answers selector (Err fault) = false
answers selector (Ok program) = has_selector selector program.selector

-- whether a method does what it may in the class of this number, on that side
abbrev code_test : ℕ → Bool → Text → MethodCode → Bool
code_test class class_side selector (Source text) = nat_lt (length text) 65536 && answers selector (tree_of method text)
code_test class class_side selector (Primitive number) = may_stand class class_side selector number

abbrev method_test : ℕ → Bool → Method → Bool
method_test class class_side entry = code_test class class_side entry.selector entry.code

abbrev pub methods_test : ℕ → Bool → List Method → Bool
methods_test class class_side methods = list_all (method_test class class_side) methods

same_selector : (selector : Text) (found : Option Text) → has_selector selector found ≡ true → found ≡ Some selector
same_selector selector None passed = absurd (false≢true passed)
same_selector selector (Some other) passed = ap Some ((bytes_eq-Decides other selector).0 passed)

by_tree : (selector text : Text) → length text < 2 ^ 24 → (tree : Result Program TextFault)
    → tree_of method text ≡ tree → answers selector tree ≡ true → IsSourceOf selector text
by_tree selector text short (Err fault) is passed = absurd (false≢true passed)
by_tree selector text short (Ok program) is passed = record {
  short = short;
  program = program;
  tree = is;
  answers = same_selector selector program.selector passed;
}

pub both : (a b : Bool) → (a && b) ≡ true → (a ≡ true) × (b ≡ true)
both true b passed = (refl, passed)
both false b passed = absurd (false≢true passed)

code_tells : (class : ℕ) (class_side : Bool) (selector : Text) (code : MethodCode)
    → code_test class class_side selector code ≡ true → IsCodeOf class class_side selector code
code_tells class class_side selector (Source text) passed =
    let parts = both (nat_lt (length text) 65536) (answers selector (tree_of method text)) passed in
    let few : length text < 65536 = ltb-true (length text) 65536 parts.0 in
    by_tree selector text (omega (arith, few)) (tree_of method text) refl parts.1
code_tells class class_side selector (Primitive number) passed = passed

-- what the test says of all methods of a class on one side
pub methods_tell : (class : ℕ) (class_side : Bool) (methods : List Method)
    → methods_test class class_side methods ≡ true → All (IsMethodOf class class_side) methods
methods_tell class class_side methods passed k d below =
    code_tells class class_side _ _ (AllPass-from_list_all (method_test class class_side) methods passed k d below)
