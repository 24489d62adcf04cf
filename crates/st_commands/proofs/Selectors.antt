-- A method that was read has its selector, so its source may stand in a class under it.
use Rattle.std.proofs.Common.{subst, ◌≡◌, refl, ap, ◌∙◌, true, List, bytes_eq, Some}
use Rattle.std.proofs.lemmas.Slice.Eq.{bytes_eq-Decides}
use Rattle.gem_object.specs.texts.Bytes.{Bytes as Text}
use Rattle.st_tree.specs.Trees.{Program}
use Rattle.object_programs.specs.st_grammar.Grammar.{Word, Kept, ReadsProgram, a_method, method}
use Rattle.object_programs.specs.st_grammar_laws.TreeOf.{tree_of}
use Rattle.object_programs.specs.Methods.{has_selector, answers_to}
use Rattle.gem_language.specs.Commands.{selector_of}
use Rattle.st_parser.specs.Parsed.{IsTree}

selected : {kept : Kept} {program : Program} {words : List Word} → ReadsProgram kept method program words
    → program.selector ≡ Some (selector_of program)
selected (a_method pattern temps body) = refl

itself : (selector : Text) → bytes_eq selector selector ≡ true
itself selector = (bytes_eq-Decides selector selector).1 refl

pub method_answers : (source bytes : Text) (tree : Program) → bytes ≡ source → IsTree method bytes tree
    → answers_to (selector_of tree) (tree_of method source) ≡ true
method_answers source bytes tree same is =
    let At : Text → Type 0 = λ one. answers_to (selector_of tree) (tree_of method one) ≡ true in
    subst At same (ap (answers_to (selector_of tree)) is.is
    ∙ (ap (has_selector (selector_of tree)) (selected is.reads.2) ∙ itself (selector_of tree)))
