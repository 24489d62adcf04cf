-- Sources of methods without a tree.
use Rattle.std.proofs.Common.{◌≡◌, subst, ℕ, None}
use Rattle.gem_object.specs.texts.Bytes.{Bytes as Text}
use Rattle.object_programs.specs.st_grammar.Grammar.{method}
use Rattle.st_parser.specs.Parsed.{IsFault}
use Rattle.st_parser.specs.declared.faults.ParseFault.TheVariants.{Rule}
use Rattle.st_commands.specs.Sources.{IsTreeOf}

-- A source that the parser refuses has no tree.
pub none_read : (source bytes : Text) (place rule : ℕ) → bytes ≡ source → IsFault method bytes (Rule place rule)
    → IsTreeOf source None
none_read source bytes place rule same (broken, is, fails) =
    let At : Text → Type 0 = λ text. IsTreeOf text None in
    subst At same (record { place = place; rule = broken }, fails.is)
