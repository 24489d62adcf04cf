-- The script of the tally.
use Rattle.std.proofs.Common.{◌≡◌, ◌≢◌, true, List, [], ◌∷◌, length, refl, ap, codes, arith}
use Rattle.gem_meaning.specs.texts.Bytes.{Bytes}
use Rattle.gem_meaning.specs.shell_words.Lines.{IsBody}
use Rattle.gem_meaning.specs.shell_words.Script.{SessionCommands}
use Rattle.gem_meaning.specs.shell_words.ScriptGrammar.{session_line, chunk_lines, at_once, after, ReadsScript}
use Rattle.gem_meaning.specs.shell_words.declared.script.Command.{Command}
use Rattle.gem_meaning.specs.shell_words.declared.script.Command.TheVariants.{Chunk}
use Rattle.load_maker.specs.Scripts.{tally_text}
use Rattle.gem_server.proofs.SetupScript.{curator}
use Rattle.gem_server.proofs.TallyTrees.{value_chunk, size_chunk}

abbrev pub tally_commands : List Command
tally_commands = Chunk true value_chunk ∷ Chunk true size_chunk ∷ []

abbrev pub tally_script : List SessionCommands
tally_script = record { user = curator; commands = tally_commands } ∷ []

-- ---- the reading

abbrev value_line : Bytes
value_line = codes "Hits value"

abbrev size_line : Bytes
size_line = codes "Names size"

abbrev size_lines : List Bytes
size_lines = codes "printit" ∷ size_line ∷ codes "%" ∷ []

no_end : (line : Bytes) → length line ≡ 10 → line ≢ codes "%"
no_end line ten same = let one : length line ≡ 1 = ap length same in absurd (omega (arith, ten, one))

value_body : IsBody (value_line ∷ codes "%" ∷ size_lines) (value_line ∷ []) size_lines
value_body = record { whole = refl; inner = (no_end value_line refl, tt) }

size_body : IsBody (size_line ∷ codes "%" ∷ []) (size_line ∷ []) []
size_body = record { whole = refl; inner = (no_end size_line refl, tt) }

pub tally_reads : ReadsScript tally_text tally_script
tally_reads = record {
  short = omega arith;
  plain = (refl, (refl, (refl, (refl, (refl, (refl, (refl, tt)))))));
  read =
      after (session_line (codes "session DataCurator") curator refl (refl, λ same. absurd cc) refl (omega arith) refl)
      (after (chunk_lines (codes "printit") (Chunk true value_chunk)
      (value_line ∷ codes "%" ∷ size_lines) (value_line ∷ []) refl (refl, refl) refl value_body (omega arith) refl)
      (after (chunk_lines (codes "printit") (Chunk true size_chunk)
      (size_line ∷ codes "%" ∷ []) (size_line ∷ []) refl (refl, refl) refl size_body (omega arith) refl)
      (at_once refl refl)));
}
