-- The script of the set-up.
use Rattle.std.proofs.Common.{◌≡◌, ◌≢◌, false, List, [], ◌∷◌, length, refl, ap, codes, arith}
use Rattle.gem_meaning.specs.texts.Bytes.{Bytes}
use Rattle.gem_meaning.specs.shell_words.Lines.{IsBody}
use Rattle.gem_meaning.specs.shell_words.Script.{SessionCommands}
use Rattle.gem_meaning.specs.shell_words.ScriptGrammar.{session_line, chunk_lines, command_line, at_once, after, ReadsScript}
use Rattle.gem_meaning.specs.shell_words.declared.script.Command.{Command}
use Rattle.gem_meaning.specs.shell_words.declared.script.Command.TheVariants.{Chunk, Commit}
use Rattle.load_maker.specs.Scripts.{setup_text}
use Rattle.gem_server.proofs.LoadTrees.{setup_line, setup_chunk}

abbrev pub curator : Bytes
curator = codes "DataCurator"

abbrev pub setup_commands : List Command
setup_commands = Chunk false setup_chunk ∷ Commit ∷ []

abbrev pub setup_script : List SessionCommands
setup_script = record { user = curator; commands = setup_commands } ∷ []

-- ---- the reading

abbrev chunk_body : List Bytes
chunk_body = setup_line ∷ []

no_end : setup_line ≢ codes "%"
no_end same = let lengths : 79 ≡ 1 = ap length same in absurd (omega (arith, lengths))

body_is : IsBody (setup_line ∷ codes "%" ∷ codes "commit" ∷ []) chunk_body (codes "commit" ∷ [])
body_is = record { whole = refl; inner = (no_end, tt) }

pub setup_reads : ReadsScript setup_text setup_script
setup_reads = record {
  short = omega arith;
  plain = (refl, (refl, (refl, (refl, (refl, tt)))));
  read =
      after (session_line (codes "session DataCurator") curator refl (refl, λ same. absurd cc) refl (omega arith) refl)
      (after (chunk_lines (codes "run") (Chunk false setup_chunk) (setup_line ∷ codes "%" ∷ codes "commit" ∷ []) chunk_body refl
      (refl, refl) refl body_is (omega arith) refl)
      (after (command_line (codes "commit") Commit refl refl refl refl) (at_once refl refl)));
}
