use Rattle.std.proofs.Common.{map, string_bytes, length}
use Rattle.program_words.proofs.Choices.{Passed}
use Rattle.program_words.proofs.demo.read_settings.Given as goal

-- the first words were read, and the rest is left
abbrev pub invariant-loop-rest : goal.invariant-loop-rest
invariant-loop-rest l = Passed (map string_bytes l.words) (map string_bytes l.rest) l.settings

abbrev pub decreases-loop-rest : goal.decreases-loop-rest
decreases-loop-rest l = length l.rest
