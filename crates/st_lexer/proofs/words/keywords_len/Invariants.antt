use Rattle.std.proofs.Common.{◌+◌, ◌-◌, length}
use Rattle.st_lexer.proofs.Scans.{InKeywords}
use Rattle.st_lexer.proofs.words.keywords_len.Given as goal

abbrev pub invariant-bytes : goal.invariant-bytes
invariant-bytes l = InKeywords l.text l.done l.here

abbrev pub decreases-bytes : goal.decreases-bytes
decreases-bytes l = length l.text - (l.done + l.here)
