use Rattle.std.proofs.Common.{sym, ◌∙◌}
use Rattle.shell_words.specs.Lines.{is_space}
use Rattle.shell_words.proofs.LineFronts.{parts_at_first, one_part_at_end}
use Rattle.shell_words.proofs.pieces.split_word.Goals as goal

pub returns-in-Some : goal.returns-in-Some
returns-in-Some c = parts_at_first is_space _ _ _ _ _ c.word_len.ensures.first c.split_at.ensures.front (sym c.split_at.ensures.back ∙ c.in-Some.ensures.cases.0)

pub returns-in-None : goal.returns-in-None
returns-in-None c = (one_part_at_end is_space _ _ _ _ c.word_len.ensures.first c.split_at.ensures.front c.split_at.ensures.back c.in-None.ensures.cases).0
