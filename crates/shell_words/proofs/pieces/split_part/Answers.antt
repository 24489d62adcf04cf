use Rattle.std.proofs.Common.{sym, ◌∙◌}
use Rattle.shell_words.proofs.LineFronts.{parts_before_feed, parts_at_end}
use Rattle.shell_words.proofs.pieces.split_part.Goals as goal

pub returns-in-Some-clause-parts : goal.returns-in-Some-clause-parts
returns-in-Some-clause-parts c =
    parts_before_feed _ _ _ _ _ c.part_len.ensures.first c.split_at.ensures.front (sym c.split_at.ensures.back ∙ c.in-Some.ensures.cases.0)

pub returns-in-None-clause-parts : goal.returns-in-None-clause-parts
returns-in-None-clause-parts c =
    parts_at_end _ _ _ _ c.requires c.part_len.ensures.first c.split_at.ensures.front c.split_at.ensures.back c.in-None.ensures.cases
