use Rattle.gem_language.proofs.LiteralReadings.{has_literal, only_literal, long_literal, has_long}
use Rattle.gem_language.proofs.laws.literals_are_read.Goals as goal

pub returns-clause-value : goal.returns-clause-value
returns-clause-value c setting tree state answer after comes = has_literal setting tree state answer after comes

pub returns-clause-only : goal.returns-clause-only
returns-clause-only c setting tree state answer after short has =
    only_literal setting tree state answer after short has

pub returns-clause-long : goal.returns-clause-long
returns-clause-long c setting tree state has = long_literal setting tree state has

pub returns-clause-short : goal.returns-clause-short
returns-clause-short c tree is = has_long tree is
