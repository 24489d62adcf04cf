use Rattle.std.proofs.Common.{◌∙◌, arith}
use Rattle.object_guard.proofs.Keys.{dictionary_of}
use Rattle.object_guard.proofs.spelled.is_dictionary.Goals as goal

pub returns-then-len-lt-COUNT_LIMIT : goal.returns-then-len-lt-COUNT_LIMIT
returns-then-len-lt-COUNT_LIMIT c = c.are_entries.ensures
    ∙ dictionary_of c.args.pairs.now (omega (arith, c.if-len-lt-COUNT_LIMIT.true, c.len.ensures.len)) c.len.ensures.distinct
