use Rattle.std.proofs.Common.{◌∙◌, arith}
use Rattle.object_guard.proofs.Keys.{key_dictionary_of}
use Rattle.object_guard.proofs.spelled.is_key_dictionary.Goals as goal

pub returns-then-pairs-lt-COUNT_LIMIT : goal.returns-then-pairs-lt-COUNT_LIMIT
returns-then-pairs-lt-COUNT_LIMIT c = c.all_key_pairs.ensures
    ∙ key_dictionary_of c.args.dict.now c.pairs-pairs.result.now c.pairs-pairs.ensures.pairs
    (omega (arith, c.if-pairs-lt-COUNT_LIMIT.true)) c.pairs-pairs.ensures.dict
