use Rattle.std.proofs.Common.{map, string_bytes}
use Rattle.program_words.proofs.Commands.{says_of, is_usage_of}
use Rattle.program_words.proofs.reading.read_words.Goals as goal

pub returns-clause-read : goal.returns-clause-read
returns-clause-read c = says_of (map string_bytes c.args.words.now) c.words_of.result _ c.ok_or.result
    c.ok_or.ensures.value c.words_of.ensures

pub returns-clause-usage : goal.returns-clause-usage
returns-clause-usage c = is_usage_of (map string_bytes c.args.words.now) c.words_of.result _ c.ok_or.result
    c.ok_or.ensures.value c.words_of.ensures
