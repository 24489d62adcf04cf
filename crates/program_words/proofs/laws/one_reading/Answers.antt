use Rattle.program_words.proofs.Unique.{one_reading}
use Rattle.program_words.proofs.laws.one_reading.Goals as goal

pub returns : goal.returns
returns c = one_reading
