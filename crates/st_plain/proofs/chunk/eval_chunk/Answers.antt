use Rattle.gem_language.specs.Sends.{chunk_value}
use Rattle.st_plain.proofs.chunk.eval_chunk.Goals as goal

pub returns : goal.returns
unfolding chunk_value
returns g c = c.activate_chunk.ensures
