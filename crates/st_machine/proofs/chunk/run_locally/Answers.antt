use Rattle.gem_language.specs.Sends.{chunk_value}
use Rattle.st_machine.proofs.chunk.run_locally.Goals as goal

pub returns : goal.returns
unfolding chunk_value
returns g c = c.activate_chunk.ensures
