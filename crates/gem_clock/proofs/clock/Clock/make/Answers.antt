use Rattle.gem_clock.proofs.Moves.{begins}
use Rattle.gem_clock.proofs.clock.Clock.make.Goals as goal

pub of_words-requires : goal.of_words-requires
of_words-requires g c = begins c.args.authors
