use Rattle.std.proofs.Common.{[], ◌∷◌}
use Rattle.gem_clock.proofs.clock.Clock.advance.Given as goal

-- the pair that is added
abbrev pub ghosts-add : goal.ghosts-add
ghosts-add g a = record { pairs = (a.author, a.entry.now) ∷ [] }
