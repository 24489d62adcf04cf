use Rattle.gem_clock.proofs.clock.Clock.stamp.Given as goal

-- the author that is given away
abbrev pub ghosts-give : goal.ghosts-give
ghosts-give g a = record { author = a.author }
