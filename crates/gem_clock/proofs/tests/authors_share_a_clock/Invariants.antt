use Rattle.gem_clock.proofs.tests.authors_share_a_clock.Given as goal

-- the clock that was just made
abbrev pub ghosts-share : goal.ghosts-share
ghosts-share g a = record { clock = a.clock }
