use Rattle.sessions_tests.proofs.gem_session_tests.beside_lock.Given as goal

abbrev pub ghosts-opened : goal.ghosts-opened
ghosts-opened g a = record { name = a.blank.name; parts = a.blank.parts }
