use Rattle.sessions_tests.proofs.gate_tests.ends.Given as goal

abbrev pub ghosts-opened : goal.ghosts-opened
ghosts-opened g a = record { name = a.blank.name; parts = a.blank.parts }
