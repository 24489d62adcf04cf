use Rattle.commit_tests.proofs.commit_check_tests.writes.Given as goal

abbrev pub ghosts-check_writes : goal.ghosts-check_writes
ghosts-check_writes g a = record { name = a.blank.name; parts = a.blank.parts }
