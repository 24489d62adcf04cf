use Rattle.stone_tests.proofs.lock_tests.locks.Given as goal

abbrev pub ghosts-check_locks : goal.ghosts-check_locks
ghosts-check_locks g a = record { name = a.blank.name; parts = a.blank.parts }
