use Rattle.stone_tests.proofs.lock_tests.checkpoints.Given as goal

abbrev pub ghosts-check_checkpoints : goal.ghosts-check_checkpoints
ghosts-check_checkpoints g a = record { name = a.blank.name; parts = a.blank.parts }
