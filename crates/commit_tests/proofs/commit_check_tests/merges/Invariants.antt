use Rattle.commit_tests.proofs.commit_check_tests.merges.Given as goal

abbrev pub ghosts-check_merges : goal.ghosts-check_merges
ghosts-check_merges g a = record { name = a.blank.name; parts = a.blank.parts }
