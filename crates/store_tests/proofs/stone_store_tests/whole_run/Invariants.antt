use Rattle.store_tests.proofs.stone_store_tests.whole_run.Given as goal

abbrev pub ghosts-check_whole : goal.ghosts-check_whole
ghosts-check_whole g a = record { name = a.blank.name; parts = a.blank.parts }
