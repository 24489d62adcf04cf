use Rattle.extent_tests.proofs.page_file_tests.first_checkpoint_that_stops.Given as goal

abbrev pub ghosts-check_crashes : goal.ghosts-check_crashes
ghosts-check_crashes g a = record { name = a.blank.name; parts = a.blank.parts }
