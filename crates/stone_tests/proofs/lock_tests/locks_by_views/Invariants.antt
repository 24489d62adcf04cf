use Rattle.stone_tests.proofs.lock_tests.locks_by_views.Given as goal

abbrev pub ghosts-check_views : goal.ghosts-check_views
ghosts-check_views g a = record { name = a.blank.name; parts = a.blank.parts }
