use Rattle.shelves_tests.proofs.radix_pages_tests.kept_value.Given as goal

abbrev pub ghosts-keep_one : goal.ghosts-keep_one
ghosts-keep_one g a = record { name = a.blank.name; parts = a.blank.parts }
