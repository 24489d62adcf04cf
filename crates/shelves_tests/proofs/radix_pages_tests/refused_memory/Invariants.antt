use Rattle.shelves_tests.proofs.radix_pages_tests.refused_memory.Given as goal

abbrev pub ghosts-insert_few : goal.ghosts-insert_few
ghosts-insert_few g a = record { name = a.blank.name; parts = a.blank.parts }
