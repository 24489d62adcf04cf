use Rattle.shelves_tests.proofs.radix_pages_tests.greatest_key.Given as goal

abbrev pub ghosts-set_greatest : goal.ghosts-set_greatest
ghosts-set_greatest g a = record { name = a.blank.name; parts = a.blank.parts }
