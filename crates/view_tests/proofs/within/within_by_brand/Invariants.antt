use Rattle.view_tests.proofs.within.within_by_brand.Given as goal

abbrev pub ghosts-wrong_within : goal.ghosts-wrong_within
ghosts-wrong_within a = record { name = a.blank.name; parts = a.blank.parts }
