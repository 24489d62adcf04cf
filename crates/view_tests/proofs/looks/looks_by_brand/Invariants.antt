use Rattle.view_tests.proofs.looks.looks_by_brand.Given as goal

abbrev pub ghosts-wrong_looks : goal.ghosts-wrong_looks
ghosts-wrong_looks a = record { name = a.blank.name; parts = a.blank.parts }
