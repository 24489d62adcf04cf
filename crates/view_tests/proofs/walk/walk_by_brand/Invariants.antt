use Rattle.view_tests.proofs.walk.walk_by_brand.Given as goal

abbrev pub ghosts-wrong_walk : goal.ghosts-wrong_walk
ghosts-wrong_walk a = record { name = a.blank.name; parts = a.blank.parts }
