use Rattle.extent_tests.proofs.extent_plan_tests.plan_of_one_object.Given as goal

abbrev pub ghosts-check_plan : goal.ghosts-check_plan
ghosts-check_plan g a = record { name = a.blank.name; parts = a.blank.parts }
