use Rattle.machine_tests.proofs.machine_calls.objects_by_brand.Given as goal

abbrev pub ghosts-wrong_objects : goal.ghosts-wrong_objects
ghosts-wrong_objects a = record { name = a.blank.name; parts = a.blank.parts }
