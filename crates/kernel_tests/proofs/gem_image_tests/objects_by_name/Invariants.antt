use Rattle.kernel_tests.proofs.gem_image_tests.objects_by_name.Given as goal

abbrev pub ghosts-check_objects : goal.ghosts-check_objects
ghosts-check_objects g a = record { name = a.blank.name; parts = a.blank.parts }
