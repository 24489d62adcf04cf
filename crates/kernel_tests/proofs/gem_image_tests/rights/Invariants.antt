use Rattle.kernel_tests.proofs.gem_image_tests.rights.Given as goal

abbrev pub ghosts-check_rights : goal.ghosts-check_rights
ghosts-check_rights g a = record { name = a.blank.name; parts = a.blank.parts }
