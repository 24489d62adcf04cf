use Rattle.gem_server.proofs.alone.first_image.Given as goal

abbrev pub ghosts-built_image : goal.ghosts-built_image
ghosts-built_image a = record { name = a.blank.name; parts = a.blank.parts }
