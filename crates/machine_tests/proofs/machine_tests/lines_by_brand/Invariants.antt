use Rattle.machine_tests.proofs.machine_tests.lines_by_brand.Given as goal

abbrev pub ghosts-wrong_lines : goal.ghosts-wrong_lines
ghosts-wrong_lines g a = record { name = a.blank.name; parts = a.blank.parts }
