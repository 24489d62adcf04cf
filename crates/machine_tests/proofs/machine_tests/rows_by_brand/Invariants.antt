use Rattle.machine_tests.proofs.machine_tests.rows_by_brand.Given as goal

abbrev pub ghosts-wrong_rows : goal.ghosts-wrong_rows
ghosts-wrong_rows g a = record { name = a.blank.name; parts = a.blank.parts }
