use Rattle.machine_tests.proofs.element_calls.elements_by_brand.Given as goal

abbrev pub ghosts-wrong_elements : goal.ghosts-wrong_elements
ghosts-wrong_elements a = record { name = a.blank.name; parts = a.blank.parts }
