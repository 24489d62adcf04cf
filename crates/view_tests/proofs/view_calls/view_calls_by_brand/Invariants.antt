use Rattle.view_tests.proofs.view_calls.view_calls_by_brand.Given as goal

abbrev pub ghosts-wrong_calls : goal.ghosts-wrong_calls
ghosts-wrong_calls a = record { name = a.blank.name; parts = a.blank.parts }
