use Rattle.running_tests.proofs.calls.calls_by_brand.Given as goal

abbrev pub ghosts-wrong_calls : goal.ghosts-wrong_calls
ghosts-wrong_calls a = record { name = a.blank.name; parts = a.blank.parts }
