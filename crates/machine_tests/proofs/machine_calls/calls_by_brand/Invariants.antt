use Rattle.machine_tests.proofs.machine_calls.calls_by_brand.Given as goal

abbrev pub ghosts-wrong_calls : goal.ghosts-wrong_calls
ghosts-wrong_calls a = record { name = a.blank.name; parts = a.blank.parts }
