use Rattle.machine_tests.proofs.machine_tests.sends_by_brand.Given as goal

abbrev pub ghosts-wrong_sends : goal.ghosts-wrong_sends
ghosts-wrong_sends g a = record { name = a.blank.name; parts = a.blank.parts }
