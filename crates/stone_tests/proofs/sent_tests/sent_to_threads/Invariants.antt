use Rattle.stone_tests.proofs.sent_tests.sent_to_threads.Given as goal

abbrev pub ghosts-check_sent : goal.ghosts-check_sent
ghosts-check_sent g a = record { name = a.blank.name; parts = a.blank.parts }
