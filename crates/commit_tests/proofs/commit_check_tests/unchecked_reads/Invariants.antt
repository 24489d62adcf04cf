use Rattle.commit_tests.proofs.commit_check_tests.unchecked_reads.Given as goal

abbrev pub ghosts-check_unchecked_reads : goal.ghosts-check_unchecked_reads
ghosts-check_unchecked_reads g a = record { name = a.blank.name; parts = a.blank.parts }
