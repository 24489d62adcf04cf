use Rattle.extent_tests.proofs.page_file_tests.pages_that_are_written.Given as goal

abbrev pub ghosts-check_pages : goal.ghosts-check_pages
ghosts-check_pages g a = record { name = a.blank.name; parts = a.blank.parts }
