use Rattle.view_tests.proofs.looks.views_by_brand.Given as goal

abbrev pub ghosts-wrong_views : goal.ghosts-wrong_views
ghosts-wrong_views a = record { name = a.blank.name; parts = a.blank.parts }
