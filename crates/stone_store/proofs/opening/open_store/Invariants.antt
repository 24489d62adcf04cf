use Rattle.stone_store.proofs.opening.open_store.Given as goal

abbrev pub ghosts-open_both : goal.ghosts-open_both
ghosts-open_both g a = record { name = a.blank.name; parts = a.blank.parts }
