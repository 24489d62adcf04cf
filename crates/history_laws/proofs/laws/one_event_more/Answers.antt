use Rattle.history_laws.proofs.OneMore.{consistent_first, placed_more, halted_more, checked_more, check_halted_more, held_more, dropped_more, left_more}
use Rattle.history_laws.proofs.laws.one_event_more.Goals as goal

pub returns-clause-begins : goal.returns-clause-begins
returns-clause-begins c = consistent_first

pub returns-clause-placed : goal.returns-clause-placed
returns-clause-placed c t done = placed_more t done (record {
  sound = c.commits_keep_images_sound.ensures.sound;
  image = c.commits_keep_images_sound.ensures.image;
  stays = c.commits_keep_images_sound.ensures.stays;
})

pub returns-clause-halted : goal.returns-clause-halted
returns-clause-halted c t done = halted_more t done (record {
  sound = c.commits_keep_images_sound.ensures.sound;
  image = c.commits_keep_images_sound.ensures.image;
  stays = c.commits_keep_images_sound.ensures.stays;
})

pub returns-clause-checked : goal.returns-clause-checked
returns-clause-checked c = checked_more

pub returns-clause-check_halted : goal.returns-clause-check_halted
returns-clause-check_halted c = check_halted_more

pub returns-clause-held : goal.returns-clause-held
returns-clause-held c = held_more

pub returns-clause-dropped : goal.returns-clause-dropped
returns-clause-dropped c = dropped_more

pub returns-clause-left : goal.returns-clause-left
returns-clause-left c = left_more
