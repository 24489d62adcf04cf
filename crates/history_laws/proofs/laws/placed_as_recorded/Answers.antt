use Rattle.history_laws.proofs.Placed.{same_at_place, placed_as_recorded}
use Rattle.history_laws.proofs.laws.placed_as_recorded.Goals as goal

pub returns-clause-placed : goal.returns-clause-placed
returns-clause-placed c t done = placed_as_recorded t done (record {
  sound = c.commits_keep_images_sound.ensures.sound;
  image = c.commits_keep_images_sound.ensures.image;
  stays = c.commits_keep_images_sound.ensures.stays;
})

pub returns-clause-recorded : goal.returns-clause-recorded
returns-clause-recorded c t done serves serial recorded none =
    (same_at_place t done (record {
      sound = c.commits_keep_images_sound.ensures.sound;
      image = c.commits_keep_images_sound.ensures.image;
      stays = c.commits_keep_images_sound.ensures.stays;
    }) serves serial recorded none).recorded

pub returns-clause-effect : goal.returns-clause-effect
returns-clause-effect c t done serves serial recorded none =
    (same_at_place t done (record {
      sound = c.commits_keep_images_sound.ensures.sound;
      image = c.commits_keep_images_sound.ensures.image;
      stays = c.commits_keep_images_sound.ensures.stays;
    }) serves serial recorded none).effect
