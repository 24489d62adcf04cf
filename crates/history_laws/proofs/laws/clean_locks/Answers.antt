use Rattle.history_laws.proofs.Clean.{clean_locks}
use Rattle.history_laws.proofs.laws.clean_locks.Goals as goal

pub returns : goal.returns
returns c t done = clean_locks t done (record {
  sound = c.commits_keep_images_sound.ensures.sound;
  image = c.commits_keep_images_sound.ensures.image;
  stays = c.commits_keep_images_sound.ensures.stays;
})
