use Rattle.history_laws.proofs.Histories.{all_sound}
use Rattle.history_laws.proofs.laws.names_are_free.Goals as goal

pub returns-clause-free : goal.returns-clause-free
returns-clause-free c t session serves serial one = (all_sound t (record {
  sound = c.commits_keep_images_sound.ensures.sound;
  image = c.commits_keep_images_sound.ensures.image;
  stays = c.commits_keep_images_sound.ensures.stays;
}) serves serial).free session one

pub returns-clause-some : goal.returns-clause-some
returns-clause-some c t session serves serial = (all_sound t (record {
  sound = c.commits_keep_images_sound.ensures.sound;
  image = c.commits_keep_images_sound.ensures.image;
  stays = c.commits_keep_images_sound.ensures.stays;
}) serves serial).some_name session
