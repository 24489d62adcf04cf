use Rattle.history_laws.proofs.Histories.{all_sound}
use Rattle.history_laws.proofs.laws.images_are_sound.Goals as goal

pub returns-clause-image : goal.returns-clause-image
returns-clause-image c t number serves serial from to =
    ((all_sound t (record {
      sound = c.commits_keep_images_sound.ensures.sound;
      image = c.commits_keep_images_sound.ensures.image;
      stays = c.commits_keep_images_sound.ensures.stays;
    }) serves serial).images number from to).image

pub returns-clause-sound : goal.returns-clause-sound
returns-clause-sound c t number serves serial from to =
    ((all_sound t (record {
      sound = c.commits_keep_images_sound.ensures.sound;
      image = c.commits_keep_images_sound.ensures.image;
      stays = c.commits_keep_images_sound.ensures.stays;
    }) serves serial).images number from to).sound

pub returns-clause-stays : goal.returns-clause-stays
returns-clause-stays c t number serves serial from to =
    ((all_sound t (record {
      sound = c.commits_keep_images_sound.ensures.sound;
      image = c.commits_keep_images_sound.ensures.image;
      stays = c.commits_keep_images_sound.ensures.stays;
    }) serves serial).images number from to).stays
