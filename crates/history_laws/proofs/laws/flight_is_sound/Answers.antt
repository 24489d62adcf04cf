use Rattle.history_laws.proofs.Halts.{flight_image, flight_number}
use Rattle.history_laws.proofs.laws.flight_is_sound.Goals as goal

pub returns-clause-image : goal.returns-clause-image
returns-clause-image c t before more session number e serves serial split = (flight_image t (record {
  sound = c.commits_keep_images_sound.ensures.sound;
  image = c.commits_keep_images_sound.ensures.image;
  stays = c.commits_keep_images_sound.ensures.stays;
}) serves serial before more session number e split).0

pub returns-clause-sound : goal.returns-clause-sound
returns-clause-sound c t before more session number e serves serial split = (flight_image t (record {
  sound = c.commits_keep_images_sound.ensures.sound;
  image = c.commits_keep_images_sound.ensures.image;
  stays = c.commits_keep_images_sound.ensures.stays;
}) serves serial before more session number e split).1

pub returns-clause-number : goal.returns-clause-number
returns-clause-number c t before more session number e serial split =
    flight_number t serial before more session number e split
