use Rattle.history_laws.proofs.Shown.{shown_after_view, shown_stands}
use Rattle.history_laws.proofs.laws.shown_after_view.Goals as goal

pub returns-clause-after : goal.returns-clause-after
returns-clause-after c t done = shown_after_view t done (record {
  sound = c.commits_keep_images_sound.ensures.sound;
  image = c.commits_keep_images_sound.ensures.image;
  stays = c.commits_keep_images_sound.ensures.stays;
})

pub returns-clause-stands : goal.returns-clause-stands
returns-clause-stands c = shown_stands
