use Rattle.plain_state.proofs.laws.begins_on_sound_images.Goals as goal

pub returns-clause-image : goal.returns-clause-image
returns-clause-image c = c.guard_admits.ensures.image

pub returns-clause-later : goal.returns-clause-later
returns-clause-later c = c.sound_at_place.ensures
