use Rattle.body_codec.proofs.Lengths.{object_long, effect_long}
use Rattle.body_codec.proofs.laws.length_is_size.Goals as goal

pub returns-clause-objects : goal.returns-clause-objects
returns-clause-objects c = object_long

pub returns-clause-effects : goal.returns-clause-effects
returns-clause-effects c = effect_long
