use Rattle.body_codec.proofs.Apart.{object_apart, effect_apart}
use Rattle.body_codec.proofs.laws.no_prefix.Goals as goal

pub returns-clause-objects : goal.returns-clause-objects
returns-clause-objects c = object_apart

pub returns-clause-effects : goal.returns-clause-effects
returns-clause-effects c = effect_apart
