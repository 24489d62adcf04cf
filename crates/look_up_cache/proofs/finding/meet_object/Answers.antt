use Rattle.look_up_cache.proofs.finding.meet_object.Goals as goal

pub returns : goal.returns
returns c = λ seen begins all. c.remember_object.ensures seen begins all
