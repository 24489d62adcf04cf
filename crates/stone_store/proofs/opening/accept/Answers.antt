use Rattle.std.proofs.lemmas.Result.{err_from_is_err_and}
use Rattle.stone_store.proofs.Opens.{misfit_flaws, is_found, sound_flaws, goes_on_with}
use Rattle.stone_store.proofs.opening.accept.Goals as goal

pub returns-in-Some-clause-opens : goal.returns-in-Some-clause-opens
returns-in-Some-clause-opens c store is = misfit_flaws c.args.restored c.in-Some.at store c.in-Some.is is

pub returns-in_err-sound-clause-opens : goal.returns-in_err-sound-clause-opens
returns-in_err-sound-clause-opens c store is =
    let p = err_from_is_err_and c.from_residual.result c.from_residual.ensures.1 in
    rw (p.1, p.2) (sound_flaws c.args.restored store c.in_err-sound.field-0.0 c.in_default.is is c.in_err-sound.ensures.fault)

pub returns-clause-may_go_on : goal.returns-clause-may_go_on
returns-clause-may_go_on c = goes_on_with c.args.restored c.requires c.in_default.is c.in_ok-sound.ensures.sound

pub returns-clause-opens : goal.returns-clause-opens
returns-clause-opens c store is = is_found c.args.restored store c.in_default.is is c.in_ok-sound.ensures.sound
