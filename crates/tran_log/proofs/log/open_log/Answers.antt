use Rattle.std.proofs.Common.{List, Ok, ap, subst, ◌∙◌}
use Rattle.std.proofs.lemmas.Result.{err_from_is_err_and}
use Rattle.tran_log.specs.declared.logged.Logged.{Logged}
use Rattle.tran_log.specs.Reads.{AreRead}
use Rattle.tran_log.specs.Resting.{IsAtRest}
use Rattle.tran_log.proofs.Replays.{gathered_all}
use Rattle.tran_log.proofs.log.open_log.Goals as goal

pub returns-in_err-log-clause-records : goal.returns-in_err-log-clause-records
returns-in_err-log-clause-records g c tells =
    let p = err_from_is_err_and c.from_residual.result c.from_residual.ensures.1 in
    rw (p.1, p.2) (c.in_err-log.ensures.broken tells)

pub returns-clause-records : goal.returns-clause-records
returns-clause-records g c tells =
    let replayed = c.in_ok-log.ensures.replayed in
    replayed.holds tells ∙ ap (λ (l : List Logged). Ok l) (gathered_all c.new-logged.result c.replay_log.new.replay replayed.logged
    (λ v. v.items) c.new-logged.ensures.items replayed.taken)

pub returns-clause-whole : goal.returns-clause-whole
returns-clause-whole g c =
    let replayed = c.in_ok-log.ensures.replayed in
    subst AreRead (gathered_all c.new-logged.result c.replay_log.new.replay replayed.logged
    (λ v. v.items) c.new-logged.ensures.items replayed.taken) replayed.read

pub returns-clause-at_rest : goal.returns-clause-at_rest
returns-clause-at_rest g c tells =
    let replayed = c.in_ok-log.ensures.replayed in
    subst (λ (l : List Logged). IsAtRest (g.D.Disk.past c.replay_log.new.disk) l c.in_ok-log.log)
    (gathered_all c.new-logged.result c.replay_log.new.replay replayed.logged
    (λ v. v.items) c.new-logged.ensures.items replayed.taken) (replayed.at_rest tells)
