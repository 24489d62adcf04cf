use Rattle.std.proofs.Common.{Some, sym, subst}
use Rattle.gem_keeper.specs.Found.{StandsFor}
use Rattle.stone_store.specs.Opening.{IsFound}
use Rattle.stone_store.proofs.Rests.{stored_is}
use Rattle.stone_store.proofs.Opens.{found_stands, same_store, stored_before}
use Rattle.stone_store.proofs.Keeps.{rests_now}
use Rattle.stone_store.proofs.opening.open_store.Goals as goal

pub returns-in-Ok-clause-stands : goal.returns-in-Ok-clause-stands
returns-in-Ok-clause-stands g c tells =
    let new = g.D.Disk.past c.open_both.new.disk in
    let rest = c.in-Ok.ensures.rests tells in
    rests_now g.D.Disk.past (record { disk = c.open_both.new.disk; parts = Some c.in-Ok.parts }) c.in-Ok.parts rest
    (StandsFor c.in-Ok.found.image c.in-Ok.found.number)
    (found_stands new c.in-Ok.parts rest c.in-Ok.found
    (subst (λ s. IsFound s c.in-Ok.found) (sym (same_store (g.D.Disk.past c.args.disk) new (c.in-Ok.ensures.same tells))) (c.in-Ok.ensures.found tells)))

pub returns-in-Ok-clause-stored : goal.returns-in-Ok-clause-stored
returns-in-Ok-clause-stored g c tells =
    let old = g.D.Disk.past c.args.disk in
    let new = g.D.Disk.past c.open_both.new.disk in
    stored_before old new (Some c.in-Ok.parts) (c.in-Ok.ensures.same tells) (stored_is new c.in-Ok.parts (c.in-Ok.ensures.rests tells))
