use Rattle.std.proofs.Common.{subst}
use Rattle.std.proofs.lemmas.Result.{err_from_is_err_and}
use Rattle.gem_disk.specs.Disk.{as_read}
use Rattle.stone_store.specs.Store.{store_of}
use Rattle.stone_store.specs.Opening.{OpensNot, IsFound}
use Rattle.stone_store.proofs.Opens.{rest_store, both_rest, same_store}
use Rattle.stone_store.proofs.opening.open_both.Goals as goal

pub returns-in_err-found-clause-flawed : goal.returns-in_err-found-clause-flawed
returns-in_err-found-clause-flawed g c tells =
    let new = g.D.Disk.past c.read_both.new.disk in
    let p = err_from_is_err_and c.from_residual-in_err-found.result c.from_residual-in_err-found.ensures.1 in
    rw (p.1, p.2) (subst (λ s. OpensNot s c.in_err-found.field-0.0) (same_store (g.D.Disk.past c.args.disk.now) new (c.in_ok-parts.ensures.same tells))
    (c.in_err-found.ensures.opens (store_of (as_read new))
    (rest_store new c.in_ok-parts.parts c.in_ok-parts.restored (c.in_ok-parts.ensures.rests tells))))

pub returns-clause-found : goal.returns-clause-found
returns-clause-found g c tells =
    let new = g.D.Disk.past c.read_both.new.disk in
    subst (λ s. IsFound s c.in_ok-found.found) (same_store (g.D.Disk.past c.args.disk.now) new (c.in_ok-parts.ensures.same tells))
    (c.in_ok-found.ensures.opens (store_of (as_read new))
    (rest_store new c.in_ok-parts.parts c.in_ok-parts.restored (c.in_ok-parts.ensures.rests tells)))

pub returns-clause-rests : goal.returns-clause-rests
returns-clause-rests g c tells =
    let new = g.D.Disk.past c.read_both.new.disk in
    let rest = c.in_ok-parts.ensures.rests tells in
    both_rest new c.in_ok-parts.parts c.in_ok-parts.restored c.in_ok-found.found rest
    (c.in_ok-found.ensures.opens (store_of (as_read new)) (rest_store new c.in_ok-parts.parts c.in_ok-parts.restored rest))
