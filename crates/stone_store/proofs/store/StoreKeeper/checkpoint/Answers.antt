use Rattle.std.proofs.Common.{subst}
use Rattle.gem_keeper.specs.Found.{StandsFor}
use Rattle.gem_keeper.specs.Crashes.{KeepsOnly}
use Rattle.stone_store.specs.Whole.{StoreOf, store_moment, store_left}
use Rattle.stone_store.proofs.Crashing.{keeps_only}
use Rattle.stone_store.proofs.Keeps.{ok_fits}
use Rattle.stone_store.proofs.store.StoreKeeper.checkpoint.Goals as goal

pub returns-clause-any_moment : goal.returns-clause-any_moment
returns-clause-any_moment g c tells =
    let past = g.D.Disk.past in
    let new : StoreOf _ = record { disk = c.checkpoint_to.new.disk; parts = c.checkpoint_to.new.parts } in
    subst (λ (s : StoreOf _). KeepsOnly (store_moment past) (store_left past) s new (StandsFor c.args.image.now c.args.number)) c.self.view_is
    (keeps_only past (StandsFor c.args.image.now c.args.number)
    (record { disk = c.self.inside.disk; parts = c.self.inside.parts }) new (c.checkpoint_to.ensures.any_moment tells))

pub returns-clause-acknowledged : goal.returns-clause-acknowledged
returns-clause-acknowledged g c tells =
    ok_fits g.D.Disk.past c.checkpoint_to.result (record { disk = c.checkpoint_to.new.disk; parts = c.checkpoint_to.new.parts })
    (StandsFor c.args.image.now c.args.number) (c.checkpoint_to.ensures.rests tells) c.checkpoint_to.ensures.ready
    (c.checkpoint_to.ensures.acknowledged tells)
