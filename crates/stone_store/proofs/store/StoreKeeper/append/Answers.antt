use Rattle.std.proofs.Common.{◌+◌, sym, subst}
use Rattle.gem_disk.specs.Disk.{as_read}
use Rattle.gem_image.specs.Image.{with_objects}
use Rattle.gem_keeper.specs.Found.{StandsFor}
use Rattle.gem_keeper.specs.Crashes.{KeepsOnly, StandsForEither}
use Rattle.stone_store.specs.Left.{FilesStandFor}
use Rattle.stone_store.specs.Whole.{StoreOf, store_moment, store_left}
use Rattle.stone_store.proofs.Crashing.{keeps_only}
use Rattle.stone_store.proofs.Keeps.{ok_fits}
use Rattle.stone_store.proofs.store.StoreKeeper.append.Goals as goal

pub append_to-requires-clause-next : goal.append_to-requires-clause-next
append_to-requires-clause-next g c tells =
    let given = c.requires.next tells in (
      given.0,
      given.1,
      given.2,
      subst (λ (s : StoreOf _). FilesStandFor given.0 given.1 (as_read (g.D.Disk.past s.disk))) (sym c.self.view_is) given.3.reads,
      given.4,
    )

pub returns-clause-any_moment : goal.returns-clause-any_moment
returns-clause-any_moment g c image number effect tells fits next =
    let past = g.D.Disk.past in
    let new : StoreOf _ = record { disk = c.append_to.new.disk; parts = c.append_to.new.parts } in
    let stands = subst (λ (s : StoreOf _). FilesStandFor image number (as_read (past s.disk))) (sym c.self.view_is) fits.reads in
    subst (λ (s : StoreOf _). KeepsOnly (store_moment past) (store_left past) s new (StandsForEither image number effect)) c.self.view_is
    (keeps_only past (StandsForEither image number effect)
    (record { disk = c.self.inside.disk; parts = c.self.inside.parts }) new
    (c.append_to.ensures.any_moment image number effect tells stands next))

pub returns-clause-acknowledged : goal.returns-clause-acknowledged
returns-clause-acknowledged g c image number effect tells fits next =
    let past = g.D.Disk.past in
    let stands = subst (λ (s : StoreOf _). FilesStandFor image number (as_read (past s.disk))) (sym c.self.view_is) fits.reads in
    ok_fits past c.append_to.result (record { disk = c.append_to.new.disk; parts = c.append_to.new.parts })
    (StandsFor (with_objects image effect.objects) (number + 1)) (c.append_to.ensures.rests tells) c.append_to.ensures.ready
    (c.append_to.ensures.acknowledged image number effect tells stands next)
