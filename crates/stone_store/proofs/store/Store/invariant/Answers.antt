use Rattle.std.proofs.Common.{subst}
use Rattle.gem_disk.specs.Disk.{as_read}
use Rattle.stone_store.specs.Whole.{StoreOf, StoresBy}
use Rattle.stone_store.proofs.Rests.{stores_by}
use Rattle.stone_store.proofs.store.Store.invariant.Goals as goal

pub returns-clause-stored : goal.returns-clause-stored
returns-clause-stored g c tells = subst (λ (s : StoreOf _). StoresBy (as_read (g.D.Disk.past s.disk)) s.parts) c.self.view_is
    (stores_by (g.D.Disk.past c.self.inside.disk) c.self.inside.parts (c.self.invariant tells))
