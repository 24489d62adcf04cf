use Rattle.std.proofs.Common.{◌≡◌, ap₂, subst, sym}
use Rattle.gem_disk.specs.declared.disk.Which.TheVariants.{Extent, Log}
use Rattle.gem_disk.specs.Disk.{Files, CrashImages}
use Rattle.gem_disk.specs.Picked.{picked_file, IsExact}
use Rattle.gem_disk.proofs.History.{image_of, files}
use Rattle.gem_disk.proofs.Leaves.{picked_image}
use Rattle.gem_disk.proofs.recorded.Recorded.crash.Goals as goal

pub returns-clause-picked : goal.returns-clause-picked
returns-clause-picked c =
    let now : Files = record { extent = c.self.inside.extent.items; log = c.self.inside.log.items } in
    let extent : c.in_ok-extent.extent.items ≡ picked_file c.args.pick c.args.self Extent =
    image_of c.args.pick now c.self.inside.calls.items c.deref.result.now c.args.self Extent c.in_ok-extent.extent.items c.deref.ensures.value c.self.view_is c.in_ok-extent.ensures in
    let log : c.in_ok-log.log.items ≡ picked_file c.args.pick c.args.self Log =
    image_of c.args.pick now c.self.inside.calls.items c.deref-2.result.now c.args.self Log c.in_ok-log.log.items c.deref-2.ensures.value c.self.view_is c.in_ok-log.ensures in
    ap₂ files extent log

pub returns-clause-left : goal.returns-clause-left
returns-clause-left c =
    subst (CrashImages c.args.self) (sym (returns-clause-picked c)) (picked_image c.args.pick c.args.self (subst IsExact c.self.view_is c.self.invariant))
