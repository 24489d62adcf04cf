use Rattle.std.proofs.Common.{◌∙◌}
use Rattle.gem_disk.specs.declared.disk.Which.TheVariants.{Extent, Log}
use Rattle.gem_disk.proofs.History.{held_is}
use Rattle.gem_disk.proofs.recorded.Recorded.bytes.Goals as goal

pub returns-in-Extent : goal.returns-in-Extent
returns-in-Extent c =
    c.deref.ensures.value
    ∙ held_is (record { extent = c.self.inside.extent.items; log = c.self.inside.log.items }) c.args.self.now c.self.inside.calls.items c.self.view_is c.args.file Extent c.in-Extent.is

pub returns-in-Log : goal.returns-in-Log
returns-in-Log c =
    c.deref-in-Log.ensures.value
    ∙ held_is (record { extent = c.self.inside.extent.items; log = c.self.inside.log.items }) c.args.self.now c.self.inside.calls.items c.self.view_is c.args.file Log c.in-Log.is
