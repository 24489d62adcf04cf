use Rattle.std.proofs.Common.{◌≤◌, ℕ, List, length, sym, subst}
use Rattle.std.proofs.lemmas.Result.{on_ok_weaker}
use Rattle.gem_disk.specs.declared.disk.Which.TheVariants.{Extent, Log}
use Rattle.gem_disk.specs.Disk.{Files}
use Rattle.gem_disk.specs.Picked.{IsExact}
use Rattle.gem_disk.proofs.History.{held_is, changed, exact}
use Rattle.gem_disk.proofs.recorded.Recorded.change.Goals as goal

pub change-requires : goal.change-requires
change-requires c =
    let now : Files = record { extent = c.self.inside.extent.items; log = c.self.inside.log.items } in
    subst (λ (l : List ℕ). c.args.at ≤ length l) (sym (held_is now c.args.self.now c.self.inside.calls.items c.self.view_is c.args.file Extent c.in-Extent.is)) c.requires

pub change-requires-in-Log : goal.change-requires-in-Log
change-requires-in-Log c =
    let now : Files = record { extent = c.self.inside.extent.items; log = c.self.inside.log.items } in
    subst (λ (l : List ℕ). c.args.at ≤ length l) (sym (held_is now c.args.self.now c.self.inside.calls.items c.self.view_is c.args.file Log c.in-Log.is)) c.requires

pub invariant_of-self : goal.invariant_of-self
invariant_of-self c =
    let now : Files = record { extent = c.self.inside.extent.items; log = c.self.inside.log.items } in
    exact now c.args.self.now c.self.inside.calls.items c.self.view_is c.args.file Extent c.in-Extent.is
    c.change.new.calls.items c.args.kind c.args.at c.args.bytes.now c.change.new.held.items
    c.change.result c.requires (subst IsExact c.self.view_is c.self.invariant) c.change.ensures.call c.change.ensures.err

pub invariant_of-self-in-Log : goal.invariant_of-self-in-Log
invariant_of-self-in-Log c =
    let now : Files = record { extent = c.self.inside.extent.items; log = c.self.inside.log.items } in
    exact now c.args.self.now c.self.inside.calls.items c.self.view_is c.args.file Log c.in-Log.is
    c.change-in-Log.new.calls.items c.args.kind c.args.at c.args.bytes.now c.change-in-Log.new.held.items
    c.change-in-Log.result c.requires (subst IsExact c.self.view_is c.self.invariant) c.change-in-Log.ensures.call c.change-in-Log.ensures.err

pub returns-in-Extent-clause-ok : goal.returns-in-Extent-clause-ok
returns-in-Extent-clause-ok c =
    let now : Files = record { extent = c.self.inside.extent.items; log = c.self.inside.log.items } in
    on_ok_weaker c.change.result
    (changed now c.args.self.now c.self.inside.calls.items c.self.view_is c.args.file Extent c.in-Extent.is
    c.change.new.calls.items c.args.kind c.args.at c.args.bytes.now c.change.new.held.items)
    c.change.ensures.call

pub returns-in-Log-clause-ok : goal.returns-in-Log-clause-ok
returns-in-Log-clause-ok c =
    let now : Files = record { extent = c.self.inside.extent.items; log = c.self.inside.log.items } in
    on_ok_weaker c.change-in-Log.result
    (changed now c.args.self.now c.self.inside.calls.items c.self.view_is c.args.file Log c.in-Log.is
    c.change-in-Log.new.calls.items c.args.kind c.args.at c.args.bytes.now c.change-in-Log.new.held.items)
    c.change-in-Log.ensures.call
