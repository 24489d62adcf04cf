use Rattle.std.proofs.Common.{◌∙◌, ap, sym, length}
use Rattle.st_machine.specs.Layers.{Layers}
use Rattle.st_machine.proofs.Upper.{upper_slice}
use Rattle.st_machine.proofs.layers.Layers.upper.Goals as goal

pub returns : goal.returns
returns g c =
    upper_slice c.self.inside.items.items c.args.self.now.own c.self.inside.base c.args.count c.len.result
    (ap (λ (layers : Layers _). layers.own) c.self.view_is) c.requires c.self.invariant
    (c.len.ensures ∙ (sym c.deref.ensures.len ∙ ap length c.deref.ensures.value)) c.deref.result.now c.deref.ensures.value
