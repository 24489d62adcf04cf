use Rattle.std.proofs.Common.{◌∙◌, ap}
use Rattle.std.specs.List.{flat_map}
use Rattle.std.proofs.lemmas.List.{take_all}
use Rattle.object_guard.proofs.Lines.{missing_for, missing_all}
use Rattle.object_guard.proofs.missing.missing_in.Goals as goal

pub returns : goal.returns
returns g c = c.loop-object.invariant
    ∙ ap (flat_map (missing_for (g.S.Sees.parts c.args.state.now)))
    (take_all c.loop-object.object-index c.args.objects.now c.loop-object-test.false)
    ∙ missing_all (g.S.Sees.parts c.args.state.now) c.args.objects.now
