use Rattle.std.proofs.Common.{arith}
use Rattle.object_guard.proofs.Beside.{names_beside}
use Rattle.object_guard.proofs.missing.missing_names.Goals as goal

pub missing_in-requires : goal.missing_in-requires
missing_in-requires g c = names_beside (g.S.Sees.parts c.args.state.now) c.args.objects.now c.number.result
    c.requires.there (omega (arith, c.requires.names, c.number.ensures.number))
