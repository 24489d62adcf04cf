use Rattle.object_programs.proofs.Spells.{tells_spelled}
use Rattle.object_programs.proofs.MethodRules.{tells_methods_fit}
use Rattle.object_programs.proofs.laws.what_is_spelled.Goals as goal

pub returns-clause-bodies : goal.returns-clause-bodies
returns-clause-bodies c body =
    let tells = tells_spelled body in
    (tells.to, tells.from)

pub returns-clause-methods : goal.returns-clause-methods
returns-clause-methods c name body =
    let tells = tells_methods_fit name body in
    (tells.to, tells.from)
