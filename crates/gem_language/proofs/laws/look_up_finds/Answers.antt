use Rattle.gem_language.proofs.LookUps.{found_for}
use Rattle.gem_language.proofs.OneFound.{one_for}
use Rattle.gem_language.proofs.laws.look_up_finds.Goals as goal

pub returns-clause-found : goal.returns-clause-found
returns-clause-found c to_super frame receiver selector setting state found after is =
    (found_for setting frame to_super receiver selector state found after is).0

pub returns-clause-touches : goal.returns-clause-touches
returns-clause-touches c to_super frame receiver selector setting state found after is =
    (found_for setting frame to_super receiver selector state found after is).1

pub returns-clause-one : goal.returns-clause-one
returns-clause-one c objects frame to_super receiver selector found other first second =
    one_for objects frame to_super receiver selector found other first second
