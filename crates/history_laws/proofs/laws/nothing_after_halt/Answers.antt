use Rattle.history_laws.proofs.Halts.{locks_alone, halted_once, image_as_it_was, number_as_it_was}
use Rattle.history_laws.proofs.laws.nothing_after_halt.Goals as goal

pub returns-clause-locks : goal.returns-clause-locks
returns-clause-locks c t before more session number entry serial split =
    locks_alone t serial before more session number entry split

pub returns-clause-image : goal.returns-clause-image
returns-clause-image c t before more session number entry serial split =
    image_as_it_was t serial before more session number entry split

pub returns-clause-once : goal.returns-clause-once
returns-clause-once c t before more session number entry serial split =
    halted_once t serial before more session number entry split

pub returns-clause-number : goal.returns-clause-number
returns-clause-number c t before more session number entry serial split =
    number_as_it_was t serial before more session number entry split
