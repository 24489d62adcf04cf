use Rattle.gem_language.proofs.NameReadings as names
use Rattle.gem_language.proofs.laws.names_are_read.Goals as goal

pub returns-clause-global : goal.returns-clause-global
returns-clause-global c setting name state found after comes = names.has_global setting name state found after comes

pub returns-clause-only_global : goal.returns-clause-only_global
returns-clause-only_global c setting name state found after has = names.only_global setting name state found after has

pub returns-clause-value : goal.returns-clause-value
returns-clause-value c setting name frame state answer after comes =
    names.has_value setting name frame state answer after comes

pub returns-clause-unknown : goal.returns-clause-unknown
returns-clause-unknown c setting name frame found state between after comes none has =
    names.unknown setting name frame found state between after comes none has

pub returns-clause-assigned : goal.returns-clause-assigned
returns-clause-assigned c setting name frame answer other state after comes =
    names.assigned setting name frame answer other state after comes

pub returns-clause-not_assigned : goal.returns-clause-not_assigned
returns-clause-not_assigned c setting name frame answer found state between comes none =
    names.not_assigned setting name frame answer found state between comes none

pub returns-clause-block : goal.returns-clause-block
returns-clause-block c setting name frame block found slot receiver object state between after comes some refers writes =
    names.block_assigned setting name frame block found slot receiver object state between after comes some refers writes
