use Rattle.gem_world.proofs.Alone.{next_made, next_drawn, put_not_made, none_made}
use Rattle.gem_world.proofs.laws.names_are_drawn.Goals as goal

pub returns-clause-next : goal.returns-clause-next
returns-clause-next c = next_drawn

pub returns-clause-made : goal.returns-clause-made
returns-clause-made c = next_made

pub returns-clause-none : goal.returns-clause-none
returns-clause-none c = none_made

pub returns-clause-put : goal.returns-clause-put
returns-clause-put c = put_not_made
