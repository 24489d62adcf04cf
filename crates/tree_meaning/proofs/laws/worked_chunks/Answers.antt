use Rattle.std.proofs.Common.{refl}
use Rattle.tree_meaning.specs.Names.{where_is}
use Rattle.tree_meaning.specs.Forms.{form_of, loop_of}
use Rattle.tree_meaning.specs.Scopes.{variable_value, set_variable, close_scope}
use Rattle.tree_meaning.specs.Loops.{while_turns, count_turns}
use Rattle.tree_meaning.specs.Bodies.{chunk_body}
use Rattle.tree_meaning.specs.Calls.{activation}
use Rattle.tree_meaning.proofs.laws.worked_chunks.Goals as goal

pub returns-clause-counting : goal.returns-clause-counting
unfolding where_is form_of loop_of variable_value set_variable close_scope while_turns count_turns chunk_body activation
returns-clause-counting c setting = record { ends = refl; leaves = refl }

pub returns-clause-repeating : goal.returns-clause-repeating
unfolding where_is form_of loop_of variable_value set_variable close_scope while_turns count_turns chunk_body activation
returns-clause-repeating c setting = record { ends = refl; leaves = refl }

pub returns-clause-looping : goal.returns-clause-looping
unfolding where_is form_of loop_of variable_value set_variable close_scope while_turns count_turns chunk_body activation
returns-clause-looping c setting = record { ends = refl; leaves = refl }

pub returns-clause-cascading : goal.returns-clause-cascading
unfolding where_is form_of loop_of variable_value set_variable close_scope while_turns count_turns chunk_body activation
returns-clause-cascading c setting = record { ends = refl; leaves = refl }

pub returns-clause-hiding : goal.returns-clause-hiding
unfolding where_is form_of loop_of variable_value set_variable close_scope while_turns count_turns chunk_body activation
returns-clause-hiding c setting = record { ends = refl; leaves = refl }

pub returns-clause-returning : goal.returns-clause-returning
unfolding where_is form_of loop_of variable_value set_variable close_scope while_turns count_turns chunk_body activation
returns-clause-returning c setting = record { ends = refl; leaves = refl }

pub returns-clause-doubting : goal.returns-clause-doubting
unfolding where_is form_of loop_of variable_value set_variable close_scope while_turns count_turns chunk_body activation
returns-clause-doubting c setting = record { ends = refl; leaves = refl }
