use Rattle.std.proofs.Common.{◌++◌, replicate, List}
use Rattle.object_programs.specs.gem_object.declared.value.Value.{Value}
use Rattle.object_programs.specs.gem_object.declared.value.Value.TheVariants as value
use Rattle.object_programs.specs.Run.{State, perform}
use Rattle.tree_meaning.specs.Place.{MadeBlock}
use Rattle.tree_meaning.specs.Operands.{ValueRun}
use Rattle.tree_meaning.specs.Scopes.{mark, with_scope, open_scope, give_back}
use Rattle.tree_meaning.specs.Bodies.{block_body, temps_count}
use Rattle.tree_meaning.specs.Calls.{evaluation}
use Rattle.tree_meaning.specs.Replies.{Replies, outside_of}
use Rattle.tree_meaning.proofs.Activations.{as_it_ends, there, not_fitting, not_there}
use Rattle.tree_meaning.proofs.laws.blocks_run.Goals as goal

abbrev call : Replies → MadeBlock → List Value → ValueRun
call replies block values = evaluation (block_body (outside_of replies) block.tree block.place)
    (temps_count block.tree) block.frame values

pub returns-clause-run : goal.returns-clause-run
unfolding evaluation
returns-clause-run c replies setting state made arguments =
    let opened : State MadeBlock = record state {
      local = open_scope (arguments ++ replicate (temps_count made.tree) value.Nil) state.local;
    } in
    let statements = perform (block_body (outside_of replies) made.tree made.place
    (with_scope (mark state.local) made.frame)) setting opened in
    as_it_ends setting statements.end (record statements.state {
      local = give_back (mark state.local) statements.state.local;
    })

pub returns-clause-called : goal.returns-clause-called
returns-clause-called c replies setting state made number arguments found fits =
    there setting (call replies) number arguments state made found fits

pub returns-clause-other_count : goal.returns-clause-other_count
returns-clause-other_count c replies setting state made number arguments found fits =
    not_fitting setting (call replies) number arguments state made found fits

pub returns-clause-no_block : goal.returns-clause-no_block
returns-clause-no_block c replies setting state number arguments found =
    not_there setting (call replies) number arguments state found
