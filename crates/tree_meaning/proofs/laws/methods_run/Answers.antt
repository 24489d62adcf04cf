use Rattle.std.proofs.Common.{◌∙◌, ap, ◌++◌, length, replicate, nat_eq}
use Rattle.object_programs.specs.gem_object.declared.value.Value.TheVariants as value
use Rattle.object_programs.specs.Run.{State, perform}
use Rattle.tree_meaning.specs.Place.{MadeBlock}
use Rattle.tree_meaning.specs.Scopes.{mark, begin_method, give_back, end_living, is_living}
use Rattle.tree_meaning.specs.Bodies.{method_body}
use Rattle.tree_meaning.specs.Calls.{method_frame, activation}
use Rattle.tree_meaning.specs.Replies.{outside_of}
use Rattle.tree_meaning.proofs.Activations.{at_home, ended}
use Rattle.tree_meaning.proofs.laws.methods_run.Goals as goal

pub returns-clause-run : goal.returns-clause-run
unfolding activation
returns-clause-run c replies setting state tree holder class_side receiver arguments =
    let begun : State MadeBlock = record state {
      local = begin_method (arguments ++ replicate (length tree.temps) value.Nil) state.local;
    } in
    let statements = perform (method_body (outside_of replies) tree
    (method_frame holder class_side receiver state.local)) setting begun in
    let home = length state.local.living in
    at_home setting home statements.end (record statements.state {
      local = give_back (mark state.local) (end_living home statements.state.local);
    })

pub returns-clause-ended : goal.returns-clause-ended
returns-clause-ended c replies setting state tree holder class_side receiver arguments =
    let begun : State MadeBlock = record state {
      local = begin_method (arguments ++ replicate (length tree.temps) value.Nil) state.local;
    } in
    let statements = perform (method_body (outside_of replies) tree
    (method_frame holder class_side receiver state.local)) setting begun in
    let home = length state.local.living in
    ap (λ outcome. is_living home outcome.state.local)
    (returns-clause-run c replies setting state tree holder class_side receiver arguments)
    ∙ ended (nat_eq (length statements.state.local.blocks) (mark state.local).blocks) (mark state.local)
    statements.state.local
