use Rattle.std.proofs.Common.{[], false, length, refl, rules}
use Rattle.gem_object.specs.declared.value.Value.TheVariants.{Nil}
use Rattle.gem_sound.specs.declared.names.TheConstants.{UNDEFINED_OBJECT_CLASS}
use Rattle.tree_meaning.specs.Bodies.{chunk_body}
use Rattle.gem_language.specs.Sends.{outside}
use Rattle.st_commands.proofs.Activations.{activation_ran}
use Rattle.st_plain.proofs.chunk.activate_chunk.Goals as goal

pub returns : goal.returns
returns g c =
    activation_ran (chunk_body (outside c.args.depth) c.args.tree.now) (length c.args.tree.now.temps) UNDEFINED_OBJECT_CLASS false Nil []
    c.eval_statements_of_chunk-ended.result c.mark-mark.result Nil _ c.in_ok-with_nils.field-0.items c.len.result c.mark-mark.ensures refl
    (rw c.from_parts-holder.ensures at c.in_ok-frame.ensures) (rw c.new.ensures.items at c.in_ok-with_nils.ensures) (search rules)
    c.in_ok-begin_method.ensures.begun c.eval_statements_of_chunk-ended.ensures c.leave_method.ensures
