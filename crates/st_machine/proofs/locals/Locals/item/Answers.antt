use Rattle.std.proofs.Common.{◌∙◌, sym, ap, [], get_or}
use Rattle.gem_object.specs.declared.value.Value.TheVariants.{Nil}
use Rattle.tree_meaning.specs.object_programs.Local.{Local}
use Rattle.st_machine.proofs.MoreNils.{none_nil}
use Rattle.st_machine.proofs.locals.Locals.item.Goals as goal

pub returns-in-None-clause-none : goal.returns-in-None-clause-none
returns-in-None-clause-none c = λ none.
    sym (none_nil (get_or c.self.inside.scopes c.args.scope []) c.args.index c.in-None.ensures
    ∙ ap (λ (local : Local _). get_or (get_or local.scopes c.args.scope []) c.args.index Nil) c.self.view_is)
