use Rattle.std.proofs.Common.{◌∙◌, ap, Option, unwrap_or}
use Rattle.std.proofs.lemmas.Option.{unwrap_or-slice_get}
use Rattle.tree_meaning.specs.Scopes.{no_mark}
use Rattle.tree_meaning.specs.declared.place.Mark.{Mark}
use Rattle.st_machine.proofs.scopes.scope_number.Goals as goal

pub returns-in-None : goal.returns-in-None
returns-in-None c = ap (λ (found : Option Mark). (unwrap_or found no_mark).scopes) c.in-None.ensures
    ∙ ap (λ (mark : Mark). mark.scopes) (unwrap_or-slice_get c.args.chain.now.own c.args.depth no_mark)
