use Rattle.std.proofs.Common.{◌∙◌, ap, List}
use Rattle.gem_object.specs.texts.Bytes.{Bytes as Text}
use Rattle.st_machine.specs.Methods.{is_kept}
use Rattle.st_machine.proofs.Kept.{there_is}
use Rattle.st_machine.proofs.cache.CodeCache.holds.Goals as goal

pub returns : goal.returns
returns c =
    c.contains.ensures
    ∙ (there_is c.args.source.now c.self.inside.entries.entries
    ∙ ap (λ (list : List Text). is_kept c.args.source.now list) c.self.view_is)
