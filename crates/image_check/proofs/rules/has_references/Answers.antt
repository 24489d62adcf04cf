use Rattle.std.proofs.Common.{◌++◌, List, ℕ, ap, ◌∙◌}
use Rattle.gem_object.specs.References.{references_of}
use Rattle.gem_image.specs.Image.{objects_in}
use Rattle.image_check.proofs.Places.{all_there}
use Rattle.image_check.proofs.rules.has_references.Goals as goal

pub returns : goal.returns
returns c =
    all_there (objects_in c.args.image.now) c.args.number c.args.object.now c.deref.result.now c.are_there.result
    (λ zero. c.if-number-eq0.false (c.number.ensures.number ∙ zero))
    (c.deref.ensures.value ∙ (c.in_ok-push_references.ensures
    ∙ ap (λ (names : List ℕ). names ++ references_of c.args.object.now) c.new-names.ensures.items))
    c.are_there.ensures
