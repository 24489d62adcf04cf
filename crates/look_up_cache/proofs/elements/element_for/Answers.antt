use Rattle.std.proofs.Common.{[], ◌∷◌}
use Rattle.gem_object.specs.declared.value.Value.{Value}
use Rattle.running_objects.specs.gem_image.Image.{Contents, contents_of}
use Rattle.running_objects.specs.Seen.{Seen}
use Rattle.look_up_cache.specs.Elements.{ElementIs}
use Rattle.look_up_cache.proofs.Remembering.{element_alone}
use Rattle.look_up_cache.proofs.Sequences.{in_some}
use Rattle.look_up_cache.proofs.elements.element_for.Goals as goal

pub returns : goal.returns
returns g c =
    let seen : Seen = g.O.Objects.seen c.args.objects.now in
    let object : Contents = contents_of c.args.object.now in
    in_some (λ (value : Value). ElementIs object (c.in_ok-index.index.now ∷ []) value seen)
    (λ (value : Value). ElementIs object c.args.arguments.now value seen)
    (λ value is. element_alone object c.args.arguments.now c.in_ok-index.index.now value seen c.in_ok-index.ensures is)
    c.element_at.result c.element_at.ensures
