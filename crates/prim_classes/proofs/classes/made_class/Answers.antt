use Rattle.std.proofs.Common.{refl, ◌∙◌}
use Rattle.prim_parts.proofs.Does.{does_then, does_exit}
use Rattle.gem_image.specs.Image.{contents_of}
use Rattle.object_programs.specs.gem_world.Access.{a_write}
use Rattle.prim_rules.specs.Parts.{pairs_in}
use Rattle.prim_classes.proofs.Stays.{segment_shows}
use Rattle.prim_classes.proofs.ClassFacts.{received_as, received_none, received_refused, pairs_there}
use Rattle.prim_classes.proofs.classes.made_class.Goals as goal

pub returns-in_err-name : goal.returns-in_err-name
returns-in_err-name g c = does_exit _ c.from_residual.ensures.1 (received_none a_write pairs_in c.args.dictionary.now (g.O.Objects.seen c.args.objects.now) c.in_err-name.ensures)

pub returns-in_err-write : goal.returns-in_err-write
returns-in_err-write g c = does_exit _ c.from_residual-in_err-write.ensures.1 (received_refused a_write pairs_in c.args.dictionary.now _ c.in_ok-name.ensures
    c.in_err-write.ensures)

pub returns-in_err-segment : goal.returns-in_err-segment
returns-in_err-segment g c = does_then (received_as a_write pairs_in c.args.dictionary.now _ _ c.in_ok-name.ensures c.in_ok-write.ensures
    (pairs_there (contents_of c.in-Some.object.now) _ c.in_ok-write.ensures.object c.in-Some.ensures c.in_ok-write.ensures.there c.in-Dict.is))
    (does_exit _ c.from_residual-in_err-segment.ensures.1 c.in_err-segment.ensures)

pub returns : goal.returns
returns g c = does_then (received_as a_write pairs_in c.args.dictionary.now _ _ c.in_ok-name.ensures c.in_ok-write.ensures
    (pairs_there (contents_of c.in-Some.object.now) _ c.in_ok-write.ensures.object c.in-Some.ensures c.in_ok-write.ensures.there c.in-Dict.is))
    (does_then c.in_ok-segment.ensures (c.enter_class.ensures _ refl
    (segment_shows c.in_ok-name.name c.in_ok-segment.ensures ∙ c.in_ok-write.ensures.there)))
