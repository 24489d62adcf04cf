use Rattle.prim_parts.proofs.Does.{does_stop}
use Rattle.std.proofs.lemmas.Result.{err_from_is_err_and}
use Rattle.std.proofs.Common.{refl}
use Rattle.prim_collections.proofs.Layouts.{laid_out}
use Rattle.prim_collections.proofs.layout.layout_of.Goals as goal

pub returns-in_err-slots : goal.returns-in_err-slots
returns-in_err-slots g c =
    let p = err_from_is_err_and c.from_residual.result c.from_residual.ensures.1 in
    rw (p.1, p.2) (λ object there. does_stop (c.in_err-slots.ensures object there))

pub returns : goal.returns
returns g c = λ object there. laid_out _ _ (c.in_ok-slots.ensures object there) refl
    (rw (c.class_at-class.ensures.class object there) at c.named_slots-named.ensures)
