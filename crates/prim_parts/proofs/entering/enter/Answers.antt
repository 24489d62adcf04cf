use Rattle.prim_parts.proofs.Does.{does_exit, does_then, does_atom, does_give}
use Rattle.prim_parts.proofs.Entries.{made_then}
use Rattle.prim_parts.proofs.entering.enter.Goals as goal

pub returns-in_err-make : goal.returns-in_err-make
returns-in_err-make g c = λ objects_at chosen_of object are names there.
    does_exit _ c.from_residual.ensures.1 (does_atom (c.in_err-make.ensures objects_at are))

pub returns-in_err-put_at : goal.returns-in_err-put_at
returns-in_err-put_at g c = λ objects_at chosen_of object are names there.
    made_then objects_at chosen_of c.args.key c.args.chosen c.in_ok-make.field-0 c.args.dictionary object c.sound.ensures names there
    (c.in_ok-make.ensures objects_at are)
    (λ seen. does_exit _ c.from_residual-in_err-put_at.ensures.1 (does_atom (c.in_err-put_at.ensures object seen)))

pub returns : goal.returns
returns g c = λ objects_at chosen_of object are names there.
    made_then objects_at chosen_of c.args.key c.args.chosen c.in_ok-make.field-0 c.args.dictionary object c.sound.ensures names there
    (c.in_ok-make.ensures objects_at are)
    (λ seen. does_then (does_atom (c.in_ok-put_at.ensures object seen)) (does_give _ _))
