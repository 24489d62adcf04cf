use Rattle.std.proofs.Common.{ℕ, Option, Ok, subst, arith}
use Rattle.prim_parts.specs.Does.{Does}
use Rattle.prim_classes.specs.Superclasses.{superclass_read}
use Rattle.prim_classes.proofs.Ups.{up_stop, up_last, up_more, up_zero}
use Rattle.prim_classes.proofs.kind_of.reads_up.Goals as goal

pub returns-in_err-superclass : goal.returns-in_err-superclass
returns-in_err-superclass g c = c.loop-left.invariant _ _ (up_stop c.args.ancestor c.loop-left.class c.loop-left.left
    c.loop-left.found (omega arith) c.in_err-superclass.ensures c.from_residual.ensures.1)

pub returns-in_default : goal.returns-in_default
returns-in_default g c = c.loop-left.invariant _ _ (up_last c.args.ancestor c.loop-left.class c.loop-left.left
    c.loop-left.found (omega arith) c.is_found-found.result c.is_found-found.ensures
    (let At = λ (above : Option ℕ). Does (superclass_read c.loop-left.class) (g.O.Objects.seen c.loop-left.objects)
    (Ok above) (g.O.Objects.seen c.superclass_read.new.objects) in subst At c.in_default.is c.in_ok-superclass.ensures))

pub loop-left-preserved : goal.loop-left-preserved
loop-left-preserved g c = λ result after rest. c.loop-left.invariant result after (up_more c.args.ancestor
    c.loop-left.class c.loop-left.left c.loop-left.found (omega arith)
    c.is_found-found.result c.in-Some.above c.is_found-found.ensures
    (let At = λ (above : Option ℕ). Does (superclass_read c.loop-left.class) (g.O.Objects.seen c.loop-left.objects)
    (Ok above) (g.O.Objects.seen c.superclass_read.new.objects) in subst At c.in-Some.is c.in_ok-superclass.ensures) rest)

pub returns : goal.returns
returns g c = c.loop-left.invariant _ _ (up_zero c.args.ancestor c.loop-left.class c.loop-left.left c.loop-left.found
    (g.O.Objects.seen c.loop-left.objects) (omega arith))
