use Rattle.std.proofs.lemmas.Result.{IfOk-weaker}
use Rattle.prim_parts.proofs.Walks.{does_names}
use Rattle.prim_parts.proofs.kinds.all_names.Goals as goal

pub returns : goal.returns
returns g c = IfOk-weaker c.push_names.result _ _ (λ names is.
    does_names (g.O.Objects.seen c.args.objects.now) c.sound.ensures c.args.class names c.requires is) c.push_names.ensures
