use Rattle.std.proofs.Common.{sym, subst}
use Rattle.std.specs.Prelude.{IfOk}
use Rattle.std.specs.Bool.{Decides}
use Rattle.gem_sound.specs.Sound.{IsCodeOf}
use Rattle.image_check.proofs.rules.is_method.Goals as goal

pub returns-in-Source : goal.returns-in-Source
returns-in-Source c =
    subst (λ code. IfOk c.is_source.result (λ kept. Decides kept (IsCodeOf c.args.class c.args.class_side c.args.method.now.selector code)))
    (sym c.in-Source.is) c.is_source.ensures
