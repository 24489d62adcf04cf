use Rattle.std.proofs.Common.{ap, ◌∙◌}
use Rattle.gem_sound.specs.Kernel.{may_stand, stands_where}
use Rattle.image_check.proofs.rules.may_stand.Goals as goal

pub returns-in-Some : goal.returns-in-Some
unfolding may_stand
returns-in-Some c = c.stands_where.ensures
    ∙ ap (stands_where c.args.class c.args.class_side c.args.selector.now) c.in-Some.ensures.value

pub returns-in-None : goal.returns-in-None
unfolding may_stand
returns-in-None c = ap (stands_where c.args.class c.args.class_side c.args.selector.now) c.in-None.ensures.value
