use Rattle.std.proofs.Common.{◌∙◌, ap}
use Rattle.std.specs.Option.{option_map}
use Rattle.gem_sound.specs.Kernel.{numbered}
use Rattle.image_check.specs.Kernel.{body_of}
use Rattle.image_check.proofs.Lists.{numbered_map}
use Rattle.image_check.proofs.kernel.kernel_body.Goals as goal

pub returns : goal.returns
returns c = ap (option_map body_of) c.numbered.ensures ∙ numbered_map body_of c.bodies.result.now c.args.number
    ∙ ap (λ items. numbered items c.args.number) c.bodies.ensures
