use Rattle.std.proofs.Common.{All, subst, sym, length, ◌<◌, List}
use Rattle.gem_object.specs.texts.Bytes.{Bytes as Text}
use Rattle.gem_object.specs.Spelling.{IsText}
use Rattle.kernel_tests.proofs.ImageSamples.{user_is}
use Rattle.kernel_tests.proofs.gem_image_tests.user.Goals as goal

pub returns : goal.returns
returns c = user_is c.name-3.result c.name-4.result c.name.result c.name-2.result c.in_ok-staff.field-0 c.of.result
    c.name-3.ensures c.name-4.ensures c.name.ensures c.name-2.ensures c.in_ok-staff.ensures
    (subst (λ (texts : List Text). length texts < 2) (sym c.of.ensures) c.requires.count)
    (subst (All IsText) (sym c.of.ensures) c.requires.groups)
