use Rattle.kernel_tests.proofs.ImageSamples.{none_pushed, one_pushed}
use Rattle.kernel_tests.proofs.gem_image_tests.objects.Goals as goal

pub returns : goal.returns
returns c =
    let none = none_pushed c.new-objects.result.items c.new-objects.ensures.items in
    let first = one_pushed c.new-objects.result.items c.push.new.self.items c.name.result c.plain.result
    c.in_ok-push.ensures.items c.plain.ensures none in
    let second = one_pushed c.push.new.self.items c.push-2.new.self.items c.name-2.result c.plain-2.result
    c.in_ok-push-2.ensures.items c.plain-2.ensures first in
    one_pushed c.push-2.new.self.items c.push-3.new.self.items c.name-3.result c.plain-3.result
    c.in_ok-push-3.ensures.items c.plain-3.ensures second
