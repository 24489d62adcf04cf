use Rattle.gem_image.proofs.Puts.{left_is}
use Rattle.gem_image.proofs.image.Image.insert.Goals as goal

pub invariant_of-self : goal.invariant_of-self
invariant_of-self g c =
    left_is c.insert.result c.self.inside.pages c.insert.new.self c.number.result c.args.object
    c.insert.ensures.ok c.insert.ensures.err c.self.invariant c.number.ensures.bound c.requires
