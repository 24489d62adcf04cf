use Rattle.std.proofs.Common.{subst}
use Rattle.plain_state.specs.Room.{SeenWithRoom}
use Rattle.running_objects.specs.Acted.{Made}
use Rattle.plain_state.proofs.Sound.{made_sound}
use Rattle.plain_state.proofs.state.PlainStateObjects.make.Goals as goal

pub invariant_of-self : goal.invariant_of-self
invariant_of-self c = made_sound c.self.inside.parts.seen c.make.new.self.seen c.make.result c.args.objects.items c.self.invariant c.make.ensures

pub returns : goal.returns
returns c = subst (λ (s : SeenWithRoom). Made c.args.objects.items s.seen c.make.result c.make.new.self.seen)
    c.self.view_is c.make.ensures
