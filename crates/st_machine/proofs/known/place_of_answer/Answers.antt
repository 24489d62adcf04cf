use Rattle.st_machine.specs.Parts.{framed}
use Rattle.st_machine.proofs.Placed.{answers_at}
use Rattle.st_machine.proofs.known.place_of_answer.Goals as goal

pub returns : goal.returns
returns g c =
    answers_at c.args.selector.now (framed c.args.chain.now.own c.args.frame.now) c.args.stack.now.own c.args.count
    c.requires c.at_depth.result.now c.at_depth.ensures (g.O.Objects.seen c.args.objects.now) c.args.locals.now
    (g.O.FindsMethods.founds c.args.objects.now) c.known_place.result c.known_place.ensures
