use Rattle.std.proofs.Common.{◌∙◌, ap}
use Rattle.gem_server.specs.DemoParts.{are_served}
use Rattle.gem_server.proofs.Demos.{always_served}
use Rattle.gem_server.proofs.demo.served_whole.Goals as goal

pub returns-clause-served : goal.returns-clause-served
returns-clause-served c = always_served c.are_served.result c.args.part.book
    (c.are_served.ensures ∙ ap are_served c.as_slice.ensures) c.if-not-are_served.false
