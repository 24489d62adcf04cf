use Rattle.std.proofs.Common.{arith}
use Rattle.gem_server.proofs.TallyTold.{tally_told}
use Rattle.gem_server.proofs.laws.tally_prints_the_load.Goals as goal

pub returns : goal.returns
returns c t book counter bag legal served reads holds number small few =
    tally_told t book counter bag legal served reads holds number (omega (arith, small)) few
