use Rattle.gem_server.proofs.SetupOnce.{setup_once}
use Rattle.gem_server.proofs.SetupLeaves.{setup_leaves}
use Rattle.gem_server.proofs.laws.setup_commits_once.Goals as goal

pub returns-clause-once : goal.returns-clause-once
returns-clause-once c = setup_once

pub returns-clause-leaves : goal.returns-clause-leaves
returns-clause-leaves c t book legal served reads image number begins =
    (setup_leaves t book legal served reads image number begins).loaded
