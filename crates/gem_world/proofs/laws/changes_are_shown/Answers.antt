use Rattle.gem_world.proofs.Shown.{put_here, put_elsewhere, made_here, made_elsewhere}
use Rattle.gem_world.proofs.laws.changes_are_shown.Goals as goal

pub returns-clause-put : goal.returns-clause-put
returns-clause-put c name object setting world = put_here setting world name object

pub returns-clause-put_elsewhere : goal.returns-clause-put_elsewhere
returns-clause-put_elsewhere c name other object setting world =
    put_elsewhere setting world name other object

pub returns-clause-made : goal.returns-clause-made
returns-clause-made c object setting world = made_here setting world object

pub returns-clause-made_elsewhere : goal.returns-clause-made_elsewhere
returns-clause-made_elsewhere c other object setting world =
    made_elsewhere setting world other object
