-- How an activation ends, by how its body ended.
use Rattle.std.specs.Prelude.{◌≡◌, Result, Ok, Err}
use Rattle.gem_object.specs.declared.value.Value.{Value}
use Rattle.object_programs.specs.Local.{Local}
use Rattle.object_programs.specs.Run.{Ending, gives, returns, fails}
use Rattle.gem_language.specs.tree_meaning.Place.{MadeBlock}
use Rattle.gem_language.specs.tree_meaning.Operands.{ValueRun}
use Rattle.running_objects.specs.Seen.{Seen}
use Rattle.running_objects.specs.Ran.{Ran}
use Rattle.running_objects.specs.declared.stop.Stop.{Stop}
use Rattle.running_objects.specs.declared.stop.Stop.TheVariants as stop

-- After a body that ended so, what follows it ran to this result. Where memory ran out nothing
-- follows.
abbrev pub LeftSo : (Ending Value → ValueRun) → (ended : Result Value Stop) → Seen
    → Local MadeBlock → (result : Result Value Stop) → Local MadeBlock → Type 0
LeftSo next (Ok answer) seen local result later =
    Ran (next (gives answer)) seen local result seen later
LeftSo next (Err (stop.Fails fault)) seen local result later =
    Ran (next (fails fault)) seen local result seen later
LeftSo next (Err (stop.Returns answer home)) seen local result later =
    Ran (next (returns answer home)) seen local result seen later
LeftSo next (Err stop.NoMemory) seen local result later = result ≡ Err stop.NoMemory
