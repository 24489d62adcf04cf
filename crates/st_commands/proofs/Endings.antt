-- A body that ended somehow, and what follows it however it ended.
use Rattle.std.proofs.Common.{◌≡◌, sym, subst, Result, Ok, Err}
use Rattle.gem_object.specs.declared.value.Value.{Value}
use Rattle.object_programs.specs.Local.{Local}
use Rattle.object_programs.specs.Run.{ending, Ending}
use Rattle.running_objects.specs.Seen.{Seen}
use Rattle.running_objects.specs.Ran.{Ran}
use Rattle.running_objects.specs.declared.stop.Stop.{Stop}
use Rattle.running_objects.specs.declared.stop.Stop.TheVariants as stop
use Rattle.running_objects.proofs.Running.{ran_nothing, leads_to, leads_given, leads_failed, leads_returned}
use Rattle.gem_language.specs.tree_meaning.Place.{MadeBlock}
use Rattle.gem_language.specs.tree_meaning.Operands.{ValueRun}
use Rattle.st_commands.specs.Leaving.{LeftSo}

pub ending_ran : {first : ValueRun} (next : Ending Value → ValueRun) (ended : Result Value Stop) {before between : Seen}
    {local middle later : Local MadeBlock} {result : Result Value Stop} → Ran first before local ended between middle
    → LeftSo next ended between middle result later → Ran (ending first next) before local result between later
ending_ran next (Ok answer) ran left = leads_to (leads_given next ran) left
ending_ran next (Err (stop.Fails fault)) ran left = leads_to (leads_failed next ran) left
ending_ran next (Err (stop.Returns answer home)) ran left = leads_to (leads_returned next ran) left
ending_ran {first} next (Err stop.NoMemory) {before} {between} {local} {middle} {later} {result} ran left =
    let At : Result Value Stop → Type 0 = λ one. Ran (ending first next) before local one between later in
    subst At (sym left) (ran_nothing (ending first next) local later ran.keeps)
