use Rattle.std.proofs.Common.{◌∙◌}
use Rattle.script_run.proofs.Starts.{not_run_at_all}
use Rattle.script_run.proofs.run.run_script.Goals as goal

pub returns-in_default : goal.returns-in_default
returns-in_default g c =
    let none = c.not_run.ensures in
    not_run_at_all _ c.args.start c.args.script _ c.requires none.transcripts none.keeper none.history none.events none.halted

pub returns : goal.returns
returns g c =
    let none = c.not_run-in-Err.ensures in
    not_run_at_all _ c.args.start c.args.script _ c.requires none.transcripts (none.keeper ∙ c.in-Err.ensures.keeper) none.history none.events none.halted
