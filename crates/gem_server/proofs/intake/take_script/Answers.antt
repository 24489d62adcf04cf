use Rattle.std.proofs.Common.{inl}
use Rattle.gem_server.proofs.ScriptRules.{gives_fault}
use Rattle.gem_server.proofs.intake.take_script.Goals as goal

pub returns-in-Ok-clause-err : goal.returns-in-Ok-clause-err
returns-in-Ok-clause-err g c =
    let gave = c.in-Ok.ensures.gave in
    let fault = rw (c.deref.ensures.value, gave.3) at c.in-Err.ensures.read in
    rw c.of_script.ensures (gives_fault _ gave.0 c.in-Err.fault gave.1 (inl c.in-Ok.ensures.end) (c.in-Ok.ensures.quiet (λ failed. absurd cc)) fault)
