use Rattle.std.proofs.Common.{refl}
use Rattle.gem_server.proofs.Kernel.{kernel_can_run, kernel_run}
use Rattle.gem_server.proofs.alone.run_alone.Goals as goal

pub run_script-transcripts-requires-after_bounds : goal.run_script-transcripts-requires-after_bounds
run_script-transcripts-requires-after_bounds g c κs within =
    kernel_can_run c.in_ok-start.start c.args.script c.in_ok-start.ensures c.sessions-sessions.ensures.limit refl refl

pub returns : goal.returns
returns g c = rw (c.of.ensures, c.of-2.ensures, c.of-3.ensures)
    (kernel_run c.in_ok-start.start c.args.script c.run_script-transcripts.result c.in_ok-transcripts.field-0 c.in_ok-start.ensures
    c.run_script-transcripts.ensures (λ risen. risen) c.in_ok-transcripts.was)
