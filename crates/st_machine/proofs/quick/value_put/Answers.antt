use Rattle.std.proofs.Common.{◌∙◌, ap}
use Rattle.tree_meaning.specs.Place.{Frame}
use Rattle.st_compiler.specs.Emitted.{instruction_of}
use Rattle.look_up_cache.specs.Variables.{bare_frame}
use Rattle.st_machine.proofs.QuickRuns.{name_put}
use Rattle.st_machine.proofs.quick.value_put.Goals as goal

pub returns-in_ok-clone-in-PushName : goal.returns-in_ok-clone-in-PushName
returns-in_ok-clone-in-PushName g c =
    name_put (instruction_of c.args.instr.now) c.in-PushName.name c.frame-in-PushName.result.now
    (bare_frame c.args.receiver.now c.args.holder c.args.class_side) (ap instruction_of c.in-PushName.is)
    (c.frame-in-PushName.ensures.receiver ∙ (ap (λ (frame : Frame). frame.receiver) c.of-frame.ensures
    ∙ c.in_ok-clone-in-PushName.ensures.cases))
    (c.frame-in-PushName.ensures.holder ∙ ap (λ (frame : Frame). frame.holder) c.of-frame.ensures)
    (c.frame-in-PushName.ensures.class_side ∙ ap (λ (frame : Frame). frame.class_side) c.of-frame.ensures)
    c.read_name.ensures
