use Rattle.std.proofs.Common.{ℕ, [], ◌∷◌, false, length, replicate, refl, ap, subst}
use Rattle.gem_object.specs.declared.value.Value.TheVariants.{Nil}
use Rattle.gem_sound.specs.declared.names.TheConstants.{UNDEFINED_OBJECT_CLASS}
use Rattle.tree_meaning.specs.Bodies.{chunk_body}
use Rattle.tree_meaning.specs.Place.{Frame}
use Rattle.gem_language.specs.Sends.{outside}
use Rattle.running_objects.specs.Ran.{Ran}
use Rattle.st_commands.proofs.Activations.{activation_ran}
use Rattle.st_machine.specs.Called.{ended_as}
use Rattle.st_machine.specs.Parts.{framed, part_run}
use Rattle.st_machine.specs.declared.shared_code.Part.TheVariants.{Whole}
use Rattle.st_machine.proofs.Called.{ran_taken}
use Rattle.st_machine.proofs.Outlines.{method_framed, chunk_ran_by}
use Rattle.st_machine.proofs.chunk.activate_chunk.Goals as goal

pub returns-in-Some : goal.returns-in-Some
returns-in-Some g c =
    let frame = framed (c.mark-mark.result ∷ []) c.of-frame.result in
    let AtHome : ℕ → Type 0 = λ home. Ran (part_run (outside c.args.depth) c.args.code.now Whole frame)
    (g.O.Objects.seen c.args.objects.now) c.begin_method.new.self
    (ended_as home c.run_inside-ended.result c.run_inside-ended.new.why c.run_inside-ended.new.stack.own)
    (g.O.Objects.seen c.run_inside-ended.new.objects) c.run_inside-ended.new.locals in
    let ran = subst AtHome (ap (λ (one : Frame). one.home) c.of-frame.ensures) c.run_inside-ended.ensures.ran in
    ran_taken c.in-Some.ensures.popped (activation_ran (chunk_body (outside c.args.depth) c.args.code.now) (length c.args.code.now.temps) UNDEFINED_OBJECT_CLASS
    false Nil [] (ended_as c.mark-mark.result.living c.run_inside-ended.result c.run_inside-ended.new.why
    c.run_inside-ended.new.stack.own) c.mark-mark.result Nil frame (replicate c.temps_count.result Nil) c.temps_count.result
    c.mark-mark.ensures refl
    (method_framed c.of-frame.result c.mark-mark.result Nil UNDEFINED_OBJECT_CLASS false c.args.locals.now
    c.mark-mark.ensures (rw c.from_parts-holder.ensures at c.of-frame.ensures))
    refl c.temps_count.ensures c.in_ok-begin_method.ensures.begun
    (chunk_ran_by (outside c.args.depth) c.args.code.now frame c.requires ran) c.in-Answers.ensures.left)

pub returns-in-Stopped : goal.returns-in-Stopped
returns-in-Stopped g c =
    let frame = framed (c.mark-mark.result ∷ []) c.of-frame.result in
    let AtHome : ℕ → Type 0 = λ home. Ran (part_run (outside c.args.depth) c.args.code.now Whole frame)
    (g.O.Objects.seen c.args.objects.now) c.begin_method.new.self
    (ended_as home c.run_inside-ended.result c.run_inside-ended.new.why c.run_inside-ended.new.stack.own)
    (g.O.Objects.seen c.run_inside-ended.new.objects) c.run_inside-ended.new.locals in
    let ran = subst AtHome (ap (λ (one : Frame). one.home) c.of-frame.ensures) c.run_inside-ended.ensures.ran in
    activation_ran (chunk_body (outside c.args.depth) c.args.code.now) (length c.args.code.now.temps) UNDEFINED_OBJECT_CLASS
    false Nil [] (ended_as c.mark-mark.result.living c.run_inside-ended.result c.run_inside-ended.new.why
    c.run_inside-ended.new.stack.own) c.mark-mark.result Nil frame (replicate c.temps_count.result Nil) c.temps_count.result
    c.mark-mark.ensures refl
    (method_framed c.of-frame.result c.mark-mark.result Nil UNDEFINED_OBJECT_CLASS false c.args.locals.now
    c.mark-mark.ensures (rw c.from_parts-holder.ensures at c.of-frame.ensures))
    refl c.temps_count.ensures c.in_ok-begin_method.ensures.begun
    (chunk_ran_by (outside c.args.depth) c.args.code.now frame c.requires ran) c.in-Stopped.ensures.left
