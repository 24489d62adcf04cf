use Rattle.std.proofs.Common.{refl, suc, Some}
use Rattle.gem_language.specs.OutOfScope.{write_out_of_scope}
use Rattle.gem_language.specs.Sends.{outside}
use Rattle.running_objects.specs.Seen.{with_local}
use Rattle.st_compiler.specs.Instruction.{StoreName}
use Rattle.st_compiler.specs.Machine.{CodeEnd, Next, act}
use Rattle.st_machine.specs.Lacks.{stop_of}
use Rattle.st_machine.specs.Parts.{framed, table_of}
use Rattle.st_machine.proofs.Lacking.{lack_turned}
use Rattle.st_machine.proofs.Sent.{stored_led, stored_stops}
use Rattle.st_machine.proofs.Turning.{changed_lacking, lacking_known}
use Rattle.st_machine.proofs.names.store_variable.Goals as goal

pub returns-in-Some-Ok-clause-led : goal.returns-in-Some-Ok-clause-led
unfolding outside
returns-in-Some-Ok-clause-led g c =
    let frame = framed c.args.chain.now.own c.args.frame.now in
    stored_led (λ value. write_out_of_scope c.args.name.now frame value) c.args.place (suc c.args.place)
    c.args.stack.now.own c.in-Some.top.now c.in-Some.ensures refl frame
    (rw c.in-Some-Ok.field-0-is at c.in-Some-Ok.ensures.done)

pub returns-in-Some-Err-clause-led : goal.returns-in-Some-Err-clause-led
unfolding outside
returns-in-Some-Err-clause-led g c =
    let frame = framed c.args.chain.now.own c.args.frame.now in
    let before = g.O.Objects.seen c.args.objects.now in
    let end : Next → Next → CodeEnd = λ next back. act (outside c.args.depth) before.setting (table_of c.args.code.now)
    (Some (StoreName c.args.name.now)) next back c.args.place c.args.stack.now.own frame (with_local before c.args.locals.now) in
    let after = with_local (g.O.Objects.seen c.set_known_variable.new.objects) c.args.locals.now in
    changed_lacking c.in-Some-Err.lack c.args.place c.lacking.result (c.lacking.ensures c.args.place)
    (λ result turned. lack_turned end c.in-Some-Err.lack result turned c.args.stack.now.own frame after
    (stored_stops (λ value. write_out_of_scope c.args.name.now frame value) c.args.place c.args.stack.now.own
    c.in-Some.top.now c.in-Some.ensures frame (stop_of c.in-Some-Err.lack)
    (rw c.in-Some-Err.field-0-is at c.in-Some-Err.ensures.done)))

pub returns-in-Some-Err-clause-unchanged : goal.returns-in-Some-Err-clause-unchanged
returns-in-Some-Err-clause-unchanged g c = λ is.
    absurd (lacking_known c.in-Some-Err.lack c.args.place c.lacking.result (c.lacking.ensures c.args.place) is)
