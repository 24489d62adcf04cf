use Rattle.std.proofs.Common.{List, [], ◌∷◌, subst}
use Rattle.st_compiler.specs.Emitted.{instructions}
use Rattle.st_compiler.specs.declared.instr.Instr.{Instr}
use Rattle.st_encoder.specs.Written.{WroteBodies}
use Rattle.st_encoder.proofs.Writes.{bodies_step}
use Rattle.st_encoder.proofs.writer.put_bodies.Goals as goal

pub loop-body-preserved : goal.loop-body-preserved
loop-body-preserved c = record {
  small = c.in_ok-put_body.ensures.small;
  left = bodies_step c.args.pushed.now c.loop-body.rest.now c.in-Some.body.now c.in-Some.later.now
      c.loop-body.bytes.items c.loop-body.literals.items c.loop-body.blocks.items c.args.bytes.now.items
      c.args.literals.now.items c.args.blocks.now.items c.put_body.new.bytes.items c.put_body.new.literals.items
      c.put_body.new.blocks.items c.in-Some.ensures.cases.0 c.loop-body.invariant.left
      (subst (λ (code : List Instr). WroteBodies (record {
        params = c.in-Some.body.now.params;
        temps = c.in-Some.body.now.temps;
        code = instructions code;
      } ∷ []) c.loop-body.bytes.items c.loop-body.literals.items c.loop-body.blocks.items c.put_body.new.bytes.items
      c.put_body.new.literals.items c.put_body.new.blocks.items) c.deref.ensures.value c.in_ok-put_body.ensures.ok);
}
