use Rattle.std.proofs.Common.{◌∙◌, sym, reverse, take}
use Rattle.gem_object.specs.declared.value.Value.TheVariants.{Nil}
use Rattle.st_compiler.specs.Emitted.{instruction_of}
use Rattle.st_machine.proofs.Ends.{rest_is, never_empty}
use Rattle.st_machine.proofs.QuickRuns.{quick_answered}
use Rattle.st_machine.proofs.quick.answer_quickly.Goals as goal

pub returns-clause-ran : goal.returns-clause-ran
returns-clause-ran g c =
    quick_answered c.args.depth c.args.code.now (instruction_of c.args.instr.now) c.requires.quick c.requires.method
    c.args.holder c.args.class_side c.args.stack.now.own c.args.count c.at_depth.result.now c.requires.height
    c.at_depth.ensures (reverse (take c.args.count c.args.stack.now.own)) c.args.locals.now c.mark.result c.mark.ensures
    c.value_put-ended.result c.answer_at.result c.answer_at.ensures c.value_put-ended.ensures

pub unreachable-requires : goal.unreachable-requires
unreachable-requires g c =
    never_empty c.args.stack.now.own c.args.count c.requires.height
    (sym c.drop_upper.ensures.own ∙ c.in_default.ensures.popped.0)

pub returns-clause-own : goal.returns-clause-own
returns-clause-own g c =
    rest_is c.args.stack.now.own c.args.count Nil c.in-Some.field-0 c.pop.new.self.own c.requires.height
    (sym c.drop_upper.ensures.own ∙ c.in-Some.ensures.popped)
