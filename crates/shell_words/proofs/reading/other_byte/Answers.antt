use Rattle.std.proofs.Common.{rules, arith}
use Rattle.shell_words.specs.ScriptGrammar.{IsPlain}
use Rattle.shell_words.proofs.LineFronts.{few_lines}
use Rattle.shell_words.proofs.Bodies.{plain_line, plain_counts}
use Rattle.shell_words.proofs.reading.other_byte.Goals as goal

pub overflow_add-number : goal.overflow_add-number
overflow_add-number c =
    let few = plain_counts c.loop-rest.invariant c.split_line.ensures.lines in
    let lines = few_lines c.args.text.now in
    let size = c.requires in
    omega (arith, few, lines, size)

pub loop-rest-preserved : goal.loop-rest-preserved
loop-rest-preserved c =
    let plain : IsPlain c.split_line.result.0.now = search rules in
    plain_line c.loop-rest.invariant c.split_line.ensures.lines plain
