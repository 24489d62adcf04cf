use Rattle.std.proofs.Common.{refl, ap, arith, sym, ◌∙◌}
use Rattle.std.proofs.lemmas.Result.{err_from_is_err_and}
use Rattle.shell_words.specs.Lines.{lines_of}
use Rattle.shell_words.proofs.Empty.{empty_if}
use Rattle.shell_words.proofs.LineFronts.{few_lines}
use Rattle.shell_words.proofs.Progress.{standing_first, standing_next, stops_here, line_numbers, read_all}
use Rattle.shell_words.proofs.reading.read_lines.Goals as goal

pub loop-rest-init : goal.loop-rest-init
loop-rest-init c = (standing_first _ _ refl c.new.ensures.items refl, omega arith)

pub read_line-requires-clause-count : goal.read_line-requires-clause-count
read_line-requires-clause-count c =
    let numbers = line_numbers c.loop-rest.invariant.0 c.split_line.ensures.lines in
    let few = few_lines c.args.text.now in
    let size = c.requires in
    omega (arith, numbers, few, size)

pub returns-in_err-rest : goal.returns-in_err-rest
returns-in_err-rest c =
    let p = err_from_is_err_and c.from_residual.result c.from_residual.ensures.1 in
    rw (p.1, p.2) (stops_here c.in_err-rest.field-0.0 c.loop-rest.invariant.0 c.split_line.ensures.lines c.in_err-rest.ensures.err)

pub loop-rest-preserved : goal.loop-rest-preserved
loop-rest-preserved c =
    let shorter = c.in_ok-rest.ensures.shorter in
    let cut = c.split_line.ensures.shorter in
    let left = c.loop-rest.invariant.1 in (
      standing_next c.loop-rest.invariant.0 c.split_line.ensures.lines c.in_ok-rest.ensures.ok c.in_ok-rest.ensures.reading c.in_ok-rest.ensures.lines,
      omega (arith, shorter, cut, left),
    )

pub close-requires-clause-count : goal.close-requires-clause-count
close-requires-clause-count c =
    let counted = c.loop-rest.invariant.0.counted in
    let few = few_lines c.args.text.now in
    let size = c.requires in
    omega (arith, counted, few, size)

pub returns : goal.returns
returns c =
    let none = ap lines_of (empty_if _ (sym c.is_empty.ensures ∙ c.loop-rest-test.false)) in
    read_all c.of.result c.loop-rest.invariant.0 none (c.of.ensures ∙ c.in_ok-close.ensures.sessions)
