use Rattle.std.proofs.Common.{rules, ◌≡◌, ◌≢◌, [], true, false, is_some, refl, ◌∙◌}
use Rattle.std.proofs.lemmas.Result.{err_from_is_err_and}
use Rattle.shell_words.specs.Lines.{lines_of}
use Rattle.shell_words.specs.ScriptGrammar.{BeginsSession, SaysCommand, session_line, command_line, command_outside}
use Rattle.shell_words.specs.Reading.{LineSays, SaysNothing}
use Rattle.shell_words.specs.declared.table.ScriptLine.TheVariants.{Opening as Opens}
use Rattle.shell_words.proofs.Outcomes.{of_no_table}
use Rattle.shell_words.proofs.WordSizes.{short_command, short_opening}
use Rattle.shell_words.proofs.reading.Reading.read_line.Goals as goal

pub returns-in-None-clause-err : goal.returns-in-None-clause-err
returns-in-None-clause-err c =
    let some : c.args.line.now ≢ [] = search rules in
    let none : SaysNothing c.args.line.now = rw c.in-None.is at c.in_ok-line_of.ensures in
    (refl, of_no_table c.args.line.now some none)

pub returns-in_err-begin-in-Some-Session-clause-err : goal.returns-in_err-begin-in-Some-Session-clause-err
returns-in_err-begin-in-Some-Session-clause-err c =
    let says : BeginsSession c.args.line.now c.in-Some-Session.user =
    rw c.in-Some-Session.field-0-is at (rw c.in-Some-Session.is at c.in_ok-line_of.ensures) in
    let fault = c.in_err-begin-in-Some-Session.ensures.err c.args.line.now (lines_of c.args.after.now) says in
    let p = err_from_is_err_and c.from_residual-in_err-begin-in-Some-Session.result c.from_residual-in_err-begin-in-Some-Session.ensures.1 in
    rw (p.1, p.2) fault

pub returns-then-is_none-clause-err : goal.returns-then-is_none-clause-err
returns-then-is_none-clause-err c =
    let says : SaysCommand c.args.line.now c.in-Some-Command.command =
    rw c.in-Some-Command.field-0-is at (rw c.in-Some-Command.is at c.in_ok-line_of.ensures) in
    let none : is_some c.args.self.now.current ≡ false = search rules in
    (refl, command_outside c.in-Some-Command.command says (c.requires.reading.takes ∙ none) refl)

pub order-requires-clause-short : goal.order-requires-clause-short
order-requires-clause-short c =
    let says : SaysCommand c.args.line.now c.in-Some-Command.command =
    rw c.in-Some-Command.field-0-is at (rw c.in-Some-Command.is at c.in_ok-line_of.ensures) in
    short_command c.args.line.now c.in-Some-Command.command says c.requires.size

pub read_chunk-requires-clause-name : goal.read_chunk-requires-clause-name
read_chunk-requires-clause-name c =
    let says : LineSays c.args.line.now (Opens c.in-Some-Opening.opening) =
    rw c.in-Some-Opening.field-0-is at (rw c.in-Some-Opening.is at c.in_ok-line_of.ensures) in
    short_opening c.args.line.now c.in-Some-Opening.opening says c.requires.size

pub returns-in_ok-begin-in-Some-Session-clause-ok : goal.returns-in_ok-begin-in-Some-Session-clause-ok
returns-in_ok-begin-in-Some-Session-clause-ok c =
    let says : BeginsSession c.args.line.now c.in-Some-Session.user =
    rw c.in-Some-Session.field-0-is at (rw c.in-Some-Session.is at c.in_ok-line_of.ensures) in
    let begun = c.in_ok-begin-in-Some-Session.ensures in
    session_line c.args.line.now c.in-Some-Session.user refl says begun.user begun.room begun.sessions

pub returns-in_ok-order-in-Some-Command-clause-ok : goal.returns-in_ok-order-in-Some-Command-clause-ok
returns-in_ok-order-in-Some-Command-clause-ok c =
    let says : SaysCommand c.args.line.now c.in-Some-Command.command =
    rw c.in-Some-Command.field-0-is at (rw c.in-Some-Command.is at c.in_ok-line_of.ensures) in
    let some : is_some c.args.self.now.current ≡ true = search rules in
    command_line c.args.line.now c.in-Some-Command.command refl says (c.requires.reading.takes ∙ some) c.in_ok-order-in-Some-Command.ensures.sessions

pub returns-in-Some-Opening-clause-err : goal.returns-in-Some-Opening-clause-err
returns-in-Some-Opening-clause-err c =
    let says : LineSays c.args.line.now (Opens c.in-Some-Opening.opening) =
    rw c.in-Some-Opening.field-0-is at (rw c.in-Some-Opening.is at c.in_ok-line_of.ensures) in
    c.read_chunk.ensures.err c.args.line.now says
