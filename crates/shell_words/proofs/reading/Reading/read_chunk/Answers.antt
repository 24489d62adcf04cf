use Rattle.std.proofs.Common.{rules, ◌≡◌, ◌<◌, ◌≤◌, true, false, length, is_some, refl, ap, ◌∙◌}
use Rattle.shell_words.specs.declared.limits.TheConstants.{CHUNK_LIMIT}
use Rattle.shell_words.specs.Script.{with_next_command}
use Rattle.shell_words.specs.ScriptGrammar.{chunk_outside, chunk_without_end, long_chunk, chunk_lines}
use Rattle.shell_words.specs.Reading.{command_of, sessions_of}
use Rattle.shell_words.proofs.Outcomes.{of_any_text, is_chunk_line}
use Rattle.texts.specs.Lines.{text_of_lines}
use Rattle.shell_words.specs.Lines.{lines_of, IsInner}
use Rattle.std.specs.List.{AllByRecursion}
use Rattle.shell_words.proofs.reading.Reading.read_chunk.Goals as goal

pub returns-then-is_none-clause-err : goal.returns-then-is_none-clause-err
returns-then-is_none-clause-err c line says =
    let none : is_some c.args.self.now.current ≡ false = search rules in
    (refl, chunk_outside (is_chunk_line line c.args.opening says) (c.requires.reading.takes ∙ none) refl)

pub returns-in_default-clause-err : goal.returns-in_default-clause-err
returns-in_default-clause-err c line says =
    let some : is_some c.args.self.now.current ≡ true = search rules in
    let inner : AllByRecursion IsInner (lines_of c.args.after.now) = rw c.in_default.is at c.in_ok-body.ensures.body in
    (refl, chunk_without_end (is_chunk_line line c.args.opening says) (c.requires.reading.takes ∙ some) inner refl)

pub returns-then-len-gt-CHUNK_LIMIT-clause-err : goal.returns-then-len-gt-CHUNK_LIMIT-clause-err
returns-then-len-gt-CHUNK_LIMIT-clause-err c line says =
    let some : is_some c.args.self.now.current ≡ true = search rules in
    let found = rw c.in-Some.is at c.in_ok-body.ensures.body in
    let size : CHUNK_LIMIT < length c.in-Some.body.text.items = search rules in
    (refl, long_chunk found.0 (lines_of c.in-Some.body.rest.now) (is_chunk_line line c.args.opening says) (c.requires.reading.takes ∙ some) found.1 (rw found.2 at size) refl)

pub returns-clause-ok : goal.returns-clause-ok
returns-clause-ok c line says =
    let some : is_some c.args.self.now.current ≡ true = search rules in
    let found = rw c.in-Some.is at c.in_ok-body.ensures.body in
    let size : length c.in-Some.body.text.items ≤ CHUNK_LIMIT = search rules in
    let command : c.command_of.result ≡ command_of c.args.opening (text_of_lines found.0) =
    c.command_of.ensures ∙ ap (λ t. command_of c.args.opening t) (c.of.ensures ∙ found.2) in
    chunk_lines line (command_of c.args.opening (text_of_lines found.0)) (lines_of c.args.after.now) found.0 refl (of_any_text line (text_of_lines found.0) c.args.opening says) (c.requires.reading.takes ∙ some) found.1 (rw found.2 at size)
    (c.in_ok-order.ensures.sessions ∙ ap (λ k. with_next_command (sessions_of c.args.self.now) k) command)
