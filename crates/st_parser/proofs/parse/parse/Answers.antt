use Rattle.std.proofs.Common.{◌≡◌, Err, sym, ap, ◌∙◌, length, rules, arith}
use Rattle.std.proofs.lemmas.Result.{err_from_is_err_and}
use Rattle.st_grammar.specs.Grammar.{words_of}
use Rattle.st_grammar.specs.Fails.{every}
use Rattle.st_grammar_laws.specs.Machine.{machine_run, start}
use Rattle.st_lexer.specs.Views.{tokens_seen}
use Rattle.st_parser.specs.declared.stops.Stop.TheVariants.{Breaks}
use Rattle.st_parser.specs.Descent.{Finished}
use Rattle.st_parser.specs.Parsed.{form_of}
use Rattle.st_parser.proofs.Readings.{tree_read, left_within, lexed_fault}
use Rattle.st_parser.proofs.parse.parse.Goals as goal

pub returns-in_err-tokens-clause-fault : goal.returns-in_err-tokens-clause-fault
returns-in_err-tokens-clause-fault c =
    let p = err_from_is_err_and c.from_residual.result c.from_residual.ensures.1 in
    rw (p.1, p.2) (lexed_fault (form_of c.args.form) c.args.text.now c.in_err-tokens.field-0.0
    c.in_err-tokens.ensures.fault)

pub returns-in-Ok-clause-tree : goal.returns-in-Ok-clause-tree
returns-in-Ok-clause-tree c =
    let lent : c.deref.result.now ≡ c.in_ok-tokens.tokens.items = search rules in
    let same : c.new-r.result ≡ words_of c.args.text.now (tokens_seen c.in_ok-tokens.tokens.items) = c.new-r.ensures
    ∙ ap (λ ts. words_of c.args.text.now (tokens_seen ts)) lent in
    tree_read (form_of c.args.form) c.args.text.now
    (tokens_seen c.in_ok-tokens.tokens.items) c.in-Ok.tree c.in_ok-tokens.ensures.tokens
    (ap (machine_run every (start (form_of c.args.form))) (sym same) ∙ c.in-Ok.ensures)

pub fault-requires-clause-within : goal.fault-requires-clause-within
fault-requires-clause-within c =
    let lent : c.deref.result.now ≡ c.in_ok-tokens.tokens.items = search rules in
    let same : c.new-r.result ≡ words_of c.args.text.now (tokens_seen c.in_ok-tokens.tokens.items) = c.new-r.ensures
    ∙ ap (λ ts. words_of c.args.text.now (tokens_seen ts)) lent in
    let again : c.deref-in-Err-Breaks.result.now ≡ c.in_ok-tokens.tokens.items = search rules in
    let stopped : Finished (start (form_of c.args.form)) c.new-r.result c.tree.new.r
    (Err (Breaks c.in-Err-Breaks.broken)) = search rules in
    omega (
      arith,
      left_within (form_of c.args.form) c.args.text.now c.in_ok-tokens.tokens.items c.tree.new.r
          c.in-Err-Breaks.broken (ap (machine_run every (start (form_of c.args.form))) (sym same)
          ∙ stopped),
      c.left.ensures,
      ap length again,
    )
