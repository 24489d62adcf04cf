use Rattle.std.proofs.Common.{◌≡◌, ◌+◌, drop, sym, is_ok, ap, subst, arith}
use Rattle.std.proofs.ResultArms.{chosen}
use Rattle.st_grammar.specs.Tokens.{piece, gap, token, here}
use Rattle.st_lexer.specs.Views.{kind_seen, rule_seen}
use Rattle.st_lexer.proofs.Reading.{ReadTo, gap_within, token_within, read_gap, read_token, read_all}
use Rattle.st_lexer.proofs.lex.tokens.Goals as goal

pub overflow_add-at : goal.overflow_add-at
overflow_add-at c = let e : piece (drop c.loop-at.at c.args.text.now)
    ≡ gap c.in-Gap.len = sym c.in-Gap.ensures in let fits = gap_within c.args.text.now c.loop-at.at c.in-Gap.len
    c.loop-at.invariant.within e in omega (arith, c.requires, fits.1)

pub loop-at-smaller-in-Gap : goal.loop-at-smaller-in-Gap
loop-at-smaller-in-Gap c = let e : piece (drop c.loop-at.at c.args.text.now)
    ≡ gap c.in-Gap.len = sym c.in-Gap.ensures in let fits = gap_within c.args.text.now c.loop-at.at c.in-Gap.len
    c.loop-at.invariant.within e in omega (arith, fits.0, fits.1)

pub loop-at-preserved-in-Gap : goal.loop-at-preserved-in-Gap
loop-at-preserved-in-Gap c = read_gap c.args.text.now c.loop-at.at c.in-Gap.len c.loop-at.tokens.items
    c.loop-at.invariant (sym c.in-Gap.ensures)

pub overflow_add-at-in-Word : goal.overflow_add-at-in-Word
overflow_add-at-in-Word c = let e : piece (drop c.loop-at.at c.args.text.now)
    ≡ token (kind_seen c.in-Word.kind) c.in-Word.len = sym c.in-Word.ensures in let fits = token_within c.args.text.now
    c.loop-at.at c.in-Word.len (kind_seen c.in-Word.kind) c.loop-at.invariant.within e in omega
    (arith, c.requires, fits.1)

pub overflow_cast-at-in-Word : goal.overflow_cast-at-in-Word
overflow_cast-at-in-Word c = let e : piece (drop c.loop-at.at c.args.text.now)
    ≡ token (kind_seen c.in-Word.kind) c.in-Word.len = sym c.in-Word.ensures in let fits = token_within c.args.text.now
    c.loop-at.at c.in-Word.len (kind_seen c.in-Word.kind) c.loop-at.invariant.within e in omega
    (arith, c.requires, fits.1)

pub overflow_add-at-in-Word-2 : goal.overflow_add-at-in-Word-2
overflow_add-at-in-Word-2 c = let e : piece (drop c.loop-at.at c.args.text.now)
    ≡ token (kind_seen c.in-Word.kind) c.in-Word.len = sym c.in-Word.ensures in let fits = token_within c.args.text.now
    c.loop-at.at c.in-Word.len (kind_seen c.in-Word.kind) c.loop-at.invariant.within e in omega
    (arith, c.requires, fits.1)

pub loop-at-smaller : goal.loop-at-smaller
loop-at-smaller c = let e : piece (drop c.loop-at.at c.args.text.now)
    ≡ token (kind_seen c.in-Word.kind) c.in-Word.len = sym c.in-Word.ensures in let fits = token_within c.args.text.now
    c.loop-at.at c.in-Word.len (kind_seen c.in-Word.kind) c.loop-at.invariant.within e in omega (arith, fits.0, fits.1)

pub loop-at-preserved : goal.loop-at-preserved
loop-at-preserved c =
    let pushed = chosen _ _ _ _ c.push.ensures.items (ap is_ok c.in_ok-push-in-Word.was) in
    subst (ReadTo c.args.text.now (c.loop-at.at + c.in-Word.len)) (sym pushed)
    (read_token c.args.text.now c.loop-at.at c.in-Word.len c.in-Word.kind c.loop-at.tokens.items c.loop-at.invariant
    (sym c.in-Word.ensures))

pub returns-in-Wrong-clause-fault : goal.returns-in-Wrong-clause-fault
returns-in-Wrong-clause-fault c = (
  rule_seen c.in-Wrong.rule,
  c.number.ensures,
  c.loop-at.invariant.stops c.loop-at.at (rule_seen c.in-Wrong.rule)
      (here (sym c.in-Wrong.ensures)),
)

pub returns-clause-tokens : goal.returns-clause-tokens
returns-clause-tokens c = read_all c.args.text.now c.loop-at.at c.loop-at.tokens.items (omega arith) c.loop-at.invariant
