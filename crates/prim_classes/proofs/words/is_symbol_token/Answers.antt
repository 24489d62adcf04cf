use Rattle.std.proofs.Common.{◌≡◌, ◌+◌, List, length, sym, subst, ◌∙◌, arith}
use Rattle.st_lexer.specs.declared.kinds.Token.{Token}
use Rattle.prim_classes.specs.Symbols.{begins_with_symbol}
use Rattle.st_lexer.specs.Views.{tokens_seen}
use Rattle.prim_classes.proofs.SoleSymbols.{by_length, tokens_tell, fault_tells}
use Rattle.prim_classes.proofs.words.is_symbol_token.Goals as goal

pub returns-then-name-gt-SYMBOL_TOKEN_LIMIT : goal.returns-then-name-gt-SYMBOL_TOKEN_LIMIT
returns-then-name-gt-SYMBOL_TOKEN_LIMIT c = sym (by_length c.args.name.now (omega arith))

pub returns-in-Ok : goal.returns-in-Ok
returns-in-Ok c = let At = λ (ts : List Token). c.begins_with_symbol.result ≡ begins_with_symbol (length c.args.name.now + 1) (tokens_seen ts) in
    tokens_tell c.args.name.now (tokens_seen c.in-Ok.found.items) c.bytes.result.now (length c.args.name.now + 1) (omega arith)
    (c.bytes.ensures ∙ c.in_ok-text.ensures) c.in-Ok.ensures.tokens (subst At c.as_slice.ensures.value c.begins_with_symbol.ensures)

pub returns-in-Err-Bad : goal.returns-in-Err-Bad
returns-in-Err-Bad c = fault_tells c.args.name.now c.bytes.result.now c.in-Err-Bad.field-0 c.in-Err-Bad.field-0-0 c.in-Err-Bad.field-0-1
    c.in-Err-Bad.field-0-is (c.bytes.ensures ∙ c.in_ok-text.ensures) c.in-Err-Bad.ensures.fault
