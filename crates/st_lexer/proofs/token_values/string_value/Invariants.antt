use Rattle.std.proofs.Common.{◌≡◌, ◌++◌, drop}
use Rattle.st_grammar.specs.Tokens.{string_value, string_bytes}
use Rattle.st_lexer.proofs.token_values.string_value.Given as goal

abbrev pub invariant-loop-b : goal.invariant-loop-b
invariant-loop-b l = string_value l.bytes ≡ l.value.items ++ string_bytes l.quoted (drop l.b-index (drop 1 l.bytes))
