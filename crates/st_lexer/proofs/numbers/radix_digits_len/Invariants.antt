use Rattle.std.proofs.Common.{◌≡◌, ◌+◌, drop}
use Rattle.std.specs.List.{prefix_len}
use Rattle.st_grammar.specs.Tokens.{is_radix_digit}
use Rattle.st_lexer.proofs.numbers.radix_digits_len.Given as goal

abbrev pub invariant-loop-i : goal.invariant-loop-i
invariant-loop-i l = prefix_len is_radix_digit l.text ≡ l.i + prefix_len is_radix_digit (drop l.i l.text)
