-- How large a tree is: a number that each part of it is below. Recursions over trees go down by it.
use Rattle.std.specs.Prelude.{ℕ, ◌+◌, ◌≤◌, List, [], ◌∷◌}
use Rattle.std.proofs.Common.{arith}
use denote.Param.Weighed.{most}
use Rattle.st_tree.specs.Trees.{Constant, array, Constants, no_constants, a_constant, Head, name}
use Rattle.st_tree.specs.Trees.{constant, block, paren, Closure, closure, Expression, expression}
use Rattle.st_tree.specs.Trees.{Send, send, Statement, statement, Statements, no_statements}
use Rattle.st_tree.specs.Trees.{a_statement, Sends, no_sends, a_send, Expressions, no_expressions}
use Rattle.st_tree.specs.Trees.{an_expression, Program, statements, sends, expressions}

abbrev mutual
  pub size_constant : Constant → ℕ
  size_constant (array cs) = size_constants cs + 1
  size_constant _ = 1

  pub size_constants : Constants → ℕ
  size_constants no_constants = 0
  size_constants (a_constant c cs) = size_constant c + size_constants cs + 1

abbrev mutual
  pub size_head : Head → ℕ
  size_head (name t) = 1
  size_head (constant c) = size_constant c + 1
  size_head (block b) = size_closure b + 1
  size_head (paren e) = size_expression e + 1

  pub size_closure : Closure → ℕ
  size_closure (closure ps ts ss) = size_statements ss + 1

  pub size_expression : Expression → ℕ
  size_expression (expression ns h ms cs) = size_head h + size_sends ms + size_sends cs + 1

  pub size_send : Send → ℕ
  size_send (send t es) = size_expressions es + 1

  pub size_statement : Statement → ℕ
  size_statement (statement r e) = size_expression e + 1

  pub size_statements : Statements → ℕ
  size_statements no_statements = 0
  size_statements (a_statement s ss) = size_statement s + size_statements ss + 1

  pub size_sends : Sends → ℕ
  size_sends no_sends = 0
  size_sends (a_send m ms) = size_send m + size_sends ms + 1

  pub size_expressions : Expressions → ℕ
  size_expressions no_expressions = 0
  size_expressions (an_expression e es) = size_expression e + size_expressions es + 1

abbrev pub size_program : Program → ℕ
size_program p = size_statements p.body + 1

-- no item of a list is larger than the list
pub most_statements : (ss : List Statement)
    → most (λ s. size_statement s + 1) ss ≤ size_statements (statements ss)
most_statements [] = omega arith
most_statements (s ∷ ss) = omega (arith, most_statements ss)

pub most_sends : (ms : List Send) → most (λ m. size_send m + 1) ms ≤ size_sends (sends ms)
most_sends [] = omega arith
most_sends (m ∷ ms) = omega (arith, most_sends ms)

pub most_expressions : (es : List Expression)
    → most (λ e. size_expression e + 1) es ≤ size_expressions (expressions es)
most_expressions [] = omega arith
most_expressions (e ∷ es) = omega (arith, most_expressions es)
