-- What the list builders and the sizes make of two lists joined, so of a list with one more item at its end.
use Rattle.std.proofs.Common.{◌≡◌, ◌+◌, List, [], ◌∷◌, ◌++◌, refl, ap, arith}
use Rattle.st_tree.specs.Trees.{Constant, a_constant, constants, append_constants, Statement, a_statement, statements, append_statements, Send, a_send, sends, append_sends, Expression, an_expression, expressions, append_expressions}
use Rattle.st_tree.specs.Falls.{size_constants, size_statements, size_sends, size_expressions}

pub constants-append : (cs ds : List Constant) → constants (cs ++ ds) ≡ append_constants (constants cs) (constants ds)
constants-append [] ds = refl
constants-append (c ∷ cs) ds = ap (a_constant c) (constants-append cs ds)

pub statements-append : (ss ts : List Statement) → statements (ss ++ ts) ≡ append_statements (statements ss) (statements ts)
statements-append [] ts = refl
statements-append (s ∷ ss) ts = ap (a_statement s) (statements-append ss ts)

pub sends-append : (ms ns : List Send) → sends (ms ++ ns) ≡ append_sends (sends ms) (sends ns)
sends-append [] ns = refl
sends-append (m ∷ ms) ns = ap (a_send m) (sends-append ms ns)

pub expressions-append : (es fs : List Expression) → expressions (es ++ fs) ≡ append_expressions (expressions es) (expressions fs)
expressions-append [] fs = refl
expressions-append (e ∷ es) fs = ap (an_expression e) (expressions-append es fs)

pub size_constants-append : (cs ds : List Constant) → size_constants (constants (cs ++ ds)) ≡ size_constants (constants cs) + size_constants (constants ds)
size_constants-append [] ds = omega arith
size_constants-append (c ∷ cs) ds = omega (arith, size_constants-append cs ds)

pub size_statements-append : (ss ts : List Statement) → size_statements (statements (ss ++ ts)) ≡ size_statements (statements ss) + size_statements (statements ts)
size_statements-append [] ts = omega arith
size_statements-append (s ∷ ss) ts = omega (arith, size_statements-append ss ts)

pub size_sends-append : (ms ns : List Send) → size_sends (sends (ms ++ ns)) ≡ size_sends (sends ms) + size_sends (sends ns)
size_sends-append [] ns = omega arith
size_sends-append (m ∷ ms) ns = omega (arith, size_sends-append ms ns)

pub size_expressions-append : (es fs : List Expression) → size_expressions (expressions (es ++ fs)) ≡ size_expressions (expressions es) + size_expressions (expressions fs)
size_expressions-append [] fs = omega arith
size_expressions-append (e ∷ es) fs = omega (arith, size_expressions-append es fs)

-- for `using`, which takes no name with a dash
pub ruleset appends = (constants-append, statements-append, sends-append, expressions-append)

pub ruleset sizes = (size_constants-append, size_statements-append, size_sends-append, size_expressions-append)
