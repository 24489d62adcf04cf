-- A code for each type of syntax, by which a proof tells two trees apart: a tree of numbers, with a
-- function that reads it back.
use Rattle.std.specs.Prelude.{◌≡◌, refl, ℕ, zero, suc, ℤ, pos, negsuc, Bool, true, false, Option}
use Rattle.std.specs.Prelude.{Some, None, List, [], ◌∷◌}
use Rattle.std.specs.Coded.{Coded, code_by}
use base.Stored.{Gv, gnil, gnum, gcons, num}
use denote.Struct.Codes.{itself}
use Rattle.texts.specs.Bytes.{Bytes}
use Rattle.st_tree.specs.Trees.{Constant, int, char, str, sym, nothing, yes, no, array, Constants}
use Rattle.st_tree.specs.Trees.{no_constants, a_constant, Head, name, constant, block, paren}
use Rattle.st_tree.specs.Trees.{Closure, closure, Expression, expression, Send, send, Statement}
use Rattle.st_tree.specs.Trees.{statement, Statements, no_statements, a_statement, Sends, no_sends}
use Rattle.st_tree.specs.Trees.{a_send, Expressions, no_expressions, an_expression, Program}

-- numbers, truth values, texts and lists of texts
abbrev int_to : ℤ → Gv
int_to (pos n) = gcons (gnum 0) (gnum n)
int_to (negsuc n) = gcons (gnum 1) (gnum n)

abbrev int_by : ℕ → ℕ → ℤ
int_by zero n = pos n
int_by (suc k) n = negsuc n

abbrev int_from : Gv → ℤ
int_from gnil = pos 0
int_from (gnum n) = pos n
int_from (gcons a b) = int_by (num a) (num b)

pub int_back : (z : ℤ) → int_from (int_to z) ≡ z
int_back (pos n) = refl
int_back (negsuc n) = refl

abbrev bool_to : Bool → Gv
bool_to true = gnum 1
bool_to false = gnum 0

abbrev is_not_zero : ℕ → Bool
is_not_zero zero = false
is_not_zero (suc n) = true

abbrev bool_from : Gv → Bool
bool_from g = is_not_zero (num g)

pub bool_back : (b : Bool) → bool_from (bool_to b) ≡ b
bool_back true = refl
bool_back false = refl

abbrev bytes_to : Bytes → Gv
bytes_to [] = gnil
bytes_to (b ∷ bs) = gcons (gnum b) (bytes_to bs)

abbrev bytes_from : Gv → Bytes
bytes_from gnil = []
bytes_from (gnum n) = []
bytes_from (gcons a b) = num a ∷ bytes_from b

pub bytes_back : (bs : Bytes) → bytes_from (bytes_to bs) ≡ bs
bytes_back [] = refl
bytes_back (b ∷ bs) = λ i. b ∷ bytes_back bs i

abbrev texts_to : List Bytes → Gv
texts_to [] = gnil
texts_to (t ∷ ts) = gcons (bytes_to t) (texts_to ts)

abbrev texts_from : Gv → List Bytes
texts_from gnil = []
texts_from (gnum n) = []
texts_from (gcons a b) = bytes_from a ∷ texts_from b

pub texts_back : (ts : List Bytes) → texts_from (texts_to ts) ≡ ts
texts_back [] = refl
texts_back (t ∷ ts) = λ i. bytes_back t i ∷ texts_back ts i

abbrev option_to : Option Bytes → Gv
option_to None = gnil
option_to (Some t) = gcons gnil (bytes_to t)

abbrev option_from : Gv → Option Bytes
option_from gnil = None
option_from (gnum n) = None
option_from (gcons a b) = Some (bytes_from b)

pub option_back : (o : Option Bytes) → option_from (option_to o) ≡ o
option_back None = refl
option_back (Some t) = λ i. Some (bytes_back t i)

-- literals, by the number of their kind
abbrev mutual
  constant_to : Constant → Gv
  constant_to (int z) = gcons (gnum 0) (int_to z)
  constant_to (char c) = gcons (gnum 1) (gnum c)
  constant_to (str t) = gcons (gnum 2) (bytes_to t)
  constant_to (sym t) = gcons (gnum 3) (bytes_to t)
  constant_to nothing = gcons (gnum 4) gnil
  constant_to yes = gcons (gnum 5) gnil
  constant_to no = gcons (gnum 6) gnil
  constant_to (array cs) = gcons (gnum 7) (constants_to cs)

  constants_to : Constants → Gv
  constants_to no_constants = gnil
  constants_to (a_constant c cs) = gcons (constant_to c) (constants_to cs)

abbrev constant_by : ℕ → Gv → Constants → Constant
constant_by zero g cs = int (int_from g)
constant_by (suc zero) g cs = char (num g)
constant_by (suc (suc zero)) g cs = str (bytes_from g)
constant_by (suc (suc (suc zero))) g cs = sym (bytes_from g)
constant_by (suc (suc (suc (suc zero)))) g cs = nothing
constant_by (suc (suc (suc (suc (suc zero))))) g cs = yes
constant_by (suc (suc (suc (suc (suc (suc zero)))))) g cs = no
constant_by (suc (suc (suc (suc (suc (suc (suc n))))))) g cs = array cs

abbrev mutual
  constant_from : Gv → Constant
  constant_from gnil = nothing
  constant_from (gnum n) = nothing
  constant_from (gcons a b) = constant_by (num a) b (constants_from b)

  constants_from : Gv → Constants
  constants_from gnil = no_constants
  constants_from (gnum n) = no_constants
  constants_from (gcons a b) = a_constant (constant_from a) (constants_from b)

mutual
  pub constant_back : (c : Constant) → constant_from (constant_to c) ≡ c
  constant_back (int z) = λ i. int (int_back z i)
  constant_back (char c) = refl
  constant_back (str t) = λ i. str (bytes_back t i)
  constant_back (sym t) = λ i. sym (bytes_back t i)
  constant_back nothing = refl
  constant_back yes = refl
  constant_back no = refl
  constant_back (array cs) = λ i. array (constants_back cs i)

  pub constants_back : (cs : Constants) → constants_from (constants_to cs) ≡ cs
  constants_back no_constants = refl
  constants_back (a_constant c cs) = λ i. a_constant (constant_back c i) (constants_back cs i)

abbrev pub constant_code : Coded Constant
constant_code = code_by Gv itself constant_to constant_from constant_back

abbrev pub constants_code : Coded Constants
constants_code = code_by Gv itself constants_to constants_from constants_back

-- expressions and what they are made of
abbrev mutual
  head_to : Head → Gv
  head_to (name t) = gcons (gnum 0) (bytes_to t)
  head_to (constant c) = gcons (gnum 1) (constant_to c)
  head_to (block b) = gcons (gnum 2) (closure_to b)
  head_to (paren e) = gcons (gnum 3) (expression_to e)

  closure_to : Closure → Gv
  closure_to (closure ps ts ss) = gcons (texts_to ps) (gcons (texts_to ts) (statements_to ss))

  expression_to : Expression → Gv
  expression_to (expression ns h ms cs) = gcons (texts_to ns)
      (gcons (head_to h) (gcons (sends_to ms) (sends_to cs)))

  send_to : Send → Gv
  send_to (send t es) = gcons (bytes_to t) (expressions_to es)

  statement_to : Statement → Gv
  statement_to (statement r e) = gcons (bool_to r) (expression_to e)

  statements_to : Statements → Gv
  statements_to no_statements = gnil
  statements_to (a_statement s ss) = gcons (statement_to s) (statements_to ss)

  sends_to : Sends → Gv
  sends_to no_sends = gnil
  sends_to (a_send m ms) = gcons (send_to m) (sends_to ms)

  expressions_to : Expressions → Gv
  expressions_to no_expressions = gnil
  expressions_to (an_expression e es) = gcons (expression_to e) (expressions_to es)

abbrev head_by : ℕ → Gv → Closure → Expression → Head
head_by zero g b e = name (bytes_from g)
head_by (suc zero) g b e = constant (constant_from g)
head_by (suc (suc zero)) g b e = block b
head_by (suc (suc (suc n))) g b e = paren e

abbrev mutual
  head_from : Gv → Head
  head_from gnil = name []
  head_from (gnum n) = name []
  head_from (gcons a b) = head_by (num a) b (closure_from b) (expression_from b)

  closure_from : Gv → Closure
  closure_from (gcons a (gcons b c)) = closure (texts_from a) (texts_from b) (statements_from c)
  closure_from _ = closure [] [] no_statements

  expression_from : Gv → Expression
  expression_from (gcons a (gcons b (gcons c d))) = expression (texts_from a) (head_from b)
      (sends_from c) (sends_from d)
  expression_from _ = expression [] (name []) no_sends no_sends

  send_from : Gv → Send
  send_from (gcons a b) = send (bytes_from a) (expressions_from b)
  send_from _ = send [] no_expressions

  statement_from : Gv → Statement
  statement_from (gcons a b) = statement (bool_from a) (expression_from b)
  statement_from _ = statement false (expression [] (name []) no_sends no_sends)

  statements_from : Gv → Statements
  statements_from (gcons a b) = a_statement (statement_from a) (statements_from b)
  statements_from _ = no_statements

  sends_from : Gv → Sends
  sends_from (gcons a b) = a_send (send_from a) (sends_from b)
  sends_from _ = no_sends

  expressions_from : Gv → Expressions
  expressions_from (gcons a b) = an_expression (expression_from a) (expressions_from b)
  expressions_from _ = no_expressions

mutual
  pub head_back : (h : Head) → head_from (head_to h) ≡ h
  head_back (name t) = λ i. name (bytes_back t i)
  head_back (constant c) = λ i. constant (constant_back c i)
  head_back (block b) = λ i. block (closure_back b i)
  head_back (paren e) = λ i. paren (expression_back e i)

  pub closure_back : (b : Closure) → closure_from (closure_to b) ≡ b
  closure_back (closure ps ts ss) =
      λ i. closure (texts_back ps i) (texts_back ts i) (statements_back ss i)

  pub expression_back : (e : Expression) → expression_from (expression_to e) ≡ e
  expression_back (expression ns h ms cs) =
      λ i. expression (texts_back ns i) (head_back h i) (sends_back ms i) (sends_back cs i)

  pub send_back : (m : Send) → send_from (send_to m) ≡ m
  send_back (send t es) = λ i. send (bytes_back t i) (expressions_back es i)

  pub statement_back : (s : Statement) → statement_from (statement_to s) ≡ s
  statement_back (statement r e) = λ i. statement (bool_back r i) (expression_back e i)

  pub statements_back : (ss : Statements) → statements_from (statements_to ss) ≡ ss
  statements_back no_statements = refl
  statements_back (a_statement s ss) = λ i. a_statement (statement_back s i) (statements_back ss i)

  pub sends_back : (ms : Sends) → sends_from (sends_to ms) ≡ ms
  sends_back no_sends = refl
  sends_back (a_send m ms) = λ i. a_send (send_back m i) (sends_back ms i)

  pub expressions_back : (es : Expressions) → expressions_from (expressions_to es) ≡ es
  expressions_back no_expressions = refl
  expressions_back (an_expression e es) =
      λ i. an_expression (expression_back e i) (expressions_back es i)

abbrev pub head_code : Coded Head
head_code = code_by Gv itself head_to head_from head_back

abbrev pub closure_code : Coded Closure
closure_code = code_by Gv itself closure_to closure_from closure_back

abbrev pub expression_code : Coded Expression
expression_code = code_by Gv itself expression_to expression_from expression_back

abbrev pub send_code : Coded Send
send_code = code_by Gv itself send_to send_from send_back

abbrev pub statement_code : Coded Statement
statement_code = code_by Gv itself statement_to statement_from statement_back

abbrev pub statements_code : Coded Statements
statements_code = code_by Gv itself statements_to statements_from statements_back

abbrev pub sends_code : Coded Sends
sends_code = code_by Gv itself sends_to sends_from sends_back

abbrev pub expressions_code : Coded Expressions
expressions_code = code_by Gv itself expressions_to expressions_from expressions_back

-- a whole text
abbrev program_to : Program → Gv
program_to p = gcons (option_to p.selector)
    (gcons (texts_to p.params) (gcons (texts_to p.temps) (statements_to p.body)))

abbrev program_from : Gv → Program
program_from (gcons a (gcons b (gcons c d))) = record {
  selector = option_from a;
  params = texts_from b;
  temps = texts_from c;
  body = statements_from d;
}
program_from _ = record { selector = None; params = []; temps = []; body = no_statements }

pub program_back : (p : Program) → program_from (program_to p) ≡ p
program_back p = λ i. record {
  selector = option_back p.selector i;
  params = texts_back p.params i;
  temps = texts_back p.temps i;
  body = statements_back p.body i;
}

abbrev pub program_code : Coded Program
program_code = code_by Gv itself program_to program_from program_back
