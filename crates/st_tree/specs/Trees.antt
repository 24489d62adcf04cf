-- The syntax of Smalltalk as plain data: what a text stands for once its layout, its comments and
-- the shape of its tokens are gone. A name, a string, a symbol and a selector are the bytes that
-- they are written with.
use Rattle.std.specs.Prelude.{ℕ, ℤ, Bool, Option, List, [], ◌∷◌}
use Rattle.texts.specs.Bytes.{Bytes}

mutual
  -- A literal: an object that is written out in the text.
  pub data Constant : Type 0 where
    -- an integer, as `3` or `-3`
    int : ℤ → Constant
    -- a character, as `$a`, by its code
    char : ℕ → Constant
    -- a string, as `'ab'`: the bytes between its quotes, a doubled quote counted once
    str : Bytes → Constant
    -- a symbol, as `#at:put:`: the bytes after `#`
    sym : Bytes → Constant
    -- `nil`, `true` and `false`
    nothing : Constant
    yes : Constant
    no : Constant
    -- a literal array, as `#(1 $a #b)`, with its elements in order
    array : Constants → Constant

  -- the elements of a literal array
  pub data Constants : Type 0 where
    no_constants : Constants
    a_constant : Constant → Constants → Constants

mutual
  -- A primary: what the first message of an expression is sent to.
  pub data Head : Type 0 where
    -- a variable, or `self`, `super` and the like, by its name
    name : Bytes → Head
    -- a literal
    constant : Constant → Head
    -- a block, as `[:x | x + 1]`
    block : Closure → Head
    -- an expression in parentheses
    paren : Expression → Head

  -- A block: `[:p :q | | t u | statements]`, with the names of its parameters and of its
  -- temporaries in order.
  pub data Closure : Type 0 where
    closure : (params temps : List Bytes) → Statements → Closure

  -- An expression: `a := b := head messages; cascade`.
  --   assigns     the variables that its value is assigned to, in the order written
  --   messages    the messages in the order that they are sent: the first to the head, each next
  --               one to the answer of the one before it
  --   cascade     what stands after the semicolons: these go to the receiver of the last of the
  --               messages
  pub data Expression : Type 0 where
    expression : (assigns : List Bytes) → Head → (messages cascade : Sends) → Expression

  -- A message: a selector with its arguments, none for a unary one, one for a binary one, one for
  -- each keyword.
  pub data Send : Type 0 where
    send : (selector : Bytes) → Expressions → Send

  -- A statement: an expression, and whether `^` stands before it.
  pub data Statement : Type 0 where
    statement : (returns : Bool) → Expression → Statement

  -- statements in the order that they are carried out
  pub data Statements : Type 0 where
    no_statements : Statements
    a_statement : Statement → Statements → Statements

  -- messages in order
  pub data Sends : Type 0 where
    no_sends : Sends
    a_send : Send → Sends → Sends

  -- the arguments of a message in order
  pub data Expressions : Type 0 where
    no_expressions : Expressions
    an_expression : Expression → Expressions → Expressions

-- A whole text: a method, with its selector and its parameters, or a chunk, which has neither.
pub record Program : Type 0 where
  pub selector : Option Bytes
  pub params : List Bytes
  pub temps : List Bytes
  pub body : Statements

-- The lists of the syntax, made of the lists of antt.
abbrev pub constants : List Constant → Constants
constants [] = no_constants
constants (c ∷ cs) = a_constant c (constants cs)

abbrev pub statements : List Statement → Statements
statements [] = no_statements
statements (s ∷ ss) = a_statement s (statements ss)

abbrev pub sends : List Send → Sends
sends [] = no_sends
sends (m ∷ ms) = a_send m (sends ms)

abbrev pub expressions : List Expression → Expressions
expressions [] = no_expressions
expressions (e ∷ es) = an_expression e (expressions es)

-- the one list, and then the other
abbrev pub append_constants : Constants → Constants → Constants
append_constants no_constants ds = ds
append_constants (a_constant c cs) ds = a_constant c (append_constants cs ds)

abbrev pub append_statements : Statements → Statements → Statements
append_statements no_statements ts = ts
append_statements (a_statement s ss) ts = a_statement s (append_statements ss ts)

abbrev pub append_sends : Sends → Sends → Sends
append_sends no_sends ns = ns
append_sends (a_send m ms) ns = a_send m (append_sends ms ns)

abbrev pub append_expressions : Expressions → Expressions → Expressions
append_expressions no_expressions fs = fs
append_expressions (an_expression e es) fs = an_expression e (append_expressions es fs)
