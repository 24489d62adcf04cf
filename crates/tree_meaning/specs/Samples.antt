-- Worked chunks: what a few of them come to, where integers understand `+` and nothing else is
-- understood.
use Rattle.std.specs.Prelude.{◌≡◌, ℕ, pos, ◌+ℤ◌, true, false, List, [], ◌∷◌, length, None, codes}
use Rattle.object_programs.specs.texts.Bytes.{Bytes as Text}
use Rattle.object_programs.specs.st_tree.Trees.{int, Head, name, constant, block, closure, Expression, expression, expressions, Send, send, sends, Statement, statement, statements, Program}
use Rattle.object_programs.specs.gem_object.declared.value.Value.{Value}
use Rattle.object_programs.specs.gem_object.declared.value.Value.TheVariants as value
use Rattle.object_programs.specs.gem_world.World.{Setting, untouched}
use Rattle.object_programs.specs.Local.{nothing}
use Rattle.object_programs.specs.Run.{Ending, gives, fails, State, Outcome, perform}
use Rattle.object_programs.specs.declared.fault.Fault.TheVariants as fault
use Rattle.tree_meaning.specs.Place.{MadeBlock}
use Rattle.tree_meaning.specs.Bodies.{chunk_body}
use Rattle.tree_meaning.specs.Calls.{activation}
use Rattle.tree_meaning.specs.Replies.{Replies, outside_of}

-- `+` of integers
abbrev pub added : Text → (receiver : Value) → (arguments : List Value) → Ending Value
added selector (value.Int first) (value.Int second ∷ []) = gives (value.Int (first +ℤ second))
added selector receiver arguments = fails (fault.NotUnderstood selector)

abbrev pub adding : Replies
adding = record {
  to_send = λ to_super selector frame receiver arguments budget local.
      record { end = added selector receiver arguments; local = local };
  to_name = λ text frame budget local.
      record { end = fails (fault.UndefinedVariable text); local = local };
  to_assignment = λ text frame answer budget local.
      record { end = fails (fault.UndefinedVariable text); local = local };
  to_literal = λ tree budget local. record { end = fails fault.Space; local = local };
}

-- Parts of trees: a whole number, and what is alone in an expression.
abbrev pub whole : ℕ → Head
whole number = constant (int (pos number))

abbrev pub alone : Head → Expression
alone head = expression [] head (sends []) (sends [])

-- `a := head messages`
abbrev pub set_to : Text → Head → List Send → Expression
set_to text head messages = expression (text ∷ []) head (sends messages) (sends [])

-- `head selector arguments`
abbrev pub sent_to : Head → Text → List Expression → Expression
sent_to head selector arguments =
    expression [] head (sends (send selector (expressions arguments) ∷ [])) (sends [])

-- `+ head`
abbrev pub plus : Head → Send
plus head = send (codes "+") (expressions (alone head ∷ []))

-- `[:params | | temps | statement]`
abbrev pub block_of : (params temps : List Text) → Statement → Head
block_of params temps only = block (closure params temps (statements (only ∷ [])))

abbrev pub a_chunk : (temps : List Text) → List Statement → Program
a_chunk temps all = record { selector = None; params = []; temps = temps; body = statements all }

abbrev pub a : Text
a = codes "a"

abbrev pub i : Text
i = codes "i"

-- `| a | a := 0. 1 to: 3 do: [:i | a := a + i]. a`
abbrev pub counting : Program
counting = a_chunk (a ∷ [])
    (statement false (set_to a (whole 0) [])
    ∷ statement false (sent_to (whole 1) (codes "to:do:")
    (alone (whole 3)
    ∷ alone (block_of (i ∷ []) [] (statement false (set_to a (name a) (plus (name i) ∷ []))))
    ∷ []))
    ∷ statement false (alone (name a)) ∷ [])

-- `| a | a := 0. 3 timesRepeat: [a := a + 2]. a`
abbrev pub repeating : Program
repeating = a_chunk (a ∷ [])
    (statement false (set_to a (whole 0) [])
    ∷ statement false (sent_to (whole 3) (codes "timesRepeat:")
    (alone (block_of [] [] (statement false (set_to a (name a) (plus (whole 2) ∷ [])))) ∷ []))
    ∷ statement false (alone (name a)) ∷ [])

-- `| a | a := false. [a] whileFalse: [a := true]`
abbrev pub looping : Program
looping = a_chunk (a ∷ [])
    (statement false (set_to a (name (codes "false")) [])
    ∷ statement false (sent_to (block_of [] [] (statement false (alone (name a))))
    (codes "whileFalse:")
    (alone (block_of [] [] (statement false (set_to a (name (codes "true")) []))) ∷ []))
    ∷ [])

-- `1 + 2; + 10`
abbrev pub cascading : Program
cascading = a_chunk []
    (statement false (expression [] (whole 1) (sends (plus (whole 2) ∷ []))
    (sends (plus (whole 10) ∷ [])))
    ∷ [])

-- `| a | a := 7. 1 to: 3 do: [:i | | a | a := 9 + i]. a`: an inner name hides an outer one
abbrev pub hiding : Program
hiding = a_chunk (a ∷ [])
    (statement false (set_to a (whole 7) [])
    ∷ statement false (sent_to (whole 1) (codes "to:do:")
    (alone (whole 3)
    ∷ alone (block_of (i ∷ []) (a ∷ [])
    (statement false (set_to a (whole 9) (plus (name i) ∷ [])))) ∷ []))
    ∷ statement false (alone (name a)) ∷ [])

-- `1 to: 3 do: [:i | ^i]. 5`
abbrev pub returning : Program
returning = a_chunk []
    (statement false (sent_to (whole 1) (codes "to:do:")
    (alone (whole 3) ∷ alone (block_of (i ∷ []) [] (statement true (alone (name i)))) ∷ []))
    ∷ statement false (alone (whole 5)) ∷ [])

-- `nil ifTrue: [5]`
abbrev pub doubting : Program
doubting = a_chunk []
    (statement false (sent_to (name (codes "nil")) (codes "ifTrue:")
    (alone (block_of [] [] (statement false (alone (whole 5)))) ∷ []))
    ∷ [])

-- how a chunk ends, and how many of 100 units it leaves
abbrev pub begun : State MadeBlock
begun = record {
  world = untouched 1;
  budget = record { units = 100; slots = 100; text = [] };
  local = nothing MadeBlock;
}

abbrev pub after : Program → Setting → Outcome MadeBlock Value
after tree setting = perform
    (activation (chunk_body (outside_of adding) tree) (length tree.temps) 3 false value.Nil [])
    setting begun

-- `tree` ends so, and leaves so many of 100 units
pub record ComesTo (tree : Program) (setting : Setting) (end : Ending Value) (units : ℕ)
    : Type 0 where
  pub ends : (after tree setting).end ≡ end
  pub leaves : (after tree setting).state.budget.units ≡ units
