-- The special forms: which messages aren't sent, but evaluate blocks in their place. Meaning,
-- evaluator and compiler all ask here.
use Rattle.std.specs.Prelude.{ℕ, Bool, true, false, ◌&&◌, nat_eq, if◌then◌else◌, [], length, Option, None, Some, codes, bytes_eq}
use Rattle.object_programs.specs.texts.Bytes.{Bytes as Text}
use Rattle.object_programs.specs.st_tree.Trees.{Head, block, Closure, closure, Expression, expression, Expressions, no_expressions, an_expression, Send, send, Sends, no_sends, a_send}
use Rattle.tree_meaning.specs.declared.name.Singleton.TheVariants as singleton
use Rattle.tree_meaning.specs.declared.form.Form.{Form}
use Rattle.tree_meaning.specs.declared.form.Form.TheVariants.{Plain, OneArm, TwoArms, Counting, Repeating}

-- whether a block has so many parameters
abbrev pub takes : ℕ → Closure → Bool
takes count (closure params temps body) = nat_eq (length params) count

-- whether what begins an expression is a literal block with so many parameters; a block in
-- parentheses is none
abbrev pub is_block_head : ℕ → Head → Bool
is_block_head count (block tree) = takes count tree
is_block_head count head = false

-- whether an expression is such a block and nothing else
abbrev pub is_block_of : ℕ → Expression → Bool
is_block_of count (expression [] head no_sends no_sends) = is_block_head count head
is_block_of count other = false

-- whether the arguments are one block without parameters; two of them; any argument and then a
-- block with one parameter
abbrev pub are_one_block : Expressions → Bool
are_one_block (an_expression only no_expressions) = is_block_of 0 only
are_one_block arguments = false

abbrev pub are_two_blocks : Expressions → Bool
are_two_blocks (an_expression first (an_expression second no_expressions)) =
    is_block_of 0 first && is_block_of 0 second
are_two_blocks arguments = false

abbrev pub are_limit_and_block : Expressions → Bool
are_limit_and_block (an_expression limit (an_expression body no_expressions)) = is_block_of 1 body
are_limit_and_block arguments = false

-- the form of a selector, where the arguments are one block, two blocks, a limit and a block
abbrev pub form_with_block : Text → Form
form_with_block selector =
    if bytes_eq selector (codes "ifTrue:") then OneArm true singleton.Nil
    else if bytes_eq selector (codes "ifFalse:") then OneArm false singleton.Nil
    else if bytes_eq selector (codes "and:") then OneArm true singleton.False
    else if bytes_eq selector (codes "or:") then OneArm false singleton.True
    else if bytes_eq selector (codes "timesRepeat:") then Repeating
    else Plain

abbrev pub form_with_two_blocks : Text → Form
form_with_two_blocks selector =
    if bytes_eq selector (codes "ifTrue:ifFalse:") then TwoArms true
    else if bytes_eq selector (codes "ifFalse:ifTrue:") then TwoArms false
    else Plain

abbrev pub form_with_limit : Text → Form
form_with_limit selector = if bytes_eq selector (codes "to:do:") then Counting else Plain

-- the form of a message that isn't sent to `super` and isn't in a cascade
unfoldable pub form_of : Text → Expressions → Form
form_of selector arguments =
    if are_one_block arguments then form_with_block selector
    else if are_two_blocks arguments then form_with_two_blocks selector
    else if are_limit_and_block arguments then form_with_limit selector
    else Plain

-- the same of a message that may be sent to `super`: such a message is always sent
abbrev pub form_under : (to_super : Bool) → Text → Expressions → Form
form_under true selector arguments = Plain
form_under false selector arguments = form_of selector arguments

-- `whileTrue:` goes on while the condition is true, `whileFalse:` while it is false
abbrev pub loop_with_block : Text → Option Bool
loop_with_block selector =
    if bytes_eq selector (codes "whileTrue:") then Some true
    else if bytes_eq selector (codes "whileFalse:") then Some false
    else None

-- whether a message to this head is such a loop, and while which truth value it goes on
unfoldable pub loop_of : Head → Send → Option Bool
loop_of head (send selector arguments) =
    if is_block_head 0 head && are_one_block arguments then loop_with_block selector else None

-- the same of the first of an expression's messages; the last message before a cascade belongs to
-- the cascade
abbrev pub first_loop : Head → (messages cascade : Sends) → Option Bool
first_loop head no_sends cascade = None
first_loop head (a_send only no_sends) (a_send next rest) = None
first_loop head (a_send first rest) cascade = loop_of head first
