-- The tests of special forms, one after the other.
use Rattle.std.proofs.Common.{◌≡◌, refl, sym, ◌∙◌, ℕ, ◌==◌, true, false, List, [], ◌∷◌, length, None}
use Rattle.std.proofs.lemmas.Bool.{false≢true}
use Rattle.std.proofs.Math.Dec.{eqb-suc-zero}
use Rattle.gem_object.specs.texts.Bytes.{Bytes as Text}
use Rattle.st_tree.specs.Trees.{Head, Expression, expression, Expressions, an_expression, expressions, Send, send, Sends, no_sends, a_send, sends}
use Rattle.tree_meaning.specs.Forms.{is_block_head, is_block_of, are_one_block, are_two_blocks, are_limit_and_block, form_with_block, form_with_two_blocks, form_with_limit, form_of, loop_with_block, loop_of, first_loop}
use Rattle.tree_meaning.specs.declared.form.Form.TheVariants.{Plain}

-- a list with an item isn't empty
not_empty : {A : Type 0} (first : A) (rest : List A) → (length (first ∷ rest) == 0) ≡ true → false ≡ true
not_empty first rest none = sym (eqb-suc-zero (length rest)) ∙ none

-- an expression that assigns is no block alone
pub has_assigns : (count : ℕ) (assigns : List Text) (head : Head) (messages cascade : Sends) → (length assigns == 0) ≡ false
    → is_block_of count (expression assigns head messages cascade) ≡ false
has_assigns count [] head messages cascade some = absurd (false≢true (sym some))
has_assigns count (first ∷ rest) head messages cascade some = refl

-- one with messages is none
pub has_messages : (count : ℕ) (assigns : List Text) (head : Head) (messages : List Send) (cascade : Sends)
    → (length messages == 0) ≡ false → is_block_of count (expression assigns head (sends messages) cascade) ≡ false
has_messages count assigns head [] cascade some = absurd (false≢true (sym some))
has_messages count [] head (first ∷ rest) cascade some = refl
has_messages count (name ∷ names) head (first ∷ rest) cascade some = refl

-- one with a cascade is none
pub has_cascade : (count : ℕ) (assigns : List Text) (head : Head) (messages cascade : List Send) → (length cascade == 0) ≡ false
    → is_block_of count (expression assigns head (sends messages) (sends cascade)) ≡ false
has_cascade count assigns head messages [] some = absurd (false≢true (sym some))
has_cascade count [] head [] (first ∷ rest) some = refl
has_cascade count [] head (message ∷ more) (first ∷ rest) some = refl
has_cascade count (name ∷ names) head messages (first ∷ rest) some = refl

-- one with a head alone is what its head is
pub has_head : (count : ℕ) (assigns : List Text) (head : Head) (messages cascade : List Send) → (length assigns == 0) ≡ true
    → (length messages == 0) ≡ true → (length cascade == 0) ≡ true
    → is_block_of count (expression assigns head (sends messages) (sends cascade)) ≡ is_block_head count head
has_head count [] head [] [] none no_message no_more = refl
has_head count (name ∷ names) head messages cascade none no_message no_more = absurd (false≢true (not_empty name names none))
has_head count [] head (first ∷ rest) cascade none no_message no_more = absurd (false≢true (not_empty first rest no_message))
has_head count [] head [] (first ∷ rest) none no_message no_more = absurd (false≢true (not_empty first rest no_more))

pub ruleset blocks_alone = (has_assigns, has_messages, has_cascade, has_head)

-- two arguments or more
pub more_than_one : (only : Expression) (rest : List Expression) → (length rest == 0) ≡ false
    → are_one_block (an_expression only (expressions rest)) ≡ false
more_than_one only [] some = absurd (false≢true (sym some))
more_than_one only (second ∷ rest) some = refl

pub ruleset one_block = (more_than_one)

-- three arguments or more, where two blocks are asked for
pub more_than_two : (first second : Expression) (rest : List Expression) → (length rest == 0) ≡ false
    → are_two_blocks (an_expression first (an_expression second (expressions rest))) ≡ false
more_than_two first second [] some = absurd (false≢true (sym some))
more_than_two first second (third ∷ rest) some = refl

pub ruleset two_blocks = (more_than_two)

-- the same, where a limit and a block are
pub more_than_limit : (limit body : Expression) (rest : List Expression) → (length rest == 0) ≡ false
    → are_limit_and_block (an_expression limit (an_expression body (expressions rest))) ≡ false
more_than_limit limit body [] some = absurd (false≢true (sym some))
more_than_limit limit body (third ∷ rest) some = refl

pub ruleset limit_and_block = (more_than_limit)

-- the form where the arguments are one block
pub by_one_block : (selector : Text) (arguments : Expressions) → are_one_block arguments ≡ true
    → form_of selector arguments ≡ form_with_block selector
unfolding form_of
by_one_block selector arguments one = rw one refl

-- where they are two blocks
pub by_two_blocks : (selector : Text) (arguments : Expressions) → are_one_block arguments ≡ false
    → are_two_blocks arguments ≡ true → form_of selector arguments ≡ form_with_two_blocks selector
unfolding form_of
by_two_blocks selector arguments not_one two = rw (not_one, two) refl

-- where they are a limit and a block
pub by_limit : (selector : Text) (arguments : Expressions) → are_one_block arguments ≡ false → are_two_blocks arguments ≡ false
    → are_limit_and_block arguments ≡ true → form_of selector arguments ≡ form_with_limit selector
unfolding form_of
by_limit selector arguments not_one not_two limit = rw (not_one, not_two, limit) refl

-- where they are none of these
pub by_none : (selector : Text) (arguments : Expressions) → are_one_block arguments ≡ false → are_two_blocks arguments ≡ false
    → are_limit_and_block arguments ≡ false → form_of selector arguments ≡ Plain
unfolding form_of
by_none selector arguments not_one not_two no_limit = rw (not_one, not_two, no_limit) refl

pub ruleset forms = (by_one_block, by_two_blocks, by_limit, by_none)

-- a message to what is no block without parameters is no loop
pub no_condition : (head : Head) (message : Send) → is_block_head 0 head ≡ false → loop_of head message ≡ None
unfolding loop_of
no_condition head (send selector arguments) no_block = rw no_block refl

-- one with no such block as its argument is none
pub no_body : (head : Head) (selector : Text) (arguments : Expressions) → is_block_head 0 head ≡ true
    → are_one_block arguments ≡ false → loop_of head (send selector arguments) ≡ None
unfolding loop_of
no_body head selector arguments block no_block = rw (block, no_block) refl

-- where both are, the selector tells
pub by_loop : (head : Head) (selector : Text) (arguments : Expressions) → is_block_head 0 head ≡ true
    → are_one_block arguments ≡ true → loop_of head (send selector arguments) ≡ loop_with_block selector
unfolding loop_of
by_loop head selector arguments block body = rw (block, body) refl

pub ruleset loops = (no_condition, no_body, by_loop)

-- the first of several messages
pub first_of_more : (head : Head) (first : Send) (rest : List Send) (cascade : Sends) → (length rest == 0) ≡ false
    → first_loop head (a_send first (sends rest)) cascade ≡ loop_of head first
first_of_more head first [] cascade some = absurd (false≢true (sym some))
first_of_more head first (second ∷ rest) no_sends some = refl
first_of_more head first (second ∷ rest) (a_send next more) some = refl

-- the only message, before a cascade
pub first_of_cascade : (head : Head) (first : Send) (rest cascade : List Send) → (length rest == 0) ≡ true
    → (length cascade == 0) ≡ false → first_loop head (a_send first (sends rest)) (sends cascade) ≡ None
first_of_cascade head first rest [] none some = absurd (false≢true (sym some))
first_of_cascade head first [] (next ∷ more) none some = refl
first_of_cascade head first (second ∷ rest) (next ∷ more) none some = absurd (false≢true (not_empty second rest none))

-- the only message, without one
pub first_alone : (head : Head) (first : Send) (rest cascade : List Send) → (length rest == 0) ≡ true
    → (length cascade == 0) ≡ true → first_loop head (a_send first (sends rest)) (sends cascade) ≡ loop_of head first
first_alone head first [] [] none no_more = refl
first_alone head first (second ∷ rest) cascade none no_more = absurd (false≢true (not_empty second rest none))
first_alone head first [] (next ∷ more) none no_more = absurd (false≢true (not_empty next more no_more))

pub ruleset first_loops = (first_of_more, first_of_cascade, first_alone)
