-- The blocks that code pushes are numbered in the order of the text: by induction on trees.
use Rattle.std.proofs.Common.{◌≡◌, ◌∙◌, refl, sym, ap, ℕ, zero, suc, ◌+◌, Bool, true, false, List, [], ◌∷◌, ◌++◌, length, map, Option, Some, None}
use Rattle.std.proofs.lemmas.List.{append-nil, map-append}
use Rattle.gem_object.specs.texts.Bytes.{Bytes as Text}
use Rattle.st_tree.specs.Trees.{Head, name, constant, block, paren, Closure, closure, Expression, expression, Expressions, no_expressions, an_expression, Send, send, Sends, no_sends, a_send, Statement, statement, Statements, no_statements, a_statement, Program}
use Rattle.tree_meaning.specs.Place.{Place}
use Rattle.tree_meaning.specs.Names.{where_is}
use Rattle.tree_meaning.specs.Forms.{form_under, first_loop}
use Rattle.tree_meaning.specs.Parts.{with_variables}
use Rattle.tree_meaning.specs.Meaning.{is_super_head}
use Rattle.tree_meaning.specs.Bodies.{method_place, block_place}
use Rattle.tree_meaning.specs.declared.form.Form.{Form}
use Rattle.tree_meaning.specs.declared.form.Form.TheVariants.{Plain, OneArm, TwoArms, Counting, Repeating}
use Rattle.st_compiler.specs.Instruction.{Instruction, Pop, PushSelf, ReturnMethod, ReturnBlock, TakeUnit}
use Rattle.st_compiler.specs.Code.{Piece, Gen, only, seq, prefixed, in_scope_code, choice, while_code, count_code}
use Rattle.st_compiler.specs.TreeCode.{ArgumentCode, MessageCode, first_argument_code, rest_argument_codes, first_body_code, rest_message_codes, argument_values_code, hand_code, cascade_code, messages_in_turn_code, head_and_messages_code, statements_from_code, statements_in_turn_code, assign_code, singleton_op, send_op, message_code, store_op, return_op, head_code, head_in_place_code, closure_in_place_code, closure_code, expression_code, expression_in_place_code, message_codes, message_code_of, argument_codes, statement_code, statement_codes, method_code, chunk_code}
use Rattle.st_compiler.specs.MadeBlocks.{ArgumentBlocks, MessageBlocks, first_blocks, rest_blocks, value_blocks, form_blocks, sent_blocks, messages_blocks, body_blocks, later_messages, whole_blocks, head_blocks, closure_blocks, expression_blocks, in_place_blocks, sends_blocks, send_blocks, arguments_blocks, statement_blocks, statements_blocks}

abbrev pub trees : List Piece → List Closure
trees pieces = map (λ piece. piece.tree) pieces

-- the blocks that a part pushes are those of these trees
abbrev Gives : Gen → List Closure → Type 0
Gives part blocks = (number : ℕ) → trees (part number).pieces ≡ blocks

both_give : (one two : List Piece) (first second : List Closure) → trees one ≡ first → trees two ≡ second
    → trees (one ++ two) ≡ first ++ second
both_give one two first second is also =
    map-append (λ (piece : Piece). piece.tree) one two ∙ ap (λ (all : List Closure). all ++ trees two) is
    ∙ ap (λ (all : List Closure). first ++ all) also

seq_gives : (one two : Gen) (first second : List Closure) → Gives one first → Gives two second
    → Gives (seq one two) (first ++ second)
seq_gives one two first second is also number =
    let next = number + length (one number).pieces in
    both_give (one number).pieces (two next).pieces first second (is number) (also next)

choice_gives : (when : Bool) (one two : Gen) (first second : List Closure) → Gives one first → Gives two second
    → Gives (choice when one two) (first ++ second)
choice_gives when one two first second is also number =
    let next = number + length (one number).pieces in
    both_give (one number).pieces (two next).pieces first second (is number) (also next)

while_gives : (when : Bool) (one two : Gen) (first second : List Closure) → Gives one first → Gives two second
    → Gives (while_code when one two) (first ++ second)
while_gives when one two first second is also number =
    let next = number + length (one number).pieces in
    both_give (one number).pieces (two next).pieces first second (is number) (also next)

scope_gives : (variables : ℕ) (part : Gen) (blocks : List Closure) → Gives part blocks
    → Gives (in_scope_code variables part) blocks
scope_gives zero part blocks is = is
scope_gives (suc others) part blocks is = λ number. is number

-- and then none
no_more : (part : Gen) (blocks : List Closure) → Gives part (blocks ++ []) → Gives part blocks
no_more part blocks is number = is number ∙ append-nil blocks

then_none : (one : Gen) (instructions : List Instruction) (blocks : List Closure) → Gives one blocks
    → Gives (seq one (only instructions)) blocks
then_none one instructions blocks is =
    no_more (seq one (only instructions)) blocks
    (seq_gives one (only instructions) blocks [] is (λ number. refl))

-- ---- arguments, messages and statements

record ArgumentGives (part : ArgumentCode) (blocks : ArgumentBlocks) : Type 0 where
  value : (place : Place) (height : ℕ) → Gives (part.value place height) blocks.value
  in_place : (place : Place) (handed : Bool) (height : ℕ) → Gives (part.in_place place handed height) blocks.in_place

record MessageGives (part : MessageCode) (blocks : MessageBlocks) : Type 0 where
  as_sent : (to_super : Bool) (place : Place) (height : ℕ)
      → Gives (part.as_sent to_super place height) (value_blocks blocks.arguments)
  by_form : (to_super : Bool) (place : Place) (height : ℕ)
      → Gives (part.by_form to_super place height) (form_blocks (blocks.form to_super) blocks.arguments)
  body : (place : Place) (height : ℕ) → Gives (part.body place height) (first_blocks blocks.arguments).in_place

abbrev StatementGives : (Place → ℕ → Gen) → List Closure → Type 0
StatementGives part blocks = (place : Place) (height : ℕ) → Gives (part place height) blocks

abbrev AllGive : {A B : Type 0} → (A → B → Type 0) → List A → List B → Type 0
AllGive One [] [] = Unit {0}
AllGive One (part ∷ parts) (blocks ∷ others) = One part blocks × AllGive One parts others
AllGive One parts others = ⊥

first_gives : (parts : List ArgumentCode) (blocks : List ArgumentBlocks) → AllGive ArgumentGives parts blocks
    → ArgumentGives (first_argument_code parts) (first_blocks blocks)
first_gives [] [] all =
    record { value = λ place height number. refl; in_place = λ place handed height number. refl }
first_gives (part ∷ parts) (own ∷ blocks) all = all.0
first_gives [] (own ∷ blocks) all = absurd all
first_gives (part ∷ parts) [] all = absurd all

rest_give : (parts : List ArgumentCode) (blocks : List ArgumentBlocks) → AllGive ArgumentGives parts blocks
    → AllGive ArgumentGives (rest_argument_codes parts) (rest_blocks blocks)
rest_give [] [] all = tt
rest_give (part ∷ parts) (own ∷ blocks) all = all.1
rest_give [] (own ∷ blocks) all = absurd all
rest_give (part ∷ parts) [] all = absurd all

values_give : (parts : List ArgumentCode) (blocks : List ArgumentBlocks) → AllGive ArgumentGives parts blocks
    → (place : Place) (height : ℕ) (next : Gen) → Gives next []
    → Gives (argument_values_code parts place height next) (value_blocks blocks)
values_give [] [] all place height next last = last
values_give (part ∷ parts) (own ∷ blocks) all place height next last =
    seq_gives (part.value place height) (argument_values_code parts place (suc height) next) own.value
    (value_blocks blocks) (all.0.value place height)
    (values_give parts blocks all.1 place (suc height) next last)
values_give [] (own ∷ blocks) all place height next last = absurd all
values_give (part ∷ parts) [] all place height next last = absurd all

message_gives : (form : Form) (selector : Text) (parts : List ArgumentCode) (blocks : List ArgumentBlocks)
    → AllGive ArgumentGives parts blocks → (to_super : Bool) (place : Place) (height : ℕ)
    → Gives (message_code form selector parts to_super place height) (form_blocks form blocks)
message_gives Plain selector parts blocks all to_super place height =
    values_give parts blocks all place (suc height) (only (send_op to_super selector (length parts) ∷ []))
    (λ number. refl)
message_gives (OneArm when otherwise) selector parts blocks all to_super place height =
    let one = (first_argument_code parts).in_place place false height in
    let two = only (singleton_op otherwise ∷ []) in
    no_more (choice when one two) (first_blocks blocks).in_place
    (choice_gives when one two (first_blocks blocks).in_place []
    ((first_gives parts blocks all).in_place place false height) (λ number. refl))
message_gives (TwoArms when) selector parts blocks all to_super place height =
    let one = (first_argument_code parts).in_place place false height in
    let two = (first_argument_code (rest_argument_codes parts)).in_place place false height in
    choice_gives when one two (first_blocks blocks).in_place (first_blocks (rest_blocks blocks)).in_place
    ((first_gives parts blocks all).in_place place false height)
    ((first_gives (rest_argument_codes parts) (rest_blocks blocks) (rest_give parts blocks all)).in_place place false
    height)
message_gives Counting selector parts blocks all to_super place height =
    let one = (first_argument_code parts).value place (suc (suc height)) in
    let two = (first_argument_code (rest_argument_codes parts)).in_place place true (suc (suc (suc height))) in
    let turns = prefixed (TakeUnit ∷ []) (count_code two) in
    seq_gives one turns (first_blocks blocks).value (first_blocks (rest_blocks blocks)).in_place
    ((first_gives parts blocks all).value place (suc (suc height)))
    ((first_gives (rest_argument_codes parts) (rest_blocks blocks) (rest_give parts blocks all)).in_place place true
    (suc (suc (suc height))))
message_gives Repeating selector parts blocks all to_super place height =
    (first_gives parts blocks all).in_place place false (suc (suc (suc height)))

cascade_gives : (part : MessageCode) (own : MessageBlocks) → MessageGives part own → (parts : List MessageCode)
    (blocks : List MessageBlocks) → AllGive MessageGives parts blocks → (to_super : Bool) (place : Place) (height : ℕ)
    → Gives (cascade_code part parts to_super place height) (sent_blocks (own ∷ blocks))
cascade_gives part own first [] [] all to_super place height =
    λ number. first.as_sent to_super place height number ∙ sym (append-nil (value_blocks own.arguments))
cascade_gives part own first (next ∷ parts) (other ∷ blocks) all to_super place height =
    let one = part.as_sent to_super place (suc height) in
    let two = prefixed (Pop ∷ []) (cascade_code next parts to_super place height) in
    seq_gives one two (value_blocks own.arguments) (sent_blocks (other ∷ blocks))
    (first.as_sent to_super place (suc height))
    (cascade_gives next other all.0 parts blocks all.1 to_super place height)
cascade_gives part own first [] (other ∷ blocks) all to_super place height = absurd all
cascade_gives part own first (next ∷ parts) [] all to_super place height = absurd all

turn_gives : (part : MessageCode) (own : MessageBlocks) → MessageGives part own → (parts cascade : List MessageCode)
    (blocks others : List MessageBlocks) → AllGive MessageGives parts blocks → AllGive MessageGives cascade others
    → (to_super : Bool) (place : Place) (height : ℕ)
    → Gives (messages_in_turn_code parts cascade false place height) (messages_blocks blocks others false)
    → Gives (messages_in_turn_code (part ∷ parts) cascade to_super place height)
    (messages_blocks (own ∷ blocks) others to_super)
turn_gives part own first [] [] [] [] all also to_super place height next =
    seq_gives (part.by_form to_super place height) (messages_in_turn_code [] [] false place height)
    (form_blocks (own.form to_super) own.arguments) [] (first.by_form to_super place height) next
turn_gives part own first [] (message ∷ messages) [] (other ∷ others) all also to_super place height next =
    cascade_gives part own first (message ∷ messages) (other ∷ others) also to_super place height
turn_gives part own first (two ∷ parts) cascade (second ∷ blocks) others all also to_super place height next =
    seq_gives (part.by_form to_super place height)
    (messages_in_turn_code (two ∷ parts) cascade false place height)
    (form_blocks (own.form to_super) own.arguments) (messages_blocks (second ∷ blocks) others false)
    (first.by_form to_super place height) next
turn_gives part own first [] [] [] (other ∷ others) all also to_super place height next = absurd also
turn_gives part own first [] (message ∷ messages) [] [] all also to_super place height next = absurd also
turn_gives part own first [] cascade (second ∷ blocks) others all also to_super place height next = absurd all
turn_gives part own first (two ∷ parts) cascade [] others all also to_super place height next = absurd all

messages_give : (parts cascade : List MessageCode) (blocks others : List MessageBlocks)
    → AllGive MessageGives parts blocks → AllGive MessageGives cascade others
    → (to_super : Bool) (place : Place) (height : ℕ)
    → Gives (messages_in_turn_code parts cascade to_super place height) (messages_blocks blocks others to_super)
messages_give [] cascade [] others all also to_super place height = λ number. refl
messages_give (part ∷ parts) cascade (own ∷ blocks) others all also to_super place height =
    turn_gives part own all.0 parts cascade blocks others all.1 also to_super place height
    (messages_give parts cascade blocks others all.1 also false place height)
messages_give [] cascade (own ∷ blocks) others all also to_super place height = absurd all
messages_give (part ∷ parts) cascade [] others all also to_super place height = absurd all

body_gives : (parts : List MessageCode) (blocks : List MessageBlocks) → AllGive MessageGives parts blocks
    → (place : Place) (height : ℕ) → Gives (first_body_code parts place height) (body_blocks blocks)
body_gives [] [] all place height = λ number. refl
body_gives (part ∷ parts) (own ∷ blocks) all place height = all.0.body place height
body_gives [] (own ∷ blocks) all place height = absurd all
body_gives (part ∷ parts) [] all place height = absurd all

later_give : (parts : List MessageCode) (blocks : List MessageBlocks) → AllGive MessageGives parts blocks
    → AllGive MessageGives (rest_message_codes parts) (later_messages blocks)
later_give [] [] all = tt
later_give (part ∷ parts) (own ∷ blocks) all = all.1
later_give [] (own ∷ blocks) all = absurd all
later_give (part ∷ parts) [] all = absurd all

whole_gives : (loop : Option Bool) (to_super : Bool) (part : ArgumentCode) (own : ArgumentBlocks)
    → ArgumentGives part own → (parts cascade : List MessageCode) (blocks others : List MessageBlocks)
    → AllGive MessageGives parts blocks → AllGive MessageGives cascade others → (place : Place) (height : ℕ)
    → Gives (head_and_messages_code loop to_super part.value part.in_place parts cascade place height)
    (whole_blocks loop to_super own blocks others)
whole_gives None to_super part own first parts cascade blocks others all also place height =
    seq_gives (part.value place height) (messages_in_turn_code parts cascade to_super place height) own.value
    (messages_blocks blocks others to_super) (first.value place height)
    (messages_give parts cascade blocks others all also to_super place height)
whole_gives (Some when) to_super part own first parts cascade blocks others all also place height =
    let one = part.in_place place false height in
    let two = first_body_code parts place height in
    seq_gives (prefixed (TakeUnit ∷ []) (while_code when one two))
    (messages_in_turn_code (rest_message_codes parts) cascade false place height)
    (own.in_place ++ body_blocks blocks) (messages_blocks (later_messages blocks) others false)
    (while_gives when one two own.in_place (body_blocks blocks) (first.in_place place false height)
    (body_gives parts blocks all place height))
    (messages_give (rest_message_codes parts) cascade (later_messages blocks) others (later_give parts blocks all) also
    false place height)

abbrev flat : List (List Closure) → List Closure
flat [] = []
flat (first ∷ rest) = first ++ flat rest

from_gives : (part : Place → ℕ → Gen) (own : List Closure) → StatementGives part own
    → (parts : List (Place → ℕ → Gen)) (blocks : List (List Closure)) → AllGive StatementGives parts blocks
    → StatementGives (statements_from_code part parts) (own ++ flat blocks)
from_gives part own first [] [] all place height =
    λ number. first place height number ∙ sym (append-nil own)
from_gives part own first (next ∷ parts) (other ∷ blocks) all place height =
    seq_gives (part place height) (prefixed (Pop ∷ []) (statements_from_code next parts place height)) own
    (other ++ flat blocks) (first place height) (from_gives next other all.0 parts blocks all.1 place height)
from_gives part own first [] (other ∷ blocks) all place height = absurd all
from_gives part own first (next ∷ parts) [] all place height = absurd all

in_turn_gives : (parts : List (Place → ℕ → Gen)) (blocks : List (List Closure)) → AllGive StatementGives parts blocks
    → StatementGives (statements_in_turn_code parts) (flat blocks)
in_turn_gives [] [] all place height = λ number. refl
in_turn_gives (part ∷ parts) (own ∷ blocks) all place height = from_gives part own all.0 parts blocks all.1 place height
in_turn_gives [] (own ∷ blocks) all place height = absurd all
in_turn_gives (part ∷ parts) [] all place height = absurd all

assign_gives : (names : List Text) (place : Place) → Gives (assign_code names place) []
assign_gives [] place = λ number. refl
assign_gives (text ∷ rest) place =
    then_none (assign_code rest place) (store_op (where_is text place.names) text ∷ []) [] (assign_gives rest place)

-- ---- each part of a tree

abbrev each_statement : Statements → List (List Closure)
each_statement no_statements = []
each_statement (a_statement first rest) = statement_blocks first ∷ each_statement rest

flat_statements : (tree : Statements) → flat (each_statement tree) ≡ statements_blocks tree
flat_statements no_statements = refl
flat_statements (a_statement first rest) =
    ap (λ (all : List Closure). statement_blocks first ++ all) (flat_statements rest)

block_gives : (tree : Statements) → AllGive StatementGives (statement_codes tree) (each_statement tree)
    → StatementGives (statements_in_turn_code (statement_codes tree)) (statements_blocks tree)
block_gives tree all place height number =
    in_turn_gives (statement_codes tree) (each_statement tree) all place height number ∙ flat_statements tree

mutual
  head_gives : (tree : Head)
      → ArgumentGives (record { value = head_code tree; in_place = head_in_place_code tree }) (head_blocks tree)
  head_gives (name text) =
      record { value = λ place height number. refl; in_place = λ place handed height number. refl }
  head_gives (constant tree) =
      record { value = λ place height number. refl; in_place = λ place handed height number. refl }
  head_gives (block tree) = record {
    value = λ place height number. ap (λ (all : List Closure). tree ∷ all) (closure_gives tree place (suc number));
    in_place = λ place handed height. in_place_gives tree place handed height;
  }
  head_gives (paren tree) = record {
    value = λ place height. expression_gives tree place height;
    in_place = λ place handed height number. refl;
  }

  closure_gives : (tree : Closure) (place : Place) → Gives (closure_code tree place) (closure_blocks tree)
  closure_gives (closure params temps body) place =
      let inner = block_place (closure params temps body) place in
      then_none (statements_in_turn_code (statement_codes body) inner zero) (ReturnBlock ∷ []) (statements_blocks body)
      (block_gives body (statements_give body) inner zero)

  in_place_gives : (tree : Closure) (place : Place) (handed : Bool) (height : ℕ)
      → Gives (closure_in_place_code tree place handed height) (closure_blocks tree)
  in_place_gives (closure params temps body) place handed height =
      let inner = with_variables (params ++ temps) place in
      scope_gives (length (params ++ temps))
      (prefixed (hand_code params handed) (statements_in_turn_code (statement_codes body) inner height))
      (statements_blocks body) (block_gives body (statements_give body) inner height)

  expression_gives : (tree : Expression) (place : Place) (height : ℕ)
      → Gives (expression_code tree place height) (expression_blocks tree)
  expression_gives (expression assigns head messages cascade) place height =
      let one = head_and_messages_code (first_loop head messages cascade) (is_super_head head) (head_code head)
      (head_in_place_code head) (message_codes messages) (message_codes cascade) place height in
      let own = expression_blocks (expression assigns head messages cascade) in
      no_more (seq one (assign_code assigns place)) own
      (seq_gives one (assign_code assigns place) own []
      (whole_gives (first_loop head messages cascade) (is_super_head head)
      (record { value = head_code head; in_place = head_in_place_code head }) (head_blocks head) (head_gives head)
      (message_codes messages) (message_codes cascade) (sends_blocks messages) (sends_blocks cascade)
      (sends_give messages) (sends_give cascade) place height)
      (assign_gives assigns place))

  sends_give : (tree : Sends) → AllGive MessageGives (message_codes tree) (sends_blocks tree)
  sends_give no_sends = tt
  sends_give (a_send first rest) = (send_gives first, sends_give rest)

  send_gives : (tree : Send) → MessageGives (message_code_of tree) (send_blocks tree)
  send_gives (send selector arguments) = record {
    as_sent = λ to_super place height.
        message_gives Plain selector (argument_codes arguments) (arguments_blocks arguments) (arguments_give arguments)
        to_super place height;
    by_form = λ to_super place height.
        message_gives (form_under to_super selector arguments) selector (argument_codes arguments)
        (arguments_blocks arguments) (arguments_give arguments) to_super place height;
    body = λ place height.
        (first_gives (argument_codes arguments) (arguments_blocks arguments) (arguments_give arguments)).in_place place
        false height;
  }

  arguments_give : (tree : Expressions) → AllGive ArgumentGives (argument_codes tree) (arguments_blocks tree)
  arguments_give no_expressions = tt
  arguments_give (an_expression first rest) = (
    record { value = expression_gives first; in_place = argument_in_place_gives first },
    arguments_give rest,
  )

  argument_in_place_gives : (tree : Expression) (place : Place) (handed : Bool) (height : ℕ)
      → Gives (expression_in_place_code tree place handed height) (in_place_blocks tree)
  argument_in_place_gives (expression assigns head messages cascade) place handed height =
      (head_gives head).in_place place handed height

  statement_gives : (tree : Statement) → StatementGives (statement_code tree) (statement_blocks tree)
  statement_gives (statement false tree) place height = expression_gives tree place height
  statement_gives (statement true tree) place height =
      then_none (expression_code tree place zero) (return_op place.in_block ∷ []) (expression_blocks tree)
      (expression_gives tree place zero)

  statements_give : (tree : Statements) → AllGive StatementGives (statement_codes tree) (each_statement tree)
  statements_give no_statements = tt
  statements_give (a_statement first rest) = (statement_gives first, statements_give rest)

pub method_gives : (tree : Program) → trees (method_code tree 0).pieces ≡ statements_blocks tree.body
unfolding method_code
method_gives tree =
    then_none (statements_in_turn_code (statement_codes tree.body) (method_place tree) zero)
    (Pop ∷ PushSelf ∷ ReturnMethod ∷ []) (statements_blocks tree.body)
    (block_gives tree.body (statements_give tree.body) (method_place tree) zero) 0

pub chunk_gives : (tree : Program) → trees (chunk_code tree 0).pieces ≡ statements_blocks tree.body
unfolding chunk_code
chunk_gives tree =
    then_none (statements_in_turn_code (statement_codes tree.body) (method_place tree) zero) (ReturnMethod ∷ [])
    (statements_blocks tree.body) (block_gives tree.body (statements_give tree.body) (method_place tree) zero) 0
