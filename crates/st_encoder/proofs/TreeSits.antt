-- Each part of a tree has code that sits between two heights: by induction on trees.
use Rattle.std.proofs.Common.{◌≡◌, refl, ap, subst, ℕ, zero, suc, ◌+◌, ◌<◌, ◌≤◌, nat_lt, Bool, true, false, cond, if◌then◌else◌, pos, List, [], ◌∷◌, ◌++◌, length, length-append, replicate, slice_get, Option, Some, None, option_map, codes, arith}
use Rattle.std.specs.Prelude.{bytes_eq}
use Rattle.std.proofs.lemmas.Bool.Decides.{nat_tests}
use Rattle.std.proofs.lemmas.Option.{same_Some}
use Rattle.gem_object.specs.texts.Bytes.{Bytes as Text}
use Rattle.st_tree.specs.Trees.{Constant, int, char, str, sym as symbol, nothing, yes, no, array, Head, name, constant, block, paren, Closure, closure, Expression, expression, Expressions, no_expressions, an_expression, Send, send, Sends, no_sends, a_send, Statement, statement, Statements, no_statements, a_statement, Program}
use Rattle.gem_object.specs.declared.value.Value.{Value}
use Rattle.gem_object.specs.declared.value.Value.TheVariants.{Int}
use Rattle.tree_meaning.specs.Place.{Place}
use Rattle.tree_meaning.specs.Names.{index_of, one_deeper, innermost, variable_in, is_super, where_is}
use Rattle.tree_meaning.specs.Forms.{form_under, first_loop}
use Rattle.tree_meaning.specs.Parts.{with_variables}
use Rattle.tree_meaning.specs.Meaning.{is_super_head, plain_constant}
use Rattle.tree_meaning.specs.Bodies.{method_place, block_place}
use Rattle.tree_meaning.specs.declared.form.Form.{Form}
use Rattle.tree_meaning.specs.declared.form.Form.TheVariants.{Plain, OneArm, TwoArms, Counting, Repeating}
use Rattle.tree_meaning.specs.declared.name.Singleton.{Singleton}
use Rattle.tree_meaning.specs.declared.name.Singleton.TheVariants as singleton
use Rattle.tree_meaning.specs.declared.name.Where.{Where}
use Rattle.tree_meaning.specs.declared.name.Where.TheVariants.{Receiver, Fixed, Variable, OutOfScope}
use Rattle.st_code.specs.Held.{Held}
use Rattle.st_code.specs.Faults.{is_variable}
use Rattle.st_compiler.specs.Instruction.{Instruction, PushNil, PushLit, PushLocal, StoreLocal, Pop, Dup, TakeUnit, Enter, Leave, ReturnBlock}
use Rattle.st_compiler.specs.Code.{Piece, Gen, only, seq, prefixed, choice, while_code, count_code, begin_repeating}
use Rattle.st_compiler.specs.TreeCode.{ArgumentCode, MessageCode, no_block_code, first_argument_code, rest_argument_codes, first_body_code, rest_message_codes, argument_values_code, hand_code, block_in_place_code, cascade_code, messages_in_turn_code, head_and_messages_code, statements_from_code, statements_in_turn_code, assign_code, singleton_op, literal_op, push_op, send_op, message_code, store_op, return_op, head_code, head_in_place_code, closure_in_place_code, closure_code, expression_code, expression_in_place_code, message_codes, message_code_of, argument_codes, statement_code, statement_codes}
use Rattle.st_compiler.proofs.Steps.{first_has}
use Rattle.st_encoder.proofs.Marks.{sizes, mark, Does, Lies, none_lies, one_lies, after_one, pops_lie, Whole, ends_whole}
use Rattle.st_encoder.proofs.Pushes.{pushes, pushes_by, within_below, pops_push}
use Rattle.st_encoder.proofs.Sits.{Sits, only_sits, one_sits, seq_sits, prefixed_sits, choice_sits, while_sits, count_sits, scope_sits, pushed_sits}

-- ---- variables are there

abbrev IsThere : List (List Text) → Where → Type 0
IsThere names (Variable depth index) = is_variable (slice_get (sizes names) depth) index ≡ true
IsThere names Receiver = Unit {0}
IsThere names (Fixed always) = Unit {0}
IsThere names OutOfScope = Unit {0}

index_within : (text : Text) (names : List Text) (index : ℕ) → index_of text names ≡ Some index
    → index < length names
index_within text [] index is = absurd (cc)
index_within text (first ∷ rest) index is =
    by (bytes_eq text first) (index_of text rest) (λ further at. index_within text rest further at) refl is
  where
    by : (test : Bool) (found : Option ℕ)
        → ((further : ℕ) → index_of text rest ≡ Some further → further < length rest)
        → index_of text rest ≡ found → cond test (Some 0) (option_map (λ index. suc index) found) ≡ Some index
        → index < length (first ∷ rest)
    by true found later at is = let zero_is : 0 ≡ index = same_Some _ _ is in omega (arith, zero_is)
    by false None later at is = absurd (cc)
    by false (Some further) later at is =
        let further_is : suc further ≡ index = same_Some _ _ is in
        omega (arith, further_is, later further at)

less_than : (one two : ℕ) → one < two → nat_lt one two ≡ true
less_than one two less = grind (arith, nat_tests, less)

deeper_there : (scope : List Text) (names : List (List Text)) (found : Where) → IsThere names found
    → IsThere (scope ∷ names) (one_deeper found)
deeper_there scope names (Variable depth index) there = there
deeper_there scope names Receiver there = tt
deeper_there scope names (Fixed always) there = tt
deeper_there scope names OutOfScope there = tt

variable_there : (text : Text) (names : List (List Text)) → IsThere names (variable_in text names)
variable_there text [] = tt
variable_there text (scope ∷ names) = by (index_of text scope) (variable_there text names) refl
  where
    by : (found : Option ℕ) → IsThere names (variable_in text names) → index_of text scope ≡ found
        → IsThere (scope ∷ names) (innermost found (variable_in text names))
    by (Some index) around is = less_than index (length scope) (index_within text scope index is)
    by None around is = deeper_there scope names (variable_in text names) around

either_there : (names : List (List Text)) (test : Bool) (one other : Where) → IsThere names one
    → IsThere names other → IsThere names (if test then one else other)
either_there names true one other first second = first
either_there names false one other first second = second

where_there : (text : Text) (names : List (List Text)) → IsThere names (where_is text names)
unfolding where_is
where_there text names =
    either_there names (bytes_eq text (codes "self")) _ _ tt
    (either_there names (is_super text) _ _ tt
    (either_there names (bytes_eq text (codes "nil")) _ _ tt
    (either_there names (bytes_eq text (codes "true")) _ _ tt
    (either_there names (bytes_eq text (codes "false")) _ _ tt (variable_there text names)))))

-- ---- heights

abbrev pub handed_height : Bool → ℕ → ℕ
handed_height true height = suc height
handed_height false height = height

abbrev at_place : Place → (height around : ℕ) → Held
at_place place height around = mark height (sizes place.names) around

-- the scopes of the block's start are open
abbrev IsOuter : (around : ℕ) → Place → Type 0
IsOuter around place = around ≤ length (sizes place.names)

module _ (table : List Piece) where
  -- ---- what every part is made of

  abbrev Part : Gen → Place → (around before after : ℕ) → Type 0
  Part part place around before after =
      Sits table part (at_place place before around) (at_place place after around)

  put_sits : (one : Instruction) (place : Place) (around height : ℕ)
      → ((all : List Held) (number : ℕ) → slice_get all (suc number) ≡ Some (at_place place (suc height) around)
      → Does table all number one (at_place place height around))
      → ((number : ℕ) → pushes_by number one ≡ 0) → Part (only (one ∷ [])) place around height (suc height)
  put_sits one place around height does none =
      one_sits table one (at_place place height around) (at_place place (suc height) around) does none

  nil_sits : (place : Place) (around height : ℕ) → Part (only (PushNil ∷ [])) place around height (suc height)
  nil_sits place around height = put_sits PushNil place around height (λ all number next. next) (λ number. refl)

  unit_sits : (part : Gen) (place : Place) (around before after : ℕ) → Part part place around before after
      → Part (prefixed (TakeUnit ∷ []) part) place around before after
  unit_sits part place around before after sits =
      prefixed_sits table (TakeUnit ∷ []) part (at_place place before around) (at_place place before around)
      (at_place place after around)
      (one_lies table TakeUnit (at_place place before around) (at_place place before around) (λ all number next. next))
      (λ number. refl) sits

  pop_lies : (height : ℕ) (scopes : List ℕ) (around : ℕ)
      → Lies table (Pop ∷ []) (mark (suc height) scopes around) (mark height scopes around)
  pop_lies height scopes around =
      one_lies table Pop (mark (suc height) scopes around) (mark height scopes around)
      (λ all number next. (height, refl, next))

  pop_sits : (part : Gen) (place : Place) (around before after : ℕ) → Part part place around before after
      → Part (prefixed (Pop ∷ []) part) place around (suc before) after
  pop_sits part place around before after sits =
      prefixed_sits table (Pop ∷ []) part (at_place place (suc before) around) (at_place place before around)
      (at_place place after around) (pop_lies before (sizes place.names) around) (λ number. refl) sits

  dup_sits : (part : Gen) (place : Place) (around before after : ℕ)
      → Part part place around (suc (suc before)) after
      → Part (prefixed (Dup ∷ []) part) place around (suc before) after
  dup_sits part place around before after sits =
      prefixed_sits table (Dup ∷ []) part (at_place place (suc before) around) (at_place place (suc (suc before)) around)
      (at_place place after around)
      (one_lies table Dup (at_place place (suc before) around) (at_place place (suc (suc before)) around)
      (λ all number next. (before, refl, next)))
      (λ number. refl) sits

  in_turn : (one two : Gen) (place : Place) (around before middle after : ℕ) → Part one place around before middle
      → Part two place around middle after → Part (seq one two) place around before after
  in_turn one two place around before middle after first second =
      seq_sits table one two (at_place place before around) (at_place place middle around)
      (at_place place after around) first second

  nothing_sits : (place : Place) (around height : ℕ) → Part (only []) place around height height
  nothing_sits place around height =
      only_sits table [] (at_place place height around) (at_place place height around)
      (none_lies table (at_place place height around)) (λ number. refl)

  -- ---- arguments, messages and statements

  record ArgumentSits (part : ArgumentCode) : Type 0 where
    value : (place : Place) (height around : ℕ) → IsOuter around place
        → Part (part.value place height) place around height (suc height)
    in_place : (place : Place) (handed : Bool) (height around : ℕ) → IsOuter around place
        → Part (part.in_place place handed height) place around (handed_height handed height) (suc height)

  record MessageSits (part : MessageCode) : Type 0 where
    as_sent : (to_super : Bool) (place : Place) (height around : ℕ) → IsOuter around place
        → Part (part.as_sent to_super place height) place around (suc height) (suc height)
    by_form : (to_super : Bool) (place : Place) (height around : ℕ) → IsOuter around place
        → Part (part.by_form to_super place height) place around (suc height) (suc height)
    body : (place : Place) (height around : ℕ) → IsOuter around place
        → Part (part.body place height) place around height (suc height)

  abbrev StatementSits : (Place → ℕ → Gen) → Type 0
  StatementSits part = (place : Place) (height around : ℕ) → IsOuter around place
      → Part (part place height) place around height (suc height)

  abbrev AllArguments : List ArgumentCode → Type 0
  AllArguments [] = Unit {0}
  AllArguments (part ∷ rest) = ArgumentSits part × AllArguments rest

  abbrev AllMessages : List MessageCode → Type 0
  AllMessages [] = Unit {0}
  AllMessages (part ∷ rest) = MessageSits part × AllMessages rest

  abbrev AllStatements : List (Place → ℕ → Gen) → Type 0
  AllStatements [] = Unit {0}
  AllStatements (part ∷ rest) = StatementSits part × AllStatements rest

  no_block_sits : (place : Place) (handed : Bool) (height around : ℕ)
      → Part (no_block_code place handed height) place around (handed_height handed height) (suc height)
  no_block_sits place true height around =
      pop_sits (only (PushNil ∷ [])) place around height (suc height) (nil_sits place around height)
  no_block_sits place false height around =
      prefixed_sits table [] (only (PushNil ∷ [])) (at_place place height around) (at_place place height around)
      (at_place place (suc height) around) (none_lies table (at_place place height around)) (λ number. refl)
      (nil_sits place around height)

  first_sits : (parts : List ArgumentCode) → AllArguments parts → ArgumentSits (first_argument_code parts)
  first_sits [] all = record {
    value = λ place height around outer. nil_sits place around height;
    in_place = λ place handed height around outer. no_block_sits place handed height around;
  }
  first_sits (part ∷ rest) all = all.0

  rest_sits : (parts : List ArgumentCode) → AllArguments parts → AllArguments (rest_argument_codes parts)
  rest_sits [] all = tt
  rest_sits (part ∷ rest) all = all.1

  values_sits : (parts : List ArgumentCode) → AllArguments parts → (place : Place) (height around total after : ℕ)
      → IsOuter around place → (next : Gen) → total ≡ height + length parts
      → Part next place around total after → Part (argument_values_code parts place height next) place around height after
  values_sits [] all place height around total after outer next count last =
      let same : total ≡ height = omega (arith, count) in
      subst (λ (n : ℕ). Part next place around n after) same last
  values_sits (part ∷ rest) all place height around total after outer next count last =
      in_turn (part.value place height) (argument_values_code rest place (suc height) next) place around height
      (suc height) after (all.0.value place height around outer)
      (values_sits rest all.1 place (suc height) around total after outer next (omega (arith, count)) last)

  send_does : (to_super : Bool) (selector : Text) (count under : ℕ) (scopes : List ℕ) (around : ℕ)
      (all : List Held) (number : ℕ) → slice_get all (suc number) ≡ Some (mark (suc under) scopes around)
      → Does table all number (send_op to_super selector count) (mark (suc (under + count)) scopes around)
  send_does false selector count under scopes around all number next = (under, refl, next)
  send_does true selector count under scopes around all number next = (under, refl, next)

  send_pushes : (to_super : Bool) (selector : Text) (count number : ℕ)
      → pushes_by number (send_op to_super selector count) ≡ 0
  send_pushes false selector count number = refl
  send_pushes true selector count number = refl

  singleton_does : (always : Singleton) (all : List Held) (number : ℕ) (m : Held)
      → slice_get all (suc number) ≡ Some (mark (suc m.height) m.scopes m.around)
      → Does table all number (singleton_op always) m
  singleton_does singleton.Nil all number m next = next
  singleton_does singleton.True all number m next = next
  singleton_does singleton.False all number m next = next

  singleton_pushes : (always : Singleton) (number : ℕ) → pushes_by number (singleton_op always) ≡ 0
  singleton_pushes singleton.Nil number = refl
  singleton_pushes singleton.True number = refl
  singleton_pushes singleton.False number = refl

  singleton_sits : (always : Singleton) (place : Place) (around height : ℕ)
      → Part (only (singleton_op always ∷ [])) place around height (suc height)
  singleton_sits always place around height =
      put_sits (singleton_op always) place around height
      (λ all number next. singleton_does always all number (at_place place height around) next)
      (singleton_pushes always)

  repeating_lies : (height : ℕ) (scopes : List ℕ) (around : ℕ) → around ≤ length scopes
      → Lies table begin_repeating (mark (suc height) scopes around) (mark (suc (suc (suc height))) scopes around)
  repeating_lies height scopes around outer =
      let here : ℕ → Held = λ height. mark height scopes around in
      let inner : ℕ → Held = λ height. mark height (1 ∷ scopes) around in
      after_one table (Enter 1) _ (here (suc height)) (inner (suc height)) (here (suc (suc (suc height))))
      (one_lies table (Enter 1) (here (suc height)) (inner (suc height)) (λ all number next. next))
      (after_one table (StoreLocal 0 0) _ (inner (suc height)) (inner (suc height)) (here (suc (suc (suc height))))
      (one_lies table (StoreLocal 0 0) (inner (suc height)) (inner (suc height))
      (λ all number next. (refl, height, refl, next)))
      (after_one table (PushLit (Int (pos 1))) _ (inner (suc height)) (inner (suc (suc height)))
      (here (suc (suc (suc height))))
      (one_lies table (PushLit (Int (pos 1))) (inner (suc height)) (inner (suc (suc height)))
      (λ all number next. (refl, next)))
      (after_one table (PushLocal 0 0) _ (inner (suc (suc height))) (inner (suc (suc (suc height))))
      (here (suc (suc (suc height))))
      (one_lies table (PushLocal 0 0) (inner (suc (suc height))) (inner (suc (suc (suc height))))
      (λ all number next. (refl, next)))
      (one_lies table Leave (inner (suc (suc (suc height)))) (here (suc (suc (suc height))))
      (λ all number next. (omega (arith, outer), next))))))

  message_sits : (form : Form) (selector : Text) (parts : List ArgumentCode) → AllArguments parts
      → (to_super : Bool) (place : Place) (height around : ℕ) → IsOuter around place
      → Part (message_code form selector parts to_super place height) place around (suc height) (suc height)
  message_sits Plain selector parts all to_super place height around outer =
      let one = send_op to_super selector (length parts) in
      values_sits parts all place (suc height) around (suc (height + length parts)) (suc height) outer
      (only (one ∷ [])) (omega arith)
      (one_sits table one (at_place place (suc (height + length parts)) around) (at_place place (suc height) around)
      (λ all number next. send_does to_super selector (length parts) height (sizes place.names) around all number next)
      (send_pushes to_super selector (length parts)))
  message_sits (OneArm when otherwise) selector parts all to_super place height around outer =
      let one = (first_argument_code parts).in_place place false height in
      let two = only (singleton_op otherwise ∷ []) in
      unit_sits (choice when one two) place around (suc height) (suc height)
      (choice_sits table when one two height (sizes place.names) around (at_place place (suc height) around)
      ((first_sits parts all).in_place place false height around outer)
      (singleton_sits otherwise place around height))
  message_sits (TwoArms when) selector parts all to_super place height around outer =
      let one = (first_argument_code parts).in_place place false height in
      let two = (first_argument_code (rest_argument_codes parts)).in_place place false height in
      unit_sits (choice when one two) place around (suc height) (suc height)
      (choice_sits table when one two height (sizes place.names) around (at_place place (suc height) around)
      ((first_sits parts all).in_place place false height around outer)
      ((first_sits (rest_argument_codes parts) (rest_sits parts all)).in_place place false height around outer))
  message_sits Counting selector parts all to_super place height around outer =
      let one = (first_argument_code parts).value place (suc (suc height)) in
      let two = (first_argument_code (rest_argument_codes parts)).in_place place true (suc (suc (suc height))) in
      let turns = prefixed (TakeUnit ∷ []) (count_code two) in
      dup_sits (seq one turns) place around height (suc height)
      (in_turn one turns place around (suc (suc height)) (suc (suc (suc height))) (suc height)
      ((first_sits parts all).value place (suc (suc height)) around outer)
      (unit_sits (count_code two) place around (suc (suc (suc height))) (suc height)
      (count_sits table two (suc height) (sizes place.names) around
      ((first_sits (rest_argument_codes parts) (rest_sits parts all)).in_place place true (suc (suc (suc height)))
      around outer))))
  message_sits Repeating selector parts all to_super place height around outer =
      let one = (first_argument_code parts).in_place place false (suc (suc (suc height))) in
      let turns = count_code (prefixed (Pop ∷ []) one) in
      unit_sits (prefixed begin_repeating turns) place around (suc height) (suc height)
      (prefixed_sits table begin_repeating turns (at_place place (suc height) around)
      (at_place place (suc (suc (suc height))) around) (at_place place (suc height) around)
      (repeating_lies height (sizes place.names) around outer) (λ number. refl)
      (count_sits table (prefixed (Pop ∷ []) one) (suc height) (sizes place.names) around
      (pop_sits one place around (suc (suc (suc height))) (suc (suc (suc (suc height))))
      ((first_sits parts all).in_place place false (suc (suc (suc height))) around outer))))

  cascade_sits : (part : MessageCode) → MessageSits part → (rest : List MessageCode) → AllMessages rest
      → (to_super : Bool) (place : Place) (height around : ℕ) → IsOuter around place
      → Part (cascade_code part rest to_super place height) place around (suc height) (suc height)
  cascade_sits part first [] all to_super place height around outer = first.as_sent to_super place height around outer
  cascade_sits part first (next ∷ rest) all to_super place height around outer =
      let one = part.as_sent to_super place (suc height) in
      let two = cascade_code next rest to_super place height in
      dup_sits (seq one (prefixed (Pop ∷ []) two)) place around height (suc height)
      (in_turn one (prefixed (Pop ∷ []) two) place around (suc (suc height)) (suc (suc height)) (suc height)
      (first.as_sent to_super place (suc height) around outer)
      (pop_sits two place around (suc height) (suc height)
      (cascade_sits next all.0 rest all.1 to_super place height around outer)))

  turn_sits : (part : MessageCode) → MessageSits part → (rest cascade : List MessageCode) → AllMessages cascade
      → (to_super : Bool) (place : Place) (height around : ℕ) → IsOuter around place
      → Part (messages_in_turn_code rest cascade false place height) place around (suc height) (suc height)
      → Part (messages_in_turn_code (part ∷ rest) cascade to_super place height) place around (suc height) (suc height)
  turn_sits part first [] [] also to_super place height around outer next =
      in_turn (part.by_form to_super place height) (messages_in_turn_code [] [] false place height) place around
      (suc height) (suc height) (suc height) (first.by_form to_super place height around outer) next
  turn_sits part first [] (message ∷ messages) also to_super place height around outer next =
      cascade_sits part first (message ∷ messages) also to_super place height around outer
  turn_sits part first (two ∷ rest) cascade also to_super place height around outer next =
      in_turn (part.by_form to_super place height) (messages_in_turn_code (two ∷ rest) cascade false place height)
      place around (suc height) (suc height) (suc height) (first.by_form to_super place height around outer) next

  messages_sits : (parts : List MessageCode) → AllMessages parts → (cascade : List MessageCode)
      → AllMessages cascade → (to_super : Bool) (place : Place) (height around : ℕ) → IsOuter around place
      → Part (messages_in_turn_code parts cascade to_super place height) place around (suc height) (suc height)
  messages_sits [] all cascade also to_super place height around outer = nothing_sits place around (suc height)
  messages_sits (part ∷ rest) all cascade also to_super place height around outer =
      turn_sits part all.0 rest cascade also to_super place height around outer
      (messages_sits rest all.1 cascade also false place height around outer)

  first_body_sits : (parts : List MessageCode) → AllMessages parts → (place : Place) (height around : ℕ)
      → IsOuter around place → Part (first_body_code parts place height) place around height (suc height)
  first_body_sits [] all place height around outer = nil_sits place around height
  first_body_sits (part ∷ rest) all place height around outer = all.0.body place height around outer

  later_sits : (parts : List MessageCode) → AllMessages parts → AllMessages (rest_message_codes parts)
  later_sits [] all = tt
  later_sits (part ∷ rest) all = all.1

  whole_sits : (loop : Option Bool) (to_super : Bool) (part : ArgumentCode) → ArgumentSits part
      → (messages : List MessageCode) → AllMessages messages → (cascade : List MessageCode)
      → AllMessages cascade → (place : Place) (height around : ℕ) → IsOuter around place
      → Part (head_and_messages_code loop to_super part.value part.in_place messages cascade place height) place around
      height (suc height)
  whole_sits None to_super part first messages all cascade also place height around outer =
      in_turn (part.value place height) (messages_in_turn_code messages cascade to_super place height) place around
      height (suc height) (suc height) (first.value place height around outer)
      (messages_sits messages all cascade also to_super place height around outer)
  whole_sits (Some when) to_super part first messages all cascade also place height around outer =
      let one = part.in_place place false height in
      let two = first_body_code messages place height in
      in_turn (prefixed (TakeUnit ∷ []) (while_code when one two))
      (messages_in_turn_code (rest_message_codes messages) cascade false place height) place around height (suc height)
      (suc height)
      (unit_sits (while_code when one two) place around height (suc height)
      (while_sits table when one two height (sizes place.names) around
      (first.in_place place false height around outer)
      (first_body_sits messages all place height around outer)))
      (messages_sits (rest_message_codes messages) (later_sits messages all) cascade also false place height around outer)

  from_sits : (part : Place → ℕ → Gen) → StatementSits part → (rest : List (Place → ℕ → Gen))
      → AllStatements rest → StatementSits (statements_from_code part rest)
  from_sits part first [] all place height around outer = first place height around outer
  from_sits part first (next ∷ rest) all place height around outer =
      let two = statements_from_code next rest place height in
      in_turn (part place height) (prefixed (Pop ∷ []) two) place around height (suc height) (suc height)
      (first place height around outer)
      (pop_sits two place around height (suc height) (from_sits next all.0 rest all.1 place height around outer))

  statements_sit : (parts : List (Place → ℕ → Gen)) → AllStatements parts
      → StatementSits (statements_in_turn_code parts)
  statements_sit [] all place height around outer = nil_sits place around height
  statements_sit (part ∷ rest) all place height around outer = from_sits part all.0 rest all.1 place height around outer

  -- ---- names and literals

  literal_does : (tree : Constant) (all : List Held) (number : ℕ) (m : Held)
      → slice_get all (suc number) ≡ Some (mark (suc m.height) m.scopes m.around)
      → Does table all number (literal_op (plain_constant tree) tree) m
  literal_does (int value) all number m next = (refl, next)
  literal_does (char code) all number m next = (refl, next)
  literal_does (str bytes) all number m next = (refl, next)
  literal_does (symbol bytes) all number m next = (refl, next)
  literal_does nothing all number m next = (refl, next)
  literal_does yes all number m next = (refl, next)
  literal_does no all number m next = (refl, next)
  literal_does (array items) all number m next = (refl, next)

  literal_pushes : (found : Option Value) (tree : Constant) (number : ℕ) → pushes_by number (literal_op found tree) ≡ 0
  literal_pushes (Some answer) tree number = refl
  literal_pushes None tree number = refl

  push_does : (names : List (List Text)) (found : Where) (text : Text) → IsThere names found
      → (height around : ℕ) (all : List Held) (number : ℕ)
      → slice_get all (suc number) ≡ Some (mark (suc height) (sizes names) around)
      → Does table all number (push_op found text) (mark height (sizes names) around)
  push_does names Receiver text there height around all number next = next
  push_does names (Fixed always) text there height around all number next =
      singleton_does always all number (mark height (sizes names) around) next
  push_does names (Variable depth index) text there height around all number next = (there, next)
  push_does names OutOfScope text there height around all number next = next

  push_pushes : (found : Where) (text : Text) (number : ℕ) → pushes_by number (push_op found text) ≡ 0
  push_pushes Receiver text number = refl
  push_pushes (Fixed always) text number = singleton_pushes always number
  push_pushes (Variable depth index) text number = refl
  push_pushes OutOfScope text number = refl

  store_does : (names : List (List Text)) (found : Where) (text : Text) → IsThere names found
      → (height around : ℕ) (all : List Held) (number : ℕ)
      → slice_get all (suc number) ≡ Some (mark (suc height) (sizes names) around)
      → Does table all number (store_op found text) (mark (suc height) (sizes names) around)
  store_does names Receiver text there height around all number next = (height, refl, next)
  store_does names (Fixed always) text there height around all number next = (height, refl, next)
  store_does names (Variable depth index) text there height around all number next = (there, height, refl, next)
  store_does names OutOfScope text there height around all number next = (height, refl, next)

  store_pushes : (found : Where) (text : Text) (number : ℕ) → pushes_by number (store_op found text) ≡ 0
  store_pushes Receiver text number = refl
  store_pushes (Fixed always) text number = refl
  store_pushes (Variable depth index) text number = refl
  store_pushes OutOfScope text number = refl

  assign_sits : (names : List Text) (place : Place) (height around : ℕ)
      → Part (assign_code names place) place around (suc height) (suc height)
  assign_sits [] place height around = nothing_sits place around (suc height)
  assign_sits (text ∷ rest) place height around =
      let one = store_op (where_is text place.names) text in
      in_turn (assign_code rest place) (only (one ∷ [])) place around (suc height) (suc height) (suc height)
      (assign_sits rest place height around)
      (one_sits table one (at_place place (suc height) around) (at_place place (suc height) around)
      (λ all number next. store_does place.names (where_is text place.names) text (where_there text place.names) height
      around all number next)
      (store_pushes (where_is text place.names) text))

  -- ---- blocks

  hand_none : (handed : Bool) (height : ℕ) (scopes : List ℕ) (around : ℕ)
      → Lies table (hand_code [] handed) (mark (handed_height handed height) scopes around) (mark height scopes around)
  hand_none true height scopes around = pop_lies height scopes around
  hand_none false height scopes around = none_lies table (mark height scopes around)

  hand_none_pushes : (handed : Bool) (number : ℕ) → pushes number (hand_code [] handed) ≡ 0
  hand_none_pushes true number = refl
  hand_none_pushes false number = refl

  hand_first : (first : Text) (rest : List Text) (handed : Bool) (height count : ℕ) (scopes : List ℕ) (around : ℕ)
      → Lies table (hand_code (first ∷ rest) handed) (mark (handed_height handed height) (suc count ∷ scopes) around)
      (mark height (suc count ∷ scopes) around)
  hand_first first rest true height count scopes around =
      after_one table (StoreLocal 0 0) (Pop ∷ []) (mark (suc height) (suc count ∷ scopes) around)
      (mark (suc height) (suc count ∷ scopes) around) (mark height (suc count ∷ scopes) around)
      (one_lies table (StoreLocal 0 0) (mark (suc height) (suc count ∷ scopes) around)
      (mark (suc height) (suc count ∷ scopes) around) (λ all number next. (less_than 0 (suc count) (omega arith), height, refl, next)))
      (pop_lies height (suc count ∷ scopes) around)
  hand_first first rest false height count scopes around = none_lies table (mark height (suc count ∷ scopes) around)

  hand_first_pushes : (first : Text) (rest : List Text) (handed : Bool) (number : ℕ)
      → pushes number (hand_code (first ∷ rest) handed) ≡ 0
  hand_first_pushes first rest true number = refl
  hand_first_pushes first rest false number = refl

  in_place_sits : (params temps : List Text) (body : Place → ℕ → Gen) → StatementSits body → (place : Place)
      (handed : Bool) (height around : ℕ) → IsOuter around place
      → Part (block_in_place_code params temps body place handed height) place around (handed_height handed height)
      (suc height)
  in_place_sits [] [] body sits place handed height around outer =
      prefixed_sits table (hand_code [] handed) (body place height) (at_place place (handed_height handed height) around)
      (at_place place height around) (at_place place (suc height) around)
      (hand_none handed height (sizes place.names) around) (hand_none_pushes handed) (sits place height around outer)
  in_place_sits [] (first ∷ rest) body sits place handed height around outer =
      let inner = with_variables (first ∷ rest) place in
      scope_sits table (length rest) (prefixed (hand_code [] handed) (body inner height)) (handed_height handed height)
      (suc height) (sizes place.names) around outer
      (prefixed_sits table (hand_code [] handed) (body inner height)
      (at_place inner (handed_height handed height) around) (at_place inner height around)
      (at_place inner (suc height) around)
      (hand_none handed height (sizes inner.names) around) (hand_none_pushes handed)
      (sits inner height around (omega (arith, outer))))
  in_place_sits (first ∷ rest) temps body sits place handed height around outer =
      let inner = with_variables (first ∷ (rest ++ temps)) place in
      scope_sits table (length (rest ++ temps)) (prefixed (hand_code (first ∷ rest) handed) (body inner height))
      (handed_height handed height) (suc height) (sizes place.names) around outer
      (prefixed_sits table (hand_code (first ∷ rest) handed) (body inner height)
      (at_place inner (handed_height handed height) around) (at_place inner height around)
      (at_place inner (suc height) around)
      (hand_first first rest handed height (length (rest ++ temps)) (sizes place.names) around)
      (hand_first_pushes first rest handed) (sits inner height around (omega (arith, outer))))

  return_does : (in_block : Bool) (all : List Held) (number : ℕ) (scopes : List ℕ) (around : ℕ)
      → Does table all number (return_op in_block) (mark 1 scopes around)
  return_does false all number scopes around = refl
  return_does true all number scopes around = refl

  return_pushes : (in_block : Bool) (number : ℕ) → pushes_by number (return_op in_block) ≡ 0
  return_pushes false number = refl
  return_pushes true number = refl

  -- ---- each part of a tree

  mutual
    head_sits : (tree : Head) (place : Place) (height around : ℕ) → IsOuter around place
        → Part (head_code tree place height) place around height (suc height)
    head_sits (name text) place height around outer =
        put_sits (push_op (where_is text place.names) text) place around height
        (λ all number next. push_does place.names (where_is text place.names) text (where_there text place.names) height
        around all number next)
        (push_pushes (where_is text place.names) text)
    head_sits (constant tree) place height around outer =
        put_sits (literal_op (plain_constant tree) tree) place around height
        (λ all number next. literal_does tree all number (at_place place height around) next)
        (literal_pushes (plain_constant tree) tree)
    head_sits (block tree) place height around outer = block_sits tree place height around
    head_sits (paren tree) place height around outer = expression_sits tree place height around outer

    head_in_place_sits : (tree : Head) (place : Place) (handed : Bool) (height around : ℕ) → IsOuter around place
        → Part (head_in_place_code tree place handed height) place around (handed_height handed height) (suc height)
    head_in_place_sits (block tree) place handed height around outer =
        closure_in_place_sits tree place handed height around outer
    head_in_place_sits (name text) place handed height around outer = no_block_sits place handed height around
    head_in_place_sits (constant tree) place handed height around outer = no_block_sits place handed height around
    head_in_place_sits (paren tree) place handed height around outer = no_block_sits place handed height around

    block_sits : (tree : Closure) (place : Place) (height around : ℕ)
        → Part (head_code (block tree) place height) place around height (suc height)
    block_sits (closure params temps body) place height around =
        let tree : Closure = closure params temps body in
        let inner = block_place tree place in
        let scopes = length (sizes place.names) in
        let part = statements_in_turn_code (statement_codes body) inner zero in
        let own = statements_sit (statement_codes body) (all_sit body) inner zero (suc scopes) (omega arith) in
        let whole : Sits table (closure_code tree place) (at_place inner 0 (suc scopes)) (at_place inner 1 (suc scopes)) =
        in_turn part (only (ReturnBlock ∷ [])) inner (suc scopes) 0 1 1 own
        (one_sits table ReturnBlock (at_place inner 1 (suc scopes)) (at_place inner 1 (suc scopes))
        (λ all number next. refl) (λ number. refl)) in
        let counts : length (params ++ temps) ≡ length params + length temps = length-append params temps in
        let start : at_place inner 0 (suc scopes) ≡ mark 0 ((length params + length temps) ∷ sizes place.names) (suc scopes) =
        ap (λ (n : ℕ). mark 0 (n ∷ sizes place.names) (suc scopes)) counts in
        pushed_sits table tree place (closure_code tree place) height around
        (λ number has. record {
          whole = subst (λ (m : Held). Whole table (closure_code tree place (suc number)).code m) start
              (ends_whole table (part (suc number)).code ReturnBlock (at_place inner 0 (suc scopes))
              (at_place inner 1 (suc scopes))
              (own.lies (suc number) (first_has table (suc number) (part (suc number)).pieces [] has))
              (λ marks at. refl));
          later = λ other low.
              omega (
                arith,
                whole.once (suc number) other,
                within_below (suc number) (length (closure_code tree place (suc number)).pieces) other (omega (arith, low)),
              );
        })
        whole.stand whole.once

    closure_in_place_sits : (tree : Closure) (place : Place) (handed : Bool) (height around : ℕ) → IsOuter around place
        → Part (closure_in_place_code tree place handed height) place around (handed_height handed height) (suc height)
    closure_in_place_sits (closure params temps body) place handed height around outer =
        in_place_sits params temps (statements_in_turn_code (statement_codes body))
        (statements_sit (statement_codes body) (all_sit body)) place handed height around outer

    expression_sits : (tree : Expression) (place : Place) (height around : ℕ) → IsOuter around place
        → Part (expression_code tree place height) place around height (suc height)
    expression_sits (expression assigns head messages cascade) place height around outer =
        in_turn
        (head_and_messages_code (first_loop head messages cascade) (is_super_head head) (head_code head)
        (head_in_place_code head) (message_codes messages) (message_codes cascade) place height)
        (assign_code assigns place) place around height (suc height) (suc height)
        (whole_sits (first_loop head messages cascade) (is_super_head head)
        (record { value = head_code head; in_place = head_in_place_code head })
        (record { value = head_sits head; in_place = head_in_place_sits head })
        (message_codes messages) (sends_sit messages) (message_codes cascade) (sends_sit cascade) place height around
        outer)
        (assign_sits assigns place height around)

    expression_in_place_sits : (tree : Expression) (place : Place) (handed : Bool) (height around : ℕ)
        → IsOuter around place
        → Part (expression_in_place_code tree place handed height) place around (handed_height handed height) (suc height)
    expression_in_place_sits (expression assigns head messages cascade) place handed height around outer =
        head_in_place_sits head place handed height around outer

    sends_sit : (tree : Sends) → AllMessages (message_codes tree)
    sends_sit no_sends = tt
    sends_sit (a_send first rest) = (send_sits first, sends_sit rest)

    send_sits : (tree : Send) → MessageSits (message_code_of tree)
    send_sits (send selector arguments) = record {
      as_sent = λ to_super place height around outer.
          message_sits Plain selector (argument_codes arguments) (arguments_sit arguments) to_super place height around
          outer;
      by_form = λ to_super place height around outer.
          message_sits (form_under to_super selector arguments) selector (argument_codes arguments)
          (arguments_sit arguments) to_super place height around outer;
      body = λ place height around outer.
          (first_sits (argument_codes arguments) (arguments_sit arguments)).in_place place false height around outer;
    }

    arguments_sit : (tree : Expressions) → AllArguments (argument_codes tree)
    arguments_sit no_expressions = tt
    arguments_sit (an_expression first rest) = (
      record { value = expression_sits first; in_place = expression_in_place_sits first },
      arguments_sit rest,
    )

    statement_sits : (tree : Statement) → StatementSits (statement_code tree)
    statement_sits (statement false tree) place height around outer = expression_sits tree place height around outer
    statement_sits (statement true tree) place height around outer =
        let last = return_op place.in_block in
        prefixed_sits table (replicate height Pop) (seq (expression_code tree place zero) (only (last ∷ [])))
        (at_place place height around) (at_place place 0 around) (at_place place (suc height) around)
        (pops_lie table height (sizes place.names) around) (λ number. pops_push number height)
        (in_turn (expression_code tree place zero) (only (last ∷ [])) place around 0 1 (suc height)
        (expression_sits tree place zero around outer)
        (one_sits table last (at_place place 1 around) (at_place place (suc height) around)
        (λ all number next. return_does place.in_block all number (sizes place.names) around)
        (return_pushes place.in_block)))

    all_sit : (tree : Statements) → AllStatements (statement_codes tree)
    all_sit no_statements = tt
    all_sit (a_statement first rest) = (statement_sits first, all_sit rest)

  -- ---- a text

  pub text_sits : (tree : Program)
      → Part (statements_in_turn_code (statement_codes tree.body) (method_place tree) zero) (method_place tree) 1 0 1
  text_sits tree = statements_sit (statement_codes tree.body) (all_sit tree.body) (method_place tree) zero 1 (omega arith)
