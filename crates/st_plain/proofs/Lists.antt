-- The loops of the evaluator along lists, by what is left of them.
use Rattle.std.proofs.Common.{◌≡◌, refl, sym, ap, subst, ◌∙◌, ℕ, zero, suc, ◌+◌, ◌<◌, ◌≤◌, ◌++◌, Bool, false, List, [], ◌∷◌, length, get_or, drop, add-one, drop-cons, Result, Ok, Err, arith}
use Rattle.std.proofs.lemmas.List.{drop_all}
use Rattle.gem_object.specs.declared.value.Value.{Value}
use Rattle.gem_object.specs.declared.value.Value.TheVariants.{Nil}
use Rattle.object_programs.specs.Local.{Local}
use Rattle.object_programs.specs.Run.{give, and_then}
use Rattle.running_objects.specs.Seen.{Seen}
use Rattle.running_objects.specs.Ran.{Ran, Leads}
use Rattle.running_objects.specs.declared.stop.Stop.{Stop}
use Rattle.running_objects.specs.declared.stop.Stop.TheVariants as stop
use Rattle.running_objects.proofs.Running.{keeps_along, ran_give, ran_stop, ran_nothing, leads_to, leads_then, leads_along, leads_self}
use Rattle.st_tree.specs.Trees.{Statement, statements, Send, sends, Expression, expressions}
use Rattle.st_tree.specs.Falls.{size_statement, size_statements, size_send, size_sends, size_expression, size_expressions}
use Rattle.tree_meaning.specs.Place.{Place, Frame, MadeBlock}
use Rattle.tree_meaning.specs.Operands.{ValueRun}
use Rattle.tree_meaning.specs.Parts.{Message, argument_values, cascade_in_turn, messages_in_turn, statements_from, statements_in_turn}
use Rattle.tree_meaning.specs.Meaning.{Outside, expression_value, messages_of, message_of, arguments_of, statement_value, statement_runs}

-- Code that answered is at the end of what the program does.
leads_given : {program : ValueRun} {answer : Value} {before after : Seen} {local later : Local MadeBlock}
    → Ran program before local (Ok answer) after later → Leads program before local (give answer) after later
leads_given ran = record { keeps = ran.keeps; same = ran.ends }

-- What is left of statements, after one that gave this answer.
abbrev pub statements_after : Value → List (Place → Frame → ValueRun) → Place → Frame → ValueRun
statements_after answer [] place frame = give answer
statements_after answer (next ∷ rest) place frame = statements_from next rest place frame

module _ (place : Place) (frame : Frame) where
  at_first_statement : (runs : List (Place → Frame → ValueRun)) (seen : Seen) (local : Local MadeBlock)
      → Leads (statements_in_turn runs place frame) seen local (statements_after Nil runs place frame) seen local
  at_first_statement [] seen local = leads_self (give Nil) seen local
  at_first_statement (first ∷ rest) seen local = leads_self (statements_from first rest place frame) seen local

  one_statement : (first : Place → Frame → ValueRun) (rest : List (Place → Frame → ValueRun)) (answer : Value)
      {before after : Seen} {local later : Local MadeBlock} → Ran (first place frame) before local (Ok answer) after later
      → Leads (statements_from first rest place frame) before local (statements_after answer rest place frame) after later
  one_statement first [] answer ran = leads_given ran
  one_statement first (next ∷ more) answer ran = leads_then (λ done. statements_from next more place frame) ran

  statement_stops : (first : Place → Frame → ValueRun) (rest : List (Place → Frame → ValueRun)) (ended : Stop)
      {before after : Seen} {local later : Local MadeBlock} → Ran (first place frame) before local (Err ended) after later
      → Ran (statements_from first rest place frame) before local (Err ended) after later
  statement_stops first [] ended ran = ran
  statement_stops first (next ∷ more) ended ran = ran_stop (λ done. statements_from next more place frame) ran

-- no statement is larger than all of them
pub statement_size : (body : List Statement) (index : ℕ) (one : Statement) → index < length body → one ≡ get_or body index one
    → size_statement one + 1 ≤ size_statements (statements body)
statement_size [] index one within is = absurd (omega (arith, within))
statement_size (first ∷ rest) zero one within is = omega (arith, ap size_statement is)
statement_size (first ∷ rest) (suc index) one within is =
    omega (arith, statement_size rest index one (omega (arith, within)) is)

module _ (given : Outside) (body : List Statement) (place : Place) (frame : Frame) (before : Seen) (local : Local MadeBlock) where
  abbrev whole : ValueRun
  whole = statements_in_turn (statement_runs given (statements body)) place frame

  -- the statements from this place on, after one that gave this answer
  abbrev left : ℕ → Value → ValueRun
  left index answer = statements_after answer (statement_runs given (statements (drop index body))) place frame

  pub statements_start : Leads whole before local (left 0 Nil) before local
  statements_start = at_first_statement place frame (statement_runs given (statements body)) before local

  next_statement : (index : ℕ) (one : Statement) → index < length body → one ≡ get_or body index one
      → statement_runs given (statements (drop index body))
      ≡ statement_value given one ∷ statement_runs given (statements (drop (index + 1) body))
  next_statement index one within is = rw (add-one, drop-cons body index one, ← is) refl

  -- no statement is left
  pub statements_end : (index : ℕ) (answer : Value) {after : Seen} {later : Local MadeBlock} → length body ≤ index
      → Leads whole before local (left index answer) after later → Ran whole before local (Ok answer) after later
  statements_end index answer {after} {later} all leads =
      let none : statements_after answer (statement_runs given (statements (drop index body))) place frame ≡ give answer =
      rw (drop_all index body all) refl in
      leads_to (rw none at leads) (ran_give answer after later)

  module _ (index : ℕ) (one : Statement) (answer : Value) {start : Seen} {middle : Local MadeBlock}
      (within : index < length body) (is : one ≡ get_or body index one) (leads : Leads whole before local (left index answer) start middle) where
    from_here : Leads whole before local
        (statements_from (statement_value given one) (statement_runs given (statements (drop (index + 1) body))) place frame) start middle
    from_here = rw (next_statement index one within is) at leads

    pub statements_go_on : (done : Value) {after : Seen} {later : Local MadeBlock} → Ran (statement_value given one place frame) start middle (Ok done) after later
        → Leads whole before local (left (index + 1) done) after later
    statements_go_on done ran = leads_along from_here
        (one_statement place frame (statement_value given one) (statement_runs given (statements (drop (index + 1) body))) done ran)

    pub statements_stop : (ended : Stop) {after : Seen} {later : Local MadeBlock} → Ran (statement_value given one place frame) start middle (Err ended) after later
        → Ran whole before local (Err ended) after later
    statements_stop ended ran = leads_to from_here
        (statement_stops place frame (statement_value given one) (statement_runs given (statements (drop (index + 1) body))) ended ran)

-- what is left of a list begins with the item at this place
next_of : {A : Type 0} (items : List A) (index : ℕ) (one : A) → index < length items → one ≡ get_or items index one
    → drop index items ≡ one ∷ drop (index + 1) items
next_of items index one within is = rw (add-one, drop-cons items index one, ← is) refl

-- no message is larger than all of them
pub send_size : (messages : List Send) (index : ℕ) (one : Send) → index < length messages → one ≡ get_or messages index one
    → size_send one + 1 ≤ size_sends (sends messages)
send_size [] index one within is = absurd (omega (arith, within))
send_size (first ∷ rest) zero one within is = omega (arith, ap size_send is)
send_size (first ∷ rest) (suc index) one within is =
    omega (arith, send_size rest index one (omega (arith, within)) is)

size_with_last : (front : List Send) (last : Send)
    → size_sends (sends (front ++ last ∷ [])) ≡ size_sends (sends front) + (size_send last + 1)
size_with_last [] last = omega arith
size_with_last (first ∷ rest) last = omega (arith, size_with_last rest last)

pub sizes_with_last : (messages front : List Send) (last : Send) → messages ≡ front ++ last ∷ []
    → size_sends (sends messages) ≡ size_sends (sends front) + (size_send last + 1)
sizes_with_last messages front last is = ap (λ (one : List Send). size_sends (sends one)) is ∙ size_with_last front last

-- no argument is larger than all of them
pub argument_size : (arguments : List Expression) (index : ℕ) (one : Expression) → index < length arguments
    → one ≡ get_or arguments index one → size_expression one + 1 ≤ size_expressions (expressions arguments)
argument_size [] index one within is = absurd (omega (arith, within))
argument_size (first ∷ rest) zero one within is = omega (arith, ap size_expression is)
argument_size (first ∷ rest) (suc index) one within is =
    omega (arith, argument_size rest index one (omega (arith, within)) is)

module _ (given : Outside) (front : List Send) (last : Send) (cascade : List Message) (place : Place) (frame : Frame) where
  -- what is left of messages, with the last of them
  abbrev chain_left : List Send → Bool → Value → ValueRun
  chain_left rest to_super receiver =
      messages_in_turn (messages_of given (sends (rest ++ last ∷ []))) cascade to_super receiver place frame

  abbrev chain_behind : List Send → Value → ValueRun
  chain_behind rest answer = chain_left rest false answer

  -- a message before the last one
  one_message : (first : Send) (rest : List Send) (to_super : Bool) (receiver : Value)
      → chain_left (first ∷ rest) to_super receiver
      ≡ and_then ((message_of given first).by_form to_super receiver place frame) (chain_behind rest)
  one_message first [] to_super receiver = refl
  one_message first (next ∷ more) to_super receiver = refl

  module _ (messages : List Send) (first_super : Bool) (first_receiver : Value) (before : Seen) (local : Local MadeBlock) where
    abbrev all_messages : ValueRun
    all_messages = messages_in_turn (messages_of given (sends messages)) cascade first_super first_receiver place frame

    pub chain_starts : messages ≡ front ++ last ∷ []
        → Leads all_messages before local (chain_left (drop 0 front) first_super first_receiver) before local
    chain_starts is =
        let At : List Send → Type 0 = λ one. Leads
        (messages_in_turn (messages_of given (sends one)) cascade first_super first_receiver place frame) before local
        (chain_left front first_super first_receiver) before local in
        subst At (sym is) (leads_self (chain_left front first_super first_receiver) before local)

    module _ (index : ℕ) (to_super : Bool) (receiver : Value) {start : Seen} {middle : Local MadeBlock}
        (leads : Leads all_messages before local (chain_left (drop index front) to_super receiver) start middle) where
      pub chain_ends : {result : Result Value Stop} {after : Seen} {later : Local MadeBlock} → length front ≤ index
          → Ran (messages_in_turn (message_of given last ∷ []) cascade to_super receiver place frame) start middle result after later
          → Ran all_messages before local result after later
      chain_ends {result} all ran =
          let At : List Send → Type 0 = λ rest. Leads all_messages before local (chain_left rest to_super receiver) start middle in
          leads_to (subst At (drop_all index front all) leads) ran

      module _ (one : Send) (within : index < length front) (is : one ≡ get_or front index one) where
        one_here : Leads all_messages before local
            (and_then ((message_of given one).by_form to_super receiver place frame) (chain_behind (drop (index + 1) front)))
            start middle
        one_here =
            let At : List Send → Type 0 = λ rest. Leads all_messages before local (chain_left rest to_super receiver) start middle in
            let Of : ValueRun → Type 0 = λ rest. Leads all_messages before local rest start middle in
            subst Of (one_message one (drop (index + 1) front) to_super receiver)
            (subst At (next_of front index one within is) leads)

        pub chain_goes_on : (answer : Value) {after : Seen} {later : Local MadeBlock}
            → Ran ((message_of given one).by_form to_super receiver place frame) start middle (Ok answer) after later
            → Leads all_messages before local (chain_left (drop (index + 1) front) false answer) after later
        chain_goes_on answer ran = leads_along one_here (leads_then (chain_behind (drop (index + 1) front)) ran)

        pub chain_stops : (ended : Stop) {after : Seen} {later : Local MadeBlock}
            → Ran ((message_of given one).by_form to_super receiver place frame) start middle (Err ended) after later
            → Ran all_messages before local (Err ended) after later
        chain_stops ended ran = leads_to one_here (ran_stop (chain_behind (drop (index + 1) front)) ran)

-- What is left of a cascade, after a message whose answer was this.
abbrev pub cascade_after : Value → List Message → Bool → Value → Place → Frame → ValueRun
cascade_after answer [] to_super receiver place frame = give answer
cascade_after answer (next ∷ rest) to_super receiver place frame = cascade_in_turn next rest to_super receiver place frame

module _ (to_super : Bool) (receiver : Value) (place : Place) (frame : Frame) where
  one_of_cascade : (first : Message) (rest : List Message) (answer : Value)
      {before after : Seen} {local later : Local MadeBlock} → Ran (first.as_sent to_super receiver place frame) before local (Ok answer) after later
      → Leads (cascade_in_turn first rest to_super receiver place frame) before local
      (cascade_after answer rest to_super receiver place frame) after later
  one_of_cascade first [] answer ran = leads_given ran
  one_of_cascade first (next ∷ more) answer ran = leads_then (λ done. cascade_in_turn next more to_super receiver place frame) ran

  one_stops : (first : Message) (rest : List Message) (ended : Stop)
      {before after : Seen} {local later : Local MadeBlock} → Ran (first.as_sent to_super receiver place frame) before local (Err ended) after later
      → Ran (cascade_in_turn first rest to_super receiver place frame) before local (Err ended) after later
  one_stops first [] ended ran = ran
  one_stops first (next ∷ more) ended ran = ran_stop (λ done. cascade_in_turn next more to_super receiver place frame) ran

  module _ (given : Outside) (message : Send) (rest : List Send) (before : Seen) (local : Local MadeBlock) where
    abbrev whole_cascade : ValueRun
    whole_cascade = cascade_in_turn (message_of given message) (messages_of given (sends rest)) to_super receiver place frame

    abbrev cascade_left : List Send → Value → ValueRun
    cascade_left left answer = cascade_after answer (messages_of given (sends left)) to_super receiver place frame

    pub cascade_starts : (answer : Value) {after : Seen} {later : Local MadeBlock}
        → Ran ((message_of given message).as_sent to_super receiver place frame) before local (Ok answer) after later
        → Leads whole_cascade before local (cascade_left (drop 0 rest) answer) after later
    cascade_starts answer ran = one_of_cascade (message_of given message) (messages_of given (sends rest)) answer ran

    pub first_stops : (ended : Stop) {after : Seen} {later : Local MadeBlock}
        → Ran ((message_of given message).as_sent to_super receiver place frame) before local (Err ended) after later
        → Ran whole_cascade before local (Err ended) after later
    first_stops ended ran = one_stops (message_of given message) (messages_of given (sends rest)) ended ran

    module _ (index : ℕ) (answer : Value) {start : Seen} {middle : Local MadeBlock}
        (leads : Leads whole_cascade before local (cascade_left (drop index rest) answer) start middle) where
      pub cascade_ends : length rest ≤ index → Ran whole_cascade before local (Ok answer) start middle
      cascade_ends all =
          let At : List Send → Type 0 = λ left. Leads whole_cascade before local (cascade_left left answer) start middle in
          leads_to (subst At (drop_all index rest all) leads) (ran_give answer start middle)

      module _ (one : Send) (within : index < length rest) (is : one ≡ get_or rest index one) where
        sent_here : Leads whole_cascade before local
            (cascade_in_turn (message_of given one) (messages_of given (sends (drop (index + 1) rest))) to_super receiver place frame)
            start middle
        sent_here =
            let At : List Send → Type 0 = λ left. Leads whole_cascade before local (cascade_left left answer) start middle in
            subst At (next_of rest index one within is) leads

        pub cascade_goes_on : (done : Value) {after : Seen} {later : Local MadeBlock}
            → Ran ((message_of given one).as_sent to_super receiver place frame) start middle (Ok done) after later
            → Leads whole_cascade before local (cascade_left (drop (index + 1) rest) done) after later
        cascade_goes_on done ran = leads_along sent_here
            (one_of_cascade (message_of given one) (messages_of given (sends (drop (index + 1) rest))) done ran)

        pub cascade_stops : (ended : Stop) {after : Seen} {later : Local MadeBlock}
            → Ran ((message_of given one).as_sent to_super receiver place frame) start middle (Err ended) after later
            → Ran whole_cascade before local (Err ended) after later
        cascade_stops ended ran = leads_to sent_here
            (one_stops (message_of given one) (messages_of given (sends (drop (index + 1) rest))) ended ran)

module _ (given : Outside) (arguments : List Expression) (values : List Value) (place : Place) (frame : Frame)
    (next : List Value → ValueRun) (before : Seen) (local : Local MadeBlock) where
  abbrev all_arguments : ValueRun
  all_arguments = argument_values (arguments_of given (expressions arguments)) values place frame next

  -- the arguments that are left, behind these values
  abbrev arguments_left : List Expression → List Value → ValueRun
  arguments_left rest known = argument_values (arguments_of given (expressions rest)) known place frame next

  module _ (index : ℕ) (known : List Value) {start : Seen} {middle : Local MadeBlock}
      (leads : Leads all_arguments before local (arguments_left (drop index arguments) known) start middle) where
    pub arguments_end : {result : Result Value Stop} {after : Seen} {later : Local MadeBlock} → length arguments ≤ index → Ran (next known) start middle result after later
        → Ran all_arguments before local result after later
    arguments_end {result} all ran =
        let At : List Expression → Type 0 = λ rest. Leads all_arguments before local (arguments_left rest known) start middle in
        leads_to (subst At (drop_all index arguments all) leads) ran

    -- memory ran out behind an argument
    pub arguments_nothing : {program : ValueRun} {result : Result Value Stop} {after : Seen} {later : Local MadeBlock} → Ran program start middle result after later
        → Ran all_arguments before local (Err stop.NoMemory) after later
    arguments_nothing {program} {result} {after} {later} ran = ran_nothing all_arguments local later (keeps_along leads.keeps ran.keeps)

    module _ (one : Expression) (within : index < length arguments) (is : one ≡ get_or arguments index one) where
      value_here : Leads all_arguments before local
          (and_then (expression_value given one place frame) (λ answer. arguments_left (drop (index + 1) arguments) (answer ∷ known)))
          start middle
      value_here =
          let At : List Expression → Type 0 = λ rest. Leads all_arguments before local (arguments_left rest known) start middle in
          subst At (next_of arguments index one within is) leads

      pub arguments_go_on : (answer : Value) {after : Seen} {later : Local MadeBlock} → Ran (expression_value given one place frame) start middle (Ok answer) after later
          → Leads all_arguments before local (arguments_left (drop (index + 1) arguments) (answer ∷ known)) after later
      arguments_go_on answer ran = leads_along value_here
          (leads_then (λ (one : Value). arguments_left (drop (index + 1) arguments) (one ∷ known)) ran)

      pub arguments_stop : (ended : Stop) {after : Seen} {later : Local MadeBlock} → Ran (expression_value given one place frame) start middle (Err ended) after later
          → Ran all_arguments before local (Err ended) after later
      arguments_stop ended ran = leads_to value_here
          (ran_stop (λ (one : Value). arguments_left (drop (index + 1) arguments) (one ∷ known)) ran)
