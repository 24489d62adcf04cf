-- Cascades have one receiver.
use Rattle.std.proofs.Common.{◌≡◌, ◌∙◌, refl, sym, ap, subst, Bool, false, List, [], ◌∷◌, Option, Some, None}
use Rattle.object_programs.specs.st_tree.Trees.{Head, expression, Send, Sends, no_sends, a_send, append_sends}
use Rattle.object_programs.specs.gem_object.declared.value.Value.{Value}
use Rattle.object_programs.specs.gem_world.World.{Setting}
use Rattle.object_programs.specs.Run.{State, Outcome, and_then, onward, perform}
use Rattle.tree_meaning.specs.Place.{Place, Frame, MadeBlock}
use Rattle.tree_meaning.specs.Forms.{loop_of, first_loop}
use Rattle.tree_meaning.specs.Loops.{while_loop}
use Rattle.tree_meaning.specs.Parts.{Message, cascade_in_turn, messages_in_turn, head_and_messages, first_body}
use Rattle.tree_meaning.specs.Meaning.{Outside, head_value, head_in_place, expression_value, messages_of, message_of, is_super_head}
use Rattle.tree_meaning.specs.Reading.{deed, answers, then_do, sent_in_turn}
use Rattle.tree_meaning.proofs.Deeds.{onward_same, onward_twice, onward_alone}

-- a list that isn't empty
abbrev IsMore : List Message → Type 0
IsMore [] = ⊥
IsMore (first ∷ rest) = Unit {0}

-- whether messages are to `super` still, after these
abbrev pub still_super : Bool → Sends → Bool
still_super to_super no_sends = to_super
still_super to_super (a_send first rest) = false

pub still_false : (before : Sends) → still_super false before ≡ false
still_false no_sends = refl
still_false (a_send first rest) = refl

module _ (outside : Outside) (setting : Setting) (place : Place) (frame : Frame) where
  -- the messages of a cascade
  pub cascade_read : (to_super : Bool) (receiver : Value) (first : Send) (rest : Sends)
      (state : State MadeBlock)
      → perform (cascade_in_turn (message_of outside first) (messages_of outside rest) to_super receiver
      place frame) setting state
      ≡ sent_in_turn outside setting place frame to_super receiver first rest state
  cascade_read to_super receiver first no_sends state = refl
  cascade_read to_super receiver first (a_send next rest) state =
      let before = perform ((message_of outside first).as_sent to_super receiver place frame) setting state
      in onward_same before.end before.state
      (λ answer later. perform (cascade_in_turn (message_of outside next) (messages_of outside rest)
      to_super receiver place frame) setting later)
      (λ answer later. sent_in_turn outside setting place frame to_super receiver next rest later)
      (λ answer. cascade_read to_super receiver next rest before.state)

  more_follow : (before : Sends) (last : Send)
      → IsMore (messages_of outside (append_sends before (a_send last no_sends)))
  more_follow no_sends last = tt
  more_follow (a_send first rest) last = tt

  by_form_first : (message : Message) (rest cascade : List Message) (to_super : Bool) (receiver : Value)
      → IsMore rest
      → messages_in_turn (message ∷ rest) cascade to_super receiver place frame
      ≡ and_then (message.by_form to_super receiver place frame) (λ answer.
      messages_in_turn rest cascade false answer place frame)
  by_form_first message [] cascade to_super receiver more = absurd more
  by_form_first message (next ∷ rest) cascade to_super receiver more = refl

  by_form_alone : (message : Message) (rest : List Message) (to_super : Bool) (receiver : Value)
      → messages_in_turn (message ∷ rest) [] to_super receiver place frame
      ≡ and_then (message.by_form to_super receiver place frame) (λ answer.
      messages_in_turn rest [] false answer place frame)
  by_form_alone message [] to_super receiver = refl
  by_form_alone message (next ∷ rest) to_super receiver = refl

  -- messages, the last of which begins a cascade
  pub messages_read : (before : Sends) (last next : Send) (rest : Sends) (to_super : Bool)
      (receiver : Value) (state : State MadeBlock)
      → perform (messages_in_turn (messages_of outside (append_sends before (a_send last no_sends)))
      (messages_of outside (a_send next rest)) to_super receiver place frame) setting state
      ≡ then_do (deed setting (messages_in_turn (messages_of outside before) [] to_super receiver place
      frame))
      (λ answer. sent_in_turn outside setting place frame (still_super to_super before) answer last
      (a_send next rest)) state
  messages_read no_sends last next rest to_super receiver state =
      cascade_read to_super receiver last (a_send next rest) state
  messages_read (a_send first before) last next rest to_super receiver state =
      let one = perform ((message_of outside first).by_form to_super receiver place frame) setting state in
      let tail = messages_of outside (append_sends before (a_send last no_sends)) in
      let cascade = messages_of outside (a_send next rest) in
      let follow = λ (answer : Value). sent_in_turn outside setting place frame false answer last
      (a_send next rest) in
      let plain = λ (answer : Value) (later : State MadeBlock).
      perform (messages_in_turn (messages_of outside before) [] false answer place frame) setting later in
      ap (λ program. perform program setting state)
      (by_form_first (message_of outside first) tail cascade to_super receiver (more_follow before last))
      ∙ onward_same one.end one.state
      (λ answer later. perform (messages_in_turn tail cascade false answer place frame) setting later)
      (λ answer later. onward (plain answer later).end (plain answer later).state follow)
      (λ answer. subst
      (λ still. perform (messages_in_turn tail cascade false answer place frame) setting one.state
      ≡ onward (plain answer one.state).end (plain answer one.state).state
      (λ value. sent_in_turn outside setting place frame still value last (a_send next rest)))
      (still_false before) (messages_read before last next rest false answer one.state))
      ∙ sym (onward_twice one.end one.state plain follow)
      ∙ ap (λ program. then_do (deed setting program) follow state)
      (sym (by_form_alone (message_of outside first) (messages_of outside before) to_super receiver))

  -- what begins an expression, and then such messages
  pub whole_read : (loop : Option Bool) (to_super : Bool) (head : Head) (first last next : Send)
      (before rest : Sends) (state : State MadeBlock)
      → perform (head_and_messages loop to_super (head_value outside head) (head_in_place outside head)
      (messages_of outside (a_send first (append_sends before (a_send last no_sends))))
      (messages_of outside (a_send next rest)) place frame) setting state
      ≡ then_do (deed setting (head_and_messages loop to_super (head_value outside head)
      (head_in_place outside head) (messages_of outside (a_send first before)) [] place frame))
      (λ answer. sent_in_turn outside setting place frame false answer last (a_send next rest)) state
  whole_read None to_super head first last next before rest state =
      let one = perform (head_value outside head place frame) setting state in
      let follow = λ (answer : Value). sent_in_turn outside setting place frame false answer last
      (a_send next rest) in
      let plain = λ (answer : Value) (later : State MadeBlock).
      perform (messages_in_turn (messages_of outside (a_send first before)) [] to_super answer place
      frame) setting later in
      onward_same one.end one.state
      (λ answer later. perform (messages_in_turn
      (messages_of outside (append_sends (a_send first before) (a_send last no_sends)))
      (messages_of outside (a_send next rest)) to_super answer place frame) setting later)
      (λ answer later. onward (plain answer later).end (plain answer later).state follow)
      (λ answer. messages_read (a_send first before) last next rest to_super answer one.state)
      ∙ sym (onward_twice one.end one.state plain follow)
  whole_read (Some when) to_super head first last next before rest state =
      let one = perform (while_loop when (head_in_place outside head place None frame)
      (first_body (messages_of outside (a_send first before)) place frame)) setting state in
      let follow = λ (answer : Value). sent_in_turn outside setting place frame false answer last
      (a_send next rest) in
      let plain = λ (answer : Value) (later : State MadeBlock).
      perform (messages_in_turn (messages_of outside before) [] false answer place frame) setting
      later in
      let tail = messages_of outside (append_sends before (a_send last no_sends)) in
      let cascade = messages_of outside (a_send next rest) in
      onward_same one.end one.state
      (λ answer later. perform (messages_in_turn tail cascade false answer place frame) setting later)
      (λ answer later. onward (plain answer later).end (plain answer later).state follow)
      (λ answer. subst
      (λ still. perform (messages_in_turn tail cascade false answer place frame) setting one.state
      ≡ onward (plain answer one.state).end (plain answer one.state).state
      (λ value. sent_in_turn outside setting place frame still value last (a_send next rest)))
      (still_false before) (messages_read before last next rest false answer one.state))
      ∙ sym (onward_twice one.end one.state plain follow)

  loop_with : (head : Head) (first last next : Send) (before rest : Sends)
      → first_loop head (a_send first (append_sends before (a_send last no_sends))) (a_send next rest)
      ≡ loop_of head first
  loop_with head first last next no_sends rest = refl
  loop_with head first last next (a_send one more) rest = refl

  loop_alone : (head : Head) (first : Send) (before : Sends)
      → first_loop head (a_send first before) no_sends ≡ loop_of head first
  loop_alone head first no_sends = refl
  loop_alone head first (a_send one more) = refl

  pub later_read : (head : Head) (first last next : Send) (before rest : Sends)
      (state : State MadeBlock)
      → perform (expression_value outside (expression [] head
      (a_send first (append_sends before (a_send last no_sends))) (a_send next rest)) place frame)
      setting state
      ≡ then_do (deed setting (expression_value outside (expression [] head (a_send first before) no_sends)
      place frame))
      (λ answer. sent_in_turn outside setting place frame false answer last (a_send next rest)) state
  later_read head first last next before rest state =
      let super_head = is_super_head head in
      let all = λ (loop : Option Bool). perform (head_and_messages loop super_head (head_value outside head)
      (head_in_place outside head)
      (messages_of outside (a_send first (append_sends before (a_send last no_sends))))
      (messages_of outside (a_send next rest)) place frame) setting state in
      let part = λ (loop : Option Bool). perform (head_and_messages loop super_head
      (head_value outside head) (head_in_place outside head)
      (messages_of outside (a_send first before)) [] place frame) setting state in
      let follow = λ (answer : Value). sent_in_turn outside setting place frame false answer last
      (a_send next rest) in
      let with = first_loop head (a_send first (append_sends before (a_send last no_sends)))
      (a_send next rest) in
      let alone = first_loop head (a_send first before) no_sends in
      let same : with ≡ alone = loop_with head first last next before rest
      ∙ sym (loop_alone head first before) in
      onward_alone (all with).end (all with).state
      ∙ ap all same
      ∙ whole_read alone super_head head first last next before rest state
      ∙ ap (λ (outcome : Outcome MadeBlock Value). onward outcome.end outcome.state follow)
      (sym (onward_alone (part alone).end (part alone).state))

  pub first_read : (head : Head) (last next : Send) (rest : Sends) (state : State MadeBlock)
      → perform (expression_value outside (expression [] head (a_send last no_sends) (a_send next rest))
      place frame) setting state
      ≡ then_do (deed setting (expression_value outside (expression [] head no_sends no_sends) place
      frame))
      (λ answer. sent_in_turn outside setting place frame (is_super_head head) answer last
      (a_send next rest)) state
  first_read head last next rest state =
      let one = perform (head_value outside head place frame) setting state in
      let follow = λ (answer : Value). sent_in_turn outside setting place frame (is_super_head head) answer
      last (a_send next rest) in
      let cascade = λ (answer : Value) (later : State MadeBlock).
      perform (cascade_in_turn (message_of outside last) (messages_of outside (a_send next rest))
      (is_super_head head) answer place frame) setting later in
      onward_alone (onward one.end one.state cascade).end (onward one.end one.state cascade).state
      ∙ onward_same one.end one.state cascade follow
      (λ answer. cascade_read (is_super_head head) answer last (a_send next rest) one.state)
      ∙ ap (λ (outcome : Outcome MadeBlock Value). onward outcome.end outcome.state follow)
      (sym (onward_alone (onward one.end one.state answers).end
      (onward one.end one.state answers).state
      ∙ onward_alone one.end one.state))
