-- Messages that were sent.
use Rattle.std.proofs.Common.{◌≡◌, ◌∙◌, sym, ap, ℕ, suc, ◌<◌, ◌≤◌, Bool, true, false, List, [], ◌∷◌, ◌++◌, length, reverse, take, drop, get_or, slice_get, Option, Some, Ok, Err}
use Rattle.std.proofs.lemmas.List.{drop_all, reverse-reverse}
use Rattle.std.proofs.lemmas.Option.{same_Some, none-some}
use Rattle.gem_object.specs.texts.Bytes.{Bytes as Text}
use Rattle.st_tree.specs.Trees.{Program}
use Rattle.gem_object.specs.declared.value.Value.{Value}
use Rattle.gem_object.specs.declared.value.Value.TheVariants.{Nil}
use Rattle.gem_object.specs.declared.value.Value.TheVariants as value
use Rattle.tree_meaning.specs.object_programs.Local.{Local}
use Rattle.tree_meaning.specs.object_programs.Run.{Run, State, Outcome}
use Rattle.tree_meaning.specs.Place.{Frame, MadeBlock}
use Rattle.tree_meaning.specs.Operands.{ValueRun}
use Rattle.tree_meaning.specs.Bodies.{params_count}
use Rattle.tree_meaning.specs.Calls.{make_block}
use Rattle.tree_meaning.specs.declared.place.Mark.{Mark}
use Rattle.gem_language.specs.Sends.{outside, callee, send_by}
use Rattle.running_objects.specs.Seen.{Seen, with_local}
use Rattle.running_objects.specs.Ran.{Ran}
use Rattle.running_objects.specs.declared.stop.Stop.{Stop}
use Rattle.running_objects.specs.declared.stop.Stop.TheVariants as stop
use Rattle.st_compiler.specs.Code.{Piece}
use Rattle.st_compiler.specs.Machine.{CodeEnd, Next, after, does, on_top, on_piece}
use Rattle.st_compiler.specs.TreeCode.{send_op}
use Rattle.st_machine.specs.Parts.{table_of, piece_of, made_of, framed}
use Rattle.st_machine.specs.Led.{AskedTo, AskedBy}
use Rattle.st_machine.specs.declared.flow.Asked.TheVariants as asked
use Rattle.st_machine.proofs.Ends.{receiver_first}

-- A program whose answer is put on the stack, and one that stopped.
pub answered : {A : Type 0} (program : Run MadeBlock A) {before now : Seen} {local later : Local MadeBlock} (answer : A)
    (further : A → State MadeBlock → CodeEnd) → Ran program before local (Ok answer) now later
    → does program before.setting (with_local before local) further ≡ further answer (with_local now later)
answered {A} program answer further ran =
    ap (λ (outcome : Outcome MadeBlock A). after outcome.end outcome.state further) ran.ends

pub stopped : (program : ValueRun) {before now : Seen} {local later : Local MadeBlock} (ended : Stop)
    (further : Next → Next → Value → State MadeBlock → CodeEnd) (left : List Value) (frame : Frame)
    → Ran program before local (Err ended) now later
    → AskedTo (λ next back. does program before.setting (with_local before local) (further next back)) (Err ended)
    left frame (with_local now later)
stopped program (stop.Fails fault) further left frame ran = λ next back.
    ap (λ (outcome : Outcome MadeBlock Value). after outcome.end outcome.state (further next back)) ran.ends
stopped program (stop.Returns answer home) further left frame ran = λ next back.
    ap (λ (outcome : Outcome MadeBlock Value). after outcome.end outcome.state (further next back)) ran.ends
stopped program stop.NoMemory further left frame ran = tt

module _ (depth : ℕ) (table : List Piece) (selector : Text) (count : ℕ) (place : ℕ) (stack : List Value)
    (scopes inner : List Mark) (frame : Frame) (before now : Seen) (local later : Local MadeBlock) where
  -- what follows it
  abbrev put_answer : Next → Value → State MadeBlock → CodeEnd
  put_answer next answer state = next (suc place) (answer ∷ drop (suc count) stack) (framed scopes frame) state

  -- what the instruction gives where the receiver stands on the stack
  on_receiver : (message : Value → ValueRun) → count < length stack → (next : Next)
      → on_top (drop count stack) (λ receiver rest.
      does (message receiver) before.setting (with_local before local) (λ answer state.
      next (suc place) (answer ∷ rest) (framed scopes frame) state))
      ≡ does (message (get_or stack count Nil)) before.setting (with_local before local) (put_answer next)
  on_receiver message within next =
      ap (λ (items : List Value). on_top items (λ receiver rest.
      does (message receiver) before.setting (with_local before local) (λ answer state.
      next (suc place) (answer ∷ rest) (framed scopes frame) state)))
      (receiver_first stack count Nil within)

  sent_to : (message : Value → ValueRun) → count < length stack → (answer : Value) (left : List Value) (there : ℕ)
      → there ≡ suc place → inner ≡ scopes → left ≡ answer ∷ drop (suc count) stack
      → Ran (message (get_or stack count Nil)) before local (Ok answer) now later → (next : Next)
      → on_top (drop count stack) (λ receiver rest.
      does (message receiver) before.setting (with_local before local) (λ answer state.
      next (suc place) (answer ∷ rest) (framed scopes frame) state))
      ≡ next there left (framed inner frame) (with_local now later)
  sent_to message within answer left there is_there same_scopes is_left ran next =
      let here : next (suc place) (answer ∷ drop (suc count) stack) (framed scopes frame) (with_local now later)
      ≡ next (suc place) left (framed scopes frame) (with_local now later) =
      ap (λ (items : List Value). next (suc place) items (framed scopes frame) (with_local now later)) (sym is_left) in
      let inside : next (suc place) left (framed scopes frame) (with_local now later)
      ≡ next (suc place) left (framed inner frame) (with_local now later) =
      ap (λ (marks : List Mark). next (suc place) left (framed marks frame) (with_local now later)) (sym same_scopes) in
      on_receiver message within next
      ∙ (answered (message (get_or stack count Nil)) answer (put_answer next) ran
      ∙ (here ∙ (inside
      ∙ ap (λ (n : ℕ). next n left (framed inner frame) (with_local now later)) (sym is_there))))

  pub sent_answers : (to_super : Bool) → count < length stack → (answer : Value) (left : List Value) (there : ℕ)
      → there ≡ suc place → inner ≡ scopes → left ≡ answer ∷ drop (suc count) stack
      → Ran (send_by (callee depth) to_super selector (framed scopes frame) (get_or stack count Nil)
      (take count stack)) before local (Ok answer) now later
      → AskedBy (outside depth) table (send_op to_super selector count) place stack scopes frame before local
      (Ok (asked.Goes there)) left inner now later
  unfolding outside
  sent_answers false within answer left there is_there same_scopes is_left ran = λ next back.
      sent_to (λ receiver. send_by (callee depth) false selector (framed scopes frame) receiver (take count stack))
      within answer left there is_there same_scopes is_left ran next
  sent_answers true within answer left there is_there same_scopes is_left ran = λ next back.
      sent_to (λ receiver. send_by (callee depth) true selector (framed scopes frame) receiver (take count stack))
      within answer left there is_there same_scopes is_left ran next

  -- The message stopped.
  over_receiver : (message : Value → ValueRun) → count < length stack → (ended : Stop) (left : List Value)
      → Ran (message (get_or stack count Nil)) before local (Err ended) now later
      → AskedTo (λ next back. on_top (drop count stack) (λ receiver rest.
      does (message receiver) before.setting (with_local before local) (λ answer state.
      next (suc place) (answer ∷ rest) (framed scopes frame) state))) (Err ended) left (framed inner frame)
      (with_local now later)
  over_receiver message within (stop.Fails fault) left ran = λ next back.
      on_receiver message within next ∙ stopped (message (get_or stack count Nil)) (stop.Fails fault)
      (λ next back. put_answer next) left (framed inner frame) ran next back
  over_receiver message within (stop.Returns answer home) left ran = λ next back.
      on_receiver message within next ∙ stopped (message (get_or stack count Nil)) (stop.Returns answer home)
      (λ next back. put_answer next) left (framed inner frame) ran next back
  over_receiver message within stop.NoMemory left ran = tt

  pub sent_stops : (to_super : Bool) → count < length stack → (ended : Stop) (left : List Value)
      → Ran (send_by (callee depth) to_super selector (framed scopes frame) (get_or stack count Nil)
      (take count stack)) before local (Err ended) now later
      → AskedBy (outside depth) table (send_op to_super selector count) place stack scopes frame before local
      (Err ended) left inner now later
  unfolding outside
  sent_stops false within ended left ran =
      over_receiver (λ receiver. send_by (callee depth) false selector (framed scopes frame) receiver (take count stack))
      within ended left ran
  sent_stops true within ended left ran =
      over_receiver (λ receiver. send_by (callee depth) true selector (framed scopes frame) receiver (take count stack))
      within ended left ran

  -- Where the receiver isn't there.
  pub none_sent : (to_super : Bool) → length stack ≤ count → (left : List Value)
      → AskedBy (outside depth) table (send_op to_super selector count) place stack scopes frame before local
      (Ok asked.Stuck) left inner now later
  none_sent false past left = λ next back. ap (λ (items : List Value). on_top items (λ receiver rest.
      does ((outside depth).send_message false selector (framed scopes frame) receiver (take count stack))
      before.setting (with_local before local) (λ answer state.
      next (suc place) (answer ∷ rest) (framed scopes frame) state))) (drop_all count stack past)
  none_sent true past left = λ next back. ap (λ (items : List Value). on_top items (λ receiver rest.
      does ((outside depth).send_message true selector (framed scopes frame) receiver (take count stack))
      before.setting (with_local before local) (λ answer state.
      next (suc place) (answer ∷ rest) (framed scopes frame) state))) (drop_all count stack past)

-- A program whose answer is put on the stack.
pub pushed_led : (program : ValueRun) (place there : ℕ) (below left : List Value) (frame : Frame)
    {before now : Seen} {local later : Local MadeBlock} (answer : Value) → there ≡ suc place
    → left ≡ answer ∷ below → Ran program before local (Ok answer) now later → (next back : Next)
    → does program before.setting (with_local before local) (λ value state.
    next (suc place) (value ∷ below) frame state) ≡ next there left frame (with_local now later)
pushed_led program place there below left frame {before} {now} {local} {later} answer is_there is_left ran next back =
    let here : next (suc place) (answer ∷ below) frame (with_local now later)
    ≡ next (suc place) left frame (with_local now later) =
    ap (λ (items : List Value). next (suc place) items frame (with_local now later)) (sym is_left) in
    answered program answer (λ value state. next (suc place) (value ∷ below) frame state) ran
    ∙ (here ∙ ap (λ (n : ℕ). next n left frame (with_local now later)) (sym is_there))

-- The same of a program that takes the uppermost value.
module _ (program : Value → ValueRun) where
  abbrev taking : (place : ℕ) → List Value → Frame → Seen → Local MadeBlock → Next → CodeEnd
  taking place stack frame before local next = on_top stack (λ first rest.
      does (program first) before.setting (with_local before local) (λ value state.
      next (suc place) (value ∷ rest) frame state))

  pub replaced_led : (place there : ℕ) (stack : List Value) (first : Value) (rest left : List Value) (frame : Frame)
      {before now : Seen} {local later : Local MadeBlock} (answer : Value) → stack ≡ first ∷ rest → there ≡ suc place
      → left ≡ answer ∷ rest → Ran (program first) before local (Ok answer) now later → (next back : Next)
      → taking place stack frame before local next ≡ next there left frame (with_local now later)
  replaced_led place there stack first rest left frame {before} {now} {local} {later} answer is is_there is_left ran next back =
      ap (λ (items : List Value). taking place items frame before local next) is
      ∙ pushed_led (program first) place there rest left frame answer is_there is_left ran next back

  pub replaced_stops : (place : ℕ) (stack : List Value) (first : Value) (rest left : List Value) (frame : Frame)
      {before now : Seen} {local later : Local MadeBlock} (ended : Stop) → stack ≡ first ∷ rest
      → Ran (program first) before local (Err ended) now later
      → AskedTo (λ next back. taking place stack frame before local next) (Err ended) left frame (with_local now later)
  replaced_stops place stack first rest left frame {before} {now} {local} {later} (stop.Fails fault) is ran = λ next back.
      ap (λ (items : List Value). taking place items frame before local next) is
      ∙ stopped (program first) (stop.Fails fault) (λ next back value state. next (suc place) (value ∷ rest) frame state)
      left frame ran next back
  replaced_stops place stack first rest left frame {before} {now} {local} {later} (stop.Returns answer home) is ran = λ next back.
      ap (λ (items : List Value). taking place items frame before local next) is
      ∙ stopped (program first) (stop.Returns answer home) (λ next back value state. next (suc place) (value ∷ rest) frame state)
      left frame ran next back
  replaced_stops place stack first rest left frame stop.NoMemory is ran = tt

  -- It answers the value itself, which stays where it is.
  pub stored_led : (place there : ℕ) (stack : List Value) (first : Value) → Some first ≡ slice_get stack 0
      → there ≡ suc place → (frame : Frame) {before now : Seen} {local later : Local MadeBlock}
      → Ran (program first) before local (Ok first) now later → (next back : Next)
      → taking place stack frame before local next ≡ next there stack frame (with_local now later)
  stored_led place there [] first is is_there frame ran next back = absurd (none-some first (sym is))
  stored_led place there (top ∷ rest) first is is_there frame ran next back =
      let same : top ∷ rest ≡ first ∷ rest = ap (λ (value : Value). value ∷ rest) (sym (same_Some first top is)) in
      replaced_led place there (top ∷ rest) first rest (top ∷ rest) frame first same is_there same ran next back

  pub stored_stops : (place : ℕ) (stack : List Value) (first : Value) → Some first ≡ slice_get stack 0 → (frame : Frame)
      {before now : Seen} {local later : Local MadeBlock} (ended : Stop) → Ran (program first) before local (Err ended) now later
      → AskedTo (λ next back. taking place stack frame before local next) (Err ended) stack frame (with_local now later)
  stored_stops place [] first is frame ended ran = absurd (none-some first (sym is))
  stored_stops place (top ∷ rest) first is frame ended ran =
      replaced_stops place (top ∷ rest) first rest (top ∷ rest) frame ended
      (ap (λ (value : Value). value ∷ rest) (sym (same_Some first top is))) ran

-- A new block is put on the stack.
pub block_led : (depth : ℕ) (tree : Program) (number place there : ℕ) (below left : List Value) (frame : Frame)
    (before : Seen) (local later : Local MadeBlock) (params : ℕ)
    → slice_get (table_of tree) number ≡ Some (piece_of tree number)
    → params ≡ params_count (piece_of tree number).tree → there ≡ suc place
    → left ≡ value.Block (record { number = length local.blocks; params = params }) ∷ below
    → later ≡ record local { blocks = local.blocks ++ made_of tree number frame ∷ [] } → (next back : Next)
    → on_piece (slice_get (table_of tree) number) (λ piece.
    does ((outside depth).make_block piece.tree piece.place frame) before.setting (with_local before local)
    (λ answer state. next (suc place) (answer ∷ below) frame state))
    ≡ next there left frame (with_local before later)
unfolding outside make_block
block_led depth tree number place there below left frame before local later params found are is_there is_left is_later next back =
    let piece = piece_of tree number in
    let end : Value → Local MadeBlock → CodeEnd = λ answer local.
    next (suc place) (answer ∷ below) frame (with_local before local) in
    let by_piece = ap (λ (one : Option Piece). on_piece one (λ piece.
    does ((outside depth).make_block piece.tree piece.place frame) before.setting (with_local before local)
    (λ answer state. next (suc place) (answer ∷ below) frame state))) found in
    let by_params = ap (λ (count : ℕ). next (suc place)
    (value.Block (record { number = length local.blocks; params = count }) ∷ below) frame
    (with_local before (record local { blocks = local.blocks ++ made_of tree number frame ∷ [] }))) (sym are) in
    let by_left = ap (λ (items : List Value). next (suc place) items frame
    (with_local before (record local { blocks = local.blocks ++ made_of tree number frame ∷ [] }))) (sym is_left) in
    let by_later = ap (λ (one : Local MadeBlock). next (suc place) left frame (with_local before one)) (sym is_later) in
    by_piece ∙ (by_params ∙ (by_left ∙ (by_later
    ∙ ap (λ (n : ℕ). next n left frame (with_local before later)) (sym is_there))))

-- The block that is made is that of the activation that runs.
pub made_same : (tree code : Program) (number : ℕ) (items own : List Mark) (outline frame : Frame) → code ≡ tree
    → items ≡ reverse own → outline ≡ frame
    → made_of code number (framed (reverse items) outline) ≡ made_of tree number (framed own frame)
made_same tree code number items own outline frame same_code same_items same_outline =
    ap (λ (one : Program). made_of one number (framed (reverse items) outline)) same_code
    ∙ (ap (λ (one : List Mark). made_of tree number (framed (reverse one) outline)) same_items
    ∙ (ap (λ (one : List Mark). made_of tree number (framed one outline)) (reverse-reverse own)
    ∙ ap (λ (one : Frame). made_of tree number (framed own one)) same_outline))
