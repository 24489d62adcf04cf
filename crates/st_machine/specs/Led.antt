-- What one instruction led to.
use Rattle.std.specs.Prelude.{◌≡◌, ℕ, suc, ◌<◌, List, [], ◌∷◌, Option, Some, Result, Ok, Err}
use Rattle.std.specs.declared.alloc.AllocError.{AllocError}
use Rattle.gem_object.specs.declared.value.Value.{Value}
use Rattle.tree_meaning.specs.object_programs.Atom.{Tick}
use Rattle.tree_meaning.specs.object_programs.Local.{Local}
use Rattle.tree_meaning.specs.object_programs.Run.{gives, returns, fails, State}
use Rattle.tree_meaning.specs.object_programs.declared.fault.Fault.TheVariants as fault
use Rattle.running_objects.specs.Acted.{Acted}
use Rattle.running_objects.specs.Seen.{Seen, with_local}
use Rattle.running_objects.specs.declared.stop.Stop.{Stop}
use Rattle.running_objects.specs.declared.stop.Stop.TheVariants as stop
use Rattle.tree_meaning.specs.Place.{Frame, MadeBlock}
use Rattle.tree_meaning.specs.Meaning.{Outside}
use Rattle.tree_meaning.specs.declared.place.Mark.{Mark}
use Rattle.st_compiler.specs.Instruction.{Instruction, MakeLit, PushName, StoreName, Send, SuperSend, PushBlock, ReturnMethod, ReturnHome, ReturnBlock}
use Rattle.st_compiler.specs.Code.{Piece}
use Rattle.st_compiler.specs.Machine.{CodeEnd, over, stuck, Next, act}
use Rattle.st_machine.specs.Called.{top, IsAbove}
use Rattle.st_machine.specs.Lacks.{LackTurned}
use Rattle.st_machine.specs.Parts.{framed}
use Rattle.st_machine.specs.declared.flow.Flow.{Flow}
use Rattle.st_machine.specs.declared.flow.Flow.TheVariants.{Goes, Answers, Returns, Stopped, Stuck}
use Rattle.st_machine.specs.declared.flow.Asked.{Asked}
use Rattle.st_machine.specs.declared.flow.Asked.TheVariants as asked
use Rattle.st_machine.specs.declared.flow.Turn.{Turn}
use Rattle.st_machine.specs.declared.flow.Turn.TheVariants as turn
use Rattle.st_machine.specs.declared.lack.Lack.{Lack}
use Rattle.st_machine.specs.declared.flow.Turned.{Turned}
use Rattle.st_machine.specs.declared.flow.Turned.TheVariants.{Done, Left}

-- Code ends by this stop: `end` is what the instruction gives, whatever is done from the next
-- place on and after a jump back. Where memory ran out nothing is said.
abbrev pub StopsTo : (end : Next → Next → CodeEnd) → Stop → State MadeBlock → Type 0
StopsTo end (stop.Fails fault) state =
    (next back : Next) → end next back ≡ over (record { end = fails fault; state = state })
StopsTo end (stop.Returns answer home) state =
    (next back : Next) → end next back ≡ over (record { end = returns answer home; state = state })
StopsTo end stop.NoMemory state = Unit {0}

-- It goes on or ends so.
abbrev pub AskedTo : (end : Next → Next → CodeEnd) → Result Asked Stop → (stack : List Value)
    → Frame → State MadeBlock → Type 0
AskedTo end (Ok (asked.Goes place)) stack frame state =
    (next back : Next) → end next back ≡ next place stack frame state
AskedTo end (Ok asked.Stuck) stack frame state = (next back : Next) → end next back ≡ stuck
AskedTo end (Err stopped) stack frame state = StopsTo end stopped state

-- An instruction was carried out at a place, with a stack and with scopes: it ended so, and left
-- this stack and these scopes.
abbrev pub AskedBy : Outside → (table : List Piece) → Instruction → (place : ℕ)
    → (stack : List Value) → (scopes : List Mark) → Frame → (before : Seen) → Local MadeBlock
    → Result Asked Stop → (left : List Value) → (inner : List Mark) → (after : Seen)
    → Local MadeBlock → Type 0
AskedBy outside table one place stack scopes frame before local result left inner after later =
    AskedTo (λ next back. act outside before.setting table (Some one) next back place stack
    (framed scopes frame) (with_local before local)) result left (framed inner frame)
    (with_local after later)

-- what goes on does so further on
abbrev pub IsAhead : (place : ℕ) → Asked → Type 0
IsAhead place (asked.Goes next) = place < next
IsAhead place asked.Stuck = Unit {0}

-- The same, where what is answered or returned is the only value on the stack, and why the code
-- stops is told beside it.
abbrev pub LedTo : (end : Next → Next → CodeEnd) → Flow → (why : Stop) → (stack : List Value)
    → Frame → State MadeBlock → Type 0
LedTo end (Goes place) why stack frame state =
    (next back : Next) → end next back ≡ next place stack frame state
LedTo end Answers why stack frame state = IsAbove [] stack × ((next back : Next)
    → end next back ≡ over (record { end = gives (top stack); state = state }))
LedTo end Returns why stack frame state = IsAbove [] stack × ((next back : Next)
    → end next back ≡ over (record { end = returns (top stack) frame.home; state = state }))
LedTo end Stopped why stack frame state = StopsTo end why state
LedTo end Stuck why stack frame state = (next back : Next) → end next back ≡ stuck

abbrev pub LedBy : Outside → (table : List Piece) → Instruction → (place : ℕ)
    → (stack : List Value) → (scopes : List Mark) → Frame → (before : Seen) → Local MadeBlock
    → Flow → (why : Stop) → (left : List Value) → (inner : List Mark) → (after : Seen)
    → Local MadeBlock → Type 0
LedBy outside table one place stack scopes frame before local result why left inner after later =
    LedTo (λ next back. act outside before.setting table (Some one) next back place stack
    (framed scopes frame) (with_local before local)) result why left (framed inner frame)
    (with_local after later)

abbrev pub IsForward : (place : ℕ) → Flow → Type 0
IsForward place (Goes next) = place < next
IsForward place other = Unit {0}

-- what was asked led to this, and this is why it stops
abbrev pub FlowOf : Result Asked Stop → Flow → (why : Stop) → Type 0
FlowOf (Ok (asked.Goes place)) flow why = flow ≡ Goes place
FlowOf (Ok asked.Stuck) flow why = flow ≡ Stuck
FlowOf (Err stopped) flow why = (flow ≡ Stopped) × (why ≡ stopped)

-- The same of an instruction that needs no more than the receiver, the stack, the scopes with their
-- variables, units and what is remembered.
abbrev pub TurnedTo : (end : Next → Next → CodeEnd) → Result Turn AllocError
    → (stack : List Value) → Frame → State MadeBlock → Type 0
TurnedTo end (Ok (turn.Goes place)) stack frame state =
    (next back : Next) → end next back ≡ next place stack frame state
TurnedTo end (Ok (turn.Jumps place)) stack frame state =
    (next back : Next) → end next back ≡ back place stack frame state
TurnedTo end (Ok turn.NotBoolean) stack frame state = (next back : Next)
    → end next back ≡ over (record { end = fails fault.NotBoolean; state = state })
TurnedTo end (Ok turn.ArgumentKind) stack frame state = (next back : Next)
    → end next back ≡ over (record { end = fails fault.ArgumentKind; state = state })
TurnedTo end (Ok turn.NoUnit) stack frame state = (next back : Next)
    → end next back ≡ over (record { end = fails fault.SendBudget; state = state })
TurnedTo end (Ok turn.TooLarge) stack frame state = (next back : Next)
    → end next back ≡ over (record { end = fails fault.ObjectTooLarge; state = state })
TurnedTo end (Ok turn.Stuck) stack frame state = (next back : Next) → end next back ≡ stuck
TurnedTo end (Err none) stack frame state = Unit {0}

abbrev pub TurnedBy : Outside → (table : List Piece) → Instruction → (place : ℕ)
    → (stack : List Value) → (scopes : List Mark) → Frame → (before : Seen) → Local MadeBlock
    → Result Turn AllocError → (left : List Value) → (inner : List Mark) → (after : Seen)
    → Local MadeBlock → Type 0
TurnedBy outside table one place stack scopes frame before local result left inner after later =
    TurnedTo (λ next back. act outside before.setting table (Some one) next back place stack
    (framed scopes frame) (with_local before local)) result left (framed inner frame)
    (with_local after later)

-- This holds of how it was carried out, or of the place that is known where it was left.
abbrev pub IfDone : Turned → (Result Turn AllocError → Type 0) → Type 0
IfDone (Done turned) P = P turned
IfDone (Left place) P = Unit {0}

abbrev pub IfLeft : Turned → (Option ℕ → Type 0) → Type 0
IfLeft (Done turned) P = Unit {0}
IfLeft (Left place) P = P place

abbrev pub TurnsForward : (place : ℕ) → Turn → Type 0
TurnsForward place (turn.Goes next) = place < next
TurnsForward place other = Unit {0}

-- A unit was taken, and the next instruction follows; or none was left.
abbrev pub UnitTurned : (place : ℕ) → Seen → Result Turn AllocError → Seen → Type 0
UnitTurned place before (Ok (turn.Goes there)) after =
    (there ≡ suc place) × Acted Tick before (Ok tt) after
UnitTurned place before (Ok turn.NoUnit) after =
    Acted Tick before (Err (stop.Fails fault.SendBudget)) after
UnitTurned place before (Ok other) after = ⊥
UnitTurned place before (Err none) after = Unit {0}

-- A message ended so: its answer stands above these values, and the next instruction follows; or
-- something was lacking for it.
abbrev pub AnswerTurned : (place : ℕ) → Result Value Lack → (below left : List Value)
    → Result Turn AllocError → Type 0
AnswerTurned place (Ok value) below left (Ok (turn.Goes there)) =
    (there ≡ suc place) × (left ≡ value ∷ below)
AnswerTurned place (Ok value) below left (Ok other) = ⊥
AnswerTurned place (Ok value) below left (Err none) = Unit {0}
AnswerTurned place (Err lack) below left turned = LackTurned lack turned

-- It sends, makes an object or a block, asks for a name, or ends.
abbrev pub IsAsked : Instruction → Type 0
IsAsked (MakeLit constant) = Unit {0}
IsAsked (PushName name) = Unit {0}
IsAsked (StoreName name) = Unit {0}
IsAsked (Send selector count) = Unit {0}
IsAsked (SuperSend selector count) = Unit {0}
IsAsked (PushBlock number) = Unit {0}
IsAsked ReturnMethod = Unit {0}
IsAsked ReturnHome = Unit {0}
IsAsked ReturnBlock = Unit {0}
IsAsked other = ⊥
