-- Whole code: of a method, a chunk and a block.
use Rattle.std.proofs.Common.{◌≡◌, refl, subst, ℕ, zero, suc, ◌+◌, ◌≤◌, List, [], ◌∷◌, ◌++◌, length, arith}
use Rattle.st_tree.specs.Trees.{closure, Statements, Program}
use Rattle.gem_object.specs.declared.value.Value.{Value}
use Rattle.tree_meaning.specs.gem_world.World.{Setting}
use Rattle.tree_meaning.specs.object_programs.Run.{return_to, Ending, gives, returns, fails, State, Outcome, onward, perform}
use Rattle.tree_meaning.specs.Place.{Place, Frame, MadeBlock}
use Rattle.tree_meaning.specs.Operands.{ValueRun}
use Rattle.tree_meaning.specs.Parts.{statements_in_turn}
use Rattle.tree_meaning.specs.Meaning.{Outside, statement_runs}
use Rattle.tree_meaning.specs.Bodies.{method_place, block_place, method_body, chunk_body, block_body}
use Rattle.tree_meaning.specs.Reading.{answers}
use Rattle.tree_meaning.proofs.Deeds.{onward_alone}
use Rattle.st_compiler.specs.Instruction.{Instruction, Pop, PushSelf, ReturnMethod, ReturnBlock}
use Rattle.st_compiler.specs.Code.{Piece, Gen}
use Rattle.st_compiler.specs.TreeCode.{statements_in_turn_code, statement_codes, method_code, chunk_code, closure_code}
use Rattle.st_compiler.specs.Machine.{over, execute}
use Rattle.st_compiler.specs.Runs.{Runs, IsBlockCode}
use Rattle.st_compiler.proofs.Steps.{HasAt, first_has, then_has, Stops, Reaches, comes_stops, steps, stops}
use Rattle.st_compiler.proofs.Right.{Right, pop_comes}
use Rattle.st_compiler.proofs.Trees.{body_right}

shifted : {A : Type 0} (first : A) (xs ys : List A) (place : ℕ) → HasAt xs place ys
    → HasAt (first ∷ xs) (suc place) ys
shifted first xs [] place has = tt
shifted first xs (y ∷ ys) place has = (has.0, shifted first xs ys (suc place) has.1)

pub all_has : {A : Type 0} (xs : List A) → HasAt xs 0 xs
all_has [] = tt
all_has (x ∷ xs) = (refl, shifted x xs xs 0 (all_has xs))

module _ (outside : Outside) (setting : Setting) (table : List Piece) (code : List Instruction) where
  -- how code ends whose last instructions end it
  closes : (place : ℕ) (frame : Frame) (state : State MadeBlock) (there : ℕ)
      (finish : Value → State MadeBlock → Outcome MadeBlock Value)
      → ((answer : Value) (later : State MadeBlock)
      → Stops outside setting table code 0 there (answer ∷ []) frame later (finish answer later))
      → (end : Ending Value) (later : State MadeBlock)
      → Reaches outside setting table code 0 place [] frame state there [] frame end later
      → Stops outside setting table code 0 place [] frame state (onward end later finish)
  closes place frame state there finish last (gives answer) later first =
      comes_stops outside setting table code 0 0 place [] frame state there (answer ∷ []) frame later
      (finish answer later) first (last answer later)
  closes place frame state there finish last (returns answer home) later first = first
  closes place frame state there finish last (fails fault) later first = first

  -- a body, and then instructions that end the code
  pub ends : (part : Gen) (closing : List Instruction) (frame : Frame) (program : ValueRun)
      (finish : Value → State MadeBlock → Outcome MadeBlock Value)
      → Right outside setting table code part [] [] frame program
      → ((answer : Value) (place : ℕ) (later : State MadeBlock) → HasAt code place closing
      → Stops outside setting table code 0 place (answer ∷ []) frame later (finish answer later))
      → (number : ℕ) → HasAt code 0 ((part number).code ++ closing)
      → HasAt table number (part number).pieces
      → (state : State MadeBlock)
      → Stops outside setting table code 0 0 [] frame state
      (onward (perform program setting state).end (perform program setting state).state finish)
  ends part closing frame program finish right last number has pieces state =
      let one = part number in
      let there = 0 + length one.code in
      closes 0 frame state there finish
      (λ answer later. last answer there later (then_has code 0 one.code closing has))
      (perform program setting state).end (perform program setting state).state
      (right.at 0 number state (first_has code 0 one.code closing has) pieces).does

  -- the ends of methods, chunks and blocks
  method_ends : (answer : Value) (place : ℕ) (frame : Frame) (later : State MadeBlock)
      → HasAt code place (Pop ∷ PushSelf ∷ ReturnMethod ∷ [])
      → Stops outside setting table code 0 place (answer ∷ []) frame later
      (perform (return_to frame.receiver frame.home) setting later)
  method_ends answer place frame later has =
      let outcome : Outcome MadeBlock Value =
      record { end = returns frame.receiver frame.home; state = later } in
      comes_stops outside setting table code 0 0 place (answer ∷ []) frame later (suc place) [] frame later
      outcome (pop_comes outside setting table code place answer [] frame later has.0)
      (comes_stops outside setting table code 0 0 (suc place) [] frame later (suc (suc place))
      (frame.receiver ∷ []) frame later outcome
      (steps outside setting table code (suc place) [] frame later PushSelf has.1.0
      (suc (suc place)) (frame.receiver ∷ []) frame later (λ next back. refl) (omega arith))
      (stops outside setting table code (suc (suc place)) (frame.receiver ∷ []) frame later
      ReturnMethod has.1.1.0 outcome (λ next back. refl) (omega arith)))

  chunk_ends : (answer : Value) (place : ℕ) (frame : Frame) (later : State MadeBlock)
      → HasAt code place (ReturnMethod ∷ [])
      → Stops outside setting table code 0 place (answer ∷ []) frame later
      (perform (return_to answer frame.home) setting later)
  chunk_ends answer place frame later has =
      stops outside setting table code place (answer ∷ []) frame later ReturnMethod has.0
      (record { end = returns answer frame.home; state = later }) (λ next back. refl) (omega arith)

  block_ends : (answer : Value) (place : ℕ) (frame : Frame) (later : State MadeBlock)
      → HasAt code place (ReturnBlock ∷ [])
      → Stops outside setting table code 0 place (answer ∷ []) frame later (answers answer later)
  block_ends answer place frame later has =
      stops outside setting table code place (answer ∷ []) frame later ReturnBlock has.0
      (answers answer later) (λ next back. refl) (omega arith)

  -- code from its beginning
  pub begun : (frame : Frame) (state : State MadeBlock) (outcome : Outcome MadeBlock Value)
      → Stops outside setting table code 0 0 [] frame state outcome
      → (allowed : List ℕ) × (length allowed ≤ state.budget.units + 1)
      × (execute outside setting table code allowed 0 [] frame state ≡ over outcome)
  begun frame state outcome first = (first.by.0, omega (arith, first.by.1), first.by.2)

module _ (outside : Outside) (setting : Setting) (table : List Piece) where
  pub method_runs : (tree : Program) → HasAt table 0 (method_code tree 0).pieces
      → Runs outside setting table (method_code tree 0).code (method_body outside tree)
  unfolding method_code method_body
  method_runs tree pieces frame state =
      let part = statements_in_turn_code (statement_codes tree.body) (method_place tree) zero in
      let code = (method_code tree 0).code in
      begun outside setting table code frame state
      (perform (method_body outside tree frame) setting state)
      (ends outside setting table code part (Pop ∷ PushSelf ∷ ReturnMethod ∷ []) frame
      (statements_in_turn (statement_runs outside tree.body) (method_place tree) frame)
      (λ answer later. perform (return_to frame.receiver frame.home) setting later)
      (body_right outside setting table code tree.body (method_place tree) [] frame)
      (λ answer place later has. method_ends outside setting table code answer place frame later
      has)
      0 (all_has code)
      (first_has table 0 (part 0).pieces [] pieces) state)

  pub chunk_runs : (tree : Program) → HasAt table 0 (chunk_code tree 0).pieces
      → Runs outside setting table (chunk_code tree 0).code (chunk_body outside tree)
  unfolding chunk_code chunk_body
  chunk_runs tree pieces frame state =
      let part = statements_in_turn_code (statement_codes tree.body) (method_place tree) zero in
      let code = (chunk_code tree 0).code in
      begun outside setting table code frame state
      (perform (chunk_body outside tree frame) setting state)
      (ends outside setting table code part (ReturnMethod ∷ []) frame
      (statements_in_turn (statement_runs outside tree.body) (method_place tree) frame)
      (λ answer later. perform (return_to answer frame.home) setting later)
      (body_right outside setting table code tree.body (method_place tree) [] frame)
      (λ answer place later has. chunk_ends outside setting table code answer place frame later has)
      0 (all_has code)
      (first_has table 0 (part 0).pieces [] pieces) state)

  pub block_runs : (params temps : List (List ℕ)) (body : Statements) (place : Place) (number : ℕ)
      → let tree = closure params temps body in
      HasAt table number (closure_code tree place number).pieces
      → IsBlockCode outside setting table
      (record { tree = tree; place = place; code = (closure_code tree place number).code })
  unfolding block_body
  block_runs params temps body place number pieces frame state =
      let tree = closure params temps body in
      let inner = block_place tree place in
      let part = statements_in_turn_code (statement_codes body) inner zero in
      let code = (closure_code tree place number).code in
      let outcome = perform (block_body outside tree place frame) setting state in
      begun outside setting table code frame state outcome
      (subst (λ end. Stops outside setting table code 0 0 [] frame state end)
      (onward_alone outcome.end outcome.state)
      (ends outside setting table code part (ReturnBlock ∷ []) frame
      (statements_in_turn (statement_runs outside body) inner frame) answers
      (body_right outside setting table code body inner [] frame)
      (λ answer place later has. block_ends outside setting table code answer place frame later
      has)
      number (all_has code)
      (first_has table number (part number).pieces [] pieces) state))
