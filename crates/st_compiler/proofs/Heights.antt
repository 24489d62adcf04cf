-- Instructions keep the rows of their op codes.
use Rattle.std.proofs.Common.{◌≡◌, refl, ap, inl, inr, ℕ, zero, suc, ◌+◌, ◌-◌, ℤ, pos, ◌+ℤ◌, int_le, Bool, true, false, List, [], ◌∷◌, length, take, drop, slice_get, Option, Some, None, arith}
use Rattle.gem_object.specs.declared.value.Value.{Value}
use Rattle.gem_object.specs.declared.value.Value.TheVariants as value
use Rattle.tree_meaning.specs.gem_world.World.{Setting}
use Rattle.gem_object.specs.texts.declared.integers.TheConstants.{LARGEST_INTEGER}
use Rattle.tree_meaning.specs.object_programs.Atom.{Tick}
use Rattle.tree_meaning.specs.object_programs.Run.{Run, atom, Ending, gives, returns, fails, State, perform}
use Rattle.tree_meaning.specs.Place.{Frame, MadeBlock}
use Rattle.tree_meaning.specs.Operands.{truth_of, int_pair}
use Rattle.tree_meaning.specs.Scopes.{variable_value, set_variable}
use Rattle.tree_meaning.specs.Meaning.{Outside}
use Rattle.tree_meaning.specs.declared.place.Mark.{Mark}
use Rattle.tree_meaning.specs.declared.operand.Truth.{Truth}
use Rattle.tree_meaning.specs.declared.operand.Truth.TheVariants as truth
use Rattle.tree_meaning.specs.declared.operand.Pair.{Pair}
use Rattle.tree_meaning.specs.declared.operand.Pair.TheVariants.{Ints, Others}
use Rattle.st_compiler.specs.Instruction.{Instruction, PushSelf, PushNil, PushTrue, PushFalse, PushLit, MakeLit, PushLocal, StoreLocal, PushName, StoreName, Pop, Dup, Send, SuperSend, PushBlock, ReturnMethod, ReturnHome, ReturnBlock, Jump, JumpBack, JumpTrue, JumpFalse, TakeUnit, Enter, Leave, LoopStart, LoopNext, LoopStep}
use Rattle.st_compiler.specs.Code.{Piece}
use Rattle.st_compiler.specs.Machine.{CodeEnd, Next, after, does, on_top, by_condition, on_ints, either, on_piece, on_scope, act}
use Rattle.st_compiler.specs.Runs.{SameAfter}

after_same : {A : Type 0} (end : Ending A) (state : State MadeBlock)
    (first second : A → State MadeBlock → CodeEnd)
    → ((answer : A) (later : State MadeBlock) → first answer later ≡ second answer later)
    → after end state first ≡ after end state second
after_same (gives answer) state first second same = same answer state
after_same (returns answer home) state first second same = refl
after_same (fails fault) state first second same = refl

condition_same : (test : Truth) (state : State MadeBlock) (first other second another : CodeEnd)
    → first ≡ second → other ≡ another
    → by_condition test state first other ≡ by_condition test state second another
condition_same truth.True state first other second another same also = same
condition_same truth.False state first other second another same also = also
condition_same truth.Neither state first other second another same also = refl

ints_same : (pair : Pair) (otherwise : CodeEnd) (first second : ℤ → ℤ → CodeEnd)
    → ((number limit : ℤ) → first number limit ≡ second number limit)
    → on_ints pair otherwise first ≡ on_ints pair otherwise second
ints_same (Ints number limit) otherwise first second same = same number limit
ints_same Others otherwise first second same = refl

either_same : (test : Bool) (first other second another : CodeEnd) → first ≡ second → other ≡ another
    → either test first other ≡ either test second another
either_same true first other second another same also = same
either_same false first other second another same also = also

piece_same : (found : Option Piece) (first second : Piece → CodeEnd)
    → ((piece : Piece) → first piece ≡ second piece) → on_piece found first ≡ on_piece found second
piece_same None first second same = refl
piece_same (Some piece) first second same = same piece

scope_same : (scopes : List Mark) (first second : Mark → List Mark → CodeEnd)
    → ((one : Mark) (rest : List Mark) → first one rest ≡ second one rest)
    → on_scope scopes first ≡ on_scope scopes second
scope_same [] first second same = refl
scope_same (one ∷ rest) first second same = same one rest

-- what stands under so many values
dropped : (count : ℕ) (stack : List Value) (receiver : Value) (rest : List Value)
    → drop count stack ≡ receiver ∷ rest → length rest + (1 + count) ≡ length stack
dropped zero stack receiver rest is =
    let whole : length stack ≡ suc (length rest) = ap length is in omega (arith, whole)
dropped (suc count) [] receiver rest is = absurd (cc)
dropped (suc count) (first ∷ others) receiver rest is =
    let whole : length rest + (1 + count) ≡ length others = dropped count others receiver rest is in
    omega (arith, whole)

module _ (outside : Outside) (setting : Setting) (table : List Piece) where
  does_same : {A : Type 0} (program : Run MadeBlock A) (state : State MadeBlock)
      (first second : A → State MadeBlock → CodeEnd)
      → ((answer : A) (later : State MadeBlock) → first answer later ≡ second answer later)
      → does program setting state first ≡ does program setting state second
  does_same program state first second same =
      after_same (perform program setting state).end (perform program setting state).state first second same

  under_same : (found : List Value) (first second : Value → List Value → CodeEnd)
      → ((one : Value) (rest : List Value) → found ≡ one ∷ rest → first one rest ≡ second one rest)
      → on_top found first ≡ on_top found second
  under_same [] first second same = refl
  under_same (one ∷ rest) first second same = same one rest refl

  pub rows_kept : (one : Instruction) (next back other another : Next) (place : ℕ) (stack : List Value)
      (frame : Frame) (state : State MadeBlock) → SameAfter one (length stack) next other
      → SameAfter one (length stack) back another
      → act outside setting table (Some one) next back place stack frame state
      ≡ act outside setting table (Some one) other another place stack frame state
  rows_kept PushSelf next back other another place stack frame state same also =
      same (suc place) (frame.receiver ∷ stack) frame state (inl (omega arith))
  rows_kept PushNil next back other another place stack frame state same also =
      same (suc place) (value.Nil ∷ stack) frame state (inl (omega arith))
  rows_kept PushTrue next back other another place stack frame state same also =
      same (suc place) (value.True ∷ stack) frame state (inl (omega arith))
  rows_kept PushFalse next back other another place stack frame state same also =
      same (suc place) (value.False ∷ stack) frame state (inl (omega arith))
  rows_kept (PushLit answer) next back other another place stack frame state same also =
      same (suc place) (answer ∷ stack) frame state (inl (omega arith))
  rows_kept (MakeLit tree) next back other another place stack frame state same also =
      does_same (outside.literal_value tree) state _ _ (λ answer later.
      same (suc place) (answer ∷ stack) frame later (inl (omega arith)))
  rows_kept (PushLocal depth index) next back other another place stack frame state same also =
      does_same (variable_value frame depth index) state _ _ (λ answer later.
      same (suc place) (answer ∷ stack) frame later (inl (omega arith)))
  rows_kept (StoreLocal depth index) next back other another place [] frame state same also = refl
  rows_kept (StoreLocal depth index) next back other another place (first ∷ rest) frame state same also =
      does_same (set_variable frame depth index first) state _ _ (λ answer later.
      same (suc place) (answer ∷ rest) frame later (inl (omega arith)))
  rows_kept (PushName name) next back other another place stack frame state same also =
      does_same (outside.read_name name frame) state _ _ (λ answer later.
      same (suc place) (answer ∷ stack) frame later (inl (omega arith)))
  rows_kept (StoreName name) next back other another place [] frame state same also = refl
  rows_kept (StoreName name) next back other another place (first ∷ rest) frame state same also =
      does_same (outside.write_name name frame first) state _ _ (λ answer later.
      same (suc place) (answer ∷ rest) frame later (inl (omega arith)))
  rows_kept Pop next back other another place [] frame state same also = refl
  rows_kept Pop next back other another place (first ∷ rest) frame state same also =
      same (suc place) rest frame state (inl (omega arith))
  rows_kept Dup next back other another place [] frame state same also = refl
  rows_kept Dup next back other another place (first ∷ rest) frame state same also =
      same (suc place) (first ∷ first ∷ rest) frame state (inl (omega arith))
  rows_kept (Send selector count) next back other another place stack frame state same also =
      under_same (drop count stack) _ _ (λ receiver rest is.
      does_same (outside.send_message false selector frame receiver (take count stack)) state _ _
      (λ answer later. same (suc place) (answer ∷ rest) frame later
      (inl (omega (arith, dropped count stack receiver rest is)))))
  rows_kept (SuperSend selector count) next back other another place stack frame state same also =
      under_same (drop count stack) _ _ (λ receiver rest is.
      does_same (outside.send_message true selector frame receiver (take count stack)) state _ _
      (λ answer later. same (suc place) (answer ∷ rest) frame later
      (inl (omega (arith, dropped count stack receiver rest is)))))
  rows_kept (PushBlock number) next back other another place stack frame state same also =
      piece_same (slice_get table number) _ _ (λ piece.
      does_same (outside.make_block piece.tree piece.place frame) state _ _ (λ answer later.
      same (suc place) (answer ∷ stack) frame later (inl (omega arith))))
  rows_kept ReturnMethod next back other another place stack frame state same also = refl
  rows_kept ReturnHome next back other another place stack frame state same also = refl
  rows_kept ReturnBlock next back other another place stack frame state same also = refl
  rows_kept (Jump ahead) next back other another place stack frame state same also =
      same (suc place + ahead) stack frame state (inl (omega arith))
  rows_kept (JumpBack behind) next back other another place stack frame state same also =
      also (place - behind) stack frame state (inl (omega arith))
  rows_kept (JumpTrue ahead) next back other another place [] frame state same also = refl
  rows_kept (JumpTrue ahead) next back other another place (first ∷ rest) frame state same also =
      condition_same (truth_of first) state _ _ _ _
      (same (suc place + ahead) rest frame state (inl (omega arith)))
      (same (suc place) rest frame state (inl (omega arith)))
  rows_kept (JumpFalse ahead) next back other another place [] frame state same also = refl
  rows_kept (JumpFalse ahead) next back other another place (first ∷ rest) frame state same also =
      condition_same (truth_of first) state _ _ _ _
      (same (suc place) rest frame state (inl (omega arith)))
      (same (suc place + ahead) rest frame state (inl (omega arith)))
  rows_kept TakeUnit next back other another place stack frame state same also =
      does_same (atom Tick) state _ _ (λ answer later.
      same (suc place) stack frame later (inl (omega arith)))
  rows_kept (Enter count) next back other another place stack frame state same also =
      same (suc place) stack _ _ (inl (omega arith))
  rows_kept Leave next back other another place stack frame state same also =
      scope_same frame.scopes _ _ (λ first rest. same (suc place) stack _ _ (inl (omega arith)))
  rows_kept LoopStart next back other another place [] frame state same also = refl
  rows_kept LoopStart next back other another place (limit ∷ []) frame state same also = refl
  rows_kept LoopStart next back other another place (limit ∷ counter ∷ rest) frame state same also =
      ints_same (int_pair counter limit) _ _ _ (λ number last.
      same (suc place) (limit ∷ counter ∷ rest) frame state (inl (omega arith)))
  rows_kept (LoopNext ahead) next back other another place [] frame state same also = refl
  rows_kept (LoopNext ahead) next back other another place (limit ∷ []) frame state same also = refl
  rows_kept (LoopNext ahead) next back other another place (limit ∷ counter ∷ rest) frame state same
      also =
      ints_same (int_pair counter limit) _ _ _ (λ number last.
      either_same (int_le number last) _ _ _ _
      (same (suc place) (counter ∷ limit ∷ counter ∷ rest) frame state (inl (omega arith)))
      (same (suc place + ahead) rest frame state (inr (refl, omega arith))))
  rows_kept (LoopStep behind) next back other another place [] frame state same also = refl
  rows_kept (LoopStep behind) next back other another place (limit ∷ []) frame state same also = refl
  rows_kept (LoopStep behind) next back other another place (limit ∷ counter ∷ rest) frame state same
      also =
      ints_same (int_pair counter limit) _ _ _ (λ number last.
      either_same (int_le LARGEST_INTEGER number) _ _ _ _
      (same (suc place) rest frame state (inr (refl, omega arith)))
      (also (place - behind) (limit ∷ value.Int (number +ℤ pos 1) ∷ rest) frame state
      (inl (omega arith))))
