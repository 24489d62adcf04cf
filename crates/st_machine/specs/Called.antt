-- How parts of texts end, and what messages come to: what is answered stands on the stack.
use Rattle.std.specs.Prelude.{◌≡◌, ◌∷◌, ℕ, List, [], get_or, Result, Ok, Err}
use Rattle.gem_object.specs.declared.value.Value.{Value}
use Rattle.gem_object.specs.declared.value.Value.TheVariants.{Nil}
use Rattle.running_objects.specs.declared.stop.Stop.{Stop}
use Rattle.running_objects.specs.declared.stop.Stop.TheVariants as stop
use Rattle.st_machine.specs.declared.ended.Called.{Called}
use Rattle.st_machine.specs.declared.ended.Called.TheVariants as called
use Rattle.st_machine.specs.declared.ended.Ended.{Ended}
use Rattle.st_machine.specs.declared.ended.Ended.TheVariants as ended

-- the uppermost value
abbrev pub top : (stack : List Value) → Value
top stack = get_or stack 0 Nil

-- one value stands above these
abbrev pub IsAbove : (below stack : List Value) → Type 0
IsAbove below stack = stack ≡ top stack ∷ below

-- there is none, or more than one
abbrev pub IsOther : (stack : List Value) → Type 0
IsOther [] = Unit {0}
IsOther (first ∷ []) = ⊥
IsOther (first ∷ second ∷ rest) = Unit {0}

-- what a call came to that left this stack, where this is why it stopped
abbrev pub called_as : Called → (why : Stop) → (stack : List Value) → Result Value Stop
called_as called.Answers why stack = Ok (top stack)
called_as called.Stopped why stack = Err why

-- this holds where it answers
abbrev pub IfAnswers : Called → Type 0 → Type 0
IfAnswers called.Answers P = P
IfAnswers called.Stopped P = Unit {0}

-- what a part came to, in an activation with this home
abbrev pub ended_as : (home : ℕ) → Ended → (why : Stop) → (stack : List Value) → Result Value Stop
ended_as home ended.Answers why stack = Ok (top stack)
ended_as home ended.Returns why stack = Err (stop.Returns (top stack) home)
ended_as home ended.Stopped why stack = Err why

-- this holds where it answers or returns
abbrev pub IfEnds : Ended → Type 0 → Type 0
IfEnds ended.Answers P = P
IfEnds ended.Returns P = P
IfEnds ended.Stopped P = Unit {0}

-- A part that ended so left this stack, of the one that waited: what is answered stands above it.
abbrev pub LeftAs : Ended → (before stack : List Value) → Type 0
LeftAs ended.Answers before stack = IsAbove before stack
LeftAs ended.Returns before stack = IsAbove before stack
LeftAs ended.Stopped before stack = stack ≡ before

-- After a part that ended so there is an answer: it is there already, or was put there.
abbrev pub AnsweredAs : Ended → (before stack : List Value) → Type 0
AnsweredAs ended.Answers before stack = stack ≡ before
AnsweredAs ended.Returns before stack = stack ≡ before
AnsweredAs ended.Stopped before stack = IsAbove before stack
