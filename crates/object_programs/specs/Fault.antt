-- The errors by which a chunk ends: their numbers, and what is printed after `error Ek `.
use Rattle.std.specs.Prelude.{ℕ, ◌++◌, codes}
use Rattle.gem_object.specs.texts.Bytes.{Bytes as Text}
use Rattle.gem_object.specs.gem_value.Oid.{oid_text}
use Rattle.object_programs.specs.declared.fault.Fault.{Fault}
use Rattle.object_programs.specs.declared.fault.Fault.TheVariants.{NotUnderstood, UndefinedVariable, NotBoolean, Index, ArgumentKind, IntegerRange, ZeroDivisor, DeadHome, BlockArgumentCount, NoReadRight, NoWriteRight, BlockStored, SendBudget, Depth, Space, NamesUsedUp, ObjectTooLarge, KeyAbsent, SegmentChange, Raised}

-- the number k in `error Ek`
abbrev pub fault_number : Fault → ℕ
fault_number (NotUnderstood _) = 1
fault_number (UndefinedVariable _) = 2
fault_number NotBoolean = 3
fault_number Index = 4
fault_number ArgumentKind = 5
fault_number IntegerRange = 6
fault_number ZeroDivisor = 7
fault_number DeadHome = 8
fault_number BlockArgumentCount = 9
fault_number (NoReadRight _) = 10
fault_number (NoWriteRight _) = 11
fault_number BlockStored = 12
fault_number SendBudget = 13
fault_number Depth = 14
fault_number Space = 15
fault_number NamesUsedUp = 16
fault_number ObjectTooLarge = 17
fault_number KeyAbsent = 18
fault_number SegmentChange = 19
fault_number (Raised _) = 20

-- the text after the number
abbrev pub fault_text : Fault → Text
fault_text (NotUnderstood selector) = codes "not understood: " ++ selector
fault_text (UndefinedVariable name) = codes "undefined variable: " ++ name
fault_text NotBoolean = codes "not a Boolean"
fault_text Index = codes "index"
fault_text ArgumentKind = codes "argument kind"
fault_text IntegerRange = codes "integer range"
fault_text ZeroDivisor = codes "zero divisor"
fault_text DeadHome = codes "dead home"
fault_text BlockArgumentCount = codes "block argument count"
fault_text (NoReadRight name) = codes "no read right: " ++ oid_text name
fault_text (NoWriteRight name) = codes "no write right: " ++ oid_text name
fault_text BlockStored = codes "block stored"
fault_text SendBudget = codes "send budget"
fault_text Depth = codes "depth"
fault_text Space = codes "space"
fault_text NamesUsedUp = codes "names used up"
fault_text ObjectTooLarge = codes "object too large"
fault_text KeyAbsent = codes "key absent"
fault_text SegmentChange = codes "segment change refused"
fault_text (Raised text) = codes "error: " ++ text
