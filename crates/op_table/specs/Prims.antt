-- The table of primitives.
use Rattle.std.specs.Prelude.{◌==◌, ℕ, Bool, ◌||◌, ◌&&◌, List, [], ◌∷◌, Option, codes, find, count_by, nat_le, if◌then◌else◌}
use Rattle.op_table.specs.declared.prims.Kind.{Kind}
use Rattle.op_table.specs.declared.prims.Kind.TheVariants.{Any, Integer, Character, Block, Sequence, Ordered, Chars, Str, Class, Dictionary, Segment, User, UserClass, SystemClass, Transcript, Counter, Bag, RcDict, Queue}
use Rattle.op_table.specs.declared.prims.PrimRow.{PrimRow}

-- a primitive: its number, its selector, how many arguments it takes, and which receivers it has
pub record Primitive : Type 0 where
  pub number : ℕ
  pub selector : List ℕ
  pub args : ℕ
  pub receiver : Kind

-- a primitive by its parts
abbrev pub primitive : ℕ → List ℕ → ℕ → Kind → Primitive
primitive number selector args receiver =
    record { number = number; selector = selector; args = args; receiver = receiver }

-- what a row says
abbrev pub primitive_of : PrimRow → Primitive
primitive_of row = primitive row.number row.selector.now row.args row.receiver

-- the table
unfoldable pub primitives : List Primitive
primitives =
    primitive 1 (codes "==") 1 Any
    ∷ primitive 2 (codes "=") 1 Any
    ∷ primitive 3 (codes "class") 0 Any
    ∷ primitive 4 (codes "printString") 0 Any
    ∷ primitive 5 (codes "error:") 1 Any
    ∷ primitive 6 (codes "isKindOf:") 1 Any
    ∷ primitive 7 (codes "copy") 0 Any
    ∷ primitive 8 (codes "segment") 0 Any
    ∷ primitive 9 (codes "assignToSegment:") 1 Any
    ∷ primitive 10 (codes "+") 1 Integer
    ∷ primitive 11 (codes "-") 1 Integer
    ∷ primitive 12 (codes "*") 1 Integer
    ∷ primitive 13 (codes "//") 1 Integer
    ∷ primitive 14 (codes "\\\\") 1 Integer
    ∷ primitive 15 (codes "quo:") 1 Integer
    ∷ primitive 16 (codes "rem:") 1 Integer
    ∷ primitive 17 (codes "<") 1 Integer
    ∷ primitive 18 (codes ">") 1 Integer
    ∷ primitive 19 (codes "<=") 1 Integer
    ∷ primitive 20 (codes ">=") 1 Integer
    ∷ primitive 21 (codes "bitAnd:") 1 Integer
    ∷ primitive 22 (codes "bitOr:") 1 Integer
    ∷ primitive 23 (codes "bitXor:") 1 Integer
    ∷ primitive 24 (codes "bitShift:") 1 Integer
    ∷ primitive 25 (codes "asCharacter") 0 Integer
    ∷ primitive 26 (codes "printString:") 1 Integer
    ∷ primitive 27 (codes "asInteger") 0 Character
    ∷ primitive 28 (codes "value") 0 Block
    ∷ primitive 29 (codes "value:") 1 Block
    ∷ primitive 30 (codes "value:value:") 2 Block
    ∷ primitive 31 (codes "value:value:value:") 3 Block
    ∷ primitive 32 (codes "numArgs") 0 Block
    ∷ primitive 33 (codes "size") 0 Sequence
    ∷ primitive 34 (codes "at:") 1 Sequence
    ∷ primitive 35 (codes "at:put:") 2 Sequence
    ∷ primitive 36 (codes "add:") 1 Ordered
    ∷ primitive 37 (codes "addFirst:") 1 Ordered
    ∷ primitive 38 (codes "removeFirst") 0 Ordered
    ∷ primitive 39 (codes "removeLast") 0 Ordered
    ∷ primitive 40 (codes "copyFrom:to:") 2 Sequence
    ∷ primitive 41 (codes ",") 1 Sequence
    ∷ primitive 42 (codes "size") 0 Chars
    ∷ primitive 43 (codes "at:") 1 Chars
    ∷ primitive 44 (codes "at:put:") 2 Str
    ∷ primitive 45 (codes ",") 1 Chars
    ∷ primitive 46 (codes "copyFrom:to:") 2 Chars
    ∷ primitive 47 (codes "asSymbol") 0 Chars
    ∷ primitive 48 (codes "asString") 0 Chars
    ∷ primitive 49 (codes "=") 1 Chars
    ∷ primitive 50 (codes "<") 1 Chars
    ∷ primitive 51 (codes "asInteger") 0 Str
    ∷ primitive 52 (codes "new") 0 Class
    ∷ primitive 53 (codes "new:") 1 Class
    ∷ primitive 54 (codes "subclass:instVarNames:inDictionary:") 3 Class
    ∷ primitive 55 (codes "name") 0 Class
    ∷ primitive 56 (codes "superclass") 0 Class
    ∷ primitive 57 (codes "instVarNames") 0 Class
    ∷ primitive 58 (codes "selectors") 0 Class
    ∷ primitive 59 (codes "includesSelector:") 1 Class
    ∷ primitive 60 (codes "removeSelector:") 1 Class
    ∷ primitive 61 (codes "at:") 1 Dictionary
    ∷ primitive 62 (codes "at:put:") 2 Dictionary
    ∷ primitive 63 (codes "includesKey:") 1 Dictionary
    ∷ primitive 64 (codes "removeKey:") 1 Dictionary
    ∷ primitive 65 (codes "size") 0 Dictionary
    ∷ primitive 66 (codes "keys") 0 Dictionary
    ∷ primitive 67 (codes "values") 0 Dictionary
    ∷ primitive 68 (codes "owner") 0 Segment
    ∷ primitive 69 (codes "ownerAuthorization:") 1 Segment
    ∷ primitive 70 (codes "worldAuthorization:") 1 Segment
    ∷ primitive 71 (codes "group:authorization:") 2 Segment
    ∷ primitive 72 (codes "ownerAuthorization") 0 Segment
    ∷ primitive 73 (codes "worldAuthorization") 0 Segment
    ∷ primitive 74 (codes "userId") 0 User
    ∷ primitive 75 (codes "groups") 0 User
    ∷ primitive 76 (codes "addGroup:") 1 User
    ∷ primitive 77 (codes "removeGroup:") 1 User
    ∷ primitive 78 (codes "defaultSegment") 0 User
    ∷ primitive 79 (codes "newUser:") 1 UserClass
    ∷ primitive 80 (codes "myUserProfile") 0 SystemClass
    ∷ primitive 81 (codes "show:") 1 Transcript
    ∷ primitive 82 (codes "cr") 0 Transcript
    ∷ primitive 83 (codes "value") 0 Counter
    ∷ primitive 84 (codes "incrementBy:") 1 Counter
    ∷ primitive 85 (codes "add:") 1 Bag
    ∷ primitive 86 (codes "remove:") 1 Bag
    ∷ primitive 87 (codes "occurrencesOf:") 1 Bag
    ∷ primitive 88 (codes "asArray") 0 Bag
    ∷ primitive 89 (codes "at:") 1 RcDict
    ∷ primitive 90 (codes "at:put:") 2 RcDict
    ∷ primitive 91 (codes "removeKey:") 1 RcDict
    ∷ primitive 92 (codes "includesKey:") 1 RcDict
    ∷ primitive 93 (codes "keys") 0 RcDict
    ∷ primitive 94 (codes "add:") 1 Queue
    ∷ primitive 95 (codes "remove") 0 Queue
    ∷ primitive 96 (codes "asArray") 0 Queue
    ∷ []

-- the primitive with the number, where there is one
unfoldable pub prim_at : ℕ → Option Primitive
prim_at number = find (λ primitive. primitive.number == number) primitives

-- whether a letter has this code
abbrev pub is_letter : ℕ → Bool
is_letter c = (nat_le 97 c && nat_le c 122) || (nat_le 65 c && nat_le c 90)

-- how many arguments a message with the selector has: one for each colon of a selector of words,
-- and else one
abbrev pub argument_count : List ℕ → ℕ
argument_count [] = 0
argument_count (first ∷ rest) = if is_letter first then count_by (λ c. c == 58) rest else 1
