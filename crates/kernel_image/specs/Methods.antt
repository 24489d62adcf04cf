-- The methods of the kernel's classes, each class's ascending by selector.
use Rattle.std.specs.Prelude.{ℕ, List, [], ◌∷◌, ◌++◌, codes}
use Rattle.gem_object.specs.texts.Bytes.{Bytes as Text}
use Rattle.gem_object.specs.declared.body.Method.{Method}
use Rattle.gem_object.specs.declared.body.MethodCode.TheVariants.{Source, Primitive}

-- a method that is evaluated from its source: the pattern, a space, and the body
abbrev pub source : Text → Text → Method
source selector text = record { selector = selector; code = Source text }

-- a method that is the primitive of this number
abbrev pub primitive : Text → ℕ → Method
primitive selector number = record { selector = selector; code = Primitive number }

-- Object
unfoldable pub methods_of_object : List Method
methods_of_object =
    primitive (codes "=") 2
    ∷ primitive (codes "==") 1
    ∷ primitive (codes "assignToSegment:") 9
    ∷ primitive (codes "class") 3
    ∷ primitive (codes "copy") 7
    ∷ primitive (codes "error:") 5
    ∷ primitive (codes "isKindOf:") 6
    ∷ source (codes "isNil") (codes "isNil ^false")
    ∷ source (codes "notNil") (codes "notNil ^true")
    ∷ primitive (codes "printString") 4
    ∷ primitive (codes "segment") 8
    ∷ source (codes "yourself") (codes "yourself ^self")
    ∷ source (codes "~=") (codes "~= x ^(self = x) not")
    ∷ source (codes "~~") (codes "~~ x ^(self == x) not")
    ∷ []

-- Class
unfoldable pub methods_of_class : List Method
methods_of_class =
    primitive (codes "includesSelector:") 59
    ∷ primitive (codes "instVarNames") 57
    ∷ primitive (codes "name") 55
    ∷ primitive (codes "new") 52
    ∷ primitive (codes "new:") 53
    ∷ primitive (codes "removeSelector:") 60
    ∷ primitive (codes "selectors") 58
    ∷ primitive (codes "subclass:instVarNames:inDictionary:") 54
    ∷ primitive (codes "superclass") 56
    ∷ []

-- UndefinedObject
unfoldable pub methods_of_undefined_object : List Method
methods_of_undefined_object =
    source (codes "isNil") (codes "isNil ^true")
    ∷ source (codes "notNil") (codes "notNil ^false")
    ∷ []

-- Boolean
unfoldable pub methods_of_boolean : List Method
methods_of_boolean =
    source (codes "&") (codes "& x ^self and: [x]")
    ∷ source (codes "|") (codes "| x ^self or: [x]")
    ∷ []

-- True
unfoldable pub methods_of_true : List Method
methods_of_true =
    source (codes "and:") (codes "and: b ^b value")
    ∷ source (codes "ifFalse:") (codes "ifFalse: b ^nil")
    ∷ source (codes "ifFalse:ifTrue:") (codes "ifFalse: a ifTrue: b ^b value")
    ∷ source (codes "ifTrue:") (codes "ifTrue: b ^b value")
    ∷ source (codes "ifTrue:ifFalse:") (codes "ifTrue: a ifFalse: b ^a value")
    ∷ source (codes "not") (codes "not ^false")
    ∷ source (codes "or:") (codes "or: b ^true")
    ∷ []

-- False
unfoldable pub methods_of_false : List Method
methods_of_false =
    source (codes "and:") (codes "and: b ^false")
    ∷ source (codes "ifFalse:") (codes "ifFalse: b ^b value")
    ∷ source (codes "ifFalse:ifTrue:") (codes "ifFalse: a ifTrue: b ^a value")
    ∷ source (codes "ifTrue:") (codes "ifTrue: b ^nil")
    ∷ source (codes "ifTrue:ifFalse:") (codes "ifTrue: a ifFalse: b ^b value")
    ∷ source (codes "not") (codes "not ^true")
    ∷ source (codes "or:") (codes "or: b ^b value")
    ∷ []

-- Magnitude
unfoldable pub methods_of_magnitude : List Method
methods_of_magnitude =
    source (codes "between:and:") (codes "between: a and: b ^self >= a and: [self <= b]")
    ∷ source (codes "max:") (codes "max: x ^self > x ifTrue: [self] ifFalse: [x]")
    ∷ source (codes "min:") (codes "min: x ^self < x ifTrue: [self] ifFalse: [x]")
    ∷ []

-- Character
unfoldable pub methods_of_character : List Method
methods_of_character =
    source (codes "<") (codes "< c ^self asInteger < c asInteger")
    ∷ source (codes "<=") (codes "<= c ^self asInteger <= c asInteger")
    ∷ source (codes ">") (codes "> c ^self asInteger > c asInteger")
    ∷ source (codes ">=") (codes ">= c ^self asInteger >= c asInteger")
    ∷ primitive (codes "asInteger") 27
    ∷ source (codes "isDigit") (codes "isDigit ^self between: $0 and: $9")
    ∷ source (codes "isLetter")
    (codes "isLetter ^(self between: $a and: $z) or: [self between: $A and: $Z]")
    ∷ []

-- SmallInteger
unfoldable pub methods_of_small_integer : List Method
methods_of_small_integer =
    primitive (codes "*") 12
    ∷ primitive (codes "+") 10
    ∷ primitive (codes "-") 11
    ∷ primitive (codes "//") 13
    ∷ primitive (codes "<") 17
    ∷ primitive (codes "<=") 19
    ∷ primitive (codes ">") 18
    ∷ primitive (codes ">=") 20
    ∷ primitive (codes "\\\\") 14
    ∷ source (codes "abs") (codes "abs ^self < 0 ifTrue: [0 - self] ifFalse: [self]")
    ∷ primitive (codes "asCharacter") 25
    ∷ source (codes "asString") (codes "asString ^self printString")
    ∷ primitive (codes "bitAnd:") 21
    ∷ primitive (codes "bitOr:") 22
    ∷ primitive (codes "bitShift:") 24
    ∷ primitive (codes "bitXor:") 23
    ∷ source (codes "even") (codes "even ^self \\\\ 2 = 0")
    ∷ source (codes "negated") (codes "negated ^0 - self")
    ∷ source (codes "odd") (codes "odd ^self \\\\ 2 = 1")
    ∷ primitive (codes "printString:") 26
    ∷ primitive (codes "quo:") 15
    ∷ primitive (codes "rem:") 16
    ∷ source (codes "timesRepeat:") (codes "timesRepeat: b 1 to: self do: [:i | b value]")
    ∷ source (codes "to:do:")
    (codes "to: n do: b 1 to: n - self + 1 do: [:i | b value: self + i - 1]")
    ∷ []

-- Block
unfoldable pub methods_of_block : List Method
methods_of_block =
    primitive (codes "numArgs") 32
    ∷ primitive (codes "value") 28
    ∷ primitive (codes "value:") 29
    ∷ primitive (codes "value:value:") 30
    ∷ primitive (codes "value:value:value:") 31
    ∷ source (codes "whileFalse:") (codes "whileFalse: b ^[self value] whileFalse: [b value]")
    ∷ source (codes "whileTrue:") (codes "whileTrue: b ^[self value] whileTrue: [b value]")
    ∷ []

-- Collection
unfoldable pub methods_of_collection : List Method
methods_of_collection =
    source (codes "isEmpty") (codes "isEmpty ^self size = 0")
    ∷ source (codes "notEmpty") (codes "notEmpty ^self size > 0")
    ∷ []

-- SequenceableCollection
unfoldable pub methods_of_sequenceable_collection : List Method
methods_of_sequenceable_collection =
    source (codes "collect:")
    (codes "collect: b | r | r := Array new: self size. "
    ++ codes "1 to: self size do: [:i | r at: i put: (b value: (self at: i))]. ^r")
    ∷ source (codes "detect:ifNone:")
    (codes "detect: b ifNone: c self do: [:e | (b value: e) ifTrue: [^e]]. ^c value")
    ∷ source (codes "do:") (codes "do: b 1 to: self size do: [:i | b value: (self at: i)]")
    ∷ source (codes "first") (codes "first ^self at: 1")
    ∷ source (codes "includes:") (codes "includes: x self do: [:e | e = x ifTrue: [^true]]. ^false")
    ∷ source (codes "inject:into:")
    (codes "inject: x into: b | r | r := x. self do: [:e | r := b value: r value: e]. ^r")
    ∷ source (codes "last") (codes "last ^self at: self size")
    ∷ source (codes "select:")
    (codes "select: b | r | r := OrderedCollection new. "
    ++ codes "self do: [:e | (b value: e) ifTrue: [r add: e]]. ^r")
    ∷ []

-- Array
unfoldable pub methods_of_array : List Method
methods_of_array =
    primitive (codes ",") 41
    ∷ primitive (codes "at:") 34
    ∷ primitive (codes "at:put:") 35
    ∷ primitive (codes "copyFrom:to:") 40
    ∷ primitive (codes "size") 33
    ∷ []

-- OrderedCollection
unfoldable pub methods_of_ordered_collection : List Method
methods_of_ordered_collection =
    primitive (codes ",") 41
    ∷ primitive (codes "add:") 36
    ∷ primitive (codes "addFirst:") 37
    ∷ primitive (codes "at:") 34
    ∷ primitive (codes "at:put:") 35
    ∷ primitive (codes "copyFrom:to:") 40
    ∷ primitive (codes "removeFirst") 38
    ∷ primitive (codes "removeLast") 39
    ∷ primitive (codes "size") 33
    ∷ []

-- String
unfoldable pub methods_of_string : List Method
methods_of_string =
    primitive (codes ",") 45
    ∷ primitive (codes "<") 50
    ∷ primitive (codes "=") 49
    ∷ primitive (codes "asInteger") 51
    ∷ primitive (codes "asString") 48
    ∷ primitive (codes "asSymbol") 47
    ∷ primitive (codes "at:") 43
    ∷ primitive (codes "at:put:") 44
    ∷ primitive (codes "copyFrom:to:") 46
    ∷ primitive (codes "size") 42
    ∷ []

-- Symbol
unfoldable pub methods_of_symbol : List Method
methods_of_symbol =
    primitive (codes ",") 45
    ∷ primitive (codes "<") 50
    ∷ primitive (codes "=") 49
    ∷ primitive (codes "asString") 48
    ∷ primitive (codes "asSymbol") 47
    ∷ primitive (codes "at:") 43
    ∷ primitive (codes "copyFrom:to:") 46
    ∷ primitive (codes "size") 42
    ∷ []

-- IdentityDictionary
unfoldable pub methods_of_identity_dictionary : List Method
methods_of_identity_dictionary =
    primitive (codes "at:") 61
    ∷ source (codes "at:ifAbsent:")
    (codes "at: k ifAbsent: b (self includesKey: k) ifTrue: [^self at: k]. ^b value")
    ∷ primitive (codes "at:put:") 62
    ∷ primitive (codes "includesKey:") 63
    ∷ primitive (codes "keys") 66
    ∷ source (codes "keysAndValuesDo:")
    (codes "keysAndValuesDo: b self keys do: [:k | b value: k value: (self at: k)]")
    ∷ primitive (codes "removeKey:") 64
    ∷ primitive (codes "size") 65
    ∷ primitive (codes "values") 67
    ∷ []

-- RcCounter
unfoldable pub methods_of_rc_counter : List Method
methods_of_rc_counter =
    source (codes "decrement") (codes "decrement self incrementBy: -1")
    ∷ source (codes "decrementBy:") (codes "decrementBy: n self incrementBy: 0 - n")
    ∷ source (codes "increment") (codes "increment self incrementBy: 1")
    ∷ primitive (codes "incrementBy:") 84
    ∷ primitive (codes "value") 83
    ∷ []

-- RcIdentityBag
unfoldable pub methods_of_rc_identity_bag : List Method
methods_of_rc_identity_bag =
    primitive (codes "add:") 85
    ∷ primitive (codes "asArray") 88
    ∷ source (codes "do:") (codes "do: b self asArray do: b")
    ∷ source (codes "includes:") (codes "includes: x ^(self occurrencesOf: x) > 0")
    ∷ primitive (codes "occurrencesOf:") 87
    ∷ primitive (codes "remove:") 86
    ∷ source (codes "size") (codes "size ^self asArray size")
    ∷ []

-- RcKeyValueDictionary
unfoldable pub methods_of_rc_key_value_dictionary : List Method
methods_of_rc_key_value_dictionary =
    primitive (codes "at:") 89
    ∷ source (codes "at:ifAbsent:")
    (codes "at: k ifAbsent: b (self includesKey: k) ifTrue: [^self at: k]. ^b value")
    ∷ primitive (codes "at:put:") 90
    ∷ primitive (codes "includesKey:") 92
    ∷ primitive (codes "keys") 93
    ∷ source (codes "keysAndValuesDo:")
    (codes "keysAndValuesDo: b self keys do: [:k | b value: k value: (self at: k)]")
    ∷ primitive (codes "removeKey:") 91
    ∷ source (codes "size") (codes "size ^self keys size")
    ∷ []

-- RcQueue
unfoldable pub methods_of_rc_queue : List Method
methods_of_rc_queue =
    primitive (codes "add:") 94
    ∷ primitive (codes "asArray") 96
    ∷ source (codes "do:") (codes "do: b self asArray do: b")
    ∷ primitive (codes "remove") 95
    ∷ source (codes "size") (codes "size ^self asArray size")
    ∷ []

-- Segment
unfoldable pub methods_of_segment : List Method
methods_of_segment =
    primitive (codes "group:authorization:") 71
    ∷ primitive (codes "owner") 68
    ∷ primitive (codes "ownerAuthorization") 72
    ∷ primitive (codes "ownerAuthorization:") 69
    ∷ primitive (codes "worldAuthorization") 73
    ∷ primitive (codes "worldAuthorization:") 70
    ∷ []

-- UserProfile
unfoldable pub methods_of_user_profile : List Method
methods_of_user_profile =
    primitive (codes "addGroup:") 76
    ∷ primitive (codes "defaultSegment") 78
    ∷ primitive (codes "groups") 75
    ∷ primitive (codes "removeGroup:") 77
    ∷ primitive (codes "userId") 74
    ∷ []

-- UserProfile, the class itself
unfoldable pub class_side_of_user_profile : List Method
class_side_of_user_profile =
    primitive (codes "newUser:") 79
    ∷ []

-- System, the class itself
unfoldable pub class_side_of_system : List Method
class_side_of_system =
    primitive (codes "myUserProfile") 80
    ∷ []

-- TranscriptStream
unfoldable pub methods_of_transcript_stream : List Method
methods_of_transcript_stream =
    primitive (codes "cr") 82
    ∷ primitive (codes "show:") 81
    ∷ []
