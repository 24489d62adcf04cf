-- The names of the objects that every image has.
use Rattle.std.specs.Prelude.{ℕ, codes, List, [], ◌∷◌}

-- The names of the kernel's objects, and UserGlobals.
abbrev pub kernel_names : List (List ℕ)
kernel_names =
    codes "Object" ∷ codes "Class" ∷ codes "UndefinedObject" ∷ codes "Boolean" ∷ codes "True" ∷ codes "False"
    ∷ codes "Magnitude" ∷ codes "Character" ∷ codes "SmallInteger" ∷ codes "Block"
    ∷ codes "Collection" ∷ codes "SequenceableCollection" ∷ codes "Array" ∷ codes "OrderedCollection"
    ∷ codes "String" ∷ codes "Symbol"
    ∷ codes "IdentityDictionary" ∷ codes "SymbolDictionary" ∷ codes "RcCounter" ∷ codes "RcIdentityBag"
    ∷ codes "RcKeyValueDictionary" ∷ codes "RcQueue"
    ∷ codes "Segment" ∷ codes "UserProfile" ∷ codes "System" ∷ codes "TranscriptStream"
    ∷ codes "Globals" ∷ codes "AllUsers" ∷ codes "SystemSegment" ∷ codes "DataCuratorSegment"
    ∷ codes "Transcript" ∷ codes "UserGlobals" ∷ []
