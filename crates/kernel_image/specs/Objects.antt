-- The objects of the kernel, under the names 0:1, 0:2 and so on. None of them was changed by a
-- commit.
use Rattle.std.specs.Prelude.{ℕ, ◌+◌, List, [], ◌∷◌, ◌++◌, take, codes, Option}
use Rattle.std.specs.FinMap.{empty}
use Rattle.gem_object.specs.texts.Bytes.{Bytes as Text}
use Rattle.kernel_image.specs.Names.{kernel_names}
use Rattle.gem_sound.specs.declared.names.TheConstants.{GLOBALS, DATA_CURATOR}
use Rattle.gem_object.specs.seg_rights.declared.right.Right.TheVariants.{Read, Write}
use Rattle.gem_object.specs.declared.value.Value.{Value}
use Rattle.gem_object.specs.declared.value.Value.TheVariants.{Sym, Ref}
use Rattle.gem_object.specs.declared.body.Method.{Method}
use Rattle.gem_object.specs.declared.body.ClassBody.{ClassBody}
use Rattle.gem_object.specs.declared.body.Body.{Body}
use Rattle.gem_object.specs.declared.body.Body.TheVariants.{Plain, Dict, Class, Segment, User}
use Rattle.gem_object.specs.declared.object.Object.{Object}
use Rattle.gem_image.specs.Image.{Image, with_objects}
use Rattle.gem_sound.specs.Kernel.{KernelClass, kernel_classes, numbered, class_class, transcript_class}
use Rattle.gem_sound.specs.declared.names.TheConstants.{SYMBOL_DICTIONARY_CLASS, SEGMENT_CLASS, USER_PROFILE_CLASS, ALL_USERS, SYSTEM_SEGMENT, DATA_CURATOR_SEGMENT, SYSTEM_USER, SYSTEM_USER_GLOBALS, DATA_CURATOR_GLOBALS, TRANSCRIPT}
use Rattle.kernel_image.specs.Methods.{methods_of_object, methods_of_class, methods_of_undefined_object, methods_of_boolean, methods_of_true, methods_of_false, methods_of_magnitude, methods_of_character, methods_of_small_integer, methods_of_block, methods_of_collection, methods_of_sequenceable_collection, methods_of_array, methods_of_ordered_collection, methods_of_string, methods_of_symbol, methods_of_identity_dictionary, methods_of_rc_counter, methods_of_rc_identity_bag, methods_of_rc_key_value_dictionary, methods_of_rc_queue, methods_of_segment, methods_of_user_profile, methods_of_transcript_stream, class_side_of_user_profile, class_side_of_system}

-- an object of the kernel: its class, the segment in which it lies, and what it holds
abbrev pub kernel_object : ℕ → ℕ → Body → Object
kernel_object class segment body =
    record { class = class; segment = segment; changed = 0; body = body }

-- the methods of a class: those of its instances, and its own
pub record Protocol : Type 0 where
  pub methods : List Method
  pub class_methods : List Method

abbrev pub instances : List Method → Protocol
instances methods = record { methods = methods; class_methods = [] }

-- the methods of the classes, in the order of the classes' numbers from 1 on
unfoldable pub protocols : List Protocol
protocols =
    instances methods_of_object  -- Object
    ∷ instances methods_of_class  -- Class
    ∷ instances methods_of_undefined_object  -- UndefinedObject
    ∷ instances methods_of_boolean  -- Boolean
    ∷ instances methods_of_true  -- True
    ∷ instances methods_of_false  -- False
    ∷ instances methods_of_magnitude  -- Magnitude
    ∷ instances methods_of_character  -- Character
    ∷ instances methods_of_small_integer  -- SmallInteger
    ∷ instances methods_of_block  -- Block
    ∷ instances methods_of_collection  -- Collection
    ∷ instances methods_of_sequenceable_collection  -- SequenceableCollection
    ∷ instances methods_of_array  -- Array
    ∷ instances methods_of_ordered_collection  -- OrderedCollection
    ∷ instances methods_of_string  -- String
    ∷ instances methods_of_symbol  -- Symbol
    ∷ instances methods_of_identity_dictionary  -- IdentityDictionary
    ∷ instances []  -- SymbolDictionary
    ∷ instances methods_of_rc_counter  -- RcCounter
    ∷ instances methods_of_rc_identity_bag  -- RcIdentityBag
    ∷ instances methods_of_rc_key_value_dictionary  -- RcKeyValueDictionary
    ∷ instances methods_of_rc_queue  -- RcQueue
    ∷ instances methods_of_segment  -- Segment
    -- UserProfile
    ∷ record { methods = methods_of_user_profile; class_methods = class_side_of_user_profile }
    ∷ record { methods = []; class_methods = class_side_of_system }  -- System
    ∷ instances methods_of_transcript_stream  -- TranscriptStream
    ∷ []

-- a class: its name, its row and its methods
abbrev pub class_in : Text → KernelClass → Protocol → ClassBody
class_in name row protocol = record {
  name = name;
  superclass = row.superclass;
  kind = row.kind;
  names = [];
  methods = protocol.methods;
  class_methods = protocol.class_methods;
}

abbrev pub class_object : Text → KernelClass → Protocol → Object
class_object name row protocol =
    kernel_object class_class SYSTEM_SEGMENT (Class (class_in name row protocol))

-- classes, one for each name, row and protocol
abbrev pub class_objects : List Text → List KernelClass → List Protocol → List Object
class_objects (name ∷ names) (row ∷ rows) (protocol ∷ rest) =
    class_object name row protocol ∷ class_objects names rows rest
class_objects _ _ _ = []

-- the entry of a dictionary that leads from a name to the object with this number
abbrev pub entry : Text → ℕ → Value × Value
entry name number = (Sym name, Ref number)

-- entries for these names, whose objects' numbers count from this one on
abbrev pub entries_from : ℕ → List Text → List (Value × Value)
entries_from number [] = []
entries_from number (name ∷ names) = entry name number ∷ entries_from (number + 1) names

-- a dictionary, which lies in the segment
abbrev pub dictionary : ℕ → List (Value × Value) → Object
dictionary segment entries = kernel_object SYMBOL_DICTIONARY_CLASS segment (Dict entries)

-- the entries of Globals beside those of the classes
unfoldable pub other_entries : List (Value × Value)
other_entries =
    entry (codes "Globals") GLOBALS
    ∷ entry (codes "AllUsers") ALL_USERS
    ∷ entry (codes "SystemSegment") SYSTEM_SEGMENT
    ∷ entry (codes "DataCuratorSegment") DATA_CURATOR_SEGMENT
    ∷ entry (codes "Transcript") TRANSCRIPT ∷ []

-- the entries of Globals: the 26 classes, and the others
unfoldable pub globals_entries : List (Value × Value)
globals_entries = entries_from 1 (take 26 kernel_names) ++ other_entries

-- the entries of AllUsers
unfoldable pub users_entries : List (Value × Value)
users_entries =
    entry (codes "SystemUser") SYSTEM_USER
    ∷ entry (codes "DataCurator") DATA_CURATOR ∷ []

-- a user's own globals: one entry, which leads to the dictionary itself
abbrev pub own_globals : ℕ → ℕ → Object
own_globals number segment = dictionary segment (entry (codes "UserGlobals") number ∷ [])

-- a segment of this number, which lies in itself: its owner may write, and everybody may read
abbrev pub segment_object : ℕ → ℕ → Object
segment_object number owner = kernel_object SEGMENT_CLASS number (Segment (record {
  owner = owner;
  owner_right = Write;
  groups = [];
  world_right = Read;
}))

-- a user without groups, whose default segment is the one in which the profile lies
abbrev pub user_object : Text → ℕ → ℕ → Object
user_object name segment globals = kernel_object USER_PROFILE_CLASS segment (User (record {
  name = name;
  groups = [];
  default_segment = segment;
  globals = globals;
}))

-- the classes, in the order of their numbers from 1 on
unfoldable pub class_list : List Object
class_list = class_objects kernel_names kernel_classes protocols

-- what all users share: the dictionaries Globals and AllUsers, and the two segments
unfoldable pub shared_objects : List Object
shared_objects =
    dictionary DATA_CURATOR_SEGMENT globals_entries  -- 27 Globals
    ∷ dictionary DATA_CURATOR_SEGMENT users_entries  -- 28 AllUsers
    ∷ segment_object SYSTEM_SEGMENT SYSTEM_USER  -- 29 SystemSegment
    ∷ segment_object DATA_CURATOR_SEGMENT DATA_CURATOR  -- 30 DataCuratorSegment
    ∷ []

-- the two users
unfoldable pub profiles : List Object
profiles =
    user_object (codes "SystemUser") SYSTEM_SEGMENT SYSTEM_USER_GLOBALS  -- 31
    ∷ user_object (codes "DataCurator") DATA_CURATOR_SEGMENT DATA_CURATOR_GLOBALS  -- 32
    ∷ []

-- their own globals, and Transcript
unfoldable pub last_objects : List Object
last_objects =
    own_globals SYSTEM_USER_GLOBALS SYSTEM_SEGMENT  -- 33
    ∷ own_globals DATA_CURATOR_GLOBALS DATA_CURATOR_SEGMENT  -- 34
    ∷ kernel_object transcript_class SYSTEM_SEGMENT (Plain [])  -- 35 Transcript
    ∷ []

-- what follows the classes
abbrev pub other_objects : List Object
other_objects = shared_objects ++ profiles ++ last_objects

-- all objects, in the order of their numbers from 1 on
unfoldable pub kernel_list : List Object
kernel_list = class_list ++ other_objects

-- the object of the kernel with this number; None where there is no such object
abbrev pub kernel_objects : ℕ → Option Object
kernel_objects number = numbered kernel_list number

-- the objects with their numbers, which count from this one on
abbrev pub named_from : ℕ → List Object → List (ℕ × Object)
named_from number [] = []
named_from number (object ∷ objects) = (number, object) ∷ named_from (number + 1) objects

-- the image of the kernel
unfoldable pub kernel_image : Image
kernel_image = with_objects empty (named_from 1 kernel_list)
