-- What a name that is no variable in scope stands for, by cases.
use Rattle.std.specs.Prelude.{◌≡◌, ℕ, true, false, List, [], ◌++◌, Option, None, Some}
use Rattle.gem_object.specs.texts.Bytes.{Bytes as Text}
use Rattle.gem_object.specs.Edits.{slot_at, with_slot}
use Rattle.gem_object.specs.declared.value.Value.{Value}
use Rattle.gem_object.specs.declared.value.Value.TheVariants.{Ref}
use Rattle.gem_object.specs.declared.body.ClassBody.{ClassBody}
use Rattle.object_programs.specs.gem_image.Image.{Contents}
use Rattle.object_programs.specs.gem_sound.Parts.{class_of}
use Rattle.object_programs.specs.gem_world.World.{Setting, shown, touch}
use Rattle.object_programs.specs.gem_world.Access.{Access, a_read, a_write, is_allowed, accessed}
use Rattle.object_programs.specs.Run.{State, gives}
use Rattle.object_programs.specs.Programs.{replace_body}
use Rattle.tree_meaning.specs.Place.{Frame, MadeBlock}
use Rattle.tree_meaning.specs.Names.{index_of}
use Rattle.prim_rules.specs.Parts.{is_block}
use Rattle.gem_language.specs.KernelNames.{globals}
use Rattle.gem_language.specs.OutOfScope.{global_in, own_globals}
use Rattle.gem_language.specs.Comes.{Comes}

-- The user may read, or write, the object of this name, and it is there; the access is noted.
pub record Accesses (access : Access) (setting : Setting) (name : ℕ) (state : State MadeBlock)
    (object : Contents) (after : State MadeBlock) : Type 0 where
  pub allowed : is_allowed access name setting state.world ≡ true
  pub there : shown name setting state.world ≡ Some object
  pub noted : after ≡ record state { world = accessed access name setting state.world }

abbrev pub Reads : Setting → ℕ → State MadeBlock → Contents → State MadeBlock → Type 0
Reads setting name state object after = Accesses a_read setting name state object after

abbrev pub Writes : Setting → ℕ → State MadeBlock → Contents → State MadeBlock → Type 0
Writes setting name state object after = Accesses a_write setting name state object after

-- The instance variables of a class have these names, the inherited ones first: the class is read,
-- and then its superclasses.
pub data HasInstanceNames (setting : Setting) : (class : ℕ) → (state : State MadeBlock)
    → List Text → (after : State MadeBlock) → Type 0 where
  at_the_end : (class : ℕ) (state after : State MadeBlock) (object : Contents) (held : ClassBody)
      → Reads setting class state object after → class_of object.body ≡ Some held
      → held.superclass ≡ None → HasInstanceNames setting class state held.names after
  under : (class superclass : ℕ) (state between after : State MadeBlock) (object : Contents)
      (held : ClassBody) (inherited : List Text)
      → Reads setting class state object between → class_of object.body ≡ Some held
      → held.superclass ≡ Some superclass
      → HasInstanceNames setting superclass between inherited after
      → HasInstanceNames setting class state (inherited ++ held.names) after
  -- what is no class has none; no sound image comes there
  no_class : (class : ℕ) (state after : State MadeBlock) (object : Contents)
      → Reads setting class state object after → class_of object.body ≡ None
      → HasInstanceNames setting class state [] after

-- the user's profile is touched, without a right
abbrev pub with_profile : Setting → State MadeBlock → State MadeBlock
with_profile setting state =
    record state { world = touch setting.user setting state.world }

-- the dictionary of the user's own globals
abbrev pub own_dictionary : Setting → State MadeBlock → Option ℕ
own_dictionary setting state = own_globals (shown setting.user setting state.world)

-- This is the global of a name, where there is one.
pub data HasGlobal (setting : Setting) (name : Text) (state : State MadeBlock)
    : Option Value → (after : State MadeBlock) → Type 0 where
  -- one of the user's own: Globals isn't read
  own : (dictionary : ℕ) (object : Contents) (answer : Value) (after : State MadeBlock)
      → own_dictionary setting state ≡ Some dictionary
      → Reads setting dictionary (with_profile setting state) object after
      → global_in name object ≡ Some answer
      → HasGlobal setting name state (Some answer) after
  -- the user has none of this name: what Globals has
  shared : (dictionary : ℕ) (object common : Contents) (between after : State MadeBlock)
      → own_dictionary setting state ≡ Some dictionary
      → Reads setting dictionary (with_profile setting state) object between
      → global_in name object ≡ None → Reads setting globals between common after
      → HasGlobal setting name state (global_in name common) after
  -- the user's profile is none; no sound image comes there
  no_profile : (common : Contents) (after : State MadeBlock)
      → own_dictionary setting state ≡ None
      → Reads setting globals (with_profile setting state) common after
      → HasGlobal setting name state (global_in name common) after

-- This is the value of a name in a method with this frame.
pub data HasValue (setting : Setting) (name : Text) (frame : Frame) (state : State MadeBlock)
    : Value → (after : State MadeBlock) → Type 0 where
  -- an instance variable, in a method of the instance side
  of_instance : (names : List Text) (slot receiver : ℕ) (object : Contents) (answer : Value)
      (between after : State MadeBlock)
      → HasInstanceNames setting frame.holder state names between → frame.class_side ≡ false
      → index_of name names ≡ Some slot → frame.receiver ≡ Ref receiver
      → Reads setting receiver between object after → slot_at slot object.body ≡ Some answer
      → HasValue setting name frame state answer after
  -- a global: the class has no such instance variable, or the method is one of the class side
  of_global : (names : List Text) (answer : Value) (between after : State MadeBlock)
      → HasInstanceNames setting frame.holder state names between → frame.class_side ≡ false
      → index_of name names ≡ None → HasGlobal setting name between (Some answer) after
      → HasValue setting name frame state answer after
  of_class_side : (names : List Text) (answer : Value) (between after : State MadeBlock)
      → HasInstanceNames setting frame.holder state names between → frame.class_side ≡ true
      → HasGlobal setting name between (Some answer) after
      → HasValue setting name frame state answer after

-- An instance variable gets this value, which is no block: the receiver is written.
pub record Assigns (setting : Setting) (name : Text) (frame : Frame) (answer : Value)
    (state after : State MadeBlock) : Type 0 where
  pub names : List Text
  pub slot : ℕ
  pub receiver : ℕ
  pub object : Contents
  pub between : State MadeBlock
  pub written : State MadeBlock
  pub has_names : HasInstanceNames setting frame.holder state names between
  pub instance_side : frame.class_side ≡ false
  pub has_slot : index_of name names ≡ Some slot
  pub refers : frame.receiver ≡ Ref receiver
  pub writes : Writes setting receiver between object written
  pub storable : is_block answer ≡ false
  pub replaces : Comes (replace_body 0 receiver object (with_slot slot answer object.body)) setting
      written (gives tt) after
