-- Names that are no variables in scope: instance variables and globals.
use Rattle.std.specs.Prelude.{ℕ, zero, suc, Bool, true, false, not, nat_lt, List, [], ◌++◌, Option, None, Some, option_and_then, option_map}
use Rattle.gem_object.specs.texts.Bytes.{Bytes as Text}
use Rattle.gem_object.specs.Edits.{plain_slots, slot_at, with_slot, value_at}
use Rattle.gem_object.specs.References.{reference_of}
use Rattle.gem_object.specs.declared.value.Value.{Value}
use Rattle.gem_object.specs.declared.value.Value.TheVariants.{Sym}
use Rattle.gem_object.specs.declared.body.ClassBody.{ClassBody}
use Rattle.object_programs.specs.gem_image.Image.{Contents}
use Rattle.object_programs.specs.Guard.{chain_limit}
use Rattle.object_programs.specs.Atom.{Own}
use Rattle.object_programs.specs.Run.{Run, give, fail, atom, and_then}
use Rattle.object_programs.specs.Programs.{need, check, read, write, replace_body}
use Rattle.object_programs.specs.declared.fault.Fault.TheVariants as fault
use Rattle.tree_meaning.specs.Place.{Frame, MadeBlock}
use Rattle.tree_meaning.specs.Names.{index_of}
use Rattle.tree_meaning.specs.Operands.{ValueRun}
use Rattle.object_programs.specs.gem_sound.Parts.{class_of, user_of}
use Rattle.prim_rules.specs.Parts.{is_block}
use Rattle.gem_language.specs.KernelNames.{globals}

-- The names of the instance variables of a class, the inherited ones first. The classes from this
-- one up to the last superclass are read, in this order.
abbrev pub inherited_names : Option ℕ → (above : ℕ → Run MadeBlock (List Text))
    → Run MadeBlock (List Text)
inherited_names None above = give []
inherited_names (Some superclass) above = above superclass

abbrev pub names_of_class : Option ClassBody → (above : ℕ → Run MadeBlock (List Text))
    → Run MadeBlock (List Text)
names_of_class None above = give []
names_of_class (Some class) above =
    and_then (inherited_names class.superclass above) (λ inherited.
    give (inherited ++ class.names))

-- the same, where at most so many classes are gone through, which is enough where objects are sound
abbrev pub names_within : ℕ → (class : ℕ) → Run MadeBlock (List Text)
names_within zero class = fail fault.ArgumentKind
names_within (suc more) class =
    and_then (read class) (λ object. names_of_class (class_of object.body) (names_within more))

unfoldable pub instance_names : (class : ℕ) → Run MadeBlock (List Text)
instance_names class = names_within (suc chain_limit) class

-- The slot of the instance variable of this name: none in a method of the class side. Slots are
-- numbered from 0, those of inherited names first.
abbrev pub slot_of : (class_side : Bool) → Text → List Text → Option ℕ
slot_of false name names = index_of name names
slot_of true name names = None

-- the global of this name in a dictionary
abbrev pub global_in : Text → Contents → Option Value
global_in name dictionary = value_at (Sym name) dictionary.body

-- the global of this name in the dictionary of this name, which is read
abbrev pub global_at : Text → (dictionary : ℕ) → Run MadeBlock (Option Value)
global_at name dictionary =
    and_then (read dictionary) (λ object. give (global_in name object))

-- the dictionary of the user's own globals, which the user's profile names
abbrev pub own_globals : Option Contents → Option ℕ
own_globals profile =
    option_and_then (λ object. option_map (λ user. user.globals) (user_of object.body)) profile

abbrev pub own_global : Text → Option ℕ → Run MadeBlock (Option Value)
own_global name None = give None
own_global name (Some dictionary) = global_at name dictionary

-- what was found among the user's own globals, and else what Globals has
abbrev pub or_in_globals : Text → Option Value → Run MadeBlock (Option Value)
or_in_globals name (Some value) = give (Some value)
or_in_globals name None = global_at name globals

-- The global of this name, for the user: among the user's own globals, and then in Globals, which
-- is read where the first lacks it. The profile is touched without a right.
unfoldable pub find_global : Text → Run MadeBlock (Option Value)
find_global name =
    and_then (atom Own) (λ profile.
    and_then (own_global name (own_globals profile)) (λ found.
    or_in_globals name found))

-- the same, and E2 where there is none
unfoldable pub global_value : Text → ValueRun
global_value name = and_then (find_global name) (λ found. need (fault.UndefinedVariable name) found)

-- The value of an instance variable: the receiver is read. That the receiver is an object with such
-- a slot holds in a sound image.
abbrev pub instance_value : (receiver : Value) → (slot : ℕ) → ValueRun
instance_value receiver slot =
    and_then (need fault.ArgumentKind (reference_of receiver)) (λ name.
    and_then (read name) (λ object.
    need fault.Index (slot_at slot object.body)))

-- An object that was written gets a value in a slot; a block is E12. The answer is the value.
abbrev pub put_in_slot : (name : ℕ) → Contents → (slot : ℕ) → Value → ValueRun
put_in_slot name object slot value =
    and_then (check fault.BlockStored (not (is_block value))) (λ storable.
    and_then (check fault.Index (nat_lt slot (plain_slots object.body))) (λ there.
    and_then (replace_body 0 name object (with_slot slot value object.body)) (λ replaced.
    give value)))

-- an instance variable gets a value: the receiver is written
abbrev pub set_instance_value : (receiver : Value) → (slot : ℕ) → Value → ValueRun
set_instance_value receiver slot value =
    and_then (need fault.ArgumentKind (reference_of receiver)) (λ name.
    and_then (write name) (λ object.
    put_in_slot name object slot value))

-- the value of a name that is no variable in scope: an instance variable, where it has a slot, and
-- else a global
abbrev pub value_of_name : Text → Frame → (slot : Option ℕ) → ValueRun
value_of_name name frame (Some slot) = instance_value frame.receiver slot
value_of_name name frame None = global_value name

unfoldable pub read_out_of_scope : Text → Frame → ValueRun
read_out_of_scope name frame =
    and_then (instance_names frame.holder) (λ names.
    value_of_name name frame (slot_of frame.class_side name names))

-- An assignment to such a name: to an instance variable, and else E2, without a read of the
-- globals.
abbrev pub assign_name : Text → Frame → (slot : Option ℕ) → Value → ValueRun
assign_name name frame (Some slot) value = set_instance_value frame.receiver slot value
assign_name name frame None value = fail (fault.UndefinedVariable name)

unfoldable pub write_out_of_scope : Text → Frame → Value → ValueRun
write_out_of_scope name frame value =
    and_then (instance_names frame.holder) (λ names.
    assign_name name frame (slot_of frame.class_side name names) value)
