-- What is held by an object of a class that names one slot, where the user may read or write it.
use Rattle.std.specs.Prelude.{◌≡◌, ℕ, Bool, true, false, cond, nat_eq, length, sum_by, take, drop, List, [], ◌∷◌, Option, Some, None, option_map, codes}
use Rattle.std.specs.Option.{option_or}
use Rattle.std.specs.Cmp.{unsigned_tied, nat_cmp_total}
use Rattle.std.specs.FinMap.{get, get-insert}
use Rattle.std.proofs.Common.{ap, ap₂, ◌∙◌}
use Rattle.gem_object.specs.declared.kind.Kind.TheVariants.{Indexed}
use Rattle.gem_object.specs.declared.value.Value.{Value}
use Rattle.gem_object.specs.declared.value.Value.TheVariants.{Nil, False, True}
use Rattle.gem_object.specs.declared.body.Body.TheVariants.{Plain}
use Rattle.object_programs.specs.gem_image.Image.{Contents}
use Rattle.object_programs.specs.gem_world.World.{Setting, World, before_changes, shown, touch}
use Rattle.object_programs.specs.gem_world.Changes.{with_body, put}
use Rattle.object_programs.specs.gem_world.Access.{a_read, a_write, is_allowed, touches_of, with_touches, after_allowed, accessed}
use Rattle.object_programs.specs.Fixed.{ClassPart, fixed_of, fixed_by}
use Rattle.object_programs.specs.Budget.{is_within_limits}
use Rattle.object_programs.specs.Atom.{Kind, edited}
use Rattle.object_programs.specs.Run.{Run, give, atom, and_then, gives, State, perform}
use Rattle.object_programs.specs.Programs.{read, write, replace_body, part_of, line_of, classes_within, classes_above}
use Rattle.prim_rules.specs.Parts.{named_slots, new_object}
use Rattle.prim_rules.specs.Sequences.{Sequence, sequence_in, read_sequence, written_sequence, put_elements, new_slots, new_sequence}
use Rattle.prim_rules.specs.Worked.{NoBlocks, after, named_class, pair_in, HasPair}
use Rattle.prim_rules.proofs.Performed.{goes_on, access_gives, kind_given, body_put}

-- the class has one name
abbrev top : ClassPart
top = record { superclass = None; kind = Indexed; names = codes "top" ∷ [] }

one_class : (class : ℕ) (setting : Setting) (state : State NoBlocks)
    → fixed_by setting state.world class ≡ Some named_class
    → perform (classes_above class) setting state
    ≡ record { end = gives ((class, top) ∷ []); state = state }
unfolding classes_above
one_class class setting state known = goes_on (atom (Kind class))
    (λ found. line_of class (part_of found) (classes_within 281474976710655)) setting state state
    (Some named_class) (kind_given class named_class setting state known)

one_named : (class : ℕ) (setting : Setting) (state : State NoBlocks)
    → fixed_by setting state.world class ≡ Some named_class
    → perform (named_slots class) setting state ≡ record { end = gives 1; state = state }
unfolding named_slots
one_named class setting state known = goes_on (classes_above class)
    (λ classes. give (sum_by (λ entry. length entry.1.names) classes)) setting state state
    ((class, top) ∷ []) (one_class class setting state known)

-- one slot is named, and two elements stand behind it
abbrev pub the_pair : Sequence
the_pair = record { named = Nil ∷ []; elements = True ∷ False ∷ [] }

pub pair_parts : (segment class : ℕ) (setting : Setting) (state : State NoBlocks)
    → fixed_by setting state.world class ≡ Some named_class
    → perform (sequence_in (pair_in segment class)) setting state
    ≡ record { end = gives the_pair; state = state }
pair_parts segment class setting state known = goes_on (named_slots class)
    (λ named. give (record {
      named = take named (Nil ∷ True ∷ False ∷ []);
      elements = drop named (Nil ∷ True ∷ False ∷ []);
    })) setting state state 1 (one_named class setting state known)

-- a read changes no object, so a class is known after it
pub shown_after_read : (name other : ℕ) (object : Contents) (setting : Setting) (world : World)
    → is_allowed a_read name setting world ≡ true → shown name setting world ≡ Some object
    → shown other setting (accessed a_read name setting world) ≡ shown other setting world
unfolding accessed with_touches touch
shown_after_read name other object setting world allowed there =
    ap₂ (λ (may : Bool) (found : Option Contents). shown other setting
    (cond may (after_allowed a_read name found (touches_of name found setting world))
    (touches_of name found setting world))) allowed there

still_after_read : (name class : ℕ) (object : Contents) (setting : Setting) (world : World)
    → is_allowed a_read name setting world ≡ true → shown name setting world ≡ Some object
    → fixed_by setting (accessed a_read name setting world) class ≡ fixed_by setting world class
still_after_read name class object setting world allowed there =
    ap (λ (found : Option Contents). option_map fixed_of found)
    (shown_after_read name class object setting world allowed there)

pub known_after_read : (name segment class : ℕ) (setting : Setting) (state : State NoBlocks)
    → HasPair a_read name segment class setting state.world
    → fixed_by setting (accessed a_read name setting state.world) class ≡ Some named_class
known_after_read name segment class setting state has =
    still_after_read name class (pair_in segment class) setting state.world
    has.may.allowed has.may.there ∙ has.known

still_after_write : (name segment class : ℕ) (setting : Setting) (world : World)
    → is_allowed a_write name setting world ≡ true
    → shown name setting world ≡ Some (pair_in segment class) → nat_eq class name ≡ false
    → fixed_by setting (accessed a_write name setting world) class ≡ fixed_by setting world class
unfolding accessed with_touches touch put
still_after_write name segment class setting world allowed there other =
    ap₂ (λ (may : Bool) (found : Option Contents). fixed_by setting
    (cond may (after_allowed a_write name found (touches_of name found setting world))
    (touches_of name found setting world)) class) allowed there
    ∙ ap (λ (found : Option Contents).
    option_map fixed_of (option_or found (before_changes class setting)))
    (get-insert nat_cmp_total world.changes name (pair_in segment class) class
    ∙ ap (λ (same : Bool). cond same (Some (pair_in segment class)) (get world.changes class))
    (unsigned_tied class name ∙ other))

pub known_after_write : (name segment class : ℕ) (setting : Setting) (state : State NoBlocks)
    → HasPair a_write name segment class setting state.world
    → fixed_by setting (accessed a_write name setting state.world) class ≡ Some named_class
known_after_write name segment class setting state has =
    still_after_write name segment class setting state.world has.may.allowed has.may.there
    has.other ∙ has.known

-- what a sequence holds that is read
pub pair_read : (name segment class : ℕ) (setting : Setting) (state : State NoBlocks)
    → HasPair a_read name segment class setting state.world
    → perform (read_sequence name) setting state
    ≡ record { end = gives the_pair; state = after a_read name setting state }
pair_read name segment class setting state has =
    goes_on (read name) sequence_in setting state (after a_read name setting state)
    (pair_in segment class) (access_gives a_read name (pair_in segment class) setting state
    has.may.allowed has.may.there)
    ∙ pair_parts segment class setting (after a_read name setting state)
    (known_after_read name segment class setting state has)

-- a rule for a sequence that is written goes on with what it holds
pub pair_written : (rule : Contents → Sequence → Run NoBlocks Value)
    → (name segment class : ℕ) (setting : Setting) (state : State NoBlocks)
    → HasPair a_write name segment class setting state.world
    → perform (written_sequence name rule) setting state
    ≡ perform (rule (pair_in segment class) the_pair) setting (after a_write name setting state)
pair_written rule name segment class setting state has =
    goes_on (write name) (λ object. and_then (sequence_in object) (rule object)) setting state
    (after a_write name setting state) (pair_in segment class)
    (access_gives a_write name (pair_in segment class) setting state has.may.allowed
    has.may.there)
    ∙ goes_on (sequence_in (pair_in segment class)) (rule (pair_in segment class)) setting
    (after a_write name setting state) (after a_write name setting state) the_pair
    (pair_parts segment class setting (after a_write name setting state)
    (known_after_write name segment class setting state has))

-- slots in place of its own, after a write
abbrev pub with_slots : (name : ℕ) → List Value → Setting → State NoBlocks → State NoBlocks
with_slots name slots setting state = record state {
  world = edited name (with_body (Plain slots)) setting
      (accessed a_write name setting state.world);
}

-- as many elements are put, or fewer, and this is the answer
pub pair_put : (name segment class : ℕ) (elements : List Value) (answer : Value)
    (setting : Setting) (state : State NoBlocks)
    → is_within_limits (with_body (Plain (Nil ∷ elements)) (pair_in segment class)) ≡ true
    → perform (put_elements 0 name (pair_in segment class) (Nil ∷ []) elements answer) setting
    (after a_write name setting state)
    ≡ record { end = gives answer; state = with_slots name (Nil ∷ elements) setting state }
pair_put name segment class elements answer setting state small =
    goes_on (replace_body 0 name (pair_in segment class) (Plain (Nil ∷ elements)))
    (λ put. give answer) setting (after a_write name setting state)
    (with_slots name (Nil ∷ elements) setting state) tt
    (body_put name (pair_in segment class) (Plain (Nil ∷ elements)) setting
    (after a_write name setting state) small)

-- a rule for a sequence that is read goes on with what it holds
pub pair_copied : (rule : (class : ℕ) → Sequence → Run NoBlocks Value)
    → (name segment class : ℕ) (setting : Setting) (state : State NoBlocks)
    → HasPair a_read name segment class setting state.world
    → perform (and_then (read name) (λ object. and_then (sequence_in object) (rule object.class)))
    setting state ≡ perform (rule class the_pair) setting (after a_read name setting state)
pair_copied rule name segment class setting state has =
    goes_on (read name) (λ object. and_then (sequence_in object) (rule object.class)) setting state
    (after a_read name setting state) (pair_in segment class)
    (access_gives a_read name (pair_in segment class) setting state has.may.allowed
    has.may.there)
    ∙ goes_on (sequence_in (pair_in segment class)) (rule class) setting
    (after a_read name setting state) (after a_read name setting state) the_pair
    (pair_parts segment class setting (after a_read name setting state)
    (known_after_read name segment class setting state has))

-- a new object of the class has a slot more, which is nil
pub pair_made : (name segment class : ℕ) (elements : List Value) (setting : Setting)
    (state : State NoBlocks) → HasPair a_read name segment class setting state.world
    → perform (new_sequence class elements) setting (after a_read name setting state)
    ≡ perform (new_object class (Plain (Nil ∷ elements))) setting
    (after a_read name setting state)
pair_made name segment class elements setting state has =
    goes_on (named_slots class) (λ named. new_object class (Plain (new_slots named elements)))
    setting (after a_read name setting state) (after a_read name setting state) 1
    (one_named class setting (after a_read name setting state)
    (known_after_read name segment class setting state has))
