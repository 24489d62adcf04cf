-- How the slots of an Array or an OrderedCollection are laid out, as code tells it.
use Rattle.std.specs.Prelude.{◌≡◌, ℕ, take, drop, length, List, Some, Result, Ok, Err}
use Rattle.prim_parts.specs.tree_meaning.Place.{MadeBlock}
use Rattle.gem_object.specs.Edits.{slot_at, with_slot, with_slot_more, without_slot}
use Rattle.gem_object.specs.declared.value.Value.{Value}
use Rattle.gem_object.specs.declared.body.Body.TheVariants.{Plain}
use Rattle.gem_sound.specs.gem_image.Image.{Contents}
use Rattle.object_programs.specs.Run.{Run, give, and_then}
use Rattle.object_programs.specs.Programs.{need, replace_body}
use Rattle.object_programs.specs.declared.fault.Fault.TheVariants as fault
use Rattle.prim_rules.specs.Sequences.{Sequence, sequence_in}
use Rattle.running_objects.specs.Seen.{Seen, object_at}
use Rattle.running_objects.specs.declared.stop.Stop.{Stop}
use Rattle.prim_parts.specs.Does.{Does}
use Rattle.prim_collections.specs.declared.layout.Layout.{Layout}

-- what a sequence holds, by its slots and how many of them are named
abbrev pub sequence_of : (named : ℕ) → List Value → Sequence
sequence_of named slots = record { named = take named slots; elements = drop named slots }

-- The object is a sequence, so many of whose slots are named.
pub record IsLaidOut (object : Contents) (seen : Seen) (layout : Layout) : Type 0 where
  pub slots : List Value
  pub are : object.body ≡ Plain slots
  pub count : layout.slots ≡ length slots
  pub does : Does (sequence_in object) seen (Ok (sequence_of layout.named slots)) seen

-- Code told the layout of the sequence of this name, or that it is none.
abbrev pub TellsLayout : ℕ → Seen → Result Layout Stop → Type 0
TellsLayout name seen (Ok layout) = (object : Contents) → object_at name seen ≡ Some object
    → IsLaidOut object seen layout
TellsLayout name seen (Err ended) = (object : Contents) → object_at name seen ≡ Some object
    → Does (sequence_in object) seen (Err ended) seen

-- what the slot at a place holds
abbrev pub slot_rule : (at : ℕ) → Contents → Run MadeBlock Value
slot_rule at object = need fault.Index (slot_at at object.body)

module _ (at name : ℕ) where
  -- a value is put in the slot at a place, and is the answer
  abbrev pub slot_put : Value → Contents → Run MadeBlock Value
  slot_put value object =
      and_then (replace_body 0 name object (with_slot at value object.body)) (λ put. give value)

  -- a slot with a value is put at a place, and the value is the answer
  abbrev pub slot_added : Value → Contents → Run MadeBlock Value
  slot_added value object =
      and_then (replace_body 1 name object (with_slot_more at value object.body))
      (λ put. give value)

  -- the slot at a place is taken away, and what it held is the answer
  abbrev pub slot_taken : Contents → Run MadeBlock Value
  slot_taken object =
      and_then (slot_rule at object) (λ value.
      and_then (replace_body 0 name object (without_slot at object.body)) (λ put. give value))
