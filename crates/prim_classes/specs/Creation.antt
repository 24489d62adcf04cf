-- The words of `new` and `new:` by which the code is grouped.
use Rattle.std.specs.Prelude.{ℕ, ◌+◌, Bool, nat_le, replicate, Option, None, Some}
use Rattle.gem_object.specs.declared.kind.Kind.{Kind}
use Rattle.gem_object.specs.declared.kind.Kind.TheVariants as kind
use Rattle.gem_object.specs.declared.value.Value.{Value}
use Rattle.gem_object.specs.declared.body.Body.{Body}
use Rattle.gem_object.specs.declared.body.Body.TheVariants as body
use Rattle.object_programs.specs.Run.{Run, and_then}
use Rattle.object_programs.specs.Programs.{need}
use Rattle.object_programs.specs.declared.fault.Fault.TheVariants as fault
use Rattle.object_programs.specs.declared.limits.TheConstants.{SLOTS_LIMIT, BYTES_LIMIT}
use Rattle.prim_rules.specs.New.{nil_slots, new_body, count_in}
use Rattle.prim_rules.specs.Parts.{int_in, named_slots, new_object}
use Rattle.prim_classes.specs.declared.creation.SizedKind.{SizedKind}
use Rattle.prim_classes.specs.declared.creation.SizedKind.TheVariants.{Slots, Bytes}

-- what `new:` gives its argument's number of, by the kind of the class
abbrev pub sized_kind : Kind → Option SizedKind
sized_kind kind.Indexed = Some Slots
sized_kind kind.Bytes = Some Bytes
sized_kind _ = None

abbrev pub body_of : SizedKind → (named count : ℕ) → Body
body_of Slots named count = nil_slots (named + count)
body_of Bytes named count = body.Bytes (replicate count 0)

-- whether an object of so many slots or bytes may be within the limits of objects
abbrev pub may_fit : SizedKind → (named count : ℕ) → Bool
may_fit Slots named count = nat_le (named + count) SLOTS_LIMIT
may_fit Bytes named count = nat_le count BYTES_LIMIT

module _ {B : Type 0} where
  -- a new object of a class that isn't Segment
  abbrev pub new_other : Kind → (class : ℕ) → Run B Value
  new_other kind class =
      and_then (need fault.ArgumentKind (new_body kind)) (λ body_of.
      and_then (named_slots class) (λ named.
      new_object class (body_of named)))

  -- a new object of so many elements as an argument says
  abbrev pub new_elements : SizedKind → (class : ℕ) → Value → Run B Value
  new_elements kind class argument =
      and_then (need fault.ArgumentKind (int_in argument)) (λ number.
      and_then (need fault.Index (count_in number)) (λ count.
      and_then (named_slots class) (λ named.
      new_object class (body_of kind named count))))
