-- How the rule of `,` for sequences goes on.
use Rattle.std.specs.Prelude.{◌≡◌, ℕ, drop, List, ◌++◌, Option, Some}
use Rattle.prim_parts.specs.tree_meaning.Place.{MadeBlock}
use Rattle.gem_object.specs.declared.kind.Kind.TheVariants.{Indexed}
use Rattle.gem_object.specs.declared.value.Value.{Value}
use Rattle.gem_object.specs.declared.body.Body.TheVariants.{Plain}
use Rattle.gem_sound.specs.gem_image.Image.{Contents}
use Rattle.object_programs.specs.Fixed.{ClassPart, same_kind}
use Rattle.object_programs.specs.Run.{Run, give, and_then}
use Rattle.object_programs.specs.Programs.{need, check, known}
use Rattle.object_programs.specs.declared.fault.Fault.TheVariants as fault
use Rattle.prim_rules.specs.Sequences.{read_sequence, new_sequence}
use Rattle.running_objects.specs.Seen.{Seen, object_at}

-- the elements of the object of this name are these, where it is a sequence
abbrev pub HasElements : (named name : ℕ) → Seen → List Value → Type 0
HasElements named name seen elements = (object : Contents) (slots : List Value)
    → object_at name seen ≡ Some object → object.body ≡ Plain slots
    → elements ≡ drop named slots

-- the same objects are seen
abbrev pub Shows : Seen → Seen → Type 0
Shows before after = (name : ℕ) → object_at name after ≡ object_at name before

-- the other sequence is read, and its elements come behind these
abbrev pub joined_rule : (class : ℕ) → List Value → (other : ℕ) → Run MadeBlock Value
joined_rule class elements other = and_then (read_sequence other)
    (λ held. new_sequence class (elements ++ held.elements))

-- the name of an instance of a class of kind Indexed, by what of the class is fixed
abbrev pub part_rule : Option ClassPart → (name : ℕ) → Run MadeBlock ℕ
part_rule found name =
    and_then (need fault.ArgumentKind found) (λ part.
    and_then (check fault.ArgumentKind (same_kind part.kind Indexed)) (λ indexed.
    give name))

-- the same by the class
abbrev pub indexed_rule : (class name : ℕ) → Run MadeBlock ℕ
indexed_rule class name =
    and_then (known fault.ArgumentKind class) (λ fixed. part_rule fixed.as_class name)
