-- The rules of the primitives 52 and 53: new objects of a class.
use Rattle.std.specs.Prelude.{ℕ, ◌+◌, ℤ, pos, negsuc, replicate, List, [], Option, None, Some}
use Rattle.gem_object.specs.texts.Bytes.{Bytes as Text}
use Rattle.gem_object.specs.seg_rights.declared.right.Right.TheVariants as right
use Rattle.gem_object.specs.seg_rights.declared.rights.Rights.{Rights}
use Rattle.gem_object.specs.declared.kind.Kind.{Kind}
use Rattle.gem_object.specs.declared.kind.Kind.TheVariants as kind
use Rattle.gem_object.specs.declared.value.Value.{Value}
use Rattle.gem_object.specs.declared.value.Value.TheVariants.{Nil, Ref}
use Rattle.gem_object.specs.declared.body.Body.{Body}
use Rattle.gem_object.specs.declared.body.Body.TheVariants as body
use Rattle.object_programs.specs.Atom.{Who}
use Rattle.object_programs.specs.Run.{Run, give, atom, and_then}
use Rattle.object_programs.specs.Programs.{need, read, make_object}
use Rattle.object_programs.specs.declared.fault.Fault.TheVariants as fault
use Rattle.prim_rules.specs.declared.answer.PrimitiveAnswer.{PrimitiveAnswer}
use Rattle.prim_rules.specs.Parts.{int_in, reference_in, class_in, one_of, no_arguments, named_slots, new_object, answers}

-- so many slots, each nil
abbrev pub nil_slots : ℕ → Body
nil_slots count = body.Plain (replicate count Nil)

-- The body of a new object of a class of this kind, by the number of its named slots: it is empty
-- beside them. None where `new` makes no such object, or has a rule of its own for it.
abbrev pub new_body : Kind → Option ((named : ℕ) → Body)
new_body kind.Plain = Some nil_slots
new_body kind.Indexed = Some nil_slots
new_body kind.Bytes = Some (λ named. body.Bytes [])
new_body kind.Dict = Some (λ named. body.Dict [])
new_body kind.Counter = Some (λ named. body.Counter (record { value = pos 0 }))
new_body kind.Bag = Some (λ named. body.Bag [])
new_body kind.RcDict = Some (λ named. body.RcDict [])
new_body kind.Queue = Some (λ named. body.Queue (record { removed = 0; items = [] }))
new_body _ = None

-- The same with so many elements or bytes behind the named slots. None where `new:` makes no such
-- object.
abbrev pub sized_body : Kind → Option ((named count : ℕ) → Body)
sized_body kind.Indexed = Some (λ named count. nil_slots (named + count))
sized_body kind.Bytes = Some (λ named count. body.Bytes (replicate count 0))
sized_body _ = None

-- the rights of a new segment: this user owns it and may write, and nobody else may read
abbrev pub own_rights : (user : ℕ) → Rights Text
own_rights user = record {
  owner = user;
  owner_right = right.Write;
  groups = [];
  world_right = right.None;
}

-- a count that isn't negative
abbrev pub count_in : ℤ → Option ℕ
count_in (pos count) = Some count
count_in (negsuc _) = None

module _ {B : Type 0} where
  -- a new segment, which lies in itself: the profile isn't read
  abbrev pub new_segment : (class : ℕ) → Run B Value
  new_segment class =
      and_then (atom Who) (λ user.
      and_then (make_object (λ name. record {
        class = class;
        segment = name;
        body = body.Segment (own_rights user);
      })) (λ name.
      give (Ref name)))

  -- `new`, by the kind of the class; E5 where a class of this kind has no new instances
  abbrev pub new_of_kind : Kind → (class : ℕ) → Run B Value
  new_of_kind kind.Segment class = new_segment class
  new_of_kind kind class =
      and_then (need fault.ArgumentKind (new_body kind)) (λ body_of.
      and_then (named_slots class) (λ named.
      new_object class (body_of named)))

  abbrev pub new_rule : (class : ℕ) → Run B Value
  new_rule class =
      and_then (read class) (λ object.
      and_then (need fault.ArgumentKind (class_in object.body)) (λ found.
      new_of_kind found.kind class))

  abbrev pub row_52 : Value → List Value → Run B PrimitiveAnswer
  row_52 receiver arguments =
      and_then (need fault.ArgumentKind (reference_in receiver)) (λ class.
      and_then (no_arguments arguments) (λ none.
      answers (new_rule class)))

  -- `new:`; E4 where the count is negative
  abbrev pub new_sized_rule : (class : ℕ) → Value → Run B Value
  new_sized_rule class argument =
      and_then (read class) (λ object.
      and_then (need fault.ArgumentKind (class_in object.body)) (λ found.
      and_then (need fault.ArgumentKind (sized_body found.kind)) (λ body_of.
      and_then (need fault.ArgumentKind (int_in argument)) (λ number.
      and_then (need fault.Index (count_in number)) (λ count.
      and_then (named_slots class) (λ named.
      new_object class (body_of named count)))))))

  abbrev pub row_53 : Value → List Value → Run B PrimitiveAnswer
  row_53 receiver arguments =
      and_then (need fault.ArgumentKind (reference_in receiver)) (λ class.
      and_then (need fault.ArgumentKind (one_of arguments)) (λ argument.
      answers (new_sized_rule class argument)))
