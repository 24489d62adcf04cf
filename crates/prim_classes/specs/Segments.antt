-- The words of `assignToSegment:` by which the code is grouped.
use Rattle.std.specs.Prelude.{ℕ, Bool, true, false, ◌||◌}
use Rattle.gem_object.specs.texts.Bytes.{Bytes as Text}
use Rattle.gem_object.specs.seg_rights.declared.rights.Rights.{Rights}
use Rattle.gem_object.specs.declared.body.Body.{Body}
use Rattle.gem_object.specs.declared.body.Body.TheVariants as body
use Rattle.object_programs.specs.Atom.{Own, Made, Who, Move}
use Rattle.object_programs.specs.Run.{Run, atom, and_then}
use Rattle.object_programs.specs.Programs.{need, check, read}
use Rattle.object_programs.specs.declared.fault.Fault.TheVariants as fault
use Rattle.prim_rules.specs.Parts.{segment_in}
use Rattle.prim_rules.specs.Any.{gives_write}
use Rattle.prim_classes.specs.declared.segments.Movable.{Movable}
use Rattle.prim_classes.specs.declared.segments.Movable.TheVariants as movable

-- which objects of this body may be put into another segment
abbrev pub movable_by : Body → Movable
movable_by (body.Segment _) = movable.Never
movable_by (body.User _) = movable.Never
movable_by (body.Counter _) = movable.WhereMade
movable_by (body.Bag _) = movable.WhereMade
movable_by (body.RcDict _) = movable.WhereMade
movable_by (body.Queue _) = movable.WhereMade
movable_by _ = movable.Always

abbrev pub may_move : Movable → (made : Bool) → Bool
may_move movable.Never made = false
may_move movable.WhereMade made = made || false
may_move movable.Always made = made || true

module _ {B : Type 0} where
  -- the rights that a segment gives, which is read
  abbrev pub rights_read : (name : ℕ) → Run B (Rights Text)
  rights_read name =
      and_then (read name) (λ object. need fault.ArgumentKind (segment_in object.body))

  -- E11, unless a segment of this name with these rights gives the user Write on its objects
  abbrev pub check_writer : (name : ℕ) → Rights Text → Run B (Unit {0})
  check_writer name rights =
      and_then (atom Who) (λ user.
      and_then (atom Own) (λ profile.
      check (fault.NoWriteRight name) (gives_write rights user profile)))

  -- an object is put into another segment, where it may be
  abbrev pub moved : (name : ℕ) → Movable → (segment : ℕ) → Run B (Unit {0})
  moved name movable segment =
      and_then (atom (Made name)) (λ made.
      and_then (check fault.SegmentChange (may_move movable made)) (λ allowed.
      atom (Move name segment)))
