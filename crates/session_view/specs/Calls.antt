-- How the calls of a view end: which fault is due, and what is seen afterwards.
use Rattle.std.specs.Prelude.{◌≡◌, ◌⊎◌, ℕ, Bool, not, cond, nat_lt, Option, None, Some, Result, Ok, Err}
use Rattle.gem_object.specs.seg_rights.Right.{allows_write}
use Rattle.gem_object.specs.Kinds.{is_shared}
use Rattle.gem_object.specs.declared.body.Body.{Body}
use Rattle.gem_update.specs.declared.update.Update.{Update}
use Rattle.gem_image.specs.Rights.{right_in}
use Rattle.gem_record.specs.gem_world.World.{shown_objects}
use Rattle.gem_record.specs.gem_world.Access.{a_read, a_write, is_allowed}
use Rattle.object_programs.specs.Guard.{holds_of}
use Rattle.object_programs.specs.Budget.{is_small}
use Rattle.object_programs.specs.declared.limits.TheConstants.{COUNTER_LIMIT}
use Rattle.running_objects.specs.Seen.{Seen, object_at}
use Rattle.plain_state.specs.Parts.{asked}
use Rattle.plain_state.specs.Writes.{accepts_body, body_after, updated_to}
use Rattle.session_view.specs.declared.fault.ViewFault.{ViewFault}
use Rattle.session_view.specs.declared.fault.ViewFault.TheVariants as fault

-- A fault that is due, with what is seen after it.
abbrev pub Due : Type 0
Due = Option (ViewFault × Seen)

-- A call answers where no fault is due, and then it was done. Where memory ran out nothing was done
-- but touches, all of them or none.
abbrev pub EndsBy : {A : Type 0} → Due → (before touched done : Seen) → Result A ViewFault
    → (after : Seen) → Type 0
EndsBy due before touched done (Ok answer) after = (due ≡ None) × (after ≡ done)
EndsBy due before touched done (Err fault.NoMemory) after =
    (after ≡ before) ⊎ (after ≡ touched)
EndsBy due before touched done (Err other) after = due ≡ Some (other, after)

-- the fault of a result
abbrev pub fault_in : {A : Type 0} → Result A ViewFault → Option ViewFault
fault_in (Ok answer) = None
fault_in (Err other) = Some other

-- a look at the object of this name is refused
abbrev pub look_fault : ℕ → Seen → Option ViewFault
look_fault name seen =
    cond (is_allowed a_read name seen.setting seen.world) None (Some (fault.NoRead name))

-- a write of it is refused: its touches stay
abbrev pub write_due : ℕ → Seen → (allowed : Due) → Due
write_due name seen allowed = cond (is_allowed a_write name seen.setting seen.world) allowed
    (Some (fault.NoWrite name, asked name seen))

abbrev pub size_due : Body → Seen → (small : Due) → Due
size_due body touched small = cond (is_small body) small (Some (fault.TooLarge, touched))

-- what is due where a body is put in place of another
abbrev pub change_due : ℕ → Body → Seen → Due
change_due name body seen = write_due name seen (size_due body (asked name seen) None)

-- where an object is put into a segment: that has to give Write on the objects in it
abbrev pub segment_due : (name segment : ℕ) → Seen → Due
segment_due name segment seen = cond
    (allows_write (right_in (shown_objects seen.setting seen.world) seen.setting.user segment))
    None (Some (fault.NoWrite segment, asked segment (asked name seen)))

abbrev pub move_due : (name segment : ℕ) → Seen → Due
move_due name segment seen = write_due name seen (segment_due name segment seen)

-- where an object is made
abbrev pub names_due : Seen → Due
names_due seen = cond (nat_lt seen.world.next COUNTER_LIMIT) None (Some (fault.NamesUsed, seen))

abbrev pub make_due : Body → Seen → Due
make_due body seen = size_due body seen (names_due seen)

-- where a reduced-conflict object is updated, by the body that it has and the one that it then has
abbrev pub is_large_at : ℕ → Seen → Bool
is_large_at name seen = holds_of (λ object. not (is_small object.body)) (object_at name seen)

abbrev pub due_before : ℕ → Seen → (small : Due) → Due
due_before name seen small =
    cond (is_large_at name seen) (Some (fault.TooLarge, asked name seen)) small

abbrev pub due_after : ℕ → Option Body → Seen → Due
due_after name None seen = None
due_after name (Some body) seen = size_due body (asked name seen) None

abbrev pub update_due : ℕ → Update → Seen → Due
update_due name update seen = write_due name seen
    (due_before name seen (due_after name (body_after name update seen) seen))

abbrev pub updated_by : ℕ → Update → Option Body → Seen → Seen
updated_by name update None seen = seen
updated_by name update (Some body) seen = updated_to name update body seen

abbrev pub updated : ℕ → Update → Seen → Seen
updated name update seen = updated_by name update (body_after name update seen) seen

-- whether the object of this name is a reduced-conflict one
abbrev pub is_shared_at : ℕ → Seen → Bool
is_shared_at name seen = holds_of (λ object. is_shared object.body) (object_at name seen)

-- whether it takes the update, and may then stand there
abbrev pub takes : ℕ → Update → Seen → Bool
takes name update seen =
    holds_of (λ body. accepts_body name body seen) (body_after name update seen)
