-- Which fault is due, from what the tests of a call answer. A call makes room first, which leaves
-- what is seen: so the tests see another state, with the same.
use Rattle.std.proofs.Common.{◌≡◌, ◌∙◌, refl, sym, ap, ℕ, ◌<◌, ◌≤◌, Bool, true, false, cond, Option, Some, None, is_some}
use Rattle.std.proofs.lemmas.Bool.{false≢true, lt-ltb, le-ltb}
use Rattle.gem_object.specs.seg_rights.Right.{allows_write}
use Rattle.gem_object.specs.seg_rights.declared.right.Right.{Right}
use Rattle.gem_object.specs.declared.body.Body.{Body}
use Rattle.gem_update.specs.declared.update.Update.{Update}
use Rattle.gem_image.specs.Rights.{right_in}
use Rattle.gem_record.specs.gem_world.World.{shown_objects}
use Rattle.gem_record.specs.gem_world.Access.{a_write, is_allowed}
use Rattle.object_programs.specs.Guard.{holds_of}
use Rattle.object_programs.specs.declared.limits.TheConstants.{COUNTER_LIMIT}
use Rattle.running_objects.specs.Seen.{Seen}
use Rattle.plain_state.specs.Parts.{asked}
use Rattle.plain_state.specs.Writes.{accepts_body, body_after, updated_to}
use Rattle.object_programs.specs.Budget.{is_small}
use Rattle.session_view.specs.Calls.{Due, write_due, size_due, segment_due, names_due, is_large_at, due_before, due_after, takes, updated, updated_by}
use Rattle.session_view.specs.declared.fault.ViewFault.TheVariants as fault

-- what a test holds of is there
there_by : {X : Type 0} (test : X → Bool) (found : Option X) → holds_of test found ≡ true → is_some found ≡ true
there_by test None holds = absurd (false≢true holds)
there_by test (Some x) holds = refl

pub there_of : {X : Type 0} (test : X → Bool) (found : Option X) → holds_of test found ≡ true → is_some found ≡ true
there_of test found holds = there_by test found holds

module _ (x y : Seen) (same : y ≡ x) (name : ℕ) (answer : Bool)
    (told : answer ≡ is_allowed a_write name y.setting y.world) where
  allowed_here : answer ≡ is_allowed a_write name x.setting x.world
  allowed_here = told ∙ ap (λ (s : Seen). is_allowed a_write name s.setting s.world) same

  -- the user may not write the object
  pub write_refused : (rest : Due) (z : Seen) → answer ≡ false → z ≡ asked name y
      → write_due name x rest ≡ Some (fault.NoWrite name, z)
  write_refused rest z refused after =
      ap (λ b. cond b rest (Some (fault.NoWrite name, asked name x))) (sym allowed_here ∙ refused)
      ∙ ap (λ (s : Seen). Some (fault.NoWrite name, s)) (sym (after ∙ ap (asked name) same))

  -- or may
  pub write_allowed : (rest : Due) → answer ≡ true → write_due name x rest ≡ rest
  write_allowed rest granted =
      ap (λ b. cond b rest (Some (fault.NoWrite name, asked name x))) (sym allowed_here ∙ granted)

  pub writable_there : answer ≡ true → is_allowed a_write name y.setting y.world ≡ true
  writable_there granted = sym told ∙ granted

-- an object is too large, or isn't
pub size_refused : (body : Body) (touched z : Seen) (small : Due) (answer : Bool) → answer ≡ is_small body → answer ≡ false
    → z ≡ touched → size_due body touched small ≡ Some (fault.TooLarge, z)
size_refused body touched z small answer told refused after =
    ap (λ b. cond b small (Some (fault.TooLarge, touched))) (sym told ∙ refused)
    ∙ ap (λ (s : Seen). Some (fault.TooLarge, s)) (sym after)

pub size_allowed : (body : Body) (touched : Seen) (small : Due) (answer : Bool) → answer ≡ is_small body → answer ≡ true
    → size_due body touched small ≡ small
size_allowed body touched small answer told granted =
    ap (λ b. cond b small (Some (fault.TooLarge, touched))) (sym told ∙ granted)

-- a segment gives too little, or enough
module _ (x y : Seen) (same : y ≡ x) (name segment : ℕ) (right : Right)
    (is : right ≡ right_in (shown_objects y.setting y.world) y.setting.user segment) (answer : Bool)
    (told : answer ≡ allows_write right) where
  gives_here : answer ≡ allows_write (right_in (shown_objects x.setting x.world) x.setting.user segment)
  gives_here = told ∙ ap allows_write (is
      ∙ ap (λ (s : Seen). right_in (shown_objects s.setting s.world) s.setting.user segment) same)

  pub segment_refused : (z : Seen) → answer ≡ false → z ≡ asked segment (asked name y)
      → segment_due name segment x ≡ Some (fault.NoWrite segment, z)
  segment_refused z refused after =
      ap (λ b. cond b None (Some (fault.NoWrite segment, asked segment (asked name x)))) (sym gives_here ∙ refused)
      ∙ ap (λ (s : Seen). Some (fault.NoWrite segment, s)) (sym (after ∙ ap (λ (s : Seen). asked segment (asked name s)) same))

  pub segment_allowed : answer ≡ true → segment_due name segment x ≡ None
  segment_allowed granted =
      ap (λ b. cond b None (Some (fault.NoWrite segment, asked segment (asked name x)))) (sym gives_here ∙ granted)

-- a name is left, or none is
pub names_refused : (x : Seen) → COUNTER_LIMIT ≤ x.world.next → names_due x ≡ Some (fault.NamesUsed, x)
names_refused x none = ap (λ b. cond b None (Some (fault.NamesUsed, x))) (le-ltb x.world.next COUNTER_LIMIT none)

pub names_allowed : (x : Seen) → x.world.next < COUNTER_LIMIT → names_due x ≡ None
names_allowed x some = ap (λ b. cond b None (Some (fault.NamesUsed, x))) (lt-ltb x.world.next COUNTER_LIMIT some)

-- ---- an update

-- the object is above the limits as it is, or isn't
module _ (x y : Seen) (same : y ≡ x) (name : ℕ) (answer : Bool) (told : answer ≡ is_large_at name y) where
  large_here : answer ≡ is_large_at name x
  large_here = told ∙ ap (is_large_at name) same

  pub large_refused : (rest : Due) (z : Seen) → answer ≡ true → z ≡ asked name y
      → due_before name x rest ≡ Some (fault.TooLarge, z)
  large_refused rest z large after =
      ap (λ b. cond b (Some (fault.TooLarge, asked name x)) rest) (sym large_here ∙ large)
      ∙ ap (λ (s : Seen). Some (fault.TooLarge, s)) (sym (after ∙ ap (asked name) same))

  pub large_allowed : (rest : Due) → answer ≡ false → due_before name x rest ≡ rest
  large_allowed rest small =
      ap (λ b. cond b (Some (fault.TooLarge, asked name x)) rest) (sym large_here ∙ small)

module _ (x y : Seen) (same : y ≡ x) (name : ℕ) (update : Update) where
  -- what an object takes has a body
  taken_by : (found : Option Body) → body_after name update x ≡ found → takes name update x ≡ true
      → is_some (body_after name update y) ≡ true
  taken_by None is some = absurd (false≢true (sym (ap (λ found. holds_of (λ body. accepts_body name body x) found) is) ∙ some))
  taken_by (Some body) is some = ap is_some (ap (λ (s : Seen). body_after name update s) same ∙ is)

  pub has_body : takes name update x ≡ true → is_some (body_after name update y) ≡ true
  has_body some = taken_by (body_after name update x) refl some

  module _ (body : Body) (is : Some body ≡ body_after name update y) where
    here : body_after name update x ≡ Some body
    here = sym (is ∙ ap (λ (s : Seen). body_after name update s) same)

    -- it fits, and its size decides
    pub body_fits : takes name update x ≡ true → accepts_body name body y ≡ true
    body_fits some = ap (λ (s : Seen). accepts_body name body s) same
        ∙ sym (ap (λ found. holds_of (λ one. accepts_body name one x) found) here) ∙ some

    pub due_here : due_after name (body_after name update x) x ≡ size_due body (asked name x) None
    due_here = ap (λ found. due_after name found x) here

    pub updated_here : (z : Seen) → z ≡ updated_to name update body y → z ≡ updated name update x
    updated_here z after = after ∙ ap (λ (s : Seen). updated_to name update body s) same
        ∙ sym (ap (λ found. updated_by name update found x) here)
