-- An update of a reduced-conflict object is noted only after a write of the object that was allowed,
-- and before anything has changed: so it is allowed.
use Rattle.std.proofs.Common.{◌≡◌, ◌∙◌, refl, sym, ap, ℕ, Bool, true, false, cond, inl, inr, Option, Some, None, List, nat_le}
use Rattle.std.proofs.Math.Path.{fun_ext}
use Rattle.std.proofs.lemmas.Bool.{cases_eq}
use Rattle.gem_meaning.specs.gem_object.Kinds.{is_shared}
use Rattle.gem_meaning.specs.gem_object.declared.value.Value.{Value}
use Rattle.gem_meaning.specs.gem_object.declared.body.Body.{Body}
use Rattle.gem_meaning.specs.gem_update.declared.update.Update.{Update}
use Rattle.gem_meaning.specs.gem_image.Image.{Contents, Objects}
use Rattle.gem_meaning.specs.gem_image.Rights.{right_on}
use Rattle.gem_meaning.specs.gem_world.World.{Setting, World, shown}
use Rattle.gem_meaning.specs.gem_world.Changes.{put}
use Rattle.gem_meaning.specs.gem_world.Access.{a_write, allows, is_allowed, with_touches, after_allowed, accessed}
use Rattle.gem_meaning.specs.object_programs.Budget.{Budget}
use Rattle.gem_meaning.specs.object_programs.Atom.{Note, Room, done, access_answer, spent_where}
use Rattle.gem_meaning.specs.object_programs.Run.{Run, give, atom, and_then, Ending, gives, returns, fails, State, end_of, onward, perform}
use Rattle.gem_meaning.specs.object_programs.Programs.{need, check, write, update}
use Rattle.gem_meaning.specs.object_programs.declared.fault.Fault.{Fault}
use Rattle.gem_meaning.specs.object_programs.declared.fault.Fault.TheVariants as fault
use Rattle.gem_meaning.proofs.object_programs_lemmas.Worlds.{put_here, put_elsewhere, shown_asked}
use Rattle.gem_meaning.specs.prim_rules.Parts.{reference_in}
use Rattle.gem_meaning.specs.prim_rules.Receivers.{Receiver, write_receiver, argument_as, answer}
use Rattle.history_laws.proofs.Obeys.{only_allowed, EndsAt, Obeys, then_at, gives_so, asks, then, needs, checks, takes_room}

-- ---- an access leaves what is seen, and so it leaves rights

module _ (setting : Setting) where
  put_same : (at asked : ℕ) (object : Contents) (world : World) → shown at setting world ≡ Some object
      → shown asked setting (put at object world) ≡ shown asked setting world
  put_same at asked object world there = elim (cases_eq asked at) [
    | inl same ↦ ap (λ some. shown some setting (put at object world)) same
        ∙ (put_here setting at object world ∙ (sym there ∙ sym (ap (λ some.
        shown some setting world) same)))
    | inr apart ↦ put_elsewhere setting asked at object world apart
  ]

  held_same : (shared : Bool) (at asked : ℕ) (object : Contents) (world : World)
      → shown at setting world ≡ Some object
      → shown asked setting (cond shared world (put at object world)) ≡ shown asked setting world
  held_same true at asked object world there = refl
  held_same false at asked object world there = put_same at asked object world there

  allowed_same : (at asked : ℕ) (found : Option Contents) (world : World)
      → shown at setting world ≡ found
      → shown asked setting (after_allowed a_write at found world) ≡ shown asked setting world
  allowed_same at asked None world there = refl
  allowed_same at asked (Some object) world there =
      held_same (is_shared object.body) at asked object world there

  write_same_by : (allowed : Bool) (at asked : ℕ) (world : World)
      → shown asked setting (cond allowed
      (after_allowed a_write at (shown at setting world) (with_touches at setting world))
      (with_touches at setting world))
      ≡ shown asked setting world
  write_same_by true at asked world =
      allowed_same at asked (shown at setting world) (with_touches at setting world)
      (shown_asked setting setting at at world) ∙ shown_asked setting setting at asked world
  write_same_by false at asked world = shown_asked setting setting at asked world

  write_same : (at asked : ℕ) (world : World)
      → shown asked setting (accessed a_write at setting world) ≡ shown asked setting world
  unfolding accessed
  write_same at asked world = write_same_by (is_allowed a_write at setting world) at asked world

  still_allowed : (at : ℕ) (world : World)
      → is_allowed a_write at setting (accessed a_write at setting world)
      ≡ is_allowed a_write at setting world
  unfolding is_allowed
  still_allowed at world = ap (λ (seen : Objects). allows a_write (right_on seen setting.user at))
      (fun_ext (λ asked. write_same at asked world))

fails_gives : {A : Type 0} (error : Fault) (one : A) → fails error ≡ gives one → ⊥
fails_gives error one is = cc

returns_gives : {A : Type 0} (value : Value) (home : ℕ) (one : A) → returns value home ≡ gives one → ⊥
returns_gives value home one is = cc

answer_or : {A : Type 0} → A → Ending A → A
answer_or other (gives one) = one
answer_or other (returns value home) = other
answer_or other (fails error) = other

same_answer : {A : Type 0} (one other : A) → gives one ≡ gives other → one ≡ other
unfolding answer_or
same_answer one other is = ap (answer_or one) is

room_left_by : (fits : Bool) (slots : ℕ) (world : World) (budget : Budget)
    → (spent_where fits slots world budget).world ≡ world
room_left_by true slots world budget = refl
room_left_by false slots world budget = refl

module _ {B : Type 0} where
  -- ---- what a program gives, with the state that it leaves

  abbrev GivesAt : {A : Type 0} → (A → State B → Type 0) → Run B A → Setting → State B → Type 0
  GivesAt {A = A} Holds program setting state = (one : A)
      → (perform program setting state).end ≡ gives one
      → Holds one (perform program setting state).state

  onward_gives : {A C : Type 0} (Before : C → State B → Type 0) (Holds : A → State B → Type 0)
      (setting : Setting) (end : Ending C) (state : State B) (second : C → Run B A)
      → ((middle : C) → end ≡ gives middle → Before middle state)
      → ((middle : C) → Before middle state → GivesAt Holds (second middle) setting state) → (one : A)
      → (onward end state (λ middle after. perform (second middle) setting after)).end ≡ gives one
      → Holds one (onward end state (λ middle after. perform (second middle) setting after)).state
  onward_gives Before Holds setting (gives middle) state second first next one is =
      next middle (first middle refl) one is
  onward_gives Before Holds setting (returns value home) state second first next one is =
      absurd (returns_gives value home one is)
  onward_gives Before Holds setting (fails error) state second first next one is =
      absurd (fails_gives error one is)

  then_gives : {A C : Type 0} (Before : C → State B → Type 0) (Holds : A → State B → Type 0)
      (first : Run B C) (second : C → Run B A) (setting : Setting) (state : State B)
      → GivesAt Before first setting state
      → ((middle : C) (after : State B) → Before middle after → GivesAt Holds (second middle) setting after)
      → GivesAt Holds (and_then first second) setting state
  then_gives Before Holds first second setting state here next = onward_gives Before Holds setting
      (perform first setting state).end (perform first setting state).state second here
      (λ middle. next middle (perform first setting state).state)

  -- the user may write the object of this name
  abbrev MayWrite : ℕ → Setting → State B → Type 0
  MayWrite name setting state = is_allowed a_write name setting state.world ≡ true

  need_gives : {A : Type 0} (error : Fault) (found : Option A) (setting : Setting) (state : State B)
      → GivesAt (λ one after. after ≡ state) (need error found) setting state
  need_gives error None setting state one is = absurd (fails_gives error one is)
  need_gives error (Some there) setting state one is = refl

  write_gives_by : (allowed : Bool) (name : ℕ) (setting : Setting) (state : State B)
      (found : Option Contents)
      (one : Contents) → is_allowed a_write name setting state.world ≡ allowed
      → end_of (access_answer allowed a_write name found) ≡ gives one
      → is_allowed a_write name setting (accessed a_write name setting state.world) ≡ true
  write_gives_by true name setting state found one is given = still_allowed setting name state.world ∙ is
  write_gives_by false name setting state found one is given =
      absurd (fails_gives (fault.NoWriteRight name) one given)

  write_gives : (name : ℕ) (setting : Setting) (state : State B)
      → GivesAt (λ object after. MayWrite name setting after) (write name) setting state
  write_gives name setting state one is =
      write_gives_by (is_allowed a_write name setting state.world) name setting state
      (shown name setting state.world) one refl is

  module _ {A : Type 0} (part : Body → Option A) where
    held : ℕ → Contents → Run B (Receiver A)
    held name object = and_then (need fault.ArgumentKind (part object.body)) (λ found.
        give (record { name = name; object = object; held = found }))

    held_gives : (name : ℕ) (object : Contents) (setting : Setting) (state : State B)
        → MayWrite name setting state
        → GivesAt (λ one after. MayWrite one.name setting after) (held name object) setting state
    unfolding held
    held_gives name object setting state may = then_gives (λ (found : A) (after : State B). after ≡ state)
        (λ (one : Receiver A) (after : State B). MayWrite one.name setting after)
        (need fault.ArgumentKind (part object.body))
        (λ found. give (record { name = name; object = object; held = found })) setting state
        (need_gives fault.ArgumentKind (part object.body) setting state)
        (λ found after same one is.
        ap (λ (r : Receiver A). is_allowed a_write r.name setting after.world)
        (sym (same_answer (record { name = name; object = object; held = found }) one is))
        ∙ (ap (λ (s : State B). is_allowed a_write name setting s.world) same ∙ may))

    receiver_gives : (receiver : Value) (setting : Setting) (state : State B)
        → GivesAt (λ one after.
        MayWrite one.name setting after) (write_receiver part receiver) setting state
    unfolding held
    receiver_gives receiver setting state = then_gives (λ (name : ℕ) (after : State B). after ≡ state)
        (λ (one : Receiver A) (after : State B). MayWrite one.name setting after)
        (need fault.ArgumentKind (reference_in receiver))
        (λ name. and_then (write name) (held name)) setting state
        (need_gives fault.ArgumentKind (reference_in receiver) setting state)
        (λ name between same. then_gives (λ (object : Contents) (after : State B).
        MayWrite name setting after)
        (λ (one : Receiver A) (after : State B).
        MayWrite one.name setting after) (write name) (held name) setting
        between (write_gives name setting between)
        (λ object after may. held_gives name object setting after may))

  -- ---- programs that obey where the user may write an object

  pub record ObeysIf {A : Type 0} (name : ℕ) (program : Run B A) : Type 0 where
    pub at : (setting : Setting) (state : State B) → MayWrite name setting state
        → EndsAt program setting state

  -- a program that leaves the objects
  pub record Leaves {A : Type 0} (program : Run B A) : Type 0 where
    pub at : (setting : Setting) (state : State B)
        → (perform program setting state).state.world ≡ state.world

  pub gives_left : {A : Type 0} {one : A} → Leaves (give one)
  gives_left = record { at = λ setting state. refl }

  pub needs_left : {A : Type 0} (error : Fault) (found : Option A) → Leaves (need error found)
  needs_left error None = record { at = λ setting state. refl }
  needs_left error (Some one) = record { at = λ setting state. refl }

  pub checks_left : (error : Fault) (test : Bool) → Leaves (check error test)
  checks_left error true = record { at = λ setting state. refl }
  checks_left error false = record { at = λ setting state. refl }

  room_left : {slots : ℕ} → Leaves (atom (Room slots))
  room_left {slots = slots} = record {
    at = λ setting state. room_left_by (nat_le slots state.budget.slots) slots state.world state.budget;
  }

  onward_left : {A C : Type 0} (setting : Setting) (end : Ending C) (state : State B)
      (second : C → Run B A) → ((one : C) → Leaves (second one))
      → (onward end state (λ one after. perform (second one) setting after)).state.world ≡ state.world
  onward_left setting (gives one) state second next = (next one).at setting state
  onward_left setting (returns value home) state second next = refl
  onward_left setting (fails error) state second next = refl

  pub then_left : {A C : Type 0} {first : Run B C} {second : C → Run B A} → Leaves first
      → ((one : C) → Leaves (second one)) → Leaves (and_then first second)
  then_left {first = first} {second = second} here next = record {
    at = λ setting state. onward_left setting (perform first setting state).end
        (perform first setting state).state second next ∙ here.at setting state;
  }

  -- a program that leaves the objects, and then one that obeys where the user may write one of them
  pub then_if : {A C : Type 0} {name : ℕ} {first : Run B C} {second : C → Run B A} → Obeys first
      → Leaves first → ((one : C) → ObeysIf name (second one)) → ObeysIf name (and_then first second)
  then_if {name = name} {first = first} {second = second} here left next = record {
    at = λ setting state may. then_at first second setting state (here.at setting state)
        (λ one is. (next one).at setting (perform first setting state).state
        (ap (is_allowed a_write name setting) (left.at setting state) ∙ may));
  }

  if_then : {A C : Type 0} {name : ℕ} {first : Run B C} {second : C → Run B A} → ObeysIf name first
      → ((one : C) → Obeys (second one)) → ObeysIf name (and_then first second)
  if_then {first = first} {second = second} here next = record {
    at = λ setting state may. then_at first second setting state (here.at setting state may)
        (λ one is. (next one).at setting (perform first setting state).state);
  }

  pub obeys_if : {A : Type 0} {name : ℕ} {program : Run B A} → Obeys program → ObeysIf name program
  obeys_if here = record { at = λ setting state may. here.at setting state }

  notes_if : {name : ℕ} {change : Update} → ObeysIf name (atom (Note name change))
  notes_if {name = name} {change = change} = record {
    at = λ setting state may. inl (only_allowed setting record {
      world = state.world;
      asked = Some (a_write, name);
      after = (done (Note name change) setting state.world state.budget).world;
    } a_write name refl may);
  }

  updates_if : (refusal : Fault) (growth name : ℕ) (object : Contents) (change : Update)
      → ObeysIf name (update refusal growth name object change)
  unfolding update
  updates_if refusal growth name object change =
      then_if (needs _ _) (needs_left _ _) (λ body.
      then_if (checks _ _) (checks_left _ _) (λ small.
      then_if takes_room room_left (λ room. notes_if)))

  pub updates : (name growth : ℕ) (object : Contents) (change : Update) (refusal : Fault) (value : Value)
      → ObeysIf name (and_then (update refusal growth name object change) (λ updated. answer value))
  updates name growth object change refusal value =
      if_then (updates_if refusal growth name object change) (λ updated. gives_so)

  -- an argument leaves the objects
  pub argument_left : {A : Type 0} (part : Value → Option A) (arguments : List Value)
      → Leaves (argument_as part arguments)
  argument_left part arguments = then_left (needs_left _ _) (λ value. needs_left _ _)

  pub argument_so : {A : Type 0} (part : Value → Option A) (arguments : List Value)
      → Obeys {B = B} (argument_as part arguments)
  argument_so part arguments = then (needs _ _) (λ value. needs _ _)

  pub written_so : {A : Type 0} (part : Body → Option A) (receiver : Value)
      → Obeys {B = B} (write_receiver part receiver)
  written_so part receiver = then (needs _ _) (λ name. then asks (λ object. then (needs _ _) (λ found.
      gives_so)))

  -- a receiver is written, and then comes what obeys where the user may write it
  pub writes : {A C : Type 0} (part : Body → Option C) (receiver : Value) {second : Receiver C → Run B A}
      → ((one : Receiver C) → ObeysIf one.name (second one))
      → Obeys (and_then (write_receiver part receiver) second)
  writes part receiver {second = second} next = record {
    at = λ setting state. then_at (write_receiver part receiver) second setting state
        ((written_so part receiver).at setting state)
        (λ one is. (next one).at setting (perform (write_receiver part receiver) setting state).state
        (receiver_gives part receiver setting state one is));
  }
