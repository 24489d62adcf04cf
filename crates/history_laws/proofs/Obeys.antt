-- Programs in which nothing follows on an access that isn't allowed, but the end with its error, and
-- which leave no more than its touches then.
use Rattle.std.proofs.Common.{◌≡◌, ◌∙◌, refl, sym, ap, ℕ, zero, suc, Bool, true, false, cond, ◌⊎◌, inl, inr, Option, Some, None, is_some, List, [], ◌∷◌, ◌++◌}
use Rattle.std.proofs.lemmas.Bool.{false≢true}
use Rattle.std.proofs.lemmas.List.{append_assoc, append-nil}
use Rattle.std.proofs.lemmas.Option.{same_Some}
use Rattle.gem_meaning.specs.texts.Bytes.{Bytes as Text}
use Rattle.gem_meaning.specs.gem_image.Image.{Contents}
use Rattle.gem_meaning.specs.gem_object.declared.body.Body.{Body}
use Rattle.gem_meaning.specs.gem_world.World.{Setting, World, shown}
use Rattle.gem_meaning.specs.gem_world.Access.{Access, is_allowed, with_touches, after_allowed as after_access, accessed}
use Rattle.gem_meaning.specs.gem_object.declared.value.Value.{Value}
use Rattle.gem_meaning.specs.object_programs.Budget.{Budget}
use Rattle.gem_meaning.specs.object_programs.Local.{Local}
use Rattle.gem_meaning.specs.object_programs.Fixed.{ClassPart}
use Rattle.gem_meaning.specs.object_programs.Guard.{chain_limit}
use Rattle.gem_meaning.specs.object_programs.Atom.{Atom, Ask, Kind, Made, Who, Own, Put, Move, Names, Make, Tick, Room, Show, done, access_fault, access_answer}
use Rattle.gem_meaning.specs.object_programs.Run.{Run, give, fail, return_to, atom, seeing, become, and_then, ending, Ending, gives, returns, fails, State, end_of, onward, perform}
use Rattle.gem_meaning.specs.object_programs.Programs.{part_of, choose, need, check, rest_above, line_of, classes_within, classes_above, replace_body}
use Rattle.gem_meaning.specs.object_programs.declared.fault.Fault.{Fault}
use Rattle.gem_meaning.specs.object_programs.declared.fault.Fault.TheVariants as fault
use Rattle.gem_meaning.proofs.commit_check_lemmas.Members.{IsOneOf, in_either}
use Rattle.history_laws.specs.Accesses.{Moment, asked_by, moments_onward, moments, IsRefused}

-- the accesses of these moments are all allowed
abbrev pub AreAllowed : Setting → List Moment → Type 0
AreAllowed setting passed = (moment : Moment) → IsOneOf moment passed → (access : Access) (name : ℕ)
    → moment.asked ≡ Some (access, name) → is_allowed access name setting moment.world ≡ true

-- the access of the last moment isn't allowed, all those before it are, the end is its error, and its
-- touches are all that it leaves
pub record LastRefused {A : Type 0} (setting : Setting) (passed : List Moment) (end : Ending A)
    (left : World) : Type 0 where
  pub before : List Moment
  pub moment : Moment
  pub access : Access
  pub name : ℕ
  pub are : passed ≡ before ++ moment ∷ []
  pub allowed : AreAllowed setting before
  pub refused : IsRefused access name setting moment
  pub fault : end ≡ fails (access_fault access name)
  pub leaves : left ≡ with_touches name setting moment.world

abbrev pub Ends : {A : Type 0} → Setting → List Moment → Ending A → World → Type 0
Ends setting passed end left = AreAllowed setting passed ⊎ LastRefused setting passed end left

pub none_passed : (setting : Setting) → AreAllowed setting []
none_passed setting moment none access name asked = absurd none

pub both_allowed : (setting : Setting) (passed more : List Moment) → AreAllowed setting passed
    → AreAllowed setting more → AreAllowed setting (passed ++ more)
both_allowed setting passed more first second moment there access name asked =
    elim (in_either moment passed more there) [
      | inl early ↦ first moment early access name asked
      | inr late ↦ second moment late access name asked
    ]

-- a moment whose access is allowed, and one without an access
pub only_allowed : (setting : Setting) (one : Moment) (access : Access) (name : ℕ)
    → one.asked ≡ Some (access, name) → is_allowed access name setting one.world ≡ true
    → AreAllowed setting (one ∷ [])
only_allowed setting one access name asked allowed moment there other at is = elim there [
  | inl same ↦
      let pair : (access, name) ≡ (other, at)
      = same_Some (access, name) (other, at) (sym asked ∙ (ap (λ (m : Moment). m.asked) same ∙ is)) in
      ap (λ (p : Access × ℕ). is_allowed p.0 p.1 setting moment.world) (sym pair)
      ∙ (ap (λ (m : Moment). is_allowed access name setting m.world) (sym same) ∙ allowed)
  | inr none ↦ absurd none
]

only_quiet : (setting : Setting) (one : Moment) → one.asked ≡ None → AreAllowed setting (one ∷ [])
only_quiet setting one quiet moment there access name asked = elim there [
  | inl same ↦ absurd (false≢true
      (ap is_some (sym quiet ∙ (ap (λ (m : Moment). m.asked) same ∙ asked))))
  | inr none ↦ absurd none
]

pub after_allowed : {A : Type 0} (setting : Setting) (passed more : List Moment) (end : Ending A)
    (left : World) → AreAllowed setting passed → Ends setting more end left
    → Ends setting (passed ++ more) end left
after_allowed setting passed more end left first (inl second) =
    inl (both_allowed setting passed more first second)
after_allowed setting passed more end left first (inr last) = inr (record {
  before = passed ++ last.before;
  moment = last.moment;
  access = last.access;
  name = last.name;
  are = ap (λ rest. passed ++ rest) last.are
      ∙ sym (append_assoc passed last.before (last.moment ∷ []));
  allowed = both_allowed setting passed last.before first last.allowed;
  refused = last.refused;
  fault = last.fault;
  leaves = last.leaves;
})

gives_fails : {A : Type 0} (answer : A) (error : Fault) → gives answer ≡ fails error → ⊥
gives_fails answer error is = cc

returns_fails : {A : Type 0} (value : Value) (home : ℕ) (error : Fault) (end : Ending A)
    → end ≡ returns value home → end ≡ fails error → ⊥
returns_fails value home error end first second = cc

-- an error as the end of another program
abbrev failed_too : {A C : Type 0} → Ending C → Ending A
failed_too (gives answer) = fails fault.Depth
failed_too (returns value home) = fails fault.Depth
failed_too (fails error) = fails error

refused_leaves : (access : Access) (name : ℕ) (setting : Setting) (world : World)
    → is_allowed access name setting world ≡ false
    → accessed access name setting world ≡ with_touches name setting world
unfolding accessed
refused_leaves access name setting world is = ap (λ b. cond b
    (after_access access name (shown name setting world) (with_touches name setting world))
    (with_touches name setting world)) is

module _ {B : Type 0} where
  abbrev pub EndsAt : {A : Type 0} → Run B A → Setting → State B → Type 0
  EndsAt program setting state =
      let after = perform program setting state in
      Ends setting (moments program setting state) after.end after.state.world

  -- this holds wherever the program is performed
  pub record Obeys {A : Type 0} (program : Run B A) : Type 0 where
    pub at : (setting : Setting) (state : State B) → EndsAt program setting state

  -- a program that makes no access, fails with this error, and leaves the objects
  pub record Quits {A : Type 0} (program : Run B A) (error : Fault) : Type 0 where
    pub none : (setting : Setting) (state : State B) → moments program setting state ≡ []
    pub end : (setting : Setting) (state : State B)
        → (perform program setting state).end ≡ fails error
    pub leaves : (setting : Setting) (state : State B)
        → (perform program setting state).state.world ≡ state.world

  onward_ends : {A C : Type 0} (setting : Setting) (passed : List Moment) (end : Ending C)
      (state : State B) (second : C → Run B A) → Ends setting passed end state.world
      → ((answer : C) → end ≡ gives answer → EndsAt (second answer) setting state)
      → Ends setting
      (passed ++ moments_onward end state (λ answer after. moments (second answer) setting after))
      (onward end state (λ answer after. perform (second answer) setting after)).end
      (onward end state (λ answer after. perform (second answer) setting after)).state.world
  onward_ends setting passed (gives answer) state second (inl allowed) next =
      let after = perform (second answer) setting state in
      after_allowed setting passed (moments (second answer) setting state) after.end after.state.world
      allowed (next answer refl)
  onward_ends setting passed (gives answer) state second (inr last) next =
      absurd (gives_fails answer (access_fault last.access last.name) last.fault)
  onward_ends setting passed (returns value home) state second (inl allowed) next =
      inl (both_allowed setting passed [] allowed (none_passed setting))
  onward_ends setting passed (returns value home) state second (inr last) next =
      absurd (returns_fails value home (access_fault last.access last.name)
      (returns value home) refl last.fault)
  onward_ends setting passed (fails error) state second (inl allowed) next =
      inl (both_allowed setting passed [] allowed (none_passed setting))
  onward_ends setting passed (fails error) state second (inr last) next = inr (record {
    before = last.before;
    moment = last.moment;
    access = last.access;
    name = last.name;
    are = append-nil passed ∙ last.are;
    allowed = last.allowed;
    refused = last.refused;
    fault = ap failed_too last.fault;
    leaves = last.leaves;
  })

  -- one program after another, at one state
  pub then_at : {A C : Type 0} (first : Run B C) (second : C → Run B A) (setting : Setting)
      (state : State B) → EndsAt first setting state
      → ((answer : C) → (perform first setting state).end ≡ gives answer
      → EndsAt (second answer) setting (perform first setting state).state)
      → EndsAt (and_then first second) setting state
  then_at first second setting state here next = onward_ends setting (moments first setting state)
      (perform first setting state).end (perform first setting state).state second here next

  -- ---- programs of each kind

  pub gives_so : {A : Type 0} {answer : A} → Obeys (give answer)
  gives_so = record { at = λ setting state. inl (none_passed setting) }

  pub fails_so : {A : Type 0} {error : Fault} → Obeys {A = A} (fail error)
  fails_so = record { at = λ setting state. inl (none_passed setting) }

  pub returns_so : {A : Type 0} {value : Value} {home : ℕ} → Obeys {A = A} (return_to value home)
  returns_so = record { at = λ setting state. inl (none_passed setting) }

  pub becomes : {local : Local B} → Obeys (become local)
  becomes = record { at = λ setting state. inl (none_passed setting) }

  pub sees : {A : Type 0} {see : Budget → Local B → Run B A}
      → ((budget : Budget) (local : Local B) → Obeys (see budget local)) → Obeys (seeing see)
  sees each = record { at = λ setting state. (each state.budget state.local).at setting state }

  pub then : {A C : Type 0} {first : Run B C} {second : C → Run B A} → Obeys first
      → ((answer : C) → Obeys (second answer)) → Obeys (and_then first second)
  then {first = first} {second = second} here next = record {
    at = λ setting state. then_at first second setting state (here.at setting state)
        (λ answer is. (next answer).at setting (perform first setting state).state);
  }

  -- however the first ends the second goes on; after an error it has to quit with it
  ended : {A C : Type 0} (first : Run B C) (second : Ending C → Run B A) → Obeys first
      → ((end : Ending C) → Obeys (second end))
      → ((error : Fault) → Quits (second (fails error)) error)
      → (setting : Setting) (state : State B) → Ends setting (moments first setting state)
      (perform first setting state).end (perform first setting state).state.world
      → EndsAt (ending first second) setting state
  ended {A = A} {C = C} first second here next quits setting state (inl allowed) =
      let before = perform first setting state in
      let after = perform (second before.end) setting before.state in
      after_allowed setting (moments first setting state) (moments (second before.end) setting before.state)
      after.end after.state.world allowed ((next before.end).at setting before.state)
  ended {A = A} {C = C} first second here next quits setting state (inr last) =
      let before = perform first setting state in
      let passed = moments first setting state in
      let error = access_fault last.access last.name in
      inr (record {
        before = last.before;
        moment = last.moment;
        access = last.access;
        name = last.name;
        are = ap (λ (end : Ending C). passed ++ moments (second end) setting before.state) last.fault
            ∙ (ap (λ more. passed ++ more) ((quits error).none setting before.state)
            ∙ (append-nil passed ∙ last.are));
        allowed = last.allowed;
        refused = last.refused;
        fault = ap (λ (end : Ending C). (perform (second end) setting before.state).end) last.fault
            ∙ (quits error).end setting before.state;
        leaves = ap (λ (end : Ending C). (perform (second end) setting before.state).state.world)
            last.fault
            ∙ ((quits error).leaves setting before.state ∙ last.leaves);
      })

  pub ends_so : {A C : Type 0} {first : Run B C} {second : Ending C → Run B A} → Obeys first
      → ((end : Ending C) → Obeys (second end))
      → ((error : Fault) → Quits (second (fails error)) error) → Obeys (ending first second)
  ends_so {first = first} {second = second} here next quits = record {
    at = λ setting state. ended first second here next quits setting state (here.at setting state);
  }

  -- ---- atoms

  asks_by : (allowed : Bool) (access : Access) (name : ℕ) (setting : Setting) (state : State B)
      → is_allowed access name setting state.world ≡ allowed
      → EndsAt (atom (Ask access name)) setting state
  asks_by true access name setting state is = inl (only_allowed setting record {
    world = state.world;
    asked = Some (access, name);
    after = (done (Ask access name) setting state.world state.budget).world;
  } access name refl is)
  asks_by false access name setting state is = inr (record {
    before = [];
    moment = record {
      world = state.world;
      asked = Some (access, name);
      after = (done (Ask access name) setting state.world state.budget).world;
    };
    access = access;
    name = name;
    are = refl;
    allowed = none_passed setting;
    refused = record { asked = refl; refused = is };
    fault = ap (λ b. end_of (access_answer b access name (shown name setting state.world))) is;
    leaves = refused_leaves access name setting state.world is;
  })

  pub asks : {access : Access} {name : ℕ} → Obeys (atom (Ask access name))
  asks {access = access} {name = name} = record {
    at = λ setting state. asks_by (is_allowed access name setting state.world) access name setting state
        refl;
  }

  quiet : {A : Type 0} (one : Atom A) → asked_by one ≡ None → Obeys (atom one)
  quiet one none = record {
    at = λ setting state. inl (only_quiet setting record {
      world = state.world;
      asked = asked_by one;
      after = (done one setting state.world state.budget).world;
    } none);
  }

  pub owns : Obeys (atom Own)
  owns = quiet Own refl

  pub kinds : {name : ℕ} → Obeys (atom (Kind name))
  kinds {name = name} = quiet (Kind name) refl

  pub mades : {name : ℕ} → Obeys (atom (Made name))
  mades {name = name} = quiet (Made name) refl

  pub whos : Obeys (atom Who)
  whos = quiet Who refl

  pub puts : {name : ℕ} {body : Body} → Obeys (atom (Put name body))
  puts {name = name} {body = body} = quiet (Put name body) refl

  pub moves : {name segment : ℕ} → Obeys (atom (Move name segment))
  moves {name = name} {segment = segment} = quiet (Move name segment) refl

  pub counts_names : {count : ℕ} → Obeys (atom (Names count))
  counts_names {count = count} = quiet (Names count) refl

  pub makes : {objects_at : ℕ → List Contents} → Obeys (atom (Make objects_at))
  makes {objects_at = objects_at} = quiet (Make objects_at) refl

  pub ticks : Obeys (atom Tick)
  ticks = quiet Tick refl

  pub takes_room : {slots : ℕ} → Obeys (atom (Room slots))
  takes_room {slots = slots} = quiet (Room slots) refl

  pub shows : {text : Text} → Obeys (atom (Show text))
  shows {text = text} = quiet (Show text) refl

  -- ---- what programs share

  pub chooses : {A : Type 0} (test : Bool) {first second : Run B A} → Obeys first → Obeys second
      → Obeys (choose test first second)
  chooses true here there = here
  chooses false here there = there

  pub needs : {A : Type 0} (error : Fault) (found : Option A) → Obeys (need error found)
  needs error None = fails_so
  needs error (Some answer) = gives_so

  pub checks : (error : Fault) (test : Bool) → Obeys (check error test)
  checks error true = gives_so
  checks error false = fails_so

  rest_so : (superclass : Option ℕ) (above : ℕ → Run B (List (ℕ × ClassPart)))
      → ((name : ℕ) → Obeys (above name)) → Obeys (rest_above superclass above)
  rest_so None above each = gives_so
  rest_so (Some superclass) above each = each superclass

  line_so : (name : ℕ) (part : Option ClassPart) (above : ℕ → Run B (List (ℕ × ClassPart)))
      → ((other : ℕ) → Obeys (above other)) → Obeys (line_of name part above)
  line_so name None above each = gives_so
  line_so name (Some part) above each = then (rest_so part.superclass above each) (λ rest. gives_so)

  classes_so : (limit name : ℕ) → Obeys (classes_within limit name)
  classes_so zero name = gives_so
  classes_so (suc more) name = then kinds (λ found.
      line_so name (part_of found) (classes_within more) (classes_so more))

  pub goes_up : (name : ℕ) → Obeys (classes_above name)
  unfolding classes_above
  goes_up name = classes_so chain_limit name

  pub replaces : (growth name : ℕ) (object : Contents) (new : Body)
      → Obeys (replace_body growth name object new)
  unfolding replace_body
  replaces growth name object new = then (checks _ _) (λ small. then takes_room (λ room. puts))
