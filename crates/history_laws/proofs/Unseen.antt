-- A program that is performed at another place, which differs only in bodies to which no access was
-- made that was allowed, does the same.
use Rattle.std.proofs.Common.{◌≡◌, ◌∙◌, refl, sym, ap, ap₂, inl, ℕ, ◌-◌, Bool, true, false, ◌&&◌, cond, Option, Some, None, List, [], ◌∷◌, ◌++◌, option_map}
use Rattle.std.proofs.Math.Path.{fun_ext}
use Rattle.std.specs.FinMap.{get}
use Rattle.std.specs.Option.{option_or, option_and_then}
use Rattle.std.proofs.lemmas.Option.{same_Some}
use Rattle.gem_meaning.specs.texts.Bytes.{Bytes as Text}
use Rattle.gem_meaning.specs.seg_rights.declared.right.Right.{Right}
use Rattle.gem_meaning.specs.seg_rights.declared.rights.Rights.{Rights}
use Rattle.gem_meaning.specs.gem_object.Kinds.{is_shared}
use Rattle.gem_meaning.specs.gem_object.declared.body.Body.{Body}
use Rattle.gem_meaning.specs.gem_object.declared.body.Body.TheVariants.{Plain, Bytes, Dict, Class, Segment, User, Counter, Bag, RcDict, Queue}
use Rattle.gem_meaning.specs.gem_update.Update.{updated}
use Rattle.gem_meaning.specs.gem_update.declared.update.Update.{Update}
use Rattle.gem_meaning.specs.gem_image.Image.{Image, Contents, Objects, objects_in}
use Rattle.gem_meaning.specs.gem_image.Rights.{rights_of, groups_of, right_in, right_by, right_on_segment, right_on_body, right_on_object}
use Rattle.gem_meaning.specs.gem_world.World.{Setting, World, untouched, name_of, as_of, before_changes, shown, shown_objects, is_made, are_shared, is_private, with_name, touch}
use Rattle.gem_meaning.specs.gem_world.Changes.{with_body, in_segment, put, make, note}
use Rattle.gem_meaning.specs.gem_world.Access.{Access, a_write, allows, is_allowed, touches_of, with_touches, after_allowed, accessed}
use Rattle.gem_meaning.specs.object_programs.Budget.{Budget}
use Rattle.gem_meaning.specs.object_programs.Fixed.{BodyKind, PlainKind, BytesKind, DictKind, ClassKind, SegmentKind, UserKind, CounterKind, BagKind, RcDictKind, QueueKind, body_kind, fixed_of, fixed_by, same_fixed}
use Rattle.gem_meaning.specs.object_programs.Guard.{Parts, fits, asked_names, with_part, parts_with, may_change, may_replace, with_parts, all_fit, parts_with_new, may_make}
use Rattle.gem_meaning.specs.object_programs.Atom.{Atom, Ask, Own, Kind, Made, Who, Put, Move, Note, Names, Make, Tick, Room, Show, says, refuses, done, MakeCheck, too_large, no_name, no_space, no_fault, make_check, objects_cost, with_new, asked_by_all, made_where, made_by, touch_missing, noted, access_answer, replaced_where, edited_at, edited, updated_by, updated_at, updated_where, after_update}
use Rattle.gem_meaning.specs.object_programs.declared.fault.Fault.TheVariants as fault
use Rattle.gem_meaning.specs.object_programs.Run.{Run, give, fail, return_to, atom, seeing, become, and_then, ending, Ending, gives, returns, fails, State, outcome_of, onward, perform}
use Rattle.gem_meaning.proofs.object_programs_lemmas.Worlds.{shown_asked}
use Rattle.gem_meaning.proofs.commit_check_lemmas.Members.{IsOneOf, contained, in_first, in_second}
use Rattle.gem_meaning.specs.gem_language.Commands.{Command, command_reply}
use Rattle.gem_meaning.specs.gem_language.Transaction.{begin_command, command_outcome, said_of, said_before, Transaction, transaction}
use Rattle.gem_meaning.specs.gem_record.declared.record.Entry.{Entry}
use Rattle.gem_meaning.specs.gem_record.Record.{record_of}
use Rattle.gem_meaning.specs.Commands.{object_commands}
use Rattle.gem_meaning.specs.Opened.{Opened, entry_commands, entry_setting, run_at}
use Rattle.history_laws.specs.Accesses.{Moment, asked_by, moments_onward, moments, command_moments, moments_at, IsMade, OpenPart, open_part, HaveSameParts, DifferUnseen}

-- ---- open parts

-- the same open part
abbrev Alike : Option Contents → Option Contents → Type 0
Alike here there = option_map open_part there ≡ option_map open_part here

shared_kind : BodyKind → Bool
shared_kind CounterKind = true
shared_kind BagKind = true
shared_kind RcDictKind = true
shared_kind QueueKind = true
shared_kind PlainKind = false
shared_kind BytesKind = false
shared_kind DictKind = false
shared_kind ClassKind = false
shared_kind SegmentKind = false
shared_kind UserKind = false

by_kind : (body : Body) → is_shared body ≡ shared_kind (body_kind body)
unfolding shared_kind
by_kind (Plain values) = refl
by_kind (Bytes bytes) = refl
by_kind (Dict pairs) = refl
by_kind (Class class) = refl
by_kind (Segment rights) = refl
by_kind (User user) = refl
by_kind (Counter counter) = refl
by_kind (Bag pairs) = refl
by_kind (RcDict pairs) = refl
by_kind (Queue queue) = refl

open_same : (object found : Contents) → Alike (Some object) (Some found)
    → open_part found ≡ open_part object
open_same object found same = same_Some (open_part found) (open_part object) same

shared_same : (object found : Contents) → Alike (Some object) (Some found)
    → is_shared found.body ≡ is_shared object.body
shared_same object found same = by_kind found.body
    ∙ (ap (λ (part : OpenPart). shared_kind part.fixed.kind) (open_same object found same)
    ∙ sym (by_kind object.body))

chosen : (shared : Bool) (viewed seen object found : Contents) → Alike (Some object) (Some found)
    → Alike (Some viewed) (Some seen)
    → Alike (Some (cond shared viewed object)) (Some (cond shared seen found))
chosen true viewed seen object found same also = also
chosen false viewed seen object found same also = same

before_alike : (here there viewed seen : Option Contents) → Alike here there → Alike viewed seen
    → Alike (as_of here viewed) (as_of there seen)
before_alike None None viewed seen same also = refl
before_alike None (Some found) viewed seen same also = cc
before_alike (Some object) None viewed seen same also = cc
before_alike (Some object) (Some found) None None same also = same
before_alike (Some object) (Some found) None (Some seen) same also = cc
before_alike (Some object) (Some found) (Some viewed) None same also = cc
before_alike (Some object) (Some found) (Some viewed) (Some seen) same also =
    ap (λ shared. option_map open_part (Some (cond shared seen found))) (shared_same object found same)
    ∙ chosen (is_shared object.body) viewed seen object found same also

both_shared : (here there viewed seen : Option Contents) → Alike here there → Alike viewed seen
    → are_shared there seen ≡ are_shared here viewed
both_shared None None viewed seen same also = refl
both_shared None (Some found) viewed seen same also = cc
both_shared (Some object) None viewed seen same also = cc
both_shared (Some object) (Some found) None None same also = refl
both_shared (Some object) (Some found) None (Some seen) same also = cc
both_shared (Some object) (Some found) (Some viewed) None same also = cc
both_shared (Some object) (Some found) (Some viewed) (Some seen) same also = shared_same object found same

seen_alike : (written here there : Option Contents) → Alike here there
    → Alike (option_or written here) (option_or written there)
seen_alike None here there same = same
seen_alike (Some object) here there same = refl

-- what an open part tells
fixed_alike : (here there : Option Contents) → Alike here there
    → option_map fixed_of there ≡ option_map fixed_of here
fixed_alike None None same = refl
fixed_alike None (Some found) same = cc
fixed_alike (Some object) None same = cc
fixed_alike (Some object) (Some found) same =
    ap (λ (part : OpenPart). Some part.fixed) (open_same object found same)

rights_alike : (here there : Option Contents) → Alike here there
    → option_and_then (λ (object : Contents). rights_of object.body) there
    ≡ option_and_then (λ (object : Contents). rights_of object.body) here
rights_alike None None same = refl
rights_alike None (Some found) same = cc
rights_alike (Some object) None same = cc
rights_alike (Some object) (Some found) same =
    ap (λ (part : OpenPart). part.rights) (open_same object found same)

-- a right by what a body gives, where it is a segment's, and by the right in its segment
right_given : Option (Rights Text) → ℕ → Right → Right
right_given None user within = within
right_given (Some rights) user within = right_on_segment rights user

right_as_given : (objects : Objects) (user segment : ℕ) (body : Body)
    → right_on_body objects user segment body
    ≡ right_given (rights_of body) user (right_in objects user segment)
unfolding right_given
right_as_given objects user segment (Plain values) = refl
right_as_given objects user segment (Bytes bytes) = refl
right_as_given objects user segment (Dict pairs) = refl
right_as_given objects user segment (Class class) = refl
right_as_given objects user segment (Segment rights) = refl
right_as_given objects user segment (User of) = refl
right_as_given objects user segment (Counter counter) = refl
right_as_given objects user segment (Bag pairs) = refl
right_as_given objects user segment (RcDict pairs) = refl
right_as_given objects user segment (Queue queue) = refl

module _ (setting : Setting) (place view : Image) (parts : HaveSameParts setting.place place)
    (view_parts : HaveSameParts setting.view view)
    (own : objects_in place setting.user ≡ objects_in setting.place setting.user)
    (view_own : objects_in view setting.user ≡ objects_in setting.view setting.user) where
  abbrev other : Setting
  other = record setting { place = place; view = view }

  -- ---- what is seen

  shown_alike : (name : ℕ) (world : World) → Alike (shown name setting world) (shown name other world)
  shown_alike name world = seen_alike (get world.changes name) (before_changes name setting)
      (before_changes name other) (before_alike (objects_in setting.place name) (objects_in place name)
      (objects_in setting.view name) (objects_in view name) (parts name) (view_parts name))

  -- both images have the same at the name
  abbrev SameAt : ℕ → Type 0
  SameAt name = (objects_in place name ≡ objects_in setting.place name)
      × (objects_in view name ≡ objects_in setting.view name)

  shown_same : (name : ℕ) (world : World) → SameAt name → shown name other world ≡ shown name setting world
  shown_same name world same =
      ap₂ (λ at_place at_view. option_or (get world.changes name) (as_of at_place at_view)) same.0 same.1

  parts_same : (world : World) → fixed_by other world ≡ fixed_by setting world
  parts_same world = fun_ext (λ name.
      fixed_alike (shown name setting world) (shown name other world) (shown_alike name world))

  private_same : (name : ℕ) (world : World) → is_private name other world ≡ is_private name setting world
  unfolding is_private is_made
  private_same name world = ap (cond (is_made name setting world) true)
      (both_shared (objects_in setting.place name) (objects_in place name) (objects_in setting.view name)
      (objects_in view name) (parts name) (view_parts name))

  touch_same : (name : ℕ) (world : World) → touch name other world ≡ touch name setting world
  unfolding touch
  touch_same name world =
      ap (λ b. record world { touched = cond b world.touched (with_name world.touched name) })
      (private_same name world)

  touches_same : (name : ℕ) (here there : Option Contents) (world : World) → Alike here there
      → touches_of name there other world ≡ touches_of name here setting world
  touches_same name None None world same = touch_same name world
  touches_same name None (Some found) world same = cc
  touches_same name (Some object) None world same = cc
  touches_same name (Some object) (Some found) world same =
      ap (λ (part : OpenPart). touch setting.user other (touch part.segment other (touch name other world)))
      (open_same object found same)
      ∙ (ap (λ after. touch setting.user other (touch object.segment other after)) (touch_same name world)
      ∙ (ap (touch setting.user other) (touch_same object.segment (touch name setting world))
      ∙ touch_same setting.user (touch object.segment setting (touch name setting world))))

  asked_same : (name : ℕ) (world : World) → with_touches name other world ≡ with_touches name setting world
  unfolding with_touches
  asked_same name world = touches_same name (shown name setting world) (shown name other world) world
      (shown_alike name world)

  -- ---- rights

  right_in_same : (segment : ℕ) (world : World)
      → right_in (shown_objects other world) setting.user segment
      ≡ right_in (shown_objects setting world) setting.user segment
  right_in_same segment world = ap₂ (λ rights profile. right_by rights setting.user
      (option_and_then (λ (object : Contents). groups_of object.body) profile))
      (rights_alike (shown segment setting world) (shown segment other world) (shown_alike segment world))
      (shown_same setting.user world (own, view_own))

  right_same : (here there : Option Contents) (world : World) → Alike here there
      → right_on_object (shown_objects other world) setting.user there
      ≡ right_on_object (shown_objects setting world) setting.user here
  right_same None None world same = refl
  right_same None (Some found) world same = cc
  right_same (Some object) None world same = cc
  right_same (Some object) (Some found) world same =
      right_as_given (shown_objects other world) setting.user found.segment found.body
      ∙ (ap (λ (part : OpenPart). right_given part.rights setting.user
      (right_in (shown_objects other world) setting.user part.segment)) (open_same object found same)
      ∙ (ap (right_given (rights_of object.body) setting.user) (right_in_same object.segment world)
      ∙ sym (right_as_given (shown_objects setting world) setting.user object.segment object.body)))

  allowed_same : (access : Access) (name : ℕ) (world : World)
      → is_allowed access name other world ≡ is_allowed access name setting world
  unfolding is_allowed
  allowed_same access name world = ap (allows access)
      (right_same (shown name setting world) (shown name other world) world (shown_alike name world))

  -- ---- accesses

  answer_same : (allowed : Bool) (access : Access) (name : ℕ) (here there : Option Contents)
      → (allowed ≡ true → there ≡ here)
      → access_answer allowed access name there ≡ access_answer allowed access name here
  answer_same true access name here there same = ap (access_answer true access name) (same refl)
  answer_same false access name here there same = refl

  left_same : (allowed : Bool) (access : Access) (name : ℕ) (here there : Option Contents) (now : World)
      → (allowed ≡ true → there ≡ here)
      → cond allowed (after_allowed access name there now) now
      ≡ cond allowed (after_allowed access name here now) now
  left_same true access name here there now same =
      ap (λ found. after_allowed access name found now) (same refl)
  left_same false access name here there now same = refl

  -- where the access is allowed the same is seen
  abbrev Knows : Access → ℕ → World → Type 0
  Knows access name world = is_allowed access name setting world ≡ true
      → shown name other world ≡ shown name setting world

  accessed_same : (access : Access) (name : ℕ) (world : World) → Knows access name world
      → accessed access name other world ≡ accessed access name setting world
  unfolding accessed
  accessed_same access name world knows =
      ap₂ (λ b now. cond b (after_allowed access name (shown name other world) now) now)
      (allowed_same access name world) (asked_same name world)
      ∙ left_same (is_allowed access name setting world) access name (shown name setting world)
      (shown name other world) (with_touches name setting world) knows

  -- ---- changes

  with_same : (name : ℕ) (object : Contents) (world : World)
      → parts_with name object other world ≡ parts_with name object setting world
  with_same name object world = ap (with_part name (fixed_of object)) (parts_same world)

  noted_same : (name : ℕ) (update : Option Update) (world : World)
      → noted name update other world ≡ noted name update setting world
  unfolding note is_made
  noted_same name None world = refl
  noted_same name (Some update) world = refl

  may_same : (name : ℕ) (old new : Contents) (world : World)
      → may_replace name old new other world ≡ may_replace name old new setting world
  unfolding may_replace
  may_same name old new world =
      ap (λ known.
      same_fixed (fixed_of old) (fixed_of new) && fits known name new) (with_same name new world)

  change_same : (name : ℕ) (old : Contents) (world : World)
      → may_change name old other world ≡ may_change name old setting world
  unfolding may_change is_made
  change_same name old world = refl

  where_same : (may : Bool) (name : ℕ) (update : Option Update) (new : Contents) (world : World)
      → replaced_where may name update new other world ≡ replaced_where may name update new setting world
  where_same true name update new world = ap (put name new) (noted_same name update world)
  where_same false name update new world =
      ap (λ known. touch_missing known (asked_names known new) world) (with_same name new world)

  edited_same_at : (name : ℕ) (edit : Contents → Contents) (found : Option Contents) (world : World)
      → edited_at name edit found other world ≡ edited_at name edit found setting world
  edited_same_at name edit None world = refl
  edited_same_at name edit (Some old) world =
      ap₂ (λ own_may may. replaced_where (own_may && may) name None (edit old) other world)
      (change_same name old world) (may_same name old (edit old) world)
      ∙ where_same (may_change name old setting world && may_replace name old (edit old) setting world)
      name None (edit old) world

  edited_same : (name : ℕ) (edit : Contents → Contents) (world : World)
      → edited name edit other world ≡ edited name edit setting world
  unfolding edited
  edited_same name edit world = edited_same_at name edit (get world.changes name) world

  updated_same_by : (name : ℕ) (update : Update) (old : Contents) (found : Option Body) (world : World)
      → updated_by name update old found other world ≡ updated_by name update old found setting world
  updated_same_by name update old None world = refl
  updated_same_by name update old (Some body) world =
      ap (λ may. replaced_where may name (Some update) (with_body body old) other world)
      (may_same name old (with_body body old) world)
      ∙ where_same (may_replace name old (with_body body old) setting world) name (Some update)
      (with_body body old) world

  updated_same_at : (name : ℕ) (update : Update) (found : Option Contents) (world : World)
      → updated_at name update found other world ≡ updated_at name update found setting world
  updated_same_at name update None world = refl
  updated_same_at name update (Some old) world =
      updated_same_by name update old (updated update old.body) world

  updated_same_where : (allowed : Bool) (name : ℕ) (update : Update) (world : World)
      → (allowed ≡ true → shown name other world ≡ shown name setting world)
      → updated_where allowed name update other world ≡ updated_where allowed name update setting world
  updated_same_where false name update world same = refl
  updated_same_where true name update world same =
      ap (λ found. updated_at name update found other world) (same refl)
      ∙ updated_same_at name update (shown name setting world) world

  update_same : (name : ℕ) (update : Update) (world : World) → Knows a_write name world
      → after_update name update other world ≡ after_update name update setting world
  unfolding after_update
  update_same name update world knows =
      let now = with_touches name setting world in
      ap₂ (λ b after. updated_where b name update other after) (allowed_same a_write name world)
      (asked_same name world)
      ∙ updated_same_where (is_allowed a_write name setting world) name update now (λ allowed.
      let seen : shown name other now ≡ shown name setting now
      = cc (
        knows allowed,
        shown_asked other setting name name world,
        shown_asked setting setting name name world,
      ) in
      seen)

  kind_same : (name : ℕ) (world : World)
      → touch_missing (fixed_by other world) (name ∷ []) world
      ≡ touch_missing (fixed_by setting world) (name ∷ []) world
  kind_same name world = ap (λ known. touch_missing known (name ∷ []) world) (parts_same world)

  make_same : (object : Contents) (world : World) → make object other world ≡ make object setting world
  unfolding make
  make_same object world = refl

  new_same : (objects : List Contents) (world : World)
      → with_new objects other world ≡ with_new objects setting world
  new_same [] world = refl
  new_same (object ∷ rest) world =
      ap (with_new rest other) (make_same object world) ∙ new_same rest (make object setting world)

  new_parts_same : (objects : List Contents) (world : World)
      → parts_with_new objects other world ≡ parts_with_new objects setting world
  new_parts_same objects world = ap (with_parts (name_of setting world.next) objects) (parts_same world)

  may_make_same : (objects : List Contents) (world : World)
      → may_make objects other world ≡ may_make objects setting world
  unfolding may_make
  may_make_same objects world =
      ap (λ known. all_fit known (name_of setting world.next) objects) (new_parts_same objects world)

  fit_same : (fit : Bool) (objects : List Contents) (world : World) (budget : Budget)
      → made_where fit objects other world budget ≡ made_where fit objects setting world budget
  fit_same true objects world budget = ap (λ after. record {
    answer = says (name_of setting world.next);
    world = after;
    budget = record budget { slots = budget.slots - objects_cost objects };
  }) (new_same objects world)
  fit_same false objects world budget = ap (λ known. record {
    answer = refuses fault.ObjectTooLarge;
    world = touch_missing known (asked_by_all known objects) world;
    budget = budget;
  }) (new_parts_same objects world)

  made_same : (found : MakeCheck) (objects : List Contents) (world : World) (budget : Budget)
      → made_by found objects other world budget ≡ made_by found objects setting world budget
  made_same too_large objects world budget = refl
  made_same no_name objects world budget = refl
  made_same no_space objects world budget = refl
  made_same no_fault objects world budget =
      ap (λ fit. made_where fit objects other world budget) (may_make_same objects world)
      ∙ fit_same (may_make objects setting world) objects world budget

  is_made_same : (name : ℕ) (world : World) → is_made name other world ≡ is_made name setting world
  unfolding is_made
  is_made_same name world = refl

  -- ---- atoms

  -- where the access of an atom is allowed, both images have the same there
  abbrev Tells : Option (Access × ℕ) → World → Type 0
  Tells asked world = (access : Access) (name : ℕ) → asked ≡ Some (access, name)
      → is_allowed access name setting world ≡ true → SameAt name

  step_same : {A : Type 0} (one : Atom A) (world : World) (budget : Budget) → Tells (asked_by one) world
      → done one other world budget ≡ done one setting world budget
  step_same (Ask access name) world budget tells =
      let knows : Knows access name world
      = λ allowed. shown_same name world (tells access name refl allowed) in
      ap₂ (λ b after. record {
        answer = access_answer b access name (shown name other world);
        world = after;
        budget = budget;
      }) (allowed_same access name world) (accessed_same access name world knows)
      ∙ ap (λ answer. record {
        answer = answer;
        world = accessed access name setting world;
        budget = budget;
      }) (answer_same (is_allowed access name setting world) access name (shown name setting world)
      (shown name other world) knows)
  step_same Own world budget tells =
      ap₂ (λ found after. record { answer = says found; world = after; budget = budget })
      (shown_same setting.user world (own, view_own)) (touch_same setting.user world)
  step_same (Kind name) world budget tells =
      ap₂ (λ (known : Parts) after. record { answer = says (known name); world = after; budget = budget })
      (parts_same world) (kind_same name world)
  step_same (Made name) world budget tells =
      ap (λ is. record { answer = says is; world = world; budget = budget }) (is_made_same name world)
  step_same Who world budget tells = refl
  step_same (Put name body) world budget tells =
      ap (λ after. record { answer = says tt; world = after; budget = budget })
      (edited_same name (with_body body) world)
  step_same (Move name segment) world budget tells =
      ap (λ after. record { answer = says tt; world = after; budget = budget })
      (edited_same name (in_segment segment) world)
  step_same (Note name update) world budget tells =
      ap (λ after. record { answer = says tt; world = after; budget = budget })
      (update_same name update world
      (λ allowed. shown_same name world (tells a_write name refl allowed)))
  step_same (Names count) world budget tells = refl
  step_same (Make objects_at) world budget tells =
      let objects = objects_at (name_of setting world.next) in
      made_same (make_check objects world budget) objects world budget
  step_same Tick world budget tells = refl
  step_same (Room slots) world budget tells = refl
  step_same (Show text) world budget tells = refl

  -- ---- programs

  -- the same of all moments of a list
  abbrev TellAll : List Moment → Type 0
  TellAll passed = (moment : Moment) → IsOneOf moment passed → Tells moment.asked moment.world

  first_tell : (first rest : List Moment) → TellAll (first ++ rest) → TellAll first
  first_tell first rest tell moment there = tell moment (in_first moment first rest there)

  rest_tell : (first rest : List Moment) → TellAll (first ++ rest) → TellAll rest
  rest_tell first rest tell moment there = tell moment (in_second moment first rest there)

  module _ {B : Type 0} where
    onward_same : {A C : Type 0} (end : Ending C) (state : State B) (second : C → Run B A)
        → ((answer : C) (after : State B) → TellAll (moments (second answer) setting after)
        → perform (second answer) other after ≡ perform (second answer) setting after)
        → TellAll (moments_onward end state (λ answer after. moments (second answer) setting after))
        → onward end state (λ answer after. perform (second answer) other after)
        ≡ onward end state (λ answer after. perform (second answer) setting after)
    onward_same (gives answer) state second next tell = next answer state tell
    onward_same (returns value home) state second next tell = refl
    onward_same (fails fault) state second next tell = refl

    performed_same : {A : Type 0} (program : Run B A) (state : State B)
        → TellAll (moments program setting state)
        → perform program other state ≡ perform program setting state
    performed_same (give answer) state tell = refl
    performed_same (fail fault) state tell = refl
    performed_same (return_to value home) state tell = refl
    performed_same (atom one) state tell = ap (λ after. outcome_of after state.local)
        (step_same one state.world state.budget (tell record {
          world = state.world;
          asked = asked_by one;
          after = (done one setting state.world state.budget).world;
        } (inl refl)))
    performed_same (seeing see) state tell = performed_same (see state.budget state.local) state tell
    performed_same (become local) state tell = refl
    performed_same (and_then first second) state tell =
        let before = perform first setting state in
        let passed = moments first setting state in
        let rest = moments_onward before.end before.state
        (λ answer after. moments (second answer) setting after) in
        ap (λ done. onward done.end done.state (λ answer after. perform (second answer) other after))
        (performed_same first state (first_tell passed rest tell))
        ∙ onward_same before.end before.state second
        (λ answer after. performed_same (second answer) after) (rest_tell passed rest tell)
    performed_same (ending first second) state tell =
        let before = perform first setting state in
        let passed = moments first setting state in
        let rest = moments (second before.end) setting before.state in
        ap (λ done. perform (second done.end) other done.state)
        (performed_same first state (first_tell passed rest tell))
        ∙ performed_same (second before.end) before.state (rest_tell passed rest tell)

    moments_onward_same : {A C : Type 0} (end : Ending C) (state : State B) (second : C → Run B A)
        → ((answer : C) (after : State B) → TellAll (moments (second answer) setting after)
        → moments (second answer) other after ≡ moments (second answer) setting after)
        → TellAll (moments_onward end state (λ answer after. moments (second answer) setting after))
        → moments_onward end state (λ answer after. moments (second answer) other after)
        ≡ moments_onward end state (λ answer after. moments (second answer) setting after)
    moments_onward_same (gives answer) state second next tell = next answer state tell
    moments_onward_same (returns value home) state second next tell = refl
    moments_onward_same (fails fault) state second next tell = refl

    moments_same : {A : Type 0} (program : Run B A) (state : State B)
        → TellAll (moments program setting state)
        → moments program other state ≡ moments program setting state
    moments_same (give answer) state tell = refl
    moments_same (fail fault) state tell = refl
    moments_same (return_to value home) state tell = refl
    moments_same (atom one) state tell = ap (λ done. record {
      world = state.world;
      asked = asked_by one;
      after = done.world;
    } ∷ []) (step_same one state.world state.budget (tell record {
      world = state.world;
      asked = asked_by one;
      after = (done one setting state.world state.budget).world;
    } (inl refl)))
    moments_same (seeing see) state tell = moments_same (see state.budget state.local) state tell
    moments_same (become local) state tell = refl
    moments_same (and_then first second) state tell =
        let before = perform first setting state in
        let passed = moments first setting state in
        let rest = moments_onward before.end before.state
        (λ answer after. moments (second answer) setting after) in
        let front = first_tell passed rest tell in
        ap₂ (λ came done. came ++ moments_onward done.end done.state
        (λ answer after. moments (second answer) other after))
        (moments_same first state front) (performed_same first state front)
        ∙ ap (λ more. passed ++ more) (moments_onward_same before.end before.state second
        (λ answer after. moments_same (second answer) after) (rest_tell passed rest tell))
    moments_same (ending first second) state tell =
        let before = perform first setting state in
        let passed = moments first setting state in
        let rest = moments (second before.end) setting before.state in
        let front = first_tell passed rest tell in
        ap₂ (λ came done. came ++ moments (second done.end) other done.state)
        (moments_same first state front) (performed_same first state front)
        ∙ ap (λ more. passed ++ more)
        (moments_same (second before.end) before.state (rest_tell passed rest tell))

  -- ---- commands

  pub transaction_same : (commands : List Command) (world : World)
      → TellAll (command_moments commands setting world)
      → transaction commands other world ≡ transaction commands setting world
  transaction_same [] world tell = refl
  transaction_same (command ∷ rest) world tell =
      let outcome = command_outcome command setting world in
      let passed = moments (command_reply command) setting (begin_command world) in
      let more = command_moments rest setting outcome.state.world in
      ap (λ done. said_before (said_of done) (transaction rest other done.state.world))
      (performed_same (command_reply command) (begin_command world) (first_tell passed more tell))
      ∙ ap (said_before (said_of outcome))
      (transaction_same rest outcome.state.world (rest_tell passed more tell))

  pub all_moments_same : (commands : List Command) (world : World)
      → TellAll (command_moments commands setting world)
      → command_moments commands other world ≡ command_moments commands setting world
  all_moments_same [] world tell = refl
  all_moments_same (command ∷ rest) world tell =
      let outcome = command_outcome command setting world in
      let passed = moments (command_reply command) setting (begin_command world) in
      let more = command_moments rest setting outcome.state.world in
      let front = first_tell passed more tell in
      ap₂ (λ came done. came ++ command_moments rest other done.state.world)
      (moments_same (command_reply command) (begin_command world) front)
      (performed_same (command_reply command) (begin_command world) front)
      ∙ ap (λ came. passed ++ came)
      (all_moments_same rest outcome.state.world (rest_tell passed more tell))

-- ---- transactions

module _ (o : Opened) (e : Entry) (place view other_place other_view : Image)
    (differ : DifferUnseen other_place other_view (entry_setting o e place view)
    (moments_at o e place view))
  where
    abbrev setting : Setting
    setting = entry_setting o e place view

    abbrev commands : List Command
    commands = object_commands (entry_commands o.script e)

    tell : TellAll setting other_place other_view differ.parts differ.view_parts differ.own differ.view_own
        (moments_at o e place view)
    tell moment there access name asked allowed =
        let made : IsMade access name setting (moments_at o e place view)
        = record {
          moment = moment;
          passes = contained moment (moments_at o e place view) there;
          asked = asked;
          allowed = allowed;
        } in
        (differ.made access name made, differ.view_made access name made)

    pub same_run : run_at o e other_place other_view ≡ run_at o e place view
    same_run = transaction_same setting other_place other_view differ.parts differ.view_parts differ.own
        differ.view_own commands (untouched e.first_name) tell

    pub same_moments : moments_at o e other_place other_view ≡ moments_at o e place view
    same_moments = all_moments_same setting other_place other_view differ.parts differ.view_parts differ.own
        differ.view_own commands (untouched e.first_name) tell

    based : (world : World)
        → record_of e (entry_setting o e other_place other_view) world
        ≡ record (record_of e setting world) { base = other_view }
    unfolding record_of is_made
    based world = refl

    pub same_record : record_of e (entry_setting o e other_place other_view)
        (run_at o e other_place other_view).world
        ≡ record (record_of e setting (run_at o e place view).world) { base = other_view }
    same_record = ap (λ (t : Transaction).
        record_of e (entry_setting o e other_place other_view) t.world) same_run
        ∙ based (run_at o e place view).world
