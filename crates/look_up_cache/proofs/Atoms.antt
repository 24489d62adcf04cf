-- What atoms leave that look-ups depend on.
use Rattle.std.proofs.Common.{◌≡◌, ◌≢◌, ◌∙◌, refl, sym, ap, subst, ℕ, zero, suc, ◌+◌, ◌≤◌, Bool, true, false, ◌&&◌, cond, nat_le, Option, Some, None, List, [], ◌∷◌, length, is_some, option_map, map, Ok, arith}
use Rattle.std.specs.FinMap.{get}
use Rattle.std.proofs.lemmas.Bool.{false≢true, and_parts, ne_eqb}
use Rattle.std.proofs.lemmas.Option.{none-some, same_Some}
use Rattle.gem_object.specs.texts.Bytes.{Bytes as Text}
use Rattle.gem_object.specs.Kinds.{is_shared}
use Rattle.gem_object.specs.declared.body.Body.{Body}
use Rattle.gem_object.specs.declared.body.Body.TheVariants.{Plain, Bytes, Dict, Class, Segment, User, Counter, Bag, RcDict, Queue}
use Rattle.gem_object.specs.declared.object.Object.{Object}
use Rattle.gem_update.specs.Update.{updated}
use Rattle.gem_update.specs.declared.update.Update.{Update}
use Rattle.gem_update.specs.declared.update.Update.TheVariants as change
use Rattle.running_objects.specs.gem_image.Image.{Contents, contents_of}
use Rattle.running_objects.specs.gem_world.World.{Setting, World, name_of, shown}
use Rattle.running_objects.specs.gem_world.Changes.{with_body, put, make, note}
use Rattle.running_objects.specs.gem_world.Access.{Access, a_read, a_write, is_allowed, with_touches, after_allowed, accessed}
use Rattle.running_objects.specs.object_programs.declared.limits.TheConstants.{COUNTER_LIMIT}
use Rattle.running_objects.specs.object_programs.Budget.{Budget, may_write, bytes_cost}
use Rattle.running_objects.specs.object_programs.Fixed.{BodyKind, ClassKind, SegmentKind, UserKind, body_kind, Fixed, fixed_of, fixed_by}
use Rattle.running_objects.specs.object_programs.Guard.{may_change, may_replace, may_make}
use Rattle.running_objects.specs.object_programs.Atom.{Atom, Ask, Own, Kind, Put, Note, Names, Make, Tick, Room, Show, Done, done, MakeCheck, too_large, no_name, no_space, no_fault, make_check, with_new, made_where, made_by, named_where, ticked, spent_where, shown_where, replaced_where, edited_at, edited, updated_by, updated_at, updated_where, after_update}
use Rattle.running_objects.specs.object_programs.Laws.{AreFree}
use Rattle.running_objects.proofs.object_programs_lemmas.Kept.{each_new, no_fault_found}
use Rattle.running_objects.proofs.object_programs_lemmas.Worlds.{changed_shown, make_shown, make_next, note_shown, shown_asked}
use Rattle.running_objects.proofs.object_programs_lemmas.Sames.{fixed_is}
use Rattle.running_objects.specs.Seen.{Seen, object_at, IsSoundState}
use Rattle.running_objects.specs.Acted.{Acted, Accessed, Owned, Known, Edited, Made}
use Rattle.look_up_cache.specs.Lasting.{lasting_body, lasting_of, Still}
use Rattle.look_up_cache.specs.Remains.{Remains}
use Rattle.look_up_cache.proofs.Steps.{still_same, still_along, touch_still, misses_still, note_still, put_still, make_still, asked_still}

-- ---- bodies

is_lasting : BodyKind → Bool
is_lasting ClassKind = true
is_lasting SegmentKind = true
is_lasting UserKind = true
is_lasting _ = false

lasts : (body : Body) → is_some (lasting_body body) ≡ is_lasting (body_kind body)
unfolding is_lasting
lasts (Plain values) = refl
lasts (Bytes bytes) = refl
lasts (Dict pairs) = refl
lasts (Class class) = refl
lasts (Segment rights) = refl
lasts (User user) = refl
lasts (Counter counter) = refl
lasts (Bag pairs) = refl
lasts (RcDict pairs) = refl
lasts (Queue queue) = refl

none_by : (found : Option Body) → is_some found ≡ false → None ≡ found
none_by None is = refl
none_by (Some body) is = absurd (false≢true (sym is))

-- a body of the same kind as one that doesn't last
kind_lasts : (body old : Body) → body_kind old ≡ body_kind body → lasting_body body ≡ None
    → lasting_body body ≡ lasting_body old
kind_lasts body old same none = none ∙ none_by (lasting_body old)
    (lasts old ∙ (ap is_lasting same ∙ (sym (lasts body) ∙ ap is_some none)))

-- a body that takes an update, and the one that it becomes
mapped : {X : Type 0} (f : X → Body) → ((x : X) → lasting_body (f x) ≡ None) → (found : Option X) (body : Body)
    → option_map f found ≡ Some body → lasting_body body ≡ None
mapped f none None body is = absurd (none-some body is)
mapped f none (Some x) body is = ap lasting_body (sym (same_Some (f x) body is)) ∙ none x

updated_lasts : (update : Update) (old body : Body) → updated update old ≡ Some body → lasting_body body ≡ lasting_body old
updated_lasts (change.Counter by) (Counter counter) body is = mapped Counter (λ _. refl) _ body is
updated_lasts (change.Bag by) (Bag pairs) body is = mapped Bag (λ _. refl) _ body is
updated_lasts (change.RcDict by) (RcDict pairs) body is = mapped RcDict (λ _. refl) _ body is
updated_lasts (change.Queue by) (Queue queue) body is = mapped Queue (λ _. refl) _ body is
updated_lasts _ _ body is = absurd (none-some body is)

module _ (setting : Setting) where
  -- ---- accesses

  -- an object that is put as it stands
  held_still : (shared : Bool) (name : ℕ) (object : Contents) (world : World) → shown name setting world ≡ Some object
      → Still setting world (cond shared world (put name object world))
  held_still true name object world there = still_same setting world
  held_still false name object world there = put_still setting name object world
      (λ old is. ap lasting_of (same_Some object old (sym there ∙ is)))

  allowed_still : (access : Access) (name : ℕ) (found : Option Contents) (world : World) → shown name setting world ≡ found
      → Still setting world (after_allowed access name found world)
  allowed_still a_read name found world there = still_same setting world
  allowed_still a_write name None world there = still_same setting world
  allowed_still a_write name (Some object) world there = held_still (is_shared object.body) name object world there

  accessed_by : (allowed : Bool) (access : Access) (name : ℕ) (world : World) → Still setting world
      (cond allowed (after_allowed access name (shown name setting world) (with_touches name setting world))
      (with_touches name setting world))
  accessed_by false access name world = asked_still setting name world
  accessed_by true access name world =
      let now : World = with_touches name setting world in
      still_along setting world now (after_allowed access name (shown name setting world) now)
      (asked_still setting name world)
      (allowed_still access name (shown name setting world) now (shown_asked setting setting name name world))

  accessed_still : (access : Access) (name : ℕ) (world : World) → Still setting world (accessed access name setting world)
  unfolding accessed
  accessed_still access name world = accessed_by (is_allowed access name setting world) access name world

  -- ---- edits

  replaced_fixed : (name : ℕ) (old new : Contents) (world : World)
      → (may_change name old setting world && may_replace name old new setting world) ≡ true → fixed_of old ≡ fixed_of new
  unfolding may_replace
  replaced_fixed name old new world may =
      fixed_is (fixed_of old) (fixed_of new) (and_parts _ _ (and_parts _ _ may).1).0

  where_still : (may : Bool) (name : ℕ) (old new : Contents) (world : World) → get world.changes name ≡ Some old
      → (may ≡ true → lasting_of new ≡ lasting_of old) → Still setting world (replaced_where may name None new setting world)
  where_still true name old new world there keeps = put_still setting name new world
      (λ other is. keeps refl ∙ ap lasting_of (same_Some old other (sym (changed_shown setting name old world there) ∙ is)))
  where_still false name old new world there keeps = misses_still setting _ _ world

  -- the body that is put lasts as the old one does, where it is of the same kind
  abbrev Suits : ℕ → Body → World → Type 0
  Suits name body world = (old : Contents) → get world.changes name ≡ Some old → body_kind old.body ≡ body_kind body
      → lasting_body body ≡ lasting_body old.body

  edited_by : (name : ℕ) (body : Body) (found : Option Contents) (world : World) → get world.changes name ≡ found
      → Suits name body world → Still setting world (edited_at name (with_body body) found setting world)
  edited_by name body None world there suits = still_same setting world
  edited_by name body (Some old) world there suits =
      where_still (may_change name old setting world && may_replace name old (with_body body old) setting world)
      name old (with_body body old) world there
      (λ may. ap (λ (held : Option Body). record { class = old.class; segment = old.segment; body = held })
      (suits old there (ap (λ (fixed : Fixed). fixed.kind) (replaced_fixed name old (with_body body old) world may))))

  pub edited_still : (name : ℕ) (body : Body) (world : World) → Suits name body world
      → Still setting world (edited name (with_body body) setting world)
  unfolding edited
  edited_still name body world suits = edited_by name body (get world.changes name) world refl suits

  -- ---- updates

  where_noted : (may : Bool) (name : ℕ) (update : Update) (old : Contents) (body : Body) (world : World)
      → shown name setting world ≡ Some old → lasting_body body ≡ lasting_body old.body
      → Still setting world (replaced_where may name (Some update) (with_body body old) setting world)
  where_noted true name update old body world there keeps =
      let noted : World = note name update setting world in
      still_along setting world noted (put name (with_body body old) noted) (note_still setting name update world)
      (put_still setting name (with_body body old) noted (λ other is.
      ap (λ (held : Option Body). record { class = old.class; segment = old.segment; body = held }) keeps
      ∙ ap lasting_of (same_Some old other (sym there ∙ (sym (note_shown setting name name update world) ∙ is)))))
  where_noted false name update old body world there keeps = misses_still setting _ _ world

  noted_by : (name : ℕ) (update : Update) (old : Contents) (found : Option Body) (world : World)
      → shown name setting world ≡ Some old → updated update old.body ≡ found
      → Still setting world (updated_by name update old found setting world)
  noted_by name update old None world there is = still_same setting world
  noted_by name update old (Some body) world there is =
      where_noted (may_replace name old (with_body body old) setting world) name update old body world there
      (updated_lasts update old.body body is)

  noted_at : (name : ℕ) (update : Update) (found : Option Contents) (world : World) → shown name setting world ≡ found
      → Still setting world (updated_at name update found setting world)
  noted_at name update None world there = still_same setting world
  noted_at name update (Some old) world there = noted_by name update old (updated update old.body) world there refl

  noted_where : (allowed : Bool) (name : ℕ) (update : Update) (world : World)
      → Still setting world (updated_where allowed name update setting world)
  noted_where true name update world = noted_at name update (shown name setting world) world refl
  noted_where false name update world = still_same setting world

  noted_still : (name : ℕ) (update : Update) (world : World) → Still setting world (after_update name update setting world)
  unfolding after_update
  noted_still name update world =
      let now : World = with_touches name setting world in
      still_along setting world now (updated_where (is_allowed a_write name setting world) name update setting now)
      (asked_still setting name world) (noted_where (is_allowed a_write name setting world) name update now)

  -- ---- new objects

  next_free : (object : Contents) (world : World) → AreFree setting world → AreFree setting (make object setting world)
  next_free object world free counter from below =
      let is : (make object setting world).next ≡ world.next + 1 = make_next object setting world in
      let none : shown (name_of setting counter) setting world ≡ None = free counter (omega (arith, is, from)) below in
      let apart : name_of setting counter ≢ name_of setting world.next = λ same. omega (arith, same, is, from) in
      make_shown setting object world (name_of setting counter)
      ∙ (ap (λ b. cond b (Some object) (shown (name_of setting counter) setting world))
      (ne_eqb (name_of setting counter) (name_of setting world.next) apart) ∙ none)

  record Freely (world later : World) : Type 0 where
    free : AreFree setting later
    still : Still setting world later

  abbrev StaysFree : World → World → Type 0
  StaysFree world later = AreFree setting world → Freely world later

  free_along : (world between later : World) → StaysFree world between → StaysFree between later → StaysFree world later
  free_along world between later first second free =
      let one : Freely world between = first free in
      let other : Freely between later = second one.free in
      record { free = other.free; still = still_along setting world between later one.still other.still }

  new_still : (objects : List Contents) (world : World) → world.next + length objects ≤ COUNTER_LIMIT
      → StaysFree world (with_new objects setting world)
  new_still = each_new setting StaysFree (λ world free. record { free = free; still = still_same setting world }) free_along
      (λ object world below free. record {
        free = next_free object world free;
        still = make_still setting object world (free world.next (omega arith) below);
      })

  fit_still : (fits : Bool) (objects : List Contents) (world : World) (budget : Budget) → AreFree setting world
      → world.next + length objects ≤ COUNTER_LIMIT → Still setting world (made_where fits objects setting world budget).world
  fit_still true objects world budget free below = (new_still objects world below free).still
  fit_still false objects world budget free below = misses_still setting _ _ world

  made_still : (found : MakeCheck) (objects : List Contents) (world : World) (budget : Budget) → AreFree setting world
      → make_check objects world budget ≡ found → Still setting world (made_by found objects setting world budget).world
  made_still too_large objects world budget free is = still_same setting world
  made_still no_name objects world budget free is = still_same setting world
  made_still no_space objects world budget free is = still_same setting world
  made_still no_fault objects world budget free is = fit_still (may_make objects setting world) objects world budget free
      (no_fault_found objects world budget is).0

  -- ---- budgets

  ticked_still : (units : ℕ) (world : World) (budget : Budget) → Still setting world (ticked units world budget).world
  ticked_still zero world budget = still_same setting world
  ticked_still (suc units) world budget = still_same setting world

  named_still : (enough : Bool) (world : World) (budget : Budget) → Still setting world (named_where enough world budget).world
  named_still true world budget = still_same setting world
  named_still false world budget = still_same setting world

  spent_still : (enough : Bool) (slots : ℕ) (world : World) (budget : Budget)
      → Still setting world (spent_where enough slots world budget).world
  spent_still true slots world budget = still_same setting world
  spent_still false slots world budget = still_same setting world

  shown_still : (fits enough : Bool) (text : Text) (world : World) (budget : Budget)
      → Still setting world (shown_where fits enough text world budget).world
  shown_still false enough text world budget = still_same setting world
  shown_still true false text world budget = still_same setting world
  shown_still true true text world budget = still_same setting world

-- ---- calls

acted_remains : {A : Type 0} (one : Atom A) (before after : Seen) (answer : A)
    → Still before.setting before.world (done one before.setting before.world before.budget).world
    → Acted one before (Ok answer) after → Remains before after
acted_remains {A} one before after answer still acted = record {
  setting = acted.keeps.setting;
  still = subst (λ (world : World). Still before.setting before.world world)
      (ap (λ (did : Done A). did.world) acted.did) still;
}

module _ (before after : Seen) where
  pub unit_remains : Acted Tick before (Ok tt) after → Remains before after
  unit_remains acted = acted_remains Tick before after tt
      (ticked_still before.setting before.budget.units before.world before.budget) acted

  pub room_remains : (slots : ℕ) → Acted (Room slots) before (Ok tt) after → Remains before after
  room_remains slots acted = acted_remains (Room slots) before after tt
      (spent_still before.setting (nat_le slots before.budget.slots) slots before.world before.budget) acted

  pub names_remain : (count : ℕ) → Acted (Names count) before (Ok tt) after → Remains before after
  names_remain count acted = acted_remains (Names count) before after tt
      (named_still before.setting (nat_le (before.world.next + count) COUNTER_LIMIT) before.world before.budget) acted

  pub show_remains : (text : Text) → Acted (Show text) before (Ok tt) after → Remains before after
  show_remains text acted = acted_remains (Show text) before after tt
      (shown_still before.setting (may_write text before.budget) (nat_le (bytes_cost (length text)) before.budget.slots)
      text before.world before.budget) acted

  pub access_remains : (access : Access) (name : ℕ) → Accessed access name before (Ok tt) after → Remains before after
  access_remains access name reached = acted_remains (Ask access name) before after reached.object
      (accessed_still before.setting access name before.world) reached.acted

  pub own_remains : Owned before (Ok tt) after → Remains before after
  own_remains acted = acted_remains Own before after (object_at after.setting.user after)
      (touch_still before.setting before.setting.user before.world) acted

  pub known_remains : (name : ℕ) → Known name before (Ok tt) after → Remains before after
  known_remains name acted = acted_remains (Kind name) before after (fixed_by after.setting after.world name)
      (misses_still before.setting (fixed_by before.setting before.world) (name ∷ []) before.world) acted

  pub put_remains : (name : ℕ) (body : Body) → lasting_body body ≡ None → Acted (Put name body) before (Ok tt) after
      → Remains before after
  put_remains name body none acted = acted_remains (Put name body) before after tt
      (edited_still before.setting name body before.world (λ old there same. kind_lasts body old.body same none)) acted

  -- where the object is there; where it isn't an edit of nothing is said
  pub edit_remains : (name : ℕ) (edit : Body → Body) (object : Contents) → object_at name before ≡ Some object
      → ((body : Body) → lasting_body (edit body) ≡ lasting_body body) → Edited name edit before (Ok tt) after
      → Remains before after
  edit_remains name edit object there keeps acted = acted_remains (Put name (edit object.body)) before after tt
      (edited_still before.setting name (edit object.body) before.world (λ old is same.
      keeps object.body ∙ ap (λ (held : Contents). lasting_body held.body)
      (same_Some object old (sym there ∙ changed_shown before.setting name old before.world is))))
      (acted object there)

  pub note_remains : (name : ℕ) (update : Update) → Acted (Note name update) before (Ok tt) after → Remains before after
  note_remains name update acted = acted_remains (Note name update) before after tt
      (noted_still before.setting name update before.world) acted

  pub made_remains : (objects : List Object) (first : ℕ) → IsSoundState before → Made objects before (Ok first) after
      → Remains before after
  made_remains objects first sound made =
      let contents : List Contents = map contents_of objects in
      acted_remains (Make (λ name. contents)) before after first
      (made_still before.setting (make_check contents before.world before.budget) contents before.world before.budget
      sound.free refl)
      (made (λ name. contents) refl)
