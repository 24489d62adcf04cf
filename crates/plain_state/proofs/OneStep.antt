-- Sound objects stay sound at writes in one step, and where an object is made.
use Rattle.std.proofs.Common.{◌≡◌, ◌∙◌, refl, sym, ap, subst, ℕ, ◌+◌, ◌<◌, Bool, true, false, ◌&&◌, ◌||◌, not, cond, nat_eq, [], ◌∷◌, Option, Some, None, is_some, option_map, arith, true≢false, Result, Ok, Err}
use Rattle.std.specs.Prelude.{OnOk, OnErr}
use Rattle.std.proofs.Math.Path.{fun_ext}
use Rattle.std.proofs.lemmas.Bool.{false≢true, eqb-true, and_from}
use Rattle.std.specs.Option.{option_or, option_and_then}
use Rattle.std.specs.FinMap.{FinMap, get, insert}
use Rattle.std.specs.Ordering.{nat_cmp}
use Rattle.gem_image.proofs.radix_pages_lemmas.Tables.{same_keys, get-insert_same}
use Rattle.gem_object.specs.Kinds.{is_shared}
use Rattle.gem_object.specs.declared.body.Body.{Body}
use Rattle.gem_update.specs.Update.{updated}
use Rattle.gem_update.specs.declared.update.Update.{Update}
use Rattle.gem_image.specs.Image.{Contents}
use Rattle.gem_world.specs.World.{Setting, World, before_changes, shown, is_made, next_name}
use Rattle.gem_world.specs.Access.{a_write, is_allowed, with_touches}
use Rattle.gem_world.specs.Changes.{with_body, in_segment, put, note, make}
use Rattle.object_programs.specs.declared.limits.TheConstants.{COUNTER_LIMIT}
use Rattle.object_programs.specs.Budget.{Budget, is_within_limits}
use Rattle.object_programs.specs.Fixed.{fixed_of, fixed_by, same_fixed}
use Rattle.object_programs.specs.Guard.{Parts, holds_of, is_segment_at, fits, may_change, may_replace}
use Rattle.object_programs.specs.Laws.{AreSound}
use Rattle.object_programs.specs.Atom.{Atom, Ask, Put, Move, Note, Make, Done, done, edited, objects_cost}
use Rattle.object_programs.proofs.Worlds.{put_shown, shown_asked, made_asked, changed_shown}
use Rattle.object_programs.proofs.Objects.{soundness_stays}
use Rattle.object_programs.proofs.Exact.{write_done, write_shared_done, edited_made, edited_written, update_noted, update_made}
use Rattle.object_programs.proofs.Orders.{made}
use Rattle.running_objects.specs.Seen.{Seen, object_at, IsSoundState}
use Rattle.plain_state.specs.Edit.{edited_by}
use Rattle.plain_state.specs.declared.edit.Edit.TheVariants.{MoveTo}
use Rattle.plain_state.specs.Overlay.{changed_at, changed}
use Rattle.plain_state.specs.Parts.{in_world, asked}
use Rattle.plain_state.specs.Writes.{replaced_by, replaced, changed_to, moved_to, updated_to, added, IsWritable, is_changeable, accepts_body, body_after, may_add}
use Rattle.plain_state.proofs.Changes.{get_either}
use Rattle.plain_state.proofs.Segments.{move_fits}
use Rattle.plain_state.proofs.Touched.{asked_same, keeps_objects, keeps_touched}

module _ (setting : Setting) where
  -- what an atom leaves of sound objects is sound
  left_sound : {A : Type 0} (one : Atom A) (world after : World) (budget : Budget)
      → (done one setting world budget).world ≡ after → AreSound setting world → AreSound setting after
  left_sound one world after budget left sound =
      let P : World → Type 0 = λ w. AreSound setting w in
      subst P left ((soundness_stays setting).step one world budget sound)

  -- it lies in the changes, and in the names that are still to be drawn
  sound_by : (world after : World) (budget : Budget) → after.next ≡ world.next → after.changes ≡ world.changes
      → AreSound setting world → AreSound setting after
  sound_by world after budget next changes sound =
      (keeps_objects (record { setting = setting; world = world; budget = budget })
      (record { setting = setting; world = after; budget = budget }) refl next changes refl).sound sound

  -- the guard sees objects alone
  may_same : (name : ℕ) (old new : Contents) (world later : World)
      → ((other : ℕ) → shown other setting later ≡ shown other setting world)
      → may_replace name old new setting later ≡ may_replace name old new setting world
  unfolding may_replace
  may_same name old new world later same =
      ap (λ (parts : Parts). same_fixed (fixed_of old) (fixed_of new) && fits parts name new)
      (fun_ext (λ other. ap (λ found. cond (nat_eq other name) (Some (fixed_of new)) (option_map fixed_of found)) (same other)))

covered : {X : Type 0} (b : Bool) (last first : X) (rest : Option X)
    → cond b (Some last) (cond b (Some first) rest) ≡ cond b (Some last) rest
covered true last first rest = refl
covered false last first rest = refl

put_twice : (name : ℕ) (first last : Contents) (world : World) → put name last (put name first world) ≡ put name last world
unfolding put
put_twice name first last world = ap (λ changes. record world { changes = changes }) (same_keys _ _ (λ q.
    get_either (insert world.changes name first) name q last
    ∙ ap (cond (nat_eq q name) (Some last)) (get_either world.changes name q first)
    ∙ covered (nat_eq q name) last first (get world.changes q)
    ∙ sym (get_either world.changes name q last)))

-- what an object that was made stands as
there_by : (found before : Option Contents) (old : Contents) → option_or found before ≡ Some old → is_some found ≡ true
    → found ≡ Some old
there_by None before old is some = absurd (false≢true some)
there_by (Some object) before old is some = is

made_there : (name : ℕ) (setting : Setting) (world : World) → is_made name setting world ≡ true
    → is_some (get world.changes name) ≡ true
unfolding is_made
made_there name setting world made = last_of _ _ made
  where
    last_of : (a b : Bool) → (a && b) ≡ true → b ≡ true
    last_of true b is = is
    last_of false b is = absurd (false≢true is)

-- ---- an object that the user may write, at its name

module _ (setting : Setting) (world : World) (budget : Budget) (name : ℕ) (old : Contents) (sound : AreSound setting world)
    (allowed : is_allowed a_write name setting world ≡ true) (there : shown name setting world ≡ Some old) where
  abbrev now : World
  now = with_touches name setting world

  here : shown name setting now ≡ Some old
  here = shown_asked setting setting name name world ∙ there

  kept_shown : (other : ℕ) → shown other setting (put name old now) ≡ shown other setting world
  kept_shown other = put_shown setting name old now other ∙ by (nat_eq other name) refl
    where
      by : (b : Bool) → nat_eq other name ≡ b → cond b (Some old) (shown other setting now) ≡ shown other setting world
      by true same = sym (ap (λ (n : ℕ). shown n setting world) (eqb-true other name same) ∙ there)
      by false apart = shown_asked setting setting name other world

  module _ (new : Contents) (edit : Contents → Contents) (one : Atom (Unit {0})) (is : edit old ≡ new)
      (does : (w : World) → (done one setting w budget).world ≡ edited name edit setting w)
      (fit : may_replace name old new setting world ≡ true) where
    edit_written : is_shared old.body ≡ false → AreSound setting (put name new now)
    unfolding put
    edit_written ordinary =
        let first : AreSound setting (put name old now) = left_sound setting (Ask a_write name) world (put name old now) budget
        (ap (λ (d : Done Contents). d.world) (write_done name setting world budget old allowed there ordinary)) sound in
        let among : get (put name old now).changes name ≡ Some old = get-insert_same now.changes name old name refl in
        let fits_now : may_replace name old (edit old) setting (put name old now) ≡ true =
        ap (λ (n : Contents). may_replace name old n setting (put name old now)) is
        ∙ may_same setting name old new world (put name old now) kept_shown ∙ fit in
        left_sound setting one (put name old now) (put name new now) budget
        (does (put name old now) ∙ edited_written name old setting (put name old now) edit among ordinary fits_now
        ∙ put_twice name old (edit old) now ∙ ap (λ (n : Contents). put name n now) is) first

    edit_made : is_made name setting world ≡ true → is_shared old.body ≡ true → AreSound setting (put name new now)
    edit_made made shared =
        let first : AreSound setting now = left_sound setting (Ask a_write name) world now budget
        (ap (λ (d : Done Contents). d.world) (write_shared_done name setting world budget old allowed there shared)) sound in
        let made_now : is_made name setting now ≡ true = made_asked setting name name world ∙ made in
        let among : get now.changes name ≡ Some old =
        there_by (get now.changes name) _ old here (made_there name setting now made_now) in
        let fits_now : may_replace name old (edit old) setting now ≡ true =
        ap (λ (n : Contents). may_replace name old n setting now) is
        ∙ may_same setting name old new world now (λ other. shown_asked setting setting name other world) ∙ fit in
        left_sound setting one now (put name new now) budget
        (does now ∙ edited_made name old setting now edit among made_now fits_now
        ∙ ap (λ (n : Contents). put name n now) is) first

    edit_by : (made shared : Bool) → is_made name setting world ≡ made → is_shared old.body ≡ shared
        → (made || not shared) ≡ true → AreSound setting (put name new now)
    edit_by made false made_is shared_is may = edit_written shared_is
    edit_by true true made_is shared_is may = edit_made made_is shared_is
    edit_by false true made_is shared_is may = absurd (false≢true may)

    edit_sound : may_change name old setting world ≡ true → AreSound setting (put name new now)
    unfolding may_change
    edit_sound may = edit_by (is_made name setting world) (is_shared old.body) refl refl may

  -- it is updated
  update_sound : (update : Update) (body : Body) → updated update old.body ≡ Some body
      → may_replace name old (with_body body old) setting world ≡ true
      → AreSound setting (put name (with_body body old) (note name update setting now))
  unfolding put note
  update_sound update body is fit = by (is_made name setting world) refl
    where
      by : (made : Bool) → is_made name setting world ≡ made
          → AreSound setting (put name (with_body body old) (note name update setting now))
      by true made_is = sound_by setting (put name (with_body body old) now) _ budget refl refl
          (left_sound setting (Note name update) world (put name (with_body body old) now) budget
          (update_made name update setting world old body allowed there is fit made_is) sound)
      by false made_is = sound_by setting (put name (with_body body old) now) _ budget refl refl
          (sound_by setting _ (put name (with_body body old) now) budget refl refl
          (left_sound setting (Note name update) world _ budget
          (update_noted name update setting world old body allowed there is fit made_is) sound))

-- ---- the same of a state

from_holds : {X : Type 0} (test : X → Bool) (found : Option X) (x : X) → found ≡ Some x → holds_of test found ≡ true → test x ≡ true
from_holds test found x is holds = sym (ap (holds_of test) is) ∙ holds

module _ (x : Seen) (name : ℕ) (sound : IsSoundState x) where
  abbrev Replaced : (Contents → Contents) → (Seen → Seen) → Type 0
  Replaced edit before = (found : Option Contents) → object_at name x ≡ found
      → IsSoundState (replaced_by name edit found (before x))

  pub changed_sound : (body : Body) → IsWritable name x → is_changeable name x ≡ true → accepts_body name body x ≡ true
      → IsSoundState (changed_to name body x)
  changed_sound body allowed may fit = by (object_at name x) refl
    where
      by : (found : Option Contents) → object_at name x ≡ found → IsSoundState (changed_to name body x)
      by None is = absurd (false≢true (sym (ap (holds_of (λ old. may_change name old x.setting x.world)) is) ∙ may))
      by (Some old) is =
          let after : AreSound x.setting (put name (with_body body old) (with_touches name x.setting x.world)) =
          edit_sound x.setting x.world x.budget name old sound allowed is (with_body body old) (with_body body)
          (Put name body) refl (λ w. refl)
          (from_holds (λ one. may_replace name one (with_body body one) x.setting x.world) (object_at name x) old is fit)
          (from_holds (λ one. may_change name one x.setting x.world) (object_at name x) old is may) in
          let P : Option Contents → Type 0 = λ found. IsSoundState (replaced_by name (with_body body) found (asked name x)) in
          subst P (sym (shown_asked x.setting x.setting name name x.world ∙ is)) after

  pub moved_sound : (segment : ℕ) → IsWritable name x → is_changeable name x ≡ true
      → is_segment_at (fixed_by x.setting x.world) segment ≡ true → IsSoundState (moved_to name segment x)
  unfolding put
  moved_sound segment allowed may into = by (object_at name x) refl
    where
      by : (found : Option Contents) → object_at name x ≡ found → IsSoundState (moved_to name segment x)
      by None is = absurd (false≢true (sym (ap (holds_of (λ old. may_change name old x.setting x.world)) is) ∙ may))
      by (Some old) is =
          let once : Seen = asked name x in
          let twice : Seen = asked segment once in
          let changes = (asked_same once segment).changes in
          let next = (asked_same once segment).next in
          let after : AreSound x.setting (put name (in_segment segment old) once.world) =
          edit_sound x.setting x.world x.budget name old sound allowed is (in_segment segment old) (in_segment segment)
          (Move name segment) refl (λ w. refl) (move_fits x name segment sound old is ∙ into)
          (from_holds (λ one. may_change name one x.setting x.world) (object_at name x) old is may) in
          let both : AreSound x.setting (put name (in_segment segment old) twice.world) =
          sound_by x.setting (put name (in_segment segment old) once.world) (put name (in_segment segment old) twice.world) x.budget
          next (ap (λ m. insert m name (in_segment segment old)) changes) after in
          let P : Option Contents → Type 0 = λ found. IsSoundState (replaced_by name (in_segment segment) found twice) in
          subst P (sym (shown_asked x.setting x.setting segment name once.world
          ∙ shown_asked x.setting x.setting name name x.world ∙ is)) both

  pub updated_sound : (update : Update) (body : Body) → IsWritable name x → body_after name update x ≡ Some body
      → accepts_body name body x ≡ true → IsSoundState (updated_to name update body x)
  unfolding note
  updated_sound update body allowed takes fit = by (object_at name x) refl
    where
      by : (found : Option Contents) → object_at name x ≡ found → IsSoundState (updated_to name update body x)
      by None is = absurd (false≢true (sym (ap (holds_of (λ old. may_replace name old (with_body body old) x.setting x.world)) is) ∙ fit))
      by (Some old) is =
          let after = update_sound x.setting x.world x.budget name old sound allowed is update body
          (sym (ap (λ found. option_and_then (λ (one : Contents). updated update one.body) found) is) ∙ takes)
          (from_holds (λ one. may_replace name one (with_body body one) x.setting x.world) (object_at name x) old is fit) in
          let P : Option Contents → Type 0 = λ found. IsSoundState (replaced_by name (with_body body) found
          (in_world (note name update x.setting) (asked name x))) in
          subst P (sym (shown_asked x.setting x.setting name name x.world ∙ is)) after

-- touches leave objects sound
pub asked_sound : (x : Seen) (name : ℕ) → IsSoundState x → IsSoundState (asked name x)
asked_sound x name sound = (keeps_touched x (asked name x) (asked_same x name)).sound sound

-- an object that is made
pub added_sound : (x : Seen) (object : Contents) → IsSoundState x → x.world.next < COUNTER_LIMIT
    → is_within_limits object ≡ true → may_add object x ≡ true → IsSoundState (added object x)
added_sound x object sound below small may =
    let enough : Budget = record { units = 0; slots = objects_cost (object ∷ []); text = [] } in
    left_sound x.setting (Make (λ name. object ∷ [])) x.world (make object x.setting x.world) enough
    (ap (λ (d : Done ℕ). d.world) (made (λ name. object ∷ []) x.setting x.world enough true may
    (and_from (is_within_limits object) true small refl) (omega (arith, below)) (omega arith))) sound

-- whichever way a call ended
pub either_sound : {A E : Type 0} (result : Result A E) (z done touched : Seen) → OnOk result (z ≡ done)
    → OnErr result (z ≡ touched) → IsSoundState done → IsSoundState touched → IsSoundState z
either_sound (Ok answer) z done touched ok err first second = subst IsSoundState (sym ok) first
either_sound (Err fault) z done touched ok err first second = subst IsSoundState (sym err) second

-- ---- what the steps leave

-- an object that is put at a name is the edited one
pub replaced_there : (x : Seen) (name number : ℕ) (edit : Contents → Contents) (old new : Contents) (changes : FinMap nat_cmp Contents)
    → changes ≡ insert x.world.changes number new → number ≡ name → new ≡ edit old → object_at name x ≡ Some old
    → record x { world = record x.world { changes = changes } } ≡ replaced name edit x
unfolding put
replaced_there x name number edit old new changes is at same there =
    ap (λ (m : FinMap nat_cmp Contents). record x { world = record x.world { changes = m } })
    (is ∙ ap (λ (n : ℕ). insert x.world.changes n new) at ∙ ap (insert x.world.changes name) same)
    ∙ sym (ap (λ found. replaced_by name edit found x) there)

-- and so is one that is made
pub added_there : (x : Seen) (name number : ℕ) (object : Contents) (changes : FinMap nat_cmp Contents)
    → changes ≡ insert x.world.changes number object → number ≡ name → name ≡ next_name x.setting x.world
    → record x { world = record x.world { next = x.world.next + 1; changes = changes } } ≡ added object x
unfolding make
added_there x name number object changes is at drawn =
    ap (λ (m : FinMap nat_cmp Contents). record x { world = record x.world { next = x.world.next + 1; changes = m } })
    (is ∙ ap (λ (n : ℕ). insert x.world.changes n object) (at ∙ drawn))

-- an object that was changed before is edited where it stands
moved_by : (x : Seen) (name segment : ℕ) (found : Option Contents) → get x.world.changes name ≡ found → is_some found ≡ true
    → record x { world = record x.world { changes = changed_at name (edited_by (MoveTo segment)) found x.world.changes } }
    ≡ replaced name (in_segment segment) x
unfolding put
moved_by x name segment None there some = absurd (false≢true some)
moved_by x name segment (Some old) there some =
    sym (ap (λ found. replaced_by name (in_segment segment) found x) (changed_shown x.setting name old x.world there))

pub moved_there : (x : Seen) (name number segment : ℕ) (changes : FinMap nat_cmp Contents)
    → changes ≡ changed number (edited_by (MoveTo segment)) x.world.changes → number ≡ name
    → is_some (get x.world.changes name) ≡ true
    → record x { world = record x.world { changes = changes } } ≡ replaced name (in_segment segment) x
moved_there x name number segment changes is at some =
    ap (λ (m : FinMap nat_cmp Contents). record x { world = record x.world { changes = m } })
    (is ∙ ap (λ (n : ℕ). changed n (edited_by (MoveTo segment)) x.world.changes) at)
    ∙ moved_by x name segment (get x.world.changes name) refl some

-- any other one is seen as before
before_by : (x : Seen) (name : ℕ) (old : Contents) (found : Option Contents) → get x.world.changes name ≡ found
    → is_some found ≡ false → before_changes name x.setting ≡ Some old → object_at name x ≡ Some old
before_by x name old None there none before =
    ap (λ (found : Option Contents). option_or found (before_changes name x.setting)) there ∙ before
before_by x name old (Some other) there none before = absurd (true≢false none)

pub seen_before : (x : Seen) (name : ℕ) (old : Contents) → is_some (get x.world.changes name) ≡ false
    → before_changes name x.setting ≡ Some old → object_at name x ≡ Some old
seen_before x name old none before = before_by x name old (get x.world.changes name) refl none before
