-- The Stone of the tests can serve, is ready, and stays so.
use Rattle.std.proofs.Common.{◌≡◌, ℕ, ◌≤◌, ◌&&◌, inl, inr, Bool, true, false, cond, List, [], ◌∷◌, length, Option, Result, Ok, Err, IfOk, Some, None, IsSome, IfSome, refl, sym, ap, ap₂, subst, ◌∙◌, arith, append-nil}
use Rattle.std.specs.Ordering.{nat_cmp, eq_by_cmp, is_eq}
use Rattle.std.specs.Cmp.{nat_cmp_total, tied_itself}
use Rattle.std.specs.FinMap.{get, insert, get-insert}
use Rattle.std.proofs.lemmas.Bool.{false≢true, le-leb, cases_lt}
use Rattle.std.proofs.lemmas.List.Sums.{fold_push}
use Rattle.gem_object.specs.gem_value.Oid.{oid_number}
use Rattle.gem_image.specs.Image.{Image, IsImage}
use Rattle.gem_object.specs.declared.object.Object.{Object}
use Rattle.gem_sound.specs.Sound.{IsSoundImage}
use Rattle.kernel_image.specs.Objects.{kernel_image}
use Rattle.gem_record.specs.Stored.{Stored}
use Rattle.gem_meaning.specs.commit_check.Conflicts.{changed_of, last_change}
use Rattle.shell_words.specs.Script.{SessionCommands}
use Rattle.gem_meaning.specs.declared.event.What.TheVariants.{Held, Dropped, Left, Checked, Halted}
use Rattle.gem_meaning.specs.Opened.{Opened, base_serial, largest_serial}
use Rattle.gem_meaning.specs.Events.{Event, Told, Standing, told_more, after_event, before_events, after_events, standing}
use Rattle.gem_meaning.specs.Serial.{most_at_opening, CanServe}
use Rattle.gem_meaning.specs.Locks.{leaving}
use Rattle.stone_core.specs.declared.port.LockAnswer.{LockAnswer}
use Rattle.stone_core.specs.declared.port.LockAnswer.TheVariants.{Granted, Denied, NoMemory}
use Rattle.stone_core.specs.declared.port.CheckAnswer.{CheckAnswer}
use Rattle.stone_core.specs.declared.port.CheckAnswer.TheVariants as check
use Rattle.stone_core.specs.Stone.{is_session}
use Rattle.stone_core.specs.Port.{event_of_lock, event_of_check, dropping}
use Rattle.stone_tests.specs.Setting.{two_sessions, HasBoxes, IsReady}

-- ---- the image

module _ (image : Image) (name : ℕ) (object : Object) (oid : ℕ) where
  put_here : (P : Option Object → Type 0) → ((here : Bool) → eq_by_cmp nat_cmp oid name ≡ here
      → P (cond here (Some object) (get image oid)))
      → P (get (insert image name object) oid)
  put_here P by = subst P (sym (get-insert nat_cmp_total image name object oid))
      (by (eq_by_cmp nat_cmp oid name) refl)

  last_put : (number : ℕ) → last_change image oid ≤ number → object.changed ≤ number
      → last_change (insert image name object) oid ≤ number
  last_put number old new = put_here (λ found. changed_of found ≤ number) by
    where
      by : (here : Bool) → eq_by_cmp nat_cmp oid name ≡ here
          → changed_of (cond here (Some object) (get image oid)) ≤ number
      by true is = new
      by false is = old

  still_put : IsSome (get image oid) → IsSome (get (insert image name object) oid)
  still_put there = put_here IsSome by
    where
      by : (here : Bool) → eq_by_cmp nat_cmp oid name ≡ here
          → IsSome (cond here (Some object) (get image oid))
      by true is = refl
      by false is = there

  is_put : oid ≡ name → IsSome (get (insert image name object) oid)
  is_put same = put_here IsSome by
    where
      by : (here : Bool) → eq_by_cmp nat_cmp oid name ≡ here
          → IsSome (cond here (Some object) (get image oid))
      by true is = refl
      by false is = absurd (false≢true (sym is
          ∙ (ap (eq_by_cmp nat_cmp oid) (sym same) ∙ ap is_eq (tied_itself nat_cmp_total oid))))

none_changed : (found : Option Object) → IfSome found (λ object. object.changed ≡ 0) → changed_of found ≡ 0
none_changed None all = refl
none_changed (Some object) all = all

-- the kernel's image with two boxes
abbrev pub with_boxes : Image → Object → Object → Image
with_boxes kernel first second = insert (insert kernel (oid_number 1 1) first) (oid_number 1 2) second

-- what holds of that image holds of what the second insertion made
pub boxes_made : (P : Image → Type 0) {E : Type 0} (kernel one_box : Image) (first second : Object) (one two : ℕ)
    → one ≡ oid_number 1 1 → two ≡ oid_number 1 2 → one_box ≡ insert kernel one first
    → ((image : Image) → image ≡ with_boxes kernel first second → P image)
    → (result : Result Image E) → IfOk result (λ image. image ≡ insert one_box two second) → IfOk result P
boxes_made P kernel one_box first second one two one_is two_is box_is holds (Ok image) is =
    holds image (is ∙ (ap (λ i. insert i two second) box_is
    ∙ (ap (λ n. insert (insert kernel n first) two second) one_is
    ∙ ap (λ n. insert (insert kernel (oid_number 1 1) first) n second) two_is)))
boxes_made P kernel one_box first second one two one_is two_is box_is holds (Err error) is = tt

pub has_boxes : (kernel image : Image) (first second : Object) → image ≡ with_boxes kernel first second → HasBoxes image
has_boxes kernel image first second is counter from to =
    subst (λ (i : Image). IsSome (get i (oid_number 1 counter))) (sym is) (elim (cases_lt 1 counter) [
      | inl more ↦ is_put (insert kernel (oid_number 1 1) first) (oid_number 1 2) second (oid_number 1 counter)
          (omega (arith, more, to))
      | inr less ↦ still_put (insert kernel (oid_number 1 1) first) (oid_number 1 2) second (oid_number 1 counter)
          (is_put kernel (oid_number 1 1) first (oid_number 1 counter) (omega (arith, less, from)))
    ])

pub boxes_changed : (kernel image : Image) (first second : Object) (changed : ℕ) → kernel ≡ kernel_image
    → ((number : ℕ) → IfSome (get kernel_image number) (λ object. object.changed ≡ 0))
    → first.changed ≡ changed → second.changed ≡ changed → image ≡ with_boxes kernel first second
    → (oid : ℕ) → last_change image oid ≤ changed
boxes_changed kernel image first second changed kernel_is unchanged first_is second_is is oid =
    let none : last_change kernel oid ≡ 0 = ap (λ (i : Image). last_change i oid) kernel_is
    ∙ none_changed (get kernel_image oid) (unchanged oid) in
    subst (λ (i : Image). last_change i oid ≤ changed) (sym is)
    (last_put (insert kernel (oid_number 1 1) first) (oid_number 1 2) second oid changed
    (last_put kernel (oid_number 1 1) first oid changed (omega (arith, none)) (omega (arith, first_is)))
    (omega (arith, second_is)))

-- ---- the Stone as it is opened

abbrev pub opened_with : Stored → Bool → Image → ℕ → List SessionCommands → Opened
opened_with stored counts_pages image number script = record {
  image = image;
  number = number;
  script = script;
  stored = stored;
  counts_pages = counts_pages;
}

pub can_serve : (stored : Stored) (counts_pages : Bool) (image : Image) (number : ℕ) (script : List SessionCommands)
    → IsImage image → IsSoundImage image
    → number ≤ most_at_opening → ((oid : ℕ) → last_change image oid ≤ number)
    → largest_serial image ≡ 1 → script ≡ two_sessions
    → CanServe (opened_with stored counts_pages image number script)
unfolding base_serial
can_serve stored counts_pages image number script is_image sound most changed largest script_is = record {
  image = is_image;
  sound = sound;
  number = most;
  changed = changed;
  serials =
      let two : length script ≡ 2 = ap length script_is in
      omega (arith, largest, two);
}

two_served : (session : ℕ) → 1 ≤ session → session ≤ 2 → is_session two_sessions session ≡ true
two_served session first last = ap₂ (λ a b. a && b) (le-leb 1 session first) (le-leb session 2 last)

pub first_ready : (t : Told) (stored : Stored) (counts_pages : Bool) (image : Image) (number : ℕ)
    (script : List SessionCommands)
    → t ≡ record { opened = opened_with stored counts_pages image number script; events = [] }
    → script ≡ two_sessions → HasBoxes image → IsReady t
unfolding after_events
first_ready t stored counts_pages image number script is script_is boxes =
    subst IsReady (sym is) (record {
      serves = λ session first last.
          ap (λ list. is_session list session) script_is ∙ two_served session first last;
      boxes = boxes;
    })

-- ---- what comes

-- where the image stays, so does all of it
stays_ready : (t : Told) (more : List Event) → (standing (told_more t more)).image ≡ (standing t).image → IsReady t
    → IsReady (told_more t more)
stays_ready t more same ready = record { serves = ready.serves; boxes = subst HasBoxes (sym same) ready.boxes }

-- the image after one event more
image_one_more : (t : Told) (event : Event)
    → (standing (told_more t (event ∷ []))).image ≡ (after_event t.opened (standing t) event).image
unfolding after_events
image_one_more t event =
    ap (λ (s : Standing). s.image) (fold_push (after_event t.opened) (before_events t.opened) t.events event)

nothing_more : (t : Told) → (standing (told_more t [])).image ≡ (standing t).image
nothing_more t = ap (λ es. (after_events t.opened es).image) (append-nil t.events)

pub lock_ready : (t : Told) (session oid : ℕ) (answer : LockAnswer) → IsReady t
    → IsReady (told_more t (event_of_lock session oid answer))
lock_ready t session oid (Granted kind changed) ready =
    stays_ready t ((session, Held oid kind) ∷ [])
    (image_one_more t (session, Held oid kind)) ready
lock_ready t session oid (Denied holder held) ready = stays_ready t [] (nothing_more t) ready
lock_ready t session oid NoMemory ready = stays_ready t [] (nothing_more t) ready

pub drop_ready : (t : Told) (held : Bool) (session oid : ℕ) → IsReady t
    → IsReady (told_more t (dropping held session oid))
drop_ready t true session oid ready =
    stays_ready t ((session, Dropped oid) ∷ [])
    (image_one_more t (session, Dropped oid)) ready
drop_ready t false session oid ready = stays_ready t [] (nothing_more t) ready

pub leave_ready : (t : Told) (holds : Bool) (session : ℕ) → IsReady t
    → IsReady (told_more t (leaving holds session))
leave_ready t true session ready =
    stays_ready t ((session, Left) ∷ [])
    (image_one_more t (session, Left)) ready
leave_ready t false session ready = stays_ready t [] (nothing_more t) ready

pub check_ready : (t : Told) (session stands : ℕ) (answer : CheckAnswer) → IsReady t
    → IsReady (told_more t (event_of_check session stands answer))
check_ready t session stands (check.Made number) ready =
    stays_ready t ((session, Checked) ∷ [])
    (image_one_more t (session, Checked)) ready
check_ready t session stands check.DiskFault ready =
    stays_ready t ((session, Halted stands None) ∷ [])
    (image_one_more t (session, Halted stands None)) ready
check_ready t session stands (check.Halted number) ready = stays_ready t [] (nothing_more t) ready
check_ready t session stands (check.Full pages) ready = stays_ready t [] (nothing_more t) ready
check_ready t session stands check.NoMemory ready = stays_ready t [] (nothing_more t) ready
