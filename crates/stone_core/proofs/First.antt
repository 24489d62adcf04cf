-- What is changed after a view stays so, and is a conflict.
use Rattle.std.proofs.Common.{◌≡◌, ◌≢◌, ℕ, ◌+◌, ◌≤◌, ◌<◌, Bool, true, false, cond, if◌then◌else◌, T, ◌⊎◌, inl, inr, List, [], ◌∷◌, ◌++◌, Option, Some, None, is_some, IsSome, refl, sym, ap, subst, ◌∙◌, arith, append-nil}
use Rattle.std.specs.List.{fold}
use Rattle.std.specs.Ordering.{nat_cmp, is_eq, eq_by_cmp}
use Rattle.std.specs.Cmp.{tied_itself}
use Rattle.std.specs.FinMap.{entries_sorted, from_entries, get, insert, get-insert}
use Rattle.std.specs.FinMap.Entries.{is_sorted}
use Rattle.std.proofs.lemmas.Bool.{false≢true}
use Rattle.std.proofs.lemmas.Cmp.{nat_cmp_total}
use Rattle.std.proofs.lemmas.Option.{same_Some}
use Rattle.gem_object.specs.declared.object.Object.{Object}
use Rattle.gem_image.specs.Image.{Image, with_objects}
use Rattle.gem_record.specs.Names.{under}
use Rattle.gem_record.specs.History.{entry_of}
use Rattle.gem_record.specs.declared.record.Entry.{Entry}
use Rattle.gem_record.specs.declared.record.TxnRecord.{TxnRecord}
use Rattle.gem_record.specs.declared.mode.Mode.TheVariants.{Full}
use Rattle.commit_check.specs.Conflicts.{Place, changed_of, last_change, conflicts_of}
use Rattle.commit_check.specs.Table.{IsTouched, IsWritten, IsChangedSince, write_write}
use Rattle.commit_check.proofs.Members.{IsOneOf}
use Rattle.gem_meaning.specs.declared.event.What.TheVariants.{Placed, Held, Dropped, Left, Checked, Halted}
use Rattle.gem_meaning.specs.Opened.{Opened}
use Rattle.gem_meaning.specs.Effect.{effect_at}
use Rattle.gem_meaning.specs.Events.{Event, Standing, effect_of, record_at_place, after_event, after_events, conflicts_at}
use Rattle.history_laws.proofs.Views.{after_one_more, after_more}
use Rattle.history_laws.proofs.Effects.{tied, of_effect}
use Rattle.history_laws.proofs.Unchanged.{IsPlacedAt, after_placed}
use Rattle.history_laws.proofs.Touched.{none_stands, touched_is_old}
use Rattle.stone_core.specs.declared.port.CommitAnswer.{CommitAnswer}
use Rattle.stone_core.specs.declared.port.CommitAnswer.TheVariants.{Halted as HaltedAt, ReadOnly, Conflicts, LogFull, DiskFault, Placed as PlacedAt, NoMemory}
use Rattle.stone_core.specs.Port.{CommitSays}
use Rattle.stone_core.proofs.ByName.{first_true, second_true}
use Rattle.stone_core.proofs.Spelled.{others_leave}

-- ---- what stands under a name of an effect

by_first : (name : ℕ) (object : Object) (entry : ℕ × Object) (b : Bool) (rest : Option Object)
    → eq_by_cmp nat_cmp entry.0 name ≡ b → if b then Some entry.1 else rest ≡ Some object
    → (entry ≡ (name, object)) ⊎ (rest ≡ Some object)
by_first name object entry true rest is found =
    let key = tied entry.0 name is in
    let value = same_Some entry.1 object found in
    inl (λ i. (key i, value i))
by_first name object entry false rest is found = inr found

-- it stands in the list
under_is_one : (name : ℕ) (object : Object) (objects : List (ℕ × Object))
    → under name objects ≡ Some object → IsOneOf (name, object) objects
under_is_one name object [] found = absurd (false≢true (ap is_some found))
under_is_one name object (entry ∷ rest) found = elim (by_first name object entry (eq_by_cmp nat_cmp entry.0 name) (under name rest) refl found) [
  | inl here ↦ inl here
  | inr later ↦ inr (under_is_one name object rest later)
]

-- and is put into the image
under_is_put : (image : Image) (name : ℕ) (object : Object) (objects : List (ℕ × Object))
    → T (is_sorted nat_cmp objects) → under name objects ≡ Some object
    → get (with_objects image objects) name ≡ Some object
under_is_put image name object [] sorted found = absurd (false≢true (ap is_some found))
under_is_put image name object (entry ∷ rest) sorted found = elim (by_first name object entry (eq_by_cmp nat_cmp entry.0 name) (under name rest) refl found) [
  | inl here ↦
      subst (λ (e : ℕ × Object). get (with_objects (insert image entry.0 entry.1) rest) e.0 ≡ Some e.1) here (
      others_leave (insert image entry.0 entry.1) entry.0 rest (first_true _ _ sorted)
      ∙ get-insert nat_cmp_total image entry.0 entry.1 entry.0
      ∙ ap (λ o. cond (is_eq o) (Some entry.1) (get image entry.0)) (tied_itself nat_cmp_total entry.0))
  | inr later ↦ under_is_put (insert image entry.0 entry.1) name object rest (second_true _ _ sorted) later
]

effect_sorted : (image : Image) (number : ℕ) (done : TxnRecord) → T (is_sorted nat_cmp (effect_at image number done))
unfolding effect_at
effect_sorted image number done = entries_sorted (from_entries _)

-- a name of the effect was changed last by its commit
effect_changes : (image : Image) (number name : ℕ) (done : TxnRecord) (found : Option Object)
    → under name (effect_at image number done) ≡ found → IsSome found
    → last_change (with_objects image (effect_at image number done)) name ≡ number
effect_changes image number name done None is some = absurd (false≢true some)
effect_changes image number name done (Some object) is some =
    ap changed_of (under_is_put image name object (effect_at image number done) (effect_sorted image number done) is)
    ∙ (of_effect image number done name object (under_is_one name object (effect_at image number done) is)).1

-- ---- what is changed after a view

-- the object was changed after the view
abbrev IsLater : Standing → (view name : ℕ) → Type 0
IsLater s view name = (view < last_change s.image name) × (view ≤ s.number)

later_placed : (o : Opened) (s : Standing) (e : Entry) (view name : ℕ) → IsLater s view name
    → IsPlacedAt o s e name
    → view < last_change (with_objects s.image (effect_of o s e)) name
later_placed o s e view name later (inl same) = subst (λ (n : ℕ). view < n) (sym (ap changed_of same)) later.0
later_placed o s e view name later (inr found) =
    let last : last_change (with_objects s.image (effect_of o s e)) name ≡ s.number + 1 = ap changed_of found.1 ∙ found.2 in
    let seen = later.1 in
    omega (arith, last, seen)

later_event : (o : Opened) (s : Standing) (event : Event) (view name : ℕ) → IsLater s view name
    → IsLater (after_event o s event) view name
later_event o s (session, Placed e) view name later =
    (later_placed o s e view name later (after_placed o s e name), let seen = later.1 in omega (arith, seen))
later_event o s (session, Held oid kind) view name later = later
later_event o s (session, Dropped oid) view name later = later
later_event o s (session, Left) view name later = later
later_event o s (session, Checked) view name later = later
later_event o s (session, Halted number entry) view name later = later

later_from : (o : Opened) (s : Standing) (events : List Event) (view name : ℕ) → IsLater s view name
    → IsLater (fold (after_event o) s events) view name
later_from o s [] view name later = later
later_from o s (event ∷ events) view name later =
    later_from o (after_event o s event) events view name (later_event o s event view name later)

now_later : (o : Opened) (s : Standing) (session : ℕ) (e : Entry) (view name : ℕ) → view ≤ s.number
    → IsSome (under name (effect_of o s e)) → IsLater (after_event o s (session, Placed e)) view name
unfolding effect_of
now_later o s session e view name seen changed =
    let last = effect_changes s.image (s.number + 1) name (record_at_place o s e) _ refl changed in
    (omega (arith, last, seen), omega (arith, seen))

-- ---- it is a conflict

since_of : (image : Image) (view name : ℕ) (found : Option Object) → get image name ≡ found
    → view < last_change image name → IsChangedSince image view name
since_of image view name None is later =
    let last : last_change image name ≡ 0 = ap changed_of is in absurd (omega (arith, last, later))
since_of image view name (Some object) is later = record { object = object; stands = is; later = later }

conflicts : (place : Place) (done : TxnRecord) (name : ℕ) → done.view < last_change place.image name
    → ((done.mode ≡ Full) × IsTouched done name) ⊎ IsWritten done name → conflicts_of place done ≡ [] → ⊥
conflicts place done name later (inl touched) none =
    let old = touched_is_old place done none touched.0 name touched.1 in omega (arith, old, later)
conflicts place done name later (inr written) none =
    none_stands place done _ none (write_write name written
    (since_of place.image done.view name (get place.image name) refl later))

pub first_wins : (o : Opened) (before more : List Event) (session : ℕ) (placed : Entry) (done : TxnRecord) (name : ℕ)
    → done.view ≤ (after_events o before).number → IsSome (under name (effect_of o (after_events o before) placed))
    → ((done.mode ≡ Full) × IsTouched done name) ⊎ IsWritten done name
    → conflicts_at (after_events o ((before ++ (session, Placed placed) ∷ []) ++ more)) done ≢ []
first_wins o before more session placed done name seen changed used none =
    let event : Event = (session, Placed placed) in
    let later = later_from o (after_event o (after_events o before) event) more done.view name
    (now_later o (after_events o before) session placed done.view name seen changed) in
    let is : after_events o ((before ++ event ∷ []) ++ more) ≡ fold (after_event o) (after_event o (after_events o before) event) more =
    after_more o (before ++ event ∷ []) more ∙ ap (λ s. fold (after_event o) s more) (after_one_more o before event) in
    let here = subst (λ (s : Standing). IsLater s done.view name) (sym is) later in
    let s = after_events o ((before ++ event ∷ []) ++ more) in
    conflicts (record { image = s.image; locks = s.locks }) done name here.0 used none

-- ---- answers that change nothing

pub nothing_changed : (o : Opened) (before after : List Event) (done : TxnRecord) (answer : CommitAnswer)
    → ((number : ℕ) → answer ≢ PlacedAt number) → answer ≢ DiskFault
    → (says : CommitSays o before after done answer) → after ≡ before ++ says.others
nothing_changed o before after done (HaltedAt number) other worked says = says.events ∙ append-nil (before ++ says.others)
nothing_changed o before after done (ReadOnly number) other worked says = says.events ∙ append-nil (before ++ says.others)
nothing_changed o before after done (Conflicts found) other worked says = says.events ∙ append-nil (before ++ says.others)
nothing_changed o before after done (LogFull length size) other worked says = says.events ∙ append-nil (before ++ says.others)
nothing_changed o before after done DiskFault other worked says = absurd (worked refl)
nothing_changed o before after done (PlacedAt number) other worked says = absurd (other number refl)
nothing_changed o before after done NoMemory other worked says = says.events ∙ append-nil (before ++ says.others)

-- nor does what stands where the disk fails
pub still_stands : (o : Opened) (before after : List Event) (done : TxnRecord)
    → (says : CommitSays o before after done DiskFault) → after_events o after ≡ after_events o (before ++ says.others)
still_stands o before after done says =
    ap (after_events o) says.events
    ∙ after_one_more o (before ++ says.others)
    (done.session, Halted ((after_events o (before ++ says.others)).number + 1) (Some (entry_of done)))
