-- What a conflict shows that isn't of a lock is a commit after the view, and one that stands.
use Rattle.std.proofs.Common.{◌≡◌, ◌≢◌, ℕ, ◌<◌, ◌≤◌, inl, inr, Bool, true, false, cond, if◌then◌else◌, List, [], ◌∷◌, map, Contains, Option, Some, None, is_some, option_map, Ordering, Less, Equal, Greater, nat_cmp, refl, sym, ap, ◌∙◌, arith}
use Rattle.std.specs.Ordering.{is_eq}
use Rattle.std.specs.Option.{option_or}
use Rattle.std.specs.FinMap.{get}
use Rattle.std.proofs.lemmas.Bool.{false≢true, and_parts, cases_lt}
use Rattle.std.proofs.lemmas.Option.{same_Some}
use Rattle.std.proofs.lemmas.Map.Lookups.{exact_unsigned}
use Rattle.gem_meaning.specs.gem_value.declared.conflict.Conflict.{Conflict}
use Rattle.gem_meaning.specs.gem_value.declared.conflict.ConflictKind.{ConflictKind}
use Rattle.gem_meaning.specs.gem_value.declared.conflict.ConflictKind.TheVariants.{WriteReadLock, WriteWriteLock}
use Rattle.gem_meaning.specs.gem_object.Kinds.{is_shared}
use Rattle.gem_meaning.specs.gem_object.declared.body.Body.{Body}
use Rattle.gem_meaning.specs.gem_object.declared.body.Body.TheVariants as body
use Rattle.gem_meaning.specs.gem_object.declared.object.Object.{Object}
use Rattle.gem_meaning.specs.gem_image.Image.{Image, Contents, contents_of, objects_in}
use Rattle.gem_meaning.specs.gem_record.Names.{under}
use Rattle.gem_meaning.specs.gem_record.History.{entry_of}
use Rattle.gem_meaning.specs.gem_record.declared.record.TxnRecord.{TxnRecord}
use Rattle.gem_meaning.specs.gem_record.declared.record.Entry.{Entry}
use Rattle.gem_meaning.specs.gem_update.Update.{merged, merge_kind}
use Rattle.gem_meaning.specs.gem_update.declared.update.Update.{Update}
use Rattle.gem_meaning.specs.gem_world.World.{Setting, World, untouched, as_of, before_changes, is_made}
use Rattle.gem_meaning.specs.gem_world.Changes.{with_body, updates_on}
use Rattle.gem_meaning.specs.object_programs.Laws.{updated_by_all, UpdatesTell}
use Rattle.gem_meaning.proofs.object_programs_lemmas.Told.{StaysTold, told_stays, told_first}
use Rattle.gem_meaning.proofs.gem_language_lemmas.Lists as lists
use Rattle.gem_meaning.specs.gem_record.Record.{record_of}
use Rattle.gem_meaning.specs.commit_check.Conflicts.{last_change}
use Rattle.gem_meaning.specs.commit_check.Table.{IsRefused, Stands, write_write, read_write, write_read_lock, write_write_lock, merge_refused}
use Rattle.gem_meaning.proofs.commit_check_lemmas.Stood.{listed_stands}
use Rattle.gem_meaning.specs.Commands.{object_commands}
use Rattle.gem_meaning.specs.Opened.{Opened, entry_commands, entry_setting, record_on}
use Rattle.gem_meaning.specs.Events.{Told, Standing, image_at, run_on_view, record_on_view, standing, conflicts_at}
use Rattle.gem_meaning.specs.Serial.{IsTransaction, MayBeginAt, IsRecorded, IsSerial, CanServe}
use Rattle.history_laws.proofs.Views.{IsGrown, is_grown}
use Rattle.history_laws.proofs.Unchanged.{IsUnchangedSince, AreNumbered, unchanged_since, are_numbered}
use Rattle.history_laws.proofs.Drawn.{drawn_counter}
use Rattle.history_laws.proofs.Commits.{CommitsKeep}
use Rattle.history_laws.proofs.Sound.{AllSound, at_view, sound_on_view, free_at_view}
use Rattle.history_laws.proofs.Histories.{all_sound}
use Rattle.history_laws.proofs.Merges.{merged_still}

-- ---- the updates of a record

updates_by : (name : ℕ) (us : List (ℕ × Update)) (first : ℕ) (rest : List ℕ) (r : Ordering)
    → nat_cmp first name ≡ r → (found : List Update)
    → (under name (map (λ n. (n, updates_on n us)) rest) ≡ Some found → found ≡ updates_on name us)
    → if is_eq r then Some (updates_on first us) else under name (map (λ n. (n, updates_on n us)) rest)
    ≡ Some found
    → found ≡ updates_on name us
updates_by name us first rest Less is found later e = later e
updates_by name us first rest Greater is found later e = later e
updates_by name us first rest Equal is found later e =
    sym (same_Some (updates_on first us) found e) ∙ ap (λ n. updates_on n us) (exact_unsigned first name is)

updates_of_name : (name : ℕ) (us : List (ℕ × Update)) (names : List ℕ) (found : List Update)
    → under name (map (λ n. (n, updates_on n us)) names) ≡ Some found → found ≡ updates_on name us
updates_of_name name us [] found e = absurd (false≢true (ap is_some e))
updates_of_name name us (first ∷ rest) found e = updates_by name us first rest (nat_cmp first name) refl
    found (updates_of_name name us rest found) e

updates_in_record : (e : Entry) (setting : Setting) (world : World) (name : ℕ) (found : List Update)
    → under name (record_of e setting world).updates ≡ Some found → found ≡ updates_on name world.updates
unfolding record_of
updates_in_record e setting world name found is = updates_of_name name world.updates _ found is

base_of_record : (e : Entry) (setting : Setting) (world : World)
    → (record_of e setting world).base ≡ setting.view
unfolding record_of
base_of_record e setting world = refl

-- ---- what an object with updates has become

shared_by_kind : (b : Body) → is_some (merge_kind b) ≡ is_shared b
shared_by_kind (body.Plain _) = refl
shared_by_kind (body.Bytes _) = refl
shared_by_kind (body.Dict _) = refl
shared_by_kind (body.Class _) = refl
shared_by_kind (body.Segment _) = refl
shared_by_kind (body.User _) = refl
shared_by_kind (body.Counter _) = refl
shared_by_kind (body.Bag _) = refl
shared_by_kind (body.RcDict _) = refl
shared_by_kind (body.Queue _) = refl

shown_some : (found : Option Contents) (old : Contents) → is_some (option_or found (Some old)) ≡ true
shown_some None old = refl
shown_some (Some object) old = refl

mapped_some : {X Y : Type 0} (f : X → Y) (found : Option X) → is_some (option_map f found) ≡ true
    → is_some found ≡ true
mapped_some f None some = some
mapped_some f (Some x) some = refl

as_of_same : (found : Option Contents) (object : Contents) → found ≡ Some object
    → is_shared object.body ≡ true → as_of found found ≡ Some object
as_of_same found object is shared = ap (λ o. as_of o o) is
    ∙ ap (λ b. Some (cond b object object)) shared

-- the updates of an object that was there before are accepted one after the other
accepted : (setting : Setting) (world : World) (name : ℕ) (old : Contents) → UpdatesTell setting world
    → before_changes name setting ≡ Some old → is_shared old.body ≡ true
    → is_made name setting world ≡ false
    → is_some (updated_by_all (updates_on name world.updates) old.body) ≡ true
accepted setting world name old tells before shared unmade =
    mapped_some (λ b. with_body b old) (updated_by_all (updates_on name world.updates) old.body)
    (ap is_some (tells.told name old before shared unmade
    ∙ ap (option_or (get world.changes name)) before)
    ∙ shown_some (get world.changes name) old)

module _ (o : Opened) (s : Standing) (done : TxnRecord) (serves : CanServe o) (grown : IsGrown o s)
    (all : AllSound o s) (since : IsUnchangedSince o s)
    (of_script : IsTransaction o.script (entry_of done)) (begins : MayBeginAt o s (entry_of done))
    (is : done ≡ record_on_view o s (entry_of done)) where
  abbrev e : Entry
  e = entry_of done

  abbrev view : Image
  view = image_at s done.view

  abbrev setting : Setting
  setting = entry_setting o e view view

  abbrev world : World
  world = (run_on_view o s e).world

  record_is : done ≡ record_of e setting world
  unfolding record_on run_on_view
  record_is = is

  tells : UpdatesTell setting world
  unfolding run_on_view
  tells = lists.listed setting (StaysTold setting) (told_stays setting)
      (object_commands (entry_commands o.script e)) (untouched e.first_name) (told_first setting)

  base_is : done.base ≡ view
  base_is = ap (λ (d : TxnRecord). d.base) record_is ∙ base_of_record e setting world

  -- an object that the view has wasn't made in the transaction
  not_made : (oid : ℕ) (object : Object) → get view oid ≡ Some object → is_made oid setting world ≡ false
  unfolding is_made
  not_made oid object there = by (is_made oid setting world) refl
    where
      by : (made : Bool) → is_made oid setting world ≡ made → made ≡ false
      by false made = refl
      by true made =
          let drawn = drawn_counter oid setting world (and_parts _ _ made).0 in
          let below = drawn.3 in
          let bound = (sound_on_view o s e serves grown all of_script begins).next_bound in
          absurd (false≢true (sym (ap is_some (free_at_view o s e serves grown all of_script begins
          drawn.0 drawn.2 (omega (arith, below, bound))))
          ∙ (ap (λ at. is_some (objects_in view at)) (sym drawn.1)
          ∙ ap (λ found. is_some (option_map contents_of found)) there)))

  still_merged : (oid : ℕ) (object : Object) (updates : List Update) → get view oid ≡ Some object
      → under oid done.updates ≡ Some updates → is_some (merge_kind object.body) ≡ true
      → is_some (merged object.body object.body updates) ≡ true
  still_merged oid object updates there found kind =
      let shared = sym (shared_by_kind object.body) ∙ kind in
      let seen = ap (option_map contents_of) there in
      let before : before_changes oid setting ≡ Some (contents_of object) =
      as_of_same (objects_in view oid) (contents_of object) seen shared in
      let same : updates ≡ updates_on oid world.updates = updates_in_record e setting world oid updates
      (ap (λ (d : TxnRecord). under oid d.updates) (sym record_is) ∙ found) in
      let spelled = (at_view o s e serves grown all of_script begins).image.spelled oid object there in
      merged_still object.body updates spelled.body kind
      (ap (λ us. is_some (updated_by_all us object.body)) same
      ∙ accepted setting world oid (contents_of object) tells before shared (not_made oid object there))

  -- a refused merge is of an object that was changed after the view
  refused_later : (oid : ℕ) (kind : ConflictKind) → IsRefused s.image done oid kind
      → done.view < last_change s.image oid
  refused_later oid kind refused = elim (cases_lt done.view (last_change s.image oid)) [
    | inl later ↦ later
    | inr old ↦
        let same = since done.view oid begins.from begins.to old in
        let there : get view oid ≡ Some refused.view =
        ap (λ image. get image oid) (sym base_is) ∙ refused.at_view in
        let bodies : refused.place.body ≡ refused.view.body = ap (λ (object : Object). object.body)
        (same_Some refused.place refused.view (sym refused.at_place ∙ (same ∙ there))) in
        let merges = still_merged oid refused.view refused.updates there refused.updated
        (ap (λ b. is_some (merge_kind b)) (sym bodies) ∙ ap is_some refused.class) in
        absurd (false≢true (sym (ap is_some refused.refused)
        ∙ (ap (λ b. is_some (merged refused.view.body b refused.updates)) bodies ∙ merges)))
  ]

  pub shown_later : (c : Conflict) → Stands (record { image = s.image; locks = s.locks }) done c
      → c.kind ≢ WriteReadLock → c.kind ≢ WriteWriteLock → done.view < c.shown
  shown_later c (write_write oid written since) no_read no_write = since.later
  shown_later c (read_write oid full touched not_written since) no_read no_write = since.later
  shown_later c (write_read_lock oid holder changed lowest) no_read no_write = absurd (no_read refl)
  shown_later c (write_write_lock oid holder changed lowest) no_read no_write = absurd (no_write refl)
  shown_later c (merge_refused oid kind refused) no_read no_write = refused_later oid kind refused

pub shown_after_view : (t : Told) (done : TxnRecord) → CommitsKeep → CanServe t.opened → IsSerial t
    → IsRecorded t done → (c : Conflict)
    → Contains (conflicts_at (standing t) done) c → c.kind ≢ WriteReadLock → c.kind ≢ WriteWriteLock
    → done.view < c.shown
shown_after_view t done law serves serial recorded c listed no_read no_write =
    let s = standing t in
    shown_later t.opened s done serves (is_grown t.opened t.events)
    (all_sound t law serves serial) (unchanged_since t.opened t.events) recorded.of_script
    recorded.begins recorded.is c
    (listed_stands (record { image = s.image; locks = s.locks }) done c listed) no_read no_write

-- ---- the commits that are shown stand

stands_shown : (s : Standing) (done : TxnRecord) → AreNumbered s → (c : Conflict)
    → Stands (record { image = s.image; locks = s.locks }) done c
    → c.kind ≢ WriteReadLock → c.kind ≢ WriteWriteLock → c.shown ≤ s.number
stands_shown s done numbered c (write_write oid written since) no_read no_write = numbered oid
stands_shown s done numbered c (read_write oid full touched not_written since) no_read no_write = numbered oid
stands_shown s done numbered c (write_read_lock oid holder changed lowest) no_read no_write = absurd (no_read refl)
stands_shown s done numbered c (write_write_lock oid holder changed lowest) no_read no_write = absurd (no_write refl)
stands_shown s done numbered c (merge_refused oid kind refused) no_read no_write = numbered oid

pub shown_stands : (t : Told) (done : TxnRecord) → CanServe t.opened → (c : Conflict)
    → Contains (conflicts_at (standing t) done) c → c.kind ≢ WriteReadLock → c.kind ≢ WriteWriteLock
    → c.shown ≤ (standing t).number
shown_stands t done serves c listed no_read no_write =
    let s = standing t in
    stands_shown s done (are_numbered t.opened t.events serves.changed) c
    (listed_stands (record { image = s.image; locks = s.locks }) done c listed) no_read no_write
