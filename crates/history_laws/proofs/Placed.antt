-- A record without conflicts is placed as it was recorded: at its place the transaction does what it
-- did on its view.
use Rattle.std.proofs.Common.{◌≡◌, ℕ, ◌+◌, ◌≤◌, true, [], option_map, refl, sym, ap, subst, ◌∙◌}
use Rattle.std.specs.FinMap.{get}
use Rattle.gem_meaning.specs.gem_image.Image.{Image, contents_of}
use Rattle.gem_meaning.specs.gem_record.History.{entry_of}
use Rattle.gem_meaning.specs.gem_record.declared.record.TxnRecord.{TxnRecord}
use Rattle.gem_meaning.specs.gem_record.declared.record.Entry.{Entry}
use Rattle.gem_meaning.specs.gem_record.declared.mode.Mode.{Mode}
use Rattle.gem_meaning.specs.gem_record.declared.mode.Mode.TheVariants.{Full, NoRw}
use Rattle.gem_meaning.specs.gem_world.World.{untouched, is_made}
use Rattle.gem_meaning.specs.gem_world.Access as access
use Rattle.gem_meaning.specs.object_programs.Laws.{begun_at, Stays, AgreeOnTouched}
use Rattle.gem_meaning.specs.gem_language.Transaction.{Transaction}
use Rattle.gem_meaning.proofs.gem_language_lemmas.Lists as lists
use Rattle.gem_meaning.specs.gem_record.Record.{record_of}
use Rattle.gem_meaning.specs.commit_check.Conflicts.{is_touched}
use Rattle.gem_meaning.specs.commit_check.Table.{IsWritten}
use Rattle.gem_meaning.specs.Commands.{object_commands}
use Rattle.gem_meaning.specs.Opened.{Opened, session_serial, entry_commands, entry_setting, run_at, record_on}
use Rattle.gem_meaning.specs.Effect.{MergesFit, effect_at}
use Rattle.gem_meaning.specs.Events.{Told, Standing, image_at, ordinary_in, run_at_place, run_on_view, record_at_place, record_on_view, effect_of, standing, conflicts_at, IsRunning}
use Rattle.gem_meaning.specs.Serial.{IsPlaced, IsRecorded, IsSerial, CanServe}
use Rattle.history_laws.proofs.Unchanged.{IsUnchangedSince, unchanged_since}
use Rattle.history_laws.proofs.Commits.{CommitsKeep}
use Rattle.history_laws.proofs.Histories.{all_sound}
use Rattle.history_laws.proofs.Touched.{touched_in_record, is_contained, touched_is_old, written_is_old}

module _ (o : Opened) (s : Standing) (e : Entry) where
  abbrev view : Image
  view = image_at s e.view

  -- Where place and view agree on what was touched, the run at the place is that on the view.
  same_by_frame : Stays view s.image → AgreeOnTouched view s.image (run_on_view o s e).world
      → run_at o e s.image view ≡ run_on_view o s e
  unfolding run_on_view
  same_by_frame stays agree =
      lists.frame (begun_at view view e.user (session_serial o e.session) e.first_name) s.image stays
      (object_commands (entry_commands o.script e)) (untouched e.first_name) agree

  -- two runs that are the same leave the same record
  pub same_record : run_at_place o s e ≡ run_on_view o s e → record_at_place o s e ≡ record_on_view o s e
  unfolding record_at_place record_on run_on_view record_of is_made
  same_record same =
      ap (λ (run : Transaction). record_of e (entry_setting o e s.image view) run.world) same

module _ (o : Opened) (s : Standing) (done : TxnRecord) (since : IsUnchangedSince o s)
    (stays : Stays (image_at s done.view) s.image) (from : o.number ≤ done.view)
    (to : done.view ≤ s.number) (is : done ≡ record_on_view o s (entry_of done))
    (none : conflicts_at s done ≡ []) where
  abbrev e : Entry
  e = entry_of done

  touched_by_run : (name : ℕ) → access.IsTouched name (run_on_view o s e).world
      → is_touched done name ≡ true
  unfolding run_on_view record_on
  touched_by_run name here = ap (λ d. is_touched d name) is
      ∙ (touched_in_record e (entry_setting o e (image_at s e.view) (image_at s e.view))
      (run_on_view o s e).world name ∙ here)

  agree : done.mode ≡ Full → AgreeOnTouched (image_at s e.view) s.image (run_on_view o s e).world
  agree full name here =
      ap (option_map contents_of) (since done.view name from to
      (touched_is_old (record { image = s.image; locks = s.locks }) done none full name
      (is_contained done name (touched_by_run name here))))

  -- without checks of what is only read both runs are on the view
  same_by_mode : (mode : Mode) → done.mode ≡ mode
      → run_at o e (ordinary_in mode s.image (image_at s e.view)) (image_at s e.view) ≡ run_on_view o s e
  unfolding run_on_view
  same_by_mode Full full = same_by_frame o s e stays (agree full)
  same_by_mode NoRw other = refl

  pub same_run : run_at_place o s e ≡ run_on_view o s e
  unfolding run_at_place
  same_run = same_by_mode done.mode refl

  -- what it wrote is at the place as it is in the view
  pub unwritten_since : (oid : ℕ) → IsWritten (record_on_view o s e) oid
      → get s.image oid ≡ get (image_at s e.view) oid
  unwritten_since oid written = since done.view oid from to
      (written_is_old (record { image = s.image; locks = s.locks }) done none oid
      (subst (λ (d : TxnRecord). IsWritten d oid) (sym is) written))

  pub recorded_here : record_at_place o s e ≡ done
  recorded_here = same_record o s e same_run ∙ sym is

  pub effect_is : effect_of o s e ≡ effect_at s.image (s.number + 1) done
  unfolding effect_of
  effect_is = ap (effect_at s.image (s.number + 1)) recorded_here

-- What holds of a record without conflicts: its run at the place is the one on its view, and leaves
-- the same record and the same effect; and what it wrote is at the place as in the view.
pub record IsSameAtPlace (t : Told) (done : TxnRecord) : Type 0 where
  pub run : run_at_place t.opened (standing t) (entry_of done)
      ≡ run_on_view t.opened (standing t) (entry_of done)
  pub recorded : record_at_place t.opened (standing t) (entry_of done) ≡ done
  pub unwritten : (oid : ℕ) → IsWritten (record_on_view t.opened (standing t) (entry_of done)) oid
      → get (standing t).image oid ≡ get (image_at (standing t) done.view) oid
  pub effect : effect_of t.opened (standing t) (entry_of done)
      ≡ effect_at (standing t).image ((standing t).number + 1) done

pub same_at_place : (t : Told) (done : TxnRecord) → CommitsKeep → CanServe t.opened → IsSerial t
    → IsRecorded t done → conflicts_at (standing t) done ≡ [] → IsSameAtPlace t done
same_at_place t done law serves serial recorded none =
    let o = t.opened in
    let s = standing t in
    let begins = recorded.begins in
    let since = unchanged_since o t.events in
    let stays = ((all_sound t law serves serial).images done.view begins.from begins.to).stays in
    record {
      run = same_run o s done since stays begins.from begins.to recorded.is none;
      recorded = recorded_here o s done since stays begins.from begins.to recorded.is none;
      unwritten = unwritten_since o s done since stays begins.from begins.to recorded.is none;
      effect = effect_is o s done since stays begins.from begins.to recorded.is none;
    }

-- so it can be placed while the disk hasn't failed, where what its merges make can be stored
pub placed_as_recorded : (t : Told) (done : TxnRecord) → CommitsKeep → CanServe t.opened
    → IsSerial t → IsRunning t.events → IsRecorded t done → conflicts_at (standing t) done ≡ []
    → MergesFit (standing t).image done
    → IsPlaced t.opened t.events done.session (entry_of done)
placed_as_recorded t done law serves serial running recorded none fit =
    let same = same_at_place t done law serves serial recorded none in
    record {
      of_session = refl;
      of_script = recorded.of_script;
      running = running;
      begins = recorded.begins;
      apart = recorded.apart;
      no_conflict = ap (conflicts_at (standing t)) (sym recorded.is) ∙ none;
      merges = subst (MergesFit (standing t).image) (sym same.recorded) fit;
      same = same.run;
      unwritten = same.unwritten;
    }
