-- The run of the set-up over the image of the kernel, and what its commit changes.
use Rattle.std.proofs.Common.{◌≡◌, ℕ, pos, false, List, [], ◌∷◌, ◌++◌, map, Option, Some, None, IfSome, Result, refl, sym, ap, subst, ◌∙◌}
use Rattle.std.specs.Prelude.{nat_lt}
use Rattle.std.specs.List.{flat_map}
use Rattle.std.specs.FinMap.{get, empty}
use Rattle.gem_meaning.specs.gem_object.declared.object.Object.{Object}
use Rattle.gem_meaning.specs.gem_image.Image.{Image}
use Rattle.gem_meaning.specs.gem_world.World.{Setting, untouched}
use Rattle.gem_meaning.specs.object_programs.Laws.{begun_at}
use Rattle.gem_meaning.specs.object_programs.Run.{perform, Outcome}
use Rattle.gem_meaning.specs.st_tree.Trees.{Program}
use Rattle.gem_meaning.specs.st_grammar_laws.TreeOf.{TextFault}
use Rattle.gem_meaning.specs.tree_meaning.Place.{MadeBlock}
use Rattle.gem_meaning.specs.gem_language.Commands.{Reply, run_chunk, chunk_reply, reply_by, command_reply}
use Rattle.gem_meaning.specs.gem_language.Transaction.{command_outcome}
use Rattle.gem_meaning.specs.gem_record.declared.record.Entry.{Entry}
use Rattle.gem_meaning.specs.gem_record.declared.record.TxnRecord.{TxnRecord}
use Rattle.gem_meaning.specs.gem_record.Record.{all_uncommitted, record_of}
use Rattle.gem_meaning.specs.gem_record.Effects.{log_record_size}
use Rattle.gem_meaning.specs.Effect.{kept_objects, changed_objects, stamped, by_name, effect_at, IsUnchanged}
use Rattle.gem_meaning.specs.kept_set.Kept.{dropped, kept_of}
use Rattle.gem_meaning.specs.commit_check.Conflicts.{change_kind, is_written, is_checked, conflicts_of, merged_on, merged_objects, names_used}
use Rattle.gem_meaning.specs.gem_update.declared.update.Update.{Update}
use Rattle.gem_meaning.specs.gem_world.Changes.{updates_on}
use Rattle.kernel_image.specs.Objects.{other_entries, globals_entries, kernel_image}
use Rattle.gem_server.proofs.LoadTrees.{setup_chunk, setup_tree, setup_read}
use Rattle.gem_server.proofs.PlainWorlds.{PlainWorld, plain_drawn}
use Rattle.gem_server.proofs.SameWorlds.{plain_setting, IsOutcome, IsWorld, begin_untouched, same_begun}
use Rattle.gem_server.proofs.RunRecords.{entries_put, plain_ascending, plain_record, same_record}
use Rattle.gem_server.specs.Rounds.{hits, names, hits_contents, names_contents, globals_contents}
use Rattle.gem_server.proofs.SetupWorld.{setup_setting, after_setup, setup_next, setup_written, setup_made, setup_updates}
use Rattle.kernel_image.proofs.Unchanged.{kernel_unchanged}
use Rattle.gem_server.proofs.NoConflicts.{no_change, no_conflicts}
use Rattle.gem_server.proofs.SetupKernel.{kernel_is_shown}

abbrev pub kernel_setting : Setting
kernel_setting = begun_at kernel_image kernel_image 32 1 1

setting_shown : plain_setting kernel_setting ≡ setup_setting
setting_shown = λ i. record { place = kernel_is_shown i; view = kernel_is_shown i; user = 32; serial = 1; first = 1 }

-- what the chunk of the set-up does
abbrev pub setup_outcome : Outcome MadeBlock Reply
setup_outcome = command_outcome (run_chunk false setup_chunk) kernel_setting (untouched 1)

outcome_read : setup_outcome ≡ perform (chunk_reply false setup_tree) kernel_setting (begin_untouched 1)
unfolding command_reply
outcome_read = ap (λ (tree : Result Program TextFault). perform (reply_by (chunk_reply false) tree) kernel_setting (begin_untouched 1)) setup_read

outcome_is : IsOutcome kernel_setting setup_outcome after_setup
outcome_is = subst (λ (o : Outcome MadeBlock Reply). IsOutcome kernel_setting o after_setup) (sym outcome_read)
    (same_begun (chunk_reply false setup_tree) kernel_setting 1 setup_setting setting_shown (plain_drawn setup_setting 1) refl)

world_is : IsWorld kernel_setting setup_outcome.state.world after_setup.state.world
world_is = outcome_is.state.world

pub draws_two : setup_outcome.state.world.next ≡ 3
draws_two = sym (ap (λ (w : PlainWorld). w.next) world_is.is) ∙ setup_next

-- ---- the record of the run, by the entry

abbrev pub setup_record : Entry → TxnRecord
setup_record entry = record_of entry kernel_setting setup_outcome.state.world

record_is : (entry : Entry) → setup_record entry ≡ plain_record entry kernel_setting after_setup.state.world
record_is entry = same_record entry kernel_setting setup_outcome.state.world after_setup.state.world world_is

-- the same, where the lists stand as they are
abbrev listed_record : Entry → List ℕ → TxnRecord
listed_record entry touched = record {
  session = entry.session;
  transaction = entry.transaction;
  user = entry.user;
  first_command = entry.first_command;
  last_command = entry.last_command;
  first_name = entry.first_name;
  view = entry.view;
  mode = entry.mode;
  base = kernel_image;
  touched = touched;
  written = all_uncommitted ((27, globals_contents) ∷ []);
  made = all_uncommitted ((hits, hits_contents (pos 0)) ∷ (names, names_contents []) ∷ []);
  updates = [];
}

abbrev touched_there : List ℕ
touched_there = plain_ascending after_setup.state.world.touched

listed : (entry : Entry) → setup_record entry ≡ listed_record entry touched_there
listed entry = record_is entry ∙ (λ i. record {
  session = entry.session;
  transaction = entry.transaction;
  user = entry.user;
  first_command = entry.first_command;
  last_command = entry.last_command;
  first_name = entry.first_name;
  view = entry.view;
  mode = entry.mode;
  base = kernel_image;
  touched = touched_there;
  written = all_uncommitted (setup_written i);
  made = all_uncommitted (setup_made i);
  updates = map (λ name. (name, updates_on name (setup_updates i)))
      (plain_ascending (map (λ (entry : ℕ × Update). entry.0) (setup_updates i)));
})

-- something is to be committed
pub writes_globals : (entry : Entry) → IsUnchanged (setup_record entry) → ⊥
writes_globals entry unchanged =
    let none : all_uncommitted ((27, globals_contents) ∷ []) ≡ [] =
    ap (λ (done : TxnRecord). done.written) (sym (listed entry)) ∙ unchanged.unwritten in
    absurd cc

-- ---- what the commit changes

no_merges : (image : Image) (entry : Entry) (touched names : List ℕ) → flat_map (merged_on image (listed_record entry touched)) names ≡ []
no_merges image entry touched [] = refl
no_merges image entry touched (name ∷ names) = no_merges image entry touched names

none_merged : (image : Image) (entry : Entry) (touched : List ℕ) → merged_objects image (listed_record entry touched) ≡ []
unfolding merged_objects
none_merged image entry touched = no_merges image entry touched (names_used (listed_record entry touched))

-- the objects that the commit changes
abbrev pub setup_changes : List (ℕ × Object)
setup_changes = all_uncommitted ((27, globals_contents) ∷ (hits, hits_contents (pos 0)) ∷ (names, names_contents []) ∷ [])

both_kept : (entry : Entry) (touched : List ℕ)
    → kept_objects (listed_record entry touched) ≡ all_uncommitted ((hits, hits_contents (pos 0)) ∷ (names, names_contents []) ∷ [])
unfolding kept_of dropped other_entries globals_entries
both_kept entry touched = refl

changes_are : (image : Image) (entry : Entry) (touched : List ℕ) → changed_objects image (listed_record entry touched) ≡ setup_changes
changes_are image entry touched =
    let written = (listed_record entry touched).written in
    ap (λ (more : List (ℕ × Object)). written ++ (kept_objects (listed_record entry touched) ++ more)) (none_merged image entry touched)
    ∙ ap (λ (kept : List (ℕ × Object)). written ++ (kept ++ [])) (both_kept entry touched)

abbrev pub setup_effect : List (ℕ × Object)
setup_effect = map (stamped 1) setup_changes

pub effect_is : (entry : Entry) → effect_at kernel_image 1 (setup_record entry) ≡ setup_effect
unfolding effect_at
effect_is entry = ap (λ (done : TxnRecord). by_name (map (stamped 1) (changed_objects kernel_image done))) (listed entry)
    ∙ ap (λ (changes : List (ℕ × Object)). by_name (map (stamped 1) changes)) (changes_are kernel_image entry touched_there)
    ∙ entries_put setup_effect

pub effect_bytes : log_record_size (record { number = 1; objects = setup_effect }) ≡ 836
unfolding other_entries globals_entries
effect_bytes = refl

-- ---- no conflict

never_below : (object : Option Object) → IfSome object (λ o. o.changed ≡ 0) → IfSome object (λ o. nat_lt 0 o.changed ≡ false)
never_below None unchanged = tt
never_below (Some object) unchanged = ap (λ (number : ℕ). nat_lt 0 number) unchanged

-- the record at view 0 has no conflict with the kernel
pub no_conflict : (entry : Entry) → entry.view ≡ 0
    → conflicts_of (record { image = kernel_image; locks = empty }) (setup_record entry) ≡ []
no_conflict entry at_first =
    let done : TxnRecord = listed_record entry touched_there in
    ap (λ (d : TxnRecord). conflicts_of (record { image = kernel_image; locks = empty }) d) (listed entry)
    ∙ no_conflicts kernel_image done
    (λ oid. no_change (get kernel_image oid) oid entry.view (change_kind (is_written done oid) (is_checked done oid))
    (subst (λ (view : ℕ). IfSome (get kernel_image oid) (λ o. nat_lt view o.changed ≡ false)) (sym at_first)
    (never_below (get kernel_image oid) (kernel_unchanged oid))))
    (λ oid. refl)
