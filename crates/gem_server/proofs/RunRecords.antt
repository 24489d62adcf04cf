-- The record of a run, by what performing its programs comes to.
use Rattle.std.proofs.Common.{◌≡◌, ℕ, Bool, ◌&&◌, not, length, List, [], ◌∷◌, map, filter, refl, sym, ap, ◌∙◌, arith}
use Rattle.std.proofs.lemmas.Cmp.{nat_cmp_total}
use Rattle.std.specs.Prelude.{is_some}
use Rattle.std.specs.Ordering.{nat_cmp}
use Rattle.std.specs.FinMap.{insert, empty, entries, from_entries, put, entries-insert, len-entries, len-empty}
use Rattle.gem_meaning.specs.gem_object.Kinds.{is_shared}
use Rattle.gem_meaning.specs.gem_image.Image.{Contents}
use Rattle.gem_meaning.specs.gem_update.declared.update.Update.{Update}
use Rattle.gem_meaning.specs.gem_world.World.{Setting, World, is_made}
use Rattle.gem_meaning.specs.gem_world.Changes.{updates_on}
use Rattle.gem_meaning.specs.gem_record.declared.record.Entry.{Entry}
use Rattle.gem_meaning.specs.gem_record.declared.record.TxnRecord.{TxnRecord}
use Rattle.gem_meaning.specs.gem_record.RunNames.{marked, ascending}
use Rattle.gem_meaning.specs.gem_record.Record.{all_uncommitted, record_of}
use Rattle.gem_server.proofs.PlainWorlds.{PlainWorld}
use Rattle.gem_server.proofs.SameWorlds.{changes_of, plain_world, IsWorld, of_world}

-- ---- entries that compute

pub no_length : {X : Type 0} (list : List X) → length list ≡ 0 → list ≡ []
no_length [] none = refl
no_length (x ∷ list) none = absurd (omega arith)

pub no_entries : {X : Type 0} → entries (empty {X = X} {R = nat_cmp}) ≡ []
no_entries {X} = no_length (entries (empty {X = X} {R = nat_cmp}))
    (sym (len-entries (empty {X = X} {R = nat_cmp})) ∙ len-empty nat_cmp X)

abbrev pub put_all : {X : Type 0} → List (ℕ × X) → List (ℕ × X)
put_all [] = []
put_all (entry ∷ rest) = put nat_cmp entry.0 entry.1 (put_all rest)

pub entries_put : {X : Type 0} (list : List (ℕ × X)) → entries (from_entries {R = nat_cmp} list) ≡ put_all list
entries_put [] = no_entries
entries_put (entry ∷ rest) = entries-insert nat_cmp_total (from_entries rest) entry.0 entry.1
    ∙ ap (put nat_cmp entry.0 entry.1) (entries_put rest)

changes_are : (log : List (ℕ × Contents)) → changes_of log ≡ from_entries log
changes_are [] = refl
changes_are ((name, object) ∷ rest) = ap (λ m. insert m name object) (changes_are rest)

pub entries_of_log : (log : List (ℕ × Contents)) → entries (changes_of log) ≡ put_all log
entries_of_log log = ap entries (changes_are log) ∙ entries_put log

abbrev pub plain_ascending : List ℕ → List ℕ
plain_ascending names = map (λ entry. entry.0) (put_all (marked names))

pub same_ascending : (names : List ℕ) → ascending names ≡ plain_ascending names
same_ascending names = ap (map (λ entry. entry.0)) (entries_put (marked names))

-- ---- the record

abbrev pub plain_made : PlainWorld → ℕ × Contents → Bool
plain_made world entry = world.drawn entry.0 && is_some (world.look entry.0)

abbrev pub plain_written : PlainWorld → ℕ × Contents → Bool
plain_written world entry = not (plain_made world entry) && not (is_shared entry.1.body)

abbrev pub plain_record : Entry → Setting → PlainWorld → TxnRecord
plain_record entry setting world = record {
  session = entry.session;
  transaction = entry.transaction;
  user = entry.user;
  first_command = entry.first_command;
  last_command = entry.last_command;
  first_name = entry.first_name;
  view = entry.view;
  mode = entry.mode;
  base = setting.view;
  touched = plain_ascending world.touched;
  written = all_uncommitted (filter (plain_written world) (put_all world.log));
  made = all_uncommitted (filter (plain_made world) (put_all world.log));
  updates = map (λ name. (name, updates_on name world.updates))
      (plain_ascending (map (λ (entry : ℕ × Update). entry.0) world.updates));
}

pub same_record : (entry : Entry) (s : Setting) (w : World) (p : PlainWorld) → IsWorld s w p
    → record_of entry s w ≡ plain_record entry s p
unfolding record_of is_made
same_record entry s = of_world s (λ w p. record_of entry s w ≡ plain_record entry s p) (λ w log logged.
    let changes : entries w.changes ≡ put_all log = ap entries logged ∙ entries_of_log log in
    let touched = same_ascending w.touched in
    let updated = same_ascending (map (λ (entry : ℕ × Update). entry.0) w.updates) in
    λ i. record {
      session = entry.session;
      transaction = entry.transaction;
      user = entry.user;
      first_command = entry.first_command;
      last_command = entry.last_command;
      first_name = entry.first_name;
      view = entry.view;
      mode = entry.mode;
      base = s.view;
      touched = touched i;
      written = all_uncommitted (filter (plain_written (plain_world s w log)) (changes i));
      made = all_uncommitted (filter (plain_made (plain_world s w log)) (changes i));
      updates = map (λ name. (name, updates_on name w.updates)) (updated i);
    })
