-- What a transaction wrote or updated it began to write or update by an access that was allowed.
use Rattle.std.proofs.Common.{◌≡◌, ℕ, true, inl, inr, ⊎_elim, List, [], ◌∷◌, map, is_some, refl, sym, ap, subst, ◌∙◌, arith}
use Rattle.std.specs.FinMap.{get, get-empty}
use Rattle.std.specs.Ordering.{nat_cmp}
use Rattle.std.proofs.lemmas.Bool.{false≢true}
use Rattle.gem_meaning.specs.gem_record.declared.record.Entry.{Entry}
use Rattle.gem_meaning.specs.gem_world.World.{Setting, World, untouched, is_made}
use Rattle.gem_meaning.specs.gem_world.Changes.{written_objects, updates_on}
use Rattle.gem_meaning.specs.gem_record.RunNames.{ascending}
use Rattle.gem_meaning.specs.gem_record.Record.{record_of}
use Rattle.gem_meaning.specs.commit_check.Conflicts.{names_of}
use Rattle.gem_meaning.specs.commit_check.Table.{IsWritten, IsUpdated}
use Rattle.gem_meaning.proofs.commit_check_lemmas.Members.{IsOneOf, contained}
use Rattle.gem_meaning.proofs.commit_check_lemmas.Used.{named, to_any}
use Rattle.gem_meaning.specs.Commands.{object_commands}
use Rattle.gem_meaning.specs.Opened.{Opened, entry_commands, entry_setting}
use Rattle.gem_meaning.specs.Events.{Standing, image_at, ordinary_at, run_at_place, record_at_place}
use Rattle.history_laws.specs.Accesses.{Moment, moments_at_place, IsChanged, IsNoted, BeginsByWrite}
use Rattle.history_laws.proofs.Touched.{ascending_has}
use Rattle.history_laws.proofs.Drawn.{uncommitted_one, was_changed}
use Rattle.history_laws.proofs.Gains.{HadWrite, gains_all}
use Rattle.history_laws.proofs.ChangedObjects.{changed_gains}
use Rattle.history_laws.proofs.NotedObjects.{noted_gains}

named_value : {T : Type 0} (name : ℕ) (pairs : List (ℕ × T)) → IsOneOf name (names_of pairs)
    → (value : T) × IsOneOf (name, value) pairs
named_value name [] none = absurd none
named_value name (pair ∷ rest) (inl here) = (pair.1, inl (ap (λ at. (at, pair.1)) here))
named_value name (pair ∷ rest) (inr more) =
    let found = named_value name rest more in (found.0, inr found.1)

names_again : {T : Type 0} (f : ℕ → T) (names : List ℕ) → names_of (map (λ n. (n, f n)) names) ≡ names
names_again f [] = refl
names_again f (n ∷ ns) = ap (λ rest. n ∷ rest) (names_again f ns)

module _ (e : Entry) (setting : Setting) (world : World) where
  written_changed : (name : ℕ) → IsWritten (record_of e setting world) name → IsChanged name setting world
  unfolding record_of
  written_changed name written =
      let there = named_value name _ (named name _ written) in
      let found = uncommitted_one (written_objects setting world) name there.0 there.1 in
      let changed = was_changed setting world name found.0 found.1 in
      record { there = changed.0; old = changed.1 }

  updated_noted : (name : ℕ) → IsUpdated (record_of e setting world) name → IsNoted name world
  unfolding record_of
  updated_noted name is_updated =
      let us = map (λ entry. entry.0) world.updates in
      let there = subst (IsOneOf name)
      (names_again (λ n. updates_on n world.updates) (ascending us)) (named name _ is_updated) in
      sym (ascending_has name us) ∙ to_any name (ascending us) there

begins : (name : ℕ) (Has : World → Type 0) (setting : Setting) (passed : List Moment)
    → HadWrite name Has setting passed → BeginsByWrite name Has setting passed
begins name Has setting passed had = record {
  moment = had.0;
  passes = contained had.0 passed had.1;
  asked = had.2.0;
  allowed = had.2.1;
  before = had.3;
  after = had.4;
}

module _ (o : Opened) (s : Standing) (e : Entry) (name : ℕ) where
  abbrev setting : Setting
  setting = entry_setting o e (ordinary_at s e) (image_at s e.view)

  abbrev first : World
  first = untouched e.first_name

  pub written_by_write : IsWritten (record_at_place o s e) name
      → BeginsByWrite name (IsChanged name setting) setting (moments_at_place o s e)
  unfolding record_at_place run_at_place record_of is_made
  written_by_write written = begins name (IsChanged name setting) setting (moments_at_place o s e)
      (⊎_elim (λ has. absurd (none_first has.there)) (λ had. had)
      (gains_all name setting (IsChanged name setting) (changed_gains name setting)
      (object_commands (entry_commands o.script e)) first (omega arith)
      (written_changed e setting (run_at_place o s e).world name written)))
    where
      none_first : is_some (get first.changes name) ≡ true → ⊥
      none_first some = false≢true (sym (ap is_some (get-empty nat_cmp name)) ∙ some)

  pub updated_by_write : IsUpdated (record_at_place o s e) name
      → BeginsByWrite name (IsNoted name) setting (moments_at_place o s e)
  unfolding record_at_place run_at_place record_of is_made
  updated_by_write is_updated = begins name (IsNoted name) setting (moments_at_place o s e)
      (⊎_elim (λ noted. absurd (false≢true noted)) (λ had. had)
      (gains_all name setting (IsNoted name) (noted_gains name setting)
      (object_commands (entry_commands o.script e)) first (omega arith)
      (updated_noted e setting (run_at_place o s e).world name is_updated)))
