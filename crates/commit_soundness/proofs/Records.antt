-- What a run's record has: written and made objects as they are seen, the updates, and which made
-- objects are kept.
use Rattle.std.proofs.Common.{◌≡◌, ◌∙◌, refl, sym, ap, subst, ℕ, Bool, true, false, cond, nat_eq, List, [], ◌∷◌, map, Option, Some, None, IsSome, is_some, option_map}
use Rattle.std.specs.List.{AllByRecursion, Contains, flat_map}
use Rattle.std.specs.Option.{IfSome, is_none}
use Rattle.std.specs.Ordering.{nat_cmp, is_eq}
use Rattle.std.specs.FinMap.{find, get, entries, get-entries}
use Rattle.std.specs.FinMap.Entries.{find-where_key}
use Rattle.std.proofs.lemmas.Bool.{false≢true, and_parts, cond_both}
use Rattle.std.proofs.lemmas.List.Elements.{All-weaker, All-contains_itself, recursion_from_All}
use Rattle.std.proofs.lemmas.Map.Lookups.{exact_unsigned}
use Rattle.std.proofs.lemmas.Option.{none-some, same_Some}
use Rattle.commit_check.specs.gem_object.References.{references_of}
use Rattle.commit_check.specs.gem_object.declared.object.Object.{Object}
use Rattle.gem_update.specs.References.{names_in_update}
use Rattle.gem_update.specs.declared.update.Update.{Update}
use Rattle.commit_check.specs.gem_image.Image.{Contents, contents_of}
use Rattle.commit_check.specs.gem_world.World.{Setting, World, is_made}
use Rattle.commit_check.specs.gem_world.Changes.{was_made, was_written, made_objects, written_objects, update_on, updates_on}
use Rattle.commit_check.specs.gem_record.Names.{under}
use Rattle.commit_check.specs.gem_record.declared.record.Entry.{Entry}
use Rattle.commit_check.specs.gem_record.declared.record.TxnRecord.{TxnRecord}
use Rattle.gem_meaning.specs.kept_set.Kept.{object_of, roots_of, IsKept, root, reached, dropped, kept_of}
use Rattle.gem_meaning.proofs.kept_set_lemmas.Leads.{kept_names}
use Rattle.commit_check.specs.gem_record.RunNames.{ascending}
use Rattle.commit_check.specs.gem_record.Record.{uncommitted, record_of}
use Rattle.commit_soundness.proofs.Lists.{from_each, all_weaker, all_of, all_two, all_left, all_right, all_mapped, all_passed, each_given}
use Rattle.commit_soundness.proofs.Entries.{entries_found, listed_found, find_mapped}

-- what holds of all that stands under names holds of what is found under one
pub under_each : {T : Type 0} (P : T → Type 0) (name : ℕ) (pairs : List (ℕ × T)) (x : T)
    → AllByRecursion (λ pair. P pair.1) pairs → under name pairs ≡ Some x → P x
under_each P name [] x all is = absurd (none-some x is)
under_each P name (pair ∷ rest) x all is = by (is_eq (nat_cmp pair.0 name)) is
    (λ later. under_each P name rest x all.1 later)
  where
    by : (same : Bool) → cond same (Some pair.1) (under name rest) ≡ Some x → (under name rest ≡ Some x → P x) → P x
    by true given later = subst P (same_Some pair.1 x given) all.0
    by false given later = later given

module _ (Q : Update → Type 0) where
  updates_of_one : (name : ℕ) (updates : List (ℕ × Update)) → AllByRecursion (λ e. Q e.1) updates
      → AllByRecursion Q (updates_on name updates)
  updates_of_one name updates all = from_each (update_on name) Q updates
      (all_weaker (λ e. Q e.1) (λ e. IfSome (update_on name e) Q)
      (λ e here. cond_both (nat_eq e.0 name) (Some e.1) None (λ found. IfSome found Q) (λ _. here) (λ _. tt))
      updates all)

module _ (entry : Entry) (setting : Setting) (world : World) where
  abbrev pub done : TxnRecord
  done = record_of entry setting world

  -- it is seen so
  abbrev pub Stands : ℕ × Object → Type 0
  Stands e = get world.changes e.0 ≡ Some (contents_of e.1)

  pub written_is : AllByRecursion (λ e. Stands e × (was_written setting world (e.0, contents_of e.1) ≡ true))
      done.written
  unfolding record_of
  written_is = all_mapped (λ e. Stands e × (was_written setting world (e.0, contents_of e.1) ≡ true))
      (λ e. (e.0, uncommitted e.1)) (written_objects setting world)
      (all_passed (λ e. get world.changes e.0 ≡ Some e.1) (was_written setting world) (entries world.changes)
      (entries_found world.changes))

  made_is : AllByRecursion (λ e. Stands e × (is_made e.0 setting world ≡ true)) done.made
  unfolding record_of
  made_is = all_mapped (λ e. Stands e × (is_made e.0 setting world ≡ true))
      (λ e. (e.0, uncommitted e.1)) (made_objects setting world)
      (all_passed (λ e. get world.changes e.0 ≡ Some e.1) (was_made setting world) (entries world.changes)
      (entries_found world.changes))

  -- an object that was made is among the made ones
  made_object : (name : ℕ) (object : Contents) → is_made name setting world ≡ true
      → get world.changes name ≡ Some object → object_of name done.made ≡ Some (uncommitted object)
  unfolding record_of
  made_object name object made there = find_mapped uncommitted name (made_objects setting world)
      ∙ ap (option_map uncommitted) (find-where_key nat_cmp (λ key. is_made key setting world) name
      (λ other tie. ap (λ (key : ℕ). is_made key setting world) (sym (exact_unsigned name other tie)))
      (entries world.changes)
      ∙ (ap (λ b. cond b (find nat_cmp name (entries world.changes)) None) made
      ∙ (sym (get-entries world.changes name) ∙ there)))

  made_some : (name : ℕ) → is_made name setting world ≡ true → is_some (get world.changes name) ≡ true
  unfolding is_made
  made_some name made = (and_parts _ (is_some (get world.changes name)) made).1

  pub made_found : (name : ℕ) → is_made name setting world ≡ true → IsSome (object_of name done.made)
  made_found name made = by (get world.changes name) refl (made_some name made)
    where
      by : (found : Option Contents) → get world.changes name ≡ found → is_some found ≡ true
          → IsSome (object_of name done.made)
      by None there some = absurd (false≢true some)
      by (Some object) there some = ap is_some (made_object name object made there)

  -- what holds of each noted update holds of each of the record
  pub updates_each : (Q : Update → Type 0) → AllByRecursion (λ e. Q e.1) world.updates
      → AllByRecursion (λ e. AllByRecursion Q e.1) done.updates
  unfolding record_of
  updates_each Q all = all_mapped (λ e. AllByRecursion Q e.1) (λ name. (name, updates_on name world.updates))
      (ascending (map (λ e. e.0) world.updates))
      (all_of (λ name. AllByRecursion Q (updates_on name world.updates))
      (λ name. updates_of_one Q name world.updates all) (ascending (map (λ e. e.0) world.updates)))

  -- ---- what is kept

  abbrev pub roots : List ℕ
  roots = roots_of done.written done.updates

  abbrev pub kept : List (ℕ × Object)
  kept = kept_of roots done.made

  -- where the name is that of a made object, this is kept
  abbrev pub Leads : ℕ → Type 0
  Leads name = IsSome (object_of name done.made) → IsKept roots done.made name

  roots_lead : AllByRecursion Leads roots
  roots_lead = recursion_from_All Leads roots (All-weaker (Contains roots) Leads
      (λ name among some. root name among some) roots (All-contains_itself roots))

  pub written_lead : AllByRecursion (λ e. AllByRecursion Leads (references_of e.1)) done.written
  written_lead = each_given Leads (λ e. references_of e.1) done.written
      (all_left Leads (flat_map (λ e. references_of e.1) done.written)
      (flat_map (λ e. flat_map names_in_update e.1) done.updates) roots_lead)

  pub updates_lead : AllByRecursion (λ e. AllByRecursion (λ update. AllByRecursion Leads (names_in_update update)) e.1)
      done.updates
  updates_lead = all_weaker (λ e. AllByRecursion Leads (flat_map names_in_update e.1))
      (λ e. AllByRecursion (λ update. AllByRecursion Leads (names_in_update update)) e.1)
      (λ e all. each_given Leads names_in_update e.1 all) done.updates
      (each_given Leads (λ e. flat_map names_in_update e.1) done.updates
      (all_right Leads (flat_map (λ e. references_of e.1) done.written)
      (flat_map (λ e. flat_map names_in_update e.1) done.updates) roots_lead))

  -- all that a kept object refers to leads to kept ones
  kept_leads : (name : ℕ) (object : Object) → IsKept roots done.made name → is_made name setting world ≡ true
      → Stands (name, object) → AllByRecursion Leads (references_of object)
  kept_leads name object is made there = recursion_from_All Leads (references_of object)
      (All-weaker (Contains (references_of object)) Leads
      (λ other among some. reached name other (uncommitted (contents_of object)) is
      (made_object name (contents_of object) made there) among some)
      (references_of object) (All-contains_itself (references_of object)))

  kept_made : AllByRecursion (λ e. (Stands e × (is_made e.0 setting world ≡ true))
      × (is_none (object_of e.0 (dropped roots done.made)) ≡ true)) kept
  unfolding kept_of
  kept_made = all_passed (λ e. Stands e × (is_made e.0 setting world ≡ true))
      (λ e. is_none (object_of e.0 (dropped roots done.made))) done.made made_is

  pub kept_is : AllByRecursion (λ e. Stands e × (is_made e.0 setting world ≡ true)
      × AllByRecursion Leads (references_of e.1)) kept
  kept_is = all_weaker
      (λ e. ((Stands e × (is_made e.0 setting world ≡ true))
      × (is_none (object_of e.0 (dropped roots done.made)) ≡ true))
      × (is_some (find nat_cmp e.0 kept) ≡ true))
      (λ e. Stands e × (is_made e.0 setting world ≡ true) × AllByRecursion Leads (references_of e.1))
      (λ e here. (
        here.0.0.0,
        here.0.0.1,
        kept_leads e.0 e.1 ((kept_names roots done.made e.0).0 here.1) here.0.0.1 here.0.0.0,
      ))
      kept
      (all_two (λ e. (Stands e × (is_made e.0 setting world ≡ true))
      × (is_none (object_of e.0 (dropped roots done.made)) ≡ true))
      (λ e. is_some (find nat_cmp e.0 kept) ≡ true) kept kept_made (listed_found kept))

  pub kept_found : (name : ℕ) → IsKept roots done.made name → is_some (find nat_cmp name kept) ≡ true
  kept_found name is = (kept_names roots done.made name).1 is
