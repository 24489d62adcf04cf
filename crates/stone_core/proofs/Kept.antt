-- The kept objects are those that are found by their names among the made ones.
use Rattle.std.proofs.Common.{◌≡◌, ℕ, Bool, true, false, cond, List, [], ◌∷◌, ◌++◌, filter, Some, if◌then◌else◌, refl, ap, ap₂, ◌∙◌}
use Rattle.std.specs.List.{AllByRecursion}
use Rattle.std.specs.Ordering.{nat_cmp, is_eq}
use Rattle.std.specs.Cmp.{tied_itself}
use Rattle.std.specs.declared.cmp.Ordering.TheVariants.{Less}
use Rattle.std.proofs.lemmas.Cmp.{nat_cmp_total}
use Rattle.std.proofs.lemmas.Map.Keys.{sorted_head, sorted_tail}
use Rattle.gem_object.specs.declared.object.Object.{Object}
use Rattle.gem_record.specs.Names.{AscendByName, under}
use Rattle.gem_record.specs.declared.record.TxnRecord.{TxnRecord}
use Rattle.gem_record.specs.gem_update.declared.update.Update.{Update}
use Rattle.kept_set.specs.Kept.{names_of, roots_of, kept_of}
use Rattle.gem_meaning.specs.Effect.{kept_objects}
use Rattle.stone_core.specs.Effects.{named, found_in}

-- the object stands under its name
abbrev pub StandsIn : List (ℕ × Object) → ℕ × Object → Type 0
StandsIn objects entry = under entry.0 objects ≡ Some entry.1

-- all that stand under their names are found by them
pub all_found : (objects entries : List (ℕ × Object)) → AllByRecursion (StandsIn objects) entries
    → found_in objects (names_of entries) ≡ entries
all_found objects [] stand = refl
all_found objects (entry ∷ entries) stand =
    ap (λ found. named entry.0 found ++ found_in objects (names_of entries)) stand.0
    ∙ ap (λ more. entry ∷ more) (all_found objects entries stand.1)

other_first : (first : ℕ × Object) (objects : List (ℕ × Object)) (entry : ℕ × Object)
    → nat_cmp first.0 entry.0 ≡ Less → StandsIn objects entry → StandsIn (first ∷ objects) entry
other_first first objects entry below stands =
    ap (λ o. if is_eq o then Some first.1 else under entry.0 objects) below ∙ stands

others_first : (first : ℕ × Object) (objects entries : List (ℕ × Object))
    → AllByRecursion (λ name. nat_cmp first.0 name ≡ Less) (names_of entries)
    → AllByRecursion (StandsIn objects) entries → AllByRecursion (StandsIn (first ∷ objects)) entries
others_first first objects [] above stand = tt
others_first first objects (entry ∷ entries) above stand = (
  other_first first objects entry above.0 stand.0,
  others_first first objects entries above.1 stand.1,
)

-- objects by name stand under their names
pub each_stands : (objects : List (ℕ × Object)) → AscendByName objects
    → AllByRecursion (StandsIn objects) objects
each_stands [] ascend = tt
each_stands (first ∷ objects) ascend = (
  ap (λ b. if b then Some first.1 else under first.0 objects) (tied first.0),
  others_first first objects objects (sorted_head nat_cmp first.0 (names_of objects) ascend)
      (each_stands objects (sorted_tail nat_cmp first.0 (names_of objects) ascend)),
)
  where
    tied : (name : ℕ) → is_eq (nat_cmp name name) ≡ true
    tied name = ap is_eq (tied_itself nat_cmp_total name)

kept_one : (P : ℕ × Object → Type 0) (keeps : Bool) (entry : ℕ × Object) (entries : List (ℕ × Object))
    → P entry → AllByRecursion P entries → AllByRecursion P (cond keeps (entry ∷ entries) entries)
kept_one P true entry entries one all = (one, all)
kept_one P false entry entries one all = all

-- what holds of all holds of those that pass a test
pub all_filtered : (P : ℕ × Object → Type 0) (keeps : ℕ × Object → Bool)
    (entries : List (ℕ × Object)) → AllByRecursion P entries → AllByRecursion P (filter keeps entries)
all_filtered P keeps [] all = tt
all_filtered P keeps (entry ∷ entries) all =
    kept_one P (keeps entry) entry (filter keeps entries) all.0 (all_filtered P keeps entries all.1)

-- the kept ones are found by their names
pub kept_found : (roots : List ℕ) (made : List (ℕ × Object)) → AscendByName made
    → found_in made (names_of (kept_of roots made)) ≡ kept_of roots made
unfolding kept_of
kept_found roots made ascend = all_found made (kept_of roots made)
    (all_filtered (StandsIn made) _ made (each_stands made ascend))

-- the same where the lists were handed over
pub kept_by_names : (done : TxnRecord) (written made : List (ℕ × Object)) (updates : List (ℕ × List Update))
    (names : List ℕ) → AscendByName done.made → written ≡ done.written → made ≡ done.made
    → updates ≡ done.updates → names ≡ names_of (kept_of (roots_of written updates) made)
    → found_in done.made names ≡ kept_objects done
kept_by_names done written made updates names ascend written_is made_is updates_is is =
    ap (found_in done.made) (is ∙ ap₂ (λ roots objects. names_of (kept_of roots objects)) (ap₂ roots_of written_is updates_is) made_is)
    ∙ kept_found (roots_of done.written done.updates) done.made ascend
