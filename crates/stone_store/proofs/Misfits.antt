-- Records that don't fit behind a root, and images with records, as they are found one after the other.
use Rattle.std.proofs.Common.{◌≡◌, ℕ, ◌+◌, ◌<◌, Bool, true, false, cond, eqb, ltb, List, [], ◌∷◌, All, Option, Some, None, option_map, refl, sym, ap, subst, ◌∙◌, arith}
use Rattle.std.specs.List.{AllByRecursion}
use Rattle.std.proofs.lemmas.Bool.{ltb-true, lt-ltb, le-ltb}
use Rattle.std.proofs.lemmas.List.Elements.{All-from_recursion, recursion_from_All}
use Rattle.gem_object.specs.declared.object.Object.{Object}
use Rattle.gem_object.specs.Spelling.{IsSpelled}
use Rattle.gem_image.specs.Image.{Image, with_objects}
use Rattle.gem_record.specs.declared.effect.Effect.{Effect}
use Rattle.body_codec.specs.Stored.{IsStoredAt, IsStoredEffect}
use Rattle.tran_log.specs.Reads.{TakesAll}
use Rattle.tran_log.specs.declared.logged.Logged.{Logged}
use Rattle.stone_store.specs.declared.parts.FoundImage.{FoundImage}
use Rattle.stone_store.specs.Store.{is_after, records_after, last_of, misfit_among, misfit, with_records, last_number}
use Rattle.stone_store.specs.declared.records.Restored.{Restored}
use Rattle.stone_store.specs.Records.{next_at, old_at, after_record, with_record}
use Rattle.stone_store.specs.Restoring.{IsRestored}

-- what a log shows of which the records before showed an older place, and none is behind the root
abbrev pub misfit_from : ℕ → Option ℕ → List Logged → Option ℕ
misfit_from number older [] = older
misfit_from number older (one ∷ logged) =
    cond (is_after number one) (next_at number one) (misfit_from number (old_at number one) logged)

abbrev place_of : Option Logged → Option ℕ
place_of one = option_map (λ (o : Logged). o.at) one

placed : (b : Bool) (x y : Option Logged) → cond b (place_of x) (place_of y) ≡ place_of (cond b x y)
placed true x y = refl
placed false x y = refl

misfits : (number : ℕ) (older : Option ℕ) (last : Option Logged) (logged : List Logged) → older ≡ place_of (misfit_among number [] last)
    → misfit_from number older logged ≡ place_of (misfit_among number (records_after number logged) (last_of last logged))
misfits number older last [] is = is
misfits number older last (one ∷ logged) is = by (is_after number one)
    (misfits number (old_at number one) (Some one) logged (placed (ltb one.effect.number number) (Some one) None)) where
      kept : List Logged
      kept = records_after number logged

      by : (b : Bool)
          → misfit_from number (old_at number one) logged ≡ place_of (misfit_among number kept (last_of (Some one) logged))
          → cond b (next_at number one) (misfit_from number (old_at number one) logged)
          ≡ place_of (misfit_among number (cond b (one ∷ kept) kept) (last_of (Some one) logged))
      by true rest = placed (eqb one.effect.number (number + 1)) None (Some one)
      by false rest = rest

pub misfit_is : (number : ℕ) (logged : List Logged) → misfit_from number None logged ≡ place_of (misfit number logged)
misfit_is number logged = misfits number None None logged refl

-- ---- images with records

abbrev pub all_records : (root : ℕ) → FoundImage → List Logged → FoundImage
all_records root found [] = found
all_records root found (one ∷ logged) = all_records root (after_record root one found) logged

-- what all records make is what those behind the root do
pub records_are : (root : ℕ) (logged : List Logged) (found : FoundImage) → ((all_records root found logged).image ≡ with_records found.image (records_after root logged))
    × ((all_records root found logged).number ≡ last_number found.number (records_after root logged))
records_are root [] found = (refl, refl)
records_are root (one ∷ logged) found = by (is_after root one) (records_are root logged) where
  kept : List Logged
  kept = records_after root logged

  by : (b : Bool) → ((f : FoundImage) → ((all_records root f logged).image ≡ with_records f.image (records_after root logged))
      × ((all_records root f logged).number ≡ last_number f.number (records_after root logged)))
      → (let f : FoundImage = cond b (record { image = with_objects found.image one.effect.objects; number = one.effect.number }) found in
      ((all_records root f logged).image ≡ with_records found.image (cond b (one ∷ kept) kept))
      × ((all_records root f logged).number ≡ last_number found.number (cond b (one ∷ kept) kept)))
  by true rest = rest (record { image = with_objects found.image one.effect.objects; number = one.effect.number })
  by false rest = rest found

-- ---- objects that can be stored

spelled_objects : (number : ℕ) (entries : List (ℕ × Object)) → AllByRecursion (IsStoredAt number) entries
    → AllByRecursion (λ (entry : ℕ × Object). IsSpelled entry.1) entries
spelled_objects number [] all = tt
spelled_objects number (entry ∷ entries) all = (all.0.object.spelled, spelled_objects number entries all.1)

pub stored_spelled : (number : ℕ) (effect : Effect) → IsStoredEffect number effect
    → All (λ (entry : ℕ × Object). IsSpelled entry.1) effect.objects
stored_spelled number effect stored = All-from_recursion (λ (entry : ℕ × Object). IsSpelled entry.1) effect.objects
    (spelled_objects number effect.objects (recursion_from_All (IsStoredAt number) effect.objects stored.each))

-- ---- what is restored, one record after the other

abbrev all_with : (root : ℕ) → Restored → List Logged → Restored
all_with root restored [] = restored
all_with root restored (one ∷ logged) = all_with root (with_record root one restored) logged

found_all : (root : ℕ) (restored : Restored) (logged : List Logged)
    → (all_with root restored logged).found ≡ all_records root restored.found logged
found_all root restored [] = refl
found_all root restored (one ∷ logged) = found_all root (with_record root one restored) logged

-- behind the root it stays
number_behind : (root : ℕ) (one : Logged) (found : FoundImage) → root < found.number
    → root < (after_record root one found).number
number_behind root one found behind = by (is_after root one) refl where
  by : (b : Bool) → is_after root one ≡ b
      → root < (let f : FoundImage = cond b (record { image = with_objects found.image one.effect.objects; number = one.effect.number }) found in f.number)
  by true is = ltb-true root one.effect.number is
  by false is = behind

misfit_stays : (root : ℕ) (restored : Restored) (logged : List Logged) → root < restored.found.number
    → (all_with root restored logged).misfit ≡ restored.misfit
misfit_stays root restored [] behind = refl
misfit_stays root restored (one ∷ logged) behind =
    misfit_stays root (with_record root one restored) logged (number_behind root one restored.found behind)
    ∙ ap (λ b. cond b restored.misfit (cond (is_after root one) (next_at root one) (old_at root one)))
    (lt-ltb root restored.found.number behind)

-- what the records so far show is what the definition shows
misfit_all : (root : ℕ) (restored : Restored) (logged : List Logged) → restored.found.number ≡ root
    → (all_with root restored logged).misfit ≡ misfit_from root restored.misfit logged
misfit_all root restored [] at = refl
misfit_all root restored (one ∷ logged) at =
    by (is_after root one) refl (misfit_all root (with_record root one restored) logged)
  where
    next : Restored
    next = with_record root one restored

    image : Image
    image = with_objects restored.found.image one.effect.objects

    first : ltb root restored.found.number ≡ false
    first = le-ltb root restored.found.number (omega (arith, at))

    misfit_is : (b : Bool) → is_after root one ≡ b → next.misfit ≡ cond b (next_at root one) (old_at root one)
    misfit_is b is = ap (λ t. cond t restored.misfit (cond (is_after root one) (next_at root one) (old_at root one))) first
        ∙ ap (λ t. cond t (next_at root one) (old_at root one)) is

    found_is : (b : Bool) → is_after root one ≡ b
        → next.found ≡ cond b (record { image = image; number = one.effect.number }) restored.found
    found_is b is = ap (λ t. cond t (record { image = image; number = one.effect.number }) restored.found) is

    by : (b : Bool) → is_after root one ≡ b
        → (next.found.number ≡ root → (all_with root next logged).misfit ≡ misfit_from root next.misfit logged)
        → (all_with root next logged).misfit ≡ cond b (next_at root one) (misfit_from root (old_at root one) logged)
    by true is more = misfit_stays root next logged
        (subst (λ (n : ℕ). root < n) (sym (ap (λ (f : FoundImage). f.number) (found_is true is))) (ltb-true root one.effect.number is))
        ∙ misfit_is true is
    by false is more = more (ap (λ (f : FoundImage). f.number) (found_is false is) ∙ at)
        ∙ ap (λ (o : Option ℕ). misfit_from root o logged) (misfit_is false is)

-- what takes the records of a log, by its root and by what it has restored
abbrev restores : {T : Type 0} → (T → ℕ) → (T → Restored) → T → Logged → T → Type 0
restores root restored old one new = (root new ≡ root old) × (restored new ≡ with_record (root old) one (restored old))

taken_all : {T : Type 0} (root : T → ℕ) (restored : T → Restored) (old new : T) (logged : List Logged)
    → TakesAll (restores root restored) old logged new → restored new ≡ all_with (root old) (restored old) logged
taken_all root restored old new [] taken = ap restored taken
taken_all root restored old new (one ∷ logged) taken = taken_all root restored taken.0 new logged taken.2
    ∙ ap (λ (n : ℕ). all_with n (restored taken.0) logged) taken.1.0
    ∙ ap (λ (r : Restored). all_with (root old) r logged) taken.1.1

pub all_restored : {T : Type 0} (old new : T) (root : T → ℕ) (restored : T → Restored) (logged : List Logged) (first : Image)
    (number : ℕ) → TakesAll (restores root restored) old logged new → root old ≡ number
    → (restored old).found.image ≡ first → (restored old).found.number ≡ number → (restored old).misfit ≡ None
    → IsRestored first number logged (restored new)
all_restored old new root restored logged first number taken root_is image_is number_is none =
    let is : restored new ≡ all_with number (restored old) logged =
    taken_all root restored old new logged taken ∙ ap (λ (n : ℕ). all_with n (restored old) logged) root_is in
    let found : (restored new).found ≡ all_records number (restored old).found logged =
    ap (λ (r : Restored). r.found) is ∙ found_all number (restored old) logged in
    let both = records_are number logged (restored old).found in
    record {
      image_is = ap (λ (f : FoundImage). f.image) found ∙ both.0
          ∙ ap (λ (i : Image). with_records i (records_after number logged)) image_is;
      number_is = ap (λ (f : FoundImage). f.number) found ∙ both.1
          ∙ ap (λ (n : ℕ). last_number n (records_after number logged)) number_is;
      misfit_is = ap (λ (r : Restored). r.misfit) is ∙ misfit_all number (restored old) logged number_is
          ∙ ap (λ (o : Option ℕ). misfit_from number o logged) none ∙ misfit_is number logged;
    }
