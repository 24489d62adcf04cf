-- What a file reads as, and what one may pick, is left by some crash.
use Rattle.std.proofs.Common.{◌≡◌, ◌≢◌, ℕ, ◌-◌, ◌≤◌, Bool, true, false, List, [], ◌∷◌, length, take, replicate, Result, Ok, Err, refl, sym, ◌∙◌, ap, subst, inl, inr, arith, length-take}
use Rattle.std.proofs.lemmas.List.{length-replicate, take_min}
use Rattle.std.proofs.Math.Seq.{take-length}
use Rattle.gem_disk.specs.declared.disk.Which.{Which}
use Rattle.gem_disk.specs.declared.disk.Which.TheVariants.{Extent, Log}
use Rattle.gem_disk.specs.declared.images.Pick.{Pick}
use Rattle.gem_disk.specs.declared.images.Pick.TheVariants.{Old, New, Torn as TornTo}
use Rattle.gem_disk.specs.Disk.{Files, file_of, is_same, Change, Wrote, CutTo, Synced, Step, Past, reads_after, reads, as_read, stepped, placed, Torn, Cut, Leaves, FileImages, CrashImages, Writes, Cuts, Syncs}
use Rattle.gem_disk.specs.Picked.{torn_to, since_sync, picked, Makes, AreExact, IsExact}
use Rattle.gem_disk.proofs.Placed.{take-placed, drop-placed, length-placed}

-- what a change may make of a file, done or failed
abbrev pub MayMake : Change → List ℕ → List ℕ → Type 0
MayMake (Wrote at n) old now = Torn at n old now
MayMake (CutTo n) old now = Cut n old now
MayMake Synced old now = now ≡ old

pub torn_none : (at n : ℕ) (bytes : List ℕ) → Torn at n bytes bytes
torn_none at n bytes = record { before = refl; after = refl; no_shorter = omega arith; no_longer = omega arith }

pub torn_by_placing : (at : ℕ) (bytes old : List ℕ) → at ≤ length old → Torn at (length bytes) old (placed at bytes old)
torn_by_placing at bytes old inside =
    let size = length-placed at bytes old inside in
    record {
      before = take-placed at bytes old inside;
      after = drop-placed at bytes old inside;
      no_shorter = omega arith;
      no_longer = omega arith;
    }

pub cut_by_taking : (n : ℕ) (old : List ℕ) → Cut n old (take n old)
cut_by_taking n old =
    let size = length-take n old in
    record { no_shorter = omega arith; front = ap (λ (m : ℕ). take m old) size ∙ take_min n old }

pub makes_may : (change : Change) (old now : List ℕ) → Makes change old now → MayMake change old now
makes_may (Wrote at n) old now (inside, (bytes, count, is)) =
    subst (λ (m : ℕ). Torn at m old now) count (subst (Torn at (length bytes) old) (sym is) (torn_by_placing at bytes old inside))
makes_may (CutTo n) old now (inside, is) = subst (Cut n old) (sym is) (cut_by_taking n old)
makes_may Synced old now is = is

one_leaf : (change : Change) (before : List ℕ → Type 0) (old now : List ℕ) → before old → MayMake change old now → Leaves change now before now
one_leaf (Wrote at n) before old now has torn = (old, has, torn)
one_leaf (CutTo n) before old now has cut = (old, has, cut)
one_leaf Synced before old now has same = refl

-- one step more, and the disk as it reads is still one of its images
pub reads_on : (old : Past) (file : Which) (change : Change) (now : List ℕ) → CrashImages old (as_read old) → MayMake change (reads old file) now
    → CrashImages (stepped old file change now) (as_read (stepped old file change now))
reads_on old Extent change now honest may = record {
  extent = one_leaf change (FileImages old.first old.steps Extent) (reads old Extent) now honest.extent may;
  log = honest.log;
}
reads_on old Log change now honest may = record {
  extent = honest.extent;
  log = one_leaf change (FileImages old.first old.steps Log) (reads old Log) now honest.log may;
}

module _ {T E : Type 0} where
  pub writes_on : (file : Which) (at : ℕ) (bytes : List ℕ) (old new : Past) (result : Result T E) → at ≤ length (reads old file) → Writes file at bytes old result new → CrashImages old (as_read old) → CrashImages new (as_read new)
  writes_on file at bytes old new (Ok x) inside is honest =
      subst (λ (p : Past). CrashImages p (as_read p)) (sym is) (reads_on old file (Wrote at (length bytes)) _ honest (torn_by_placing at bytes (reads old file) inside))
  writes_on file at bytes old new (Err x) inside (inl same) honest = subst (λ (p : Past). CrashImages p (as_read p)) (sym same) honest
  writes_on file at bytes old new (Err x) inside (inr (now, torn, is)) honest =
      subst (λ (p : Past). CrashImages p (as_read p)) (sym is) (reads_on old file (Wrote at (length bytes)) now honest torn)

  pub cuts_on : (file : Which) (n : ℕ) (old new : Past) (result : Result T E) → Cuts file n old result new → CrashImages old (as_read old) → CrashImages new (as_read new)
  cuts_on file n old new (Ok x) is honest =
      subst (λ (p : Past). CrashImages p (as_read p)) (sym is) (reads_on old file (CutTo n) _ honest (cut_by_taking n (reads old file)))
  cuts_on file n old new (Err x) (inl same) honest = subst (λ (p : Past). CrashImages p (as_read p)) (sym same) honest
  cuts_on file n old new (Err x) (inr (now, cut, is)) honest =
      subst (λ (p : Past). CrashImages p (as_read p)) (sym is) (reads_on old file (CutTo n) now honest cut)

  pub syncs_on : (file : Which) (old new : Past) (result : Result T E) → Syncs file old result new → CrashImages old (as_read old) → CrashImages new (as_read new)
  syncs_on file old new (Ok x) is honest =
      subst (λ (p : Past). CrashImages p (as_read p)) (sym is) (reads_on old file Synced (reads old file) honest refl)
  syncs_on file old new (Err x) same honest = subst (λ (p : Past). CrashImages p (as_read p)) (sym same) honest

-- where each step is exact, it is one of them
pub new_image : (first : Files) (steps : List Step) → AreExact first steps → CrashImages (record { first = first; steps = steps }) (as_read (record { first = first; steps = steps }))
new_image first [] exact = record { extent = refl; log = refl }
new_image first (step ∷ older) (makes, exact) =
    reads_on (record { first = first; steps = older }) step.file step.change step.reads (new_image first older exact)
    (makes_may step.change (reads_after first older step.file) step.reads makes)

-- what one step leaves of a file as at its last sync
abbrev old_kept : Bool → Change → List ℕ → List ℕ → List ℕ
old_kept own change before now = elim own [
  | true ↦ elim change [
    | Wrote at n ↦ before
    | CutTo n ↦ before
    | Synced ↦ now
  ]
  | false ↦ before
]

abbrev leaf : Bool → Change → List ℕ → (List ℕ → Type 0) → List ℕ → Type 0
leaf own change now images image = elim own [
  | true ↦ Leaves change now images image
  | false ↦ images image
]

old_leaf : (images : List ℕ → Type 0) (before now : List ℕ) (own : Bool) (change : Change) → images before → leaf own change now images (old_kept own change before now)
old_leaf images before now true (Wrote at n) has = (before, has, record { before = refl; after = refl; no_shorter = omega arith; no_longer = omega arith })
old_leaf images before now true (CutTo n) has = (before, has, record { no_shorter = omega arith; front = take-length before })
old_leaf images before now true Synced has = refl
old_leaf images before now false change has = has

-- a file as at its last sync
pub old_image : (first : Files) (steps : List Step) (file : Which) → FileImages first steps file (since_sync (λ _ old. old) first steps file)
old_image first [] file = refl
old_image first (step ∷ older) file =
    old_leaf (FileImages first older file) (since_sync (λ _ old. old) first older file) step.reads (is_same step.file file) step.change (old_image first older file)

module _ (byte : ℕ) where
  -- one change of the file's own, with the byte all over what it writes
  torn_leaf : (images : List ℕ → Type 0) (torn read now : List ℕ) (change : Change) → Makes change read now → images torn → length torn ≡ length read → (let left : List ℕ = elim change [
    | Wrote at n ↦ torn_to byte (Wrote at n) torn
    | CutTo n ↦ torn_to byte (CutTo n) torn
    | Synced ↦ now
  ] in Leaves change now images left × (length left ≡ length now))
  torn_leaf images torn read now (Wrote at n) (inside, (bytes, count, is)) has same =
      let many : length (replicate n byte) ≡ n = length-replicate n byte in
      let within : at ≤ length torn = omega arith in
      let leaves : Torn at n torn (placed at (replicate n byte) torn) =
      subst (λ (m : ℕ). Torn at m torn (placed at (replicate n byte) torn)) many (torn_by_placing at (replicate n byte) torn within) in
      let size = length-placed at (replicate n byte) torn within in
      let size_now = ap length is ∙ length-placed at bytes read inside in
      ((torn, has, leaves), omega arith)
  torn_leaf images torn read now (CutTo n) (inside, is) has same =
      let size = length-take n torn in
      let size_now = ap length is ∙ length-take n read in
      ((torn, has, cut_by_taking n torn), omega arith)
  torn_leaf images torn read now Synced is has same = (refl, refl)

  abbrev IsTornImage : Files → List Step → Which → Type 0
  IsTornImage first steps file =
      FileImages first steps file (since_sync (torn_to byte) first steps file) × (length (since_sync (torn_to byte) first steps file) ≡ length (reads_after first steps file))

  one_torn : (first : Files) (older : List Step) (step_file file : Which) (change : Change) (now : List ℕ) → Makes change (reads_after first older step_file) now → IsTornImage first older file
      → IsTornImage first (record { file = step_file; change = change; reads = now } ∷ older) file
  one_torn first older Extent Extent change now makes (has, same) = torn_leaf (FileImages first older Extent) (since_sync (torn_to byte) first older Extent) (reads_after first older Extent) now change makes has same
  one_torn first older Log Log change now makes (has, same) = torn_leaf (FileImages first older Log) (since_sync (torn_to byte) first older Log) (reads_after first older Log) now change makes has same
  one_torn first older Extent Log change now makes before = before
  one_torn first older Log Extent change now makes before = before

  pub torn_image : (first : Files) (steps : List Step) (file : Which) → AreExact first steps → IsTornImage first steps file
  torn_image first [] file exact = (refl, refl)
  torn_image first (step ∷ older) file (makes, exact) =
      one_torn first older step.file file step.change step.reads makes (torn_image first older file exact)

-- what one may pick is left by some crash
pub picked_image : (pick : Pick) (past : Past) → IsExact past → CrashImages past (picked pick past)
picked_image Old past exact = record { extent = old_image past.first past.steps Extent; log = old_image past.first past.steps Log }
picked_image New past exact = new_image past.first past.steps exact
picked_image (TornTo byte) past exact = record {
  extent = (torn_image byte past.first past.steps Extent exact).0;
  log = (torn_image byte past.first past.steps Log exact).0;
}

-- after a sync a crash leaves what a read gives
pub only_synced : (file : Which) (old new : Past) (images : Files) → new ≡ stepped old file Synced (reads old file) → CrashImages new images → file_of images file ≡ reads new file
only_synced file old new images is left =
    subst (λ (p : Past). CrashImages p images → file_of images file ≡ reads p file) (sym is) (own file) left
  where
    own : (f : Which) → CrashImages (stepped old f Synced (reads old f)) images → file_of images f ≡ reads (stepped old f Synced (reads old f)) f
    own Extent left = left.extent
    own Log left = left.log

pub other_reads : (past : Past) (file other : Which) (change : Change) (bytes : List ℕ) → file ≢ other → reads (stepped past file change bytes) other ≡ reads past other
other_reads past Extent Extent change bytes apart = absurd (apart refl)
other_reads past Extent Log change bytes apart = refl
other_reads past Log Extent change bytes apart = refl
other_reads past Log Log change bytes apart = absurd (apart refl)

-- A step on one file leaves what a crash may leave of the other.
pub other_images : (past : Past) (file other : Which) (change : Change) (bytes image : List ℕ) → file ≢ other
    → (FileImages (stepped past file change bytes).first (stepped past file change bytes).steps other image → FileImages past.first past.steps other image)
    × (FileImages past.first past.steps other image → FileImages (stepped past file change bytes).first (stepped past file change bytes).steps other image)
other_images past Extent Extent change bytes image apart = absurd (apart refl)
other_images past Extent Log change bytes image apart = (λ left. left, λ left. left)
other_images past Log Extent change bytes image apart = (λ left. left, λ left. left)
other_images past Log Log change bytes image apart = absurd (apart refl)
