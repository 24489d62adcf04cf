-- A store that is made of two empty files.
use Rattle.std.proofs.Common.{◌≡◌, ℕ, ◌<◌, ◌≤◌, Bool, true, IsTrue, [], Option, Some, None, Ok, refl, sym, ap, ap₂, subst, ◌∙◌, inl, inr, arith}
use Rattle.gem_io.specs.Faults.{HasRisen}
use Rattle.gem_disk.specs.Disk.{Files, Past, as_read, moment, CrashImagesSince}
use Rattle.gem_disk.specs.Runs.{LeavesOnly}
use Rattle.gem_disk.proofs.Moments.{only_now}
use Rattle.gem_image.specs.Image.{Image}
use Rattle.gem_record.specs.Stored.{Stored, after_checkpoint}
use Rattle.kernel_image.specs.Objects.{kernel_image}
use Rattle.kernel_image.proofs.KernelSound.{kernel_is_sound}
use Rattle.gem_keeper.specs.Found.{Found, StandsFor}
use Rattle.gem_keeper.specs.Crashes.{FitsNow, KeepsOnly}
use Rattle.stone_store.specs.declared.parts.FoundImage.{FoundImage}
use Rattle.stone_store.specs.declared.parts.Parts.{Parts}
use Rattle.stone_store.specs.declared.fault.StoreFault.{StoreFault}
use Rattle.stone_store.specs.declared.fault.StoreFault.TheVariants as fault
use Rattle.stone_store.specs.declared.fault.StoreFlaw.{StoreFlaw}
use Rattle.stone_store.specs.Store.{Held, store_of, found_of, image_of, number_of}
use Rattle.stone_store.specs.Left.{FilesStandFor, StandsInAll}
use Rattle.stone_store.specs.Opening.{IsFound, OpensNot}
use Rattle.stone_store.specs.Resting.{stored_by, IsStoredIn}
use Rattle.stone_store.specs.Whole.{StoreOf, StoresBy, store_moment, store_stands, store_left}
use Rattle.gem_server.specs.Devices.{Seen}
use Rattle.gem_server.specs.Looking.{AreEmpty, IsMade}
use Rattle.gem_server.proofs.Looks.{LeavesKernel}
use Rattle.gem_server.proofs.StoreCompletes.{ok_is, no_flaw}

-- what two empty files hold
abbrev pub nothing_held : Held
nothing_held = record { root = None; records = [] }

empty_holds : store_of (record { extent = []; log = [] }) ≡ Ok nothing_held
empty_holds = refl

pub empty_store : (files : Files) → AreEmpty files → store_of files ≡ Ok nothing_held
empty_store files none =
    let same : files ≡ record { extent = []; log = [] } = λ i. record { extent = none.0 i; log = none.1 i } in
    ap store_of same ∙ empty_holds

-- a disk that wasn't used
pub leaves_unused : (tells : Bool) (disk : Seen Past) → (IsTrue tells → disk.after ≡ disk.before) → LeavesKernel tells disk
leaves_unused tells disk same told none all files left =
    all.each files (only_now disk.before files (subst (λ (p : Past). CrashImagesSince (moment disk.before) p files) (same told) left))

pub risen_since : (a b c : ℕ) → a ≤ b → HasRisen b c → HasRisen a c
risen_since a b c le risen = grind (arith, le, risen)

module _ (tells : Bool) (first looked opened : Past) (same : IsTrue tells → looked ≡ first)
    (run : (image : Image) (number : ℕ) → IsTrue tells → StandsInAll looked image number → LeavesOnly looked opened (FilesStandFor image number)) where
  opening : IsTrue tells → StandsInAll first kernel_image 0 → LeavesOnly first opened (FilesStandFor kernel_image 0)
  opening told all = subst (λ (p : Past). LeavesOnly p opened (FilesStandFor kernel_image 0)) (same told)
      (run kernel_image 0 told (subst (λ (p : Past). StandsInAll p kernel_image 0) (sym (same told)) all))

  -- each crash until the store was open
  pub leaves_opened : (before after : ℕ) → LeavesKernel tells (record { before = first; after = opened; faults = before; faults_after = after })
  leaves_opened before after told none all files left = (opening told all).each files left

  -- empty files are a store
  pub never_flawed : (why : StoreFault) (flaw : StoreFlaw) → (IsTrue tells → OpensNot (store_of (as_read looked)) why)
      → (IsTrue tells → AreEmpty (as_read first)) → why ≡ fault.NotStore flaw → IsTrue tells → ⊥
  never_flawed why flaw opens none is told =
      no_flaw (store_of (as_read looked)) nothing_held flaw
      (empty_store (as_read looked) (subst (λ (p : Past). AreEmpty (as_read p)) (sym (same told)) (none told)))
      kernel_is_sound (subst (OpensNot (store_of (as_read looked))) is (opens told))

  module _ (found : FoundImage) (is : IsTrue tells → IsFound (store_of (as_read looked)) found) (none : IsTrue tells → AreEmpty (as_read first)) where
    held_is : (told : IsTrue tells) → nothing_held ≡ (is told).held
    held_is told = ok_is nothing_held (is told).held
        (sym (empty_store (as_read looked) (subst (λ (p : Past). AreEmpty (as_read p)) (sym (same told)) (none told))) ∙ (is told).store_is)

    pub kernel_found : IsTrue tells → (found.image ≡ kernel_image) × (found.number ≡ 0)
    kernel_found told = (
      (is told).image_is ∙ ap image_of (sym (held_is told)),
      (is told).number_is ∙ ap number_of (sym (held_is told)),
    )

    as_kernel : (told : IsTrue tells) (left : Option Found) → StandsFor found.image found.number left → StandsFor kernel_image 0 left
    as_kernel told left stands = subst (λ (i : Image). StandsFor i 0 left) (kernel_found told).0
        (subst (λ (n : ℕ). StandsFor found.image n left) (kernel_found told).1 stands)

    -- each crash until the checkpoint was made, or wasn't
    pub leaves_stored : {D : Type 0} (past : D → Past) (old new : StoreOf D) → past old.disk ≡ opened
        → (IsTrue tells → KeepsOnly (store_moment past) (store_left past) old new (StandsFor found.image found.number))
        → (before after : ℕ) → LeavesKernel tells (record { before = first; after = past new.disk; faults = before; faults_after = after })
    leaves_stored past old new old_is keeps before after told no_bytes all files left =
        let here : LeavesOnly first (past old.disk) (FilesStandFor kernel_image 0) =
        subst (λ (p : Past). LeavesOnly first p (FilesStandFor kernel_image 0)) (sym old_is) (opening told all) in
        elim ((keeps told).before (moment first) (found_of files) here.later (files, left, refl)) [
          | inl earlier ↦ subst (StandsFor kernel_image 0) (sym earlier.2) (here.each earlier.0 earlier.1)
          | inr fits ↦ as_kernel told (found_of files) fits
        ]

    stored_there : (files : Files) (parts : Option Parts) (stored : Stored) → stored_by parts ≡ stored → 0 < stored.log_length → StoresBy files parts
        → IsStoredIn files stored
    stored_there files None stored same some has = absurd (omega (arith, some, ap (λ (s : Stored). s.log_length) same))
    stored_there files (Some parts) stored same some has = subst (IsStoredIn files) same has

    pub is_made : {D : Type 0} (past : D → Past) (new : StoreOf D)
        → (IsTrue tells → FitsNow (store_moment past) (store_stands past) (store_left past) new (StandsFor found.image found.number))
        → stored_by new.parts ≡ after_checkpoint true found.image found.number
        → (IsTrue tells → StoresBy (as_read (past new.disk)) new.parts)
        → (before after : ℕ) → IsMade tells (record { before = first; after = past new.disk; faults = before; faults_after = after }) found
    is_made past new stands stored has before after = record {
      kernel = kernel_found;
      store = λ told. record {
        stands = as_kernel told (found_of (as_read (past new.disk))) (stands told).reads;
        stored = stored_there (as_read (past new.disk)) new.parts (after_checkpoint true kernel_image 0)
            (stored ∙ ap₂ (after_checkpoint true) (kernel_found told).0 (kernel_found told).1) (omega arith) (has told);
      };
    }
