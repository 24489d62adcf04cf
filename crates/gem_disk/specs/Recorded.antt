-- Two files in memory and the record of the calls on them, as what became of a disk.
use Rattle.std.specs.Prelude.{◌≡◌, ℕ, Bool, true, false, List, [], ◌∷◌, ◌++◌, take, length, cond}
use Rattle.gem_disk.specs.declared.disk.Which.{Which}
use Rattle.gem_disk.specs.declared.disk.Which.TheVariants.{Extent, Log}
use Rattle.gem_disk.specs.declared.images.Pick.{Pick}
use Rattle.gem_disk.specs.declared.images.Pick.TheVariants.{Old, New, Torn as TornTo}
use Rattle.gem_disk.specs.Disk.{Files, file_of, is_same, Change, Wrote, CutTo, Synced, Past, stepped, placed}
use Rattle.gem_disk.specs.Picked.{torn_to}
use Rattle.gem_disk.specs.declared.recorded.Call.{Call}
use Rattle.gem_disk.specs.declared.recorded.Kind.{Kind}
use Rattle.gem_disk.specs.declared.recorded.Kind.TheVariants.{Write, Truncation, Sync}

-- the files with other bytes in one of them
abbrev pub with_file : Files → Which → List ℕ → Files
with_file files Extent bytes = record files { extent = bytes }
with_file files Log bytes = record files { log = bytes }

-- a change by its kind, where it begins, and how many bytes it has
abbrev pub change_by : Kind → ℕ → ℕ → Change
change_by Write at count = Wrote at count
change_by Truncation at count = CutTo at
change_by Sync at count = Synced

-- what a file reads as after a change with these bytes
abbrev pub made : Kind → ℕ → List ℕ → List ℕ → List ℕ
made Write at bytes old = placed at bytes old
made Truncation at bytes old = take at old
made Sync at bytes old = old

abbrev pub change_of : Call → Change
change_of call = change_by call.kind call.at call.count

-- what the file held before a call, from what it held after it
abbrev pub undone : Call → List ℕ → List ℕ
undone call bytes = take call.size (placed call.at call.lost.items bytes)

-- what became of files that hold this now, by the calls on them, the newest first
abbrev pub history : Files → List Call → Past
history now [] = record { first = now; steps = [] }
history now (call ∷ older) = stepped
    (history (with_file now call.file (undone call (file_of now call.file))) older)
    call.file (change_of call) (file_of now call.file)

-- One call more on a file, which made this change of it, from what it held before to what it held
-- after.
pub record OneCall (file : Which) (kind : Kind) (at : ℕ) (bytes before after : List ℕ)
    (old new : List Call) : Type 0 where
  pub makes : after ≡ made kind at bytes before
  pub call : Call
  pub more : new ≡ old ++ call ∷ []
  pub of_file : call.file ≡ file
  pub did : change_of call ≡ change_by kind at (length bytes)
  pub undoes : undone call after ≡ before

abbrev pub is_sync : Kind → Bool
is_sync Write = false
is_sync Truncation = false
is_sync Sync = true

-- A file as at its last sync, by the calls, the newest first, and with each later change of it done
-- anew in another way.
abbrev pub back : (Change → List ℕ → List ℕ) → Which → List Call → List ℕ → List ℕ
back anew file [] bytes = bytes
back anew file (call ∷ older) bytes = elim (is_same call.file file) [
  | true ↦ elim (is_sync call.kind) [
    | true ↦ bytes
    | false ↦ anew (change_of call) (back anew file older (undone call bytes))
  ]
  | false ↦ back anew file older bytes
]

-- these changes of a file done anew, the oldest first
abbrev pub done_anew : (Change → List ℕ → List ℕ) → Which → List Call → List ℕ → List ℕ
done_anew anew file [] bytes = bytes
done_anew anew file (call ∷ later) bytes = done_anew anew file later
    (cond (is_same call.file file) (anew (change_of call) bytes) bytes)

-- what a crash leaves of a file, by the calls, the newest first
abbrev pub image_back : Pick → Which → List Call → List ℕ → List ℕ
image_back Old file calls bytes = back (λ _ old. old) file calls bytes
image_back New file calls bytes = bytes
image_back (TornTo byte) file calls bytes = back (torn_to byte) file calls bytes
