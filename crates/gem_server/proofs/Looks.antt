-- How looking at a store ends, and making one.
use Rattle.std.proofs.Common.{◌≡◌, ◌≢◌, ◌⊎◌, ℕ, ◌<◌, ◌≤◌, Bool, IsTrue, length, Option, refl, ap, ◌∙◌, inl, inr, arith}
use Rattle.gem_io.specs.Faults.{HasRisen}
use Rattle.gem_object.specs.texts.Bytes.{Bytes}
use Rattle.gem_disk.specs.Disk.{Files, Past, as_read, moment, CrashImagesSince}
use Rattle.kernel_image.specs.Objects.{kernel_image}
use Rattle.stone_store.specs.declared.parts.FoundImage.{FoundImage}
use Rattle.stone_store.specs.declared.fault.StoreFault.{StoreFault}
use Rattle.stone_store.specs.declared.fault.StoreFault.TheVariants as fault
use Rattle.stone_store.specs.Store.{store_of}
use Rattle.stone_store.specs.Left.{FilesStandFor, StandsInAll}
use Rattle.stone_store.specs.Opening.{IsFound, OpensNot}
use Rattle.gem_server.specs.declared.status.Status.{Status}
use Rattle.gem_server.specs.declared.status.Status.TheVariants.{Done, Usage, Script, NotStore, SerialsUsed, NotEmpty, ReadFault, DiskFault, WriteFault, NoMemory}
use Rattle.gem_server.specs.Devices.{Seen, HasFailed, IsUnused}
use Rattle.gem_server.specs.Writing.{HasWritten, HasWrittenOrNot}
use Rattle.gem_server.specs.Course.{Stays}
use Rattle.gem_server.specs.Serving.{status_of_store}
use Rattle.gem_server.specs.Looking.{store_line, ChecksSo, Checks, AreEmpty, IsMade, IsWhyNotEmpty, IsWhyNotStored, InitsSo, Inits}

-- ---- the sink, by how writing a line ended

pub record IsSinkTold (sink : Seen (Option Bytes)) (status : Status) : Type 0 where
  pub fault_told : sink.faults < sink.faults_after → status ≡ WriteFault
  pub later : sink.faults ≤ sink.faults_after

unused_told : (sink : Seen (Option Bytes)) (status : Status) → IsUnused sink → IsSinkTold sink status
unused_told sink status unused = record {
  fault_told = λ lt. let quiet = unused.quiet in absurd (omega (arith, lt, quiet));
  later = let quiet = unused.quiet in omega (arith, quiet);
}

pub wrote_or_not : (sink : Seen (Option Bytes)) (bytes : Bytes) (status : Status) → HasWritten sink bytes status → HasWrittenOrNot sink bytes status
wrote_or_not sink bytes Done has = has
wrote_or_not sink bytes WriteFault has = has
wrote_or_not sink bytes NoMemory has = absurd has
wrote_or_not sink bytes Usage has = has
wrote_or_not sink bytes (Script line rule) has = has
wrote_or_not sink bytes (NotStore flaw) has = has
wrote_or_not sink bytes (SerialsUsed base sessions) has = has
wrote_or_not sink bytes (NotEmpty extent log) has = has
wrote_or_not sink bytes ReadFault has = has
wrote_or_not sink bytes DiskFault has = has

-- ---- looking

module _ (tells : Bool) (sink : Seen (Option Bytes)) (disk : Seen Past) (stays : Stays tells disk) where
  checks : (status : Status) → ChecksSo tells sink disk status → IsSinkTold sink status → Checks tells sink disk status
  checks status so told = record { so = so; stays = stays; sink_fault_told = told.fault_told; later = told.later }

  -- a store was found
  pub checks_found : (found : FoundImage) (status : Status) → (IsTrue tells → IsFound (store_of (as_read disk.before)) found)
      → HasWrittenOrNot sink (store_line found) status → Checks tells sink disk status
  checks_found found Done is has = checks Done (found, record { is = is }, has.0) (record {
    fault_told = λ lt. let quiet = has.1 in absurd (omega (arith, lt, quiet));
    later = let quiet = has.1 in omega (arith, quiet);
  })
  checks_found found WriteFault is has =
      checks WriteFault (found, record { is = is }, has.0, has.1) (record { fault_told = λ lt. refl; later = has.2 })
  checks_found found NoMemory is unused = checks NoMemory unused (unused_told sink NoMemory unused)
  checks_found found Usage is has = absurd has
  checks_found found (Script line rule) is has = absurd has
  checks_found found (NotStore flaw) is has = absurd has
  checks_found found (SerialsUsed base sessions) is has = absurd has
  checks_found found (NotEmpty extent log) is has = absurd has
  checks_found found ReadFault is has = absurd has
  checks_found found DiskFault is has = absurd has

  -- there is none
  pub checks_fault : (why : StoreFault) → (IsTrue tells → OpensNot (store_of (as_read disk.before)) why)
      → (why ≡ fault.Disk → HasFailed disk) → IsUnused sink → Checks tells sink disk (status_of_store why)
  checks_fault (fault.NotStore flaw) flawed failed unused = checks (NotStore flaw) (unused, flawed) (unused_told sink (NotStore flaw) unused)
  checks_fault fault.Disk flawed failed unused = checks DiskFault (unused, failed refl) (unused_told sink DiskFault unused)
  checks_fault fault.NoMemory flawed failed unused = checks NoMemory unused (unused_told sink NoMemory unused)

-- ---- making

-- each crash since the beginning left the image of the kernel, where both files were empty
abbrev pub LeavesKernel : Bool → Seen Past → Type 0
LeavesKernel tells disk = IsTrue tells → AreEmpty (as_read disk.before) → StandsInAll disk.before kernel_image 0
    → (files : Files) → CrashImagesSince (moment disk.before) disk.after files → FilesStandFor kernel_image 0 files

module _ (tells : Bool) (sink : Seen (Option Bytes)) (disk : Seen Past) (none : IsTrue tells → AreEmpty (as_read disk.before))
    (leaves : LeavesKernel tells disk) where
  inits : (status : Status) → ((extent log : ℕ) → status ≢ NotEmpty extent log) → InitsSo tells sink disk status → IsSinkTold sink status
      → Inits tells sink disk status
  inits status empty so told = record {
    so = so;
    empty = λ told is. empty;
    not_empty = λ told some. absurd (some (none told));
    crash_since = leaves;
    sink_fault_told = told.fault_told;
    later = told.later;
  }

  -- it was made
  pub inits_made : (found : FoundImage) (status : Status) → IsMade tells disk found → HasWrittenOrNot sink (store_line found) status
      → Inits tells sink disk status
  inits_made found Done is has = inits Done (λ extent log same. absurd cc) (found, is, has.0) (record {
    fault_told = λ lt. let quiet = has.1 in absurd (omega (arith, lt, quiet));
    later = let quiet = has.1 in omega (arith, quiet);
  })
  inits_made found WriteFault is has =
      inits WriteFault (λ extent log same. absurd cc) (found, is, has.0, has.1) (record { fault_told = λ lt. refl; later = has.2 })
  inits_made found NoMemory is unused = inits NoMemory (λ extent log same. absurd cc) unused (unused_told sink NoMemory unused)
  inits_made found Usage is has = absurd has
  inits_made found (Script line rule) is has = absurd has
  inits_made found (NotStore flaw) is has = absurd has
  inits_made found (SerialsUsed base sessions) is has = absurd has
  inits_made found (NotEmpty extent log) is has = absurd has
  inits_made found ReadFault is has = absurd has
  inits_made found DiskFault is has = absurd has

  -- it can't be opened, which is so of no empty files
  pub inits_fault : (why : StoreFault) → ((flaw : _) → why ≡ fault.NotStore flaw → IsTrue tells → ⊥)
      → (why ≡ fault.Disk → HasFailed disk) → IsUnused sink → Inits tells sink disk (status_of_store why)
  inits_fault (fault.NotStore flaw) never failed unused =
      inits (NotStore flaw) (λ extent log same. absurd cc) (unused, never flaw refl) (unused_told sink (NotStore flaw) unused)
  inits_fault fault.Disk never failed unused = inits DiskFault (λ extent log same. absurd cc) (unused, failed refl) (unused_told sink DiskFault unused)
  inits_fault fault.NoMemory never failed unused = inits NoMemory (λ extent log same. absurd cc) unused (unused_told sink NoMemory unused)

  -- its image can't be stored
  pub inits_unstored : (number before after : ℕ) (status : Status) → IsWhyNotStored number before after status
      → (IsTrue tells → number ≡ 0) → (HasRisen before after → HasFailed disk) → IsUnused sink → Inits tells sink disk status
  inits_unstored number before after (SerialsUsed base sessions) why zero failed unused =
      inits (SerialsUsed base sessions) (λ extent log same. absurd cc)
      (unused, λ told. let none = zero told in absurd (omega (arith, why, none))) (unused_told sink (SerialsUsed base sessions) unused)
  inits_unstored number before after DiskFault why zero failed unused =
      inits DiskFault (λ extent log same. absurd cc) (unused, failed why) (unused_told sink DiskFault unused)
  inits_unstored number before after NoMemory why zero failed unused =
      inits NoMemory (λ extent log same. absurd cc) unused (unused_told sink NoMemory unused)
  inits_unstored number before after Done why zero failed unused = absurd why
  inits_unstored number before after Usage why zero failed unused = absurd why
  inits_unstored number before after (Script line rule) why zero failed unused = absurd why
  inits_unstored number before after (NotStore flaw) why zero failed unused = absurd why
  inits_unstored number before after (NotEmpty extent log) why zero failed unused = absurd why
  inits_unstored number before after ReadFault why zero failed unused = absurd why
  inits_unstored number before after WriteFault why zero failed unused = absurd why

-- a file isn't empty, or the disk failed before that was known
pub inits_not_empty : (tells : Bool) (sink : Seen (Option Bytes)) (disk : Seen Past) (status : Status) → LeavesKernel tells disk
    → (IsTrue tells → disk.after ≡ disk.before) → IsWhyNotEmpty tells disk status → IsUnused sink → Inits tells sink disk status
inits_not_empty tells sink disk (NotEmpty extent log) leaves same lengths unused = record {
  so = (unused, lengths);
  empty = λ told none other_extent other_log is. absurd (not_both lengths.some (lengths.extent_is told ∙ ap length none.0) (lengths.log_is told ∙ ap length none.1));
  not_empty = λ told some. (tt, same told);
  crash_since = leaves;
  sink_fault_told = (unused_told sink (NotEmpty extent log) unused).fault_told;
  later = (unused_told sink (NotEmpty extent log) unused).later;
} where
  not_both : (extent ≢ 0) ⊎ (log ≢ 0) → extent ≡ 0 → log ≡ 0 → ⊥
  not_both (inl some) e l = some e
  not_both (inr some) e l = some l
inits_not_empty tells sink disk DiskFault leaves same failed unused = record {
  so = (unused, failed);
  empty = λ told none extent log is. absurd cc;
  not_empty = λ told some. (tt, same told);
  crash_since = leaves;
  sink_fault_told = (unused_told sink DiskFault unused).fault_told;
  later = (unused_told sink DiskFault unused).later;
}
inits_not_empty tells sink disk Done leaves same why unused = absurd why
inits_not_empty tells sink disk Usage leaves same why unused = absurd why
inits_not_empty tells sink disk (Script line rule) leaves same why unused = absurd why
inits_not_empty tells sink disk (NotStore flaw) leaves same why unused = absurd why
inits_not_empty tells sink disk (SerialsUsed base sessions) leaves same why unused = absurd why
inits_not_empty tells sink disk ReadFault leaves same why unused = absurd why
inits_not_empty tells sink disk WriteFault leaves same why unused = absurd why
inits_not_empty tells sink disk NoMemory leaves same why unused = absurd why
