-- What functions that read give, unless the disk fails or memory runs out.
use Rattle.std.specs.Prelude.{◌≡◌, ◌⊎◌, ◌*◌, ◌<◌, ℕ, Bool, false, List, length, get_or, Result, Ok, Err, MatchResult}
use Rattle.body_codec.specs.declared.fault.Flaw.{Flaw}
use Rattle.gem_disk.specs.declared.disk.Which.TheVariants.{Extent}
use Rattle.gem_disk.specs.Disk.{Past, Synced, reads, stepped}
use Rattle.extent_pages.specs.declared.fault.PageRule.{PageRule}
use Rattle.extent_pages.specs.declared.fault.PageFault.{PageFault}
use Rattle.extent_pages.specs.declared.fault.PageFault.TheVariants.{NotPages, Disk, NoMemory}
use Rattle.extent_pages.specs.declared.fault.PartError.{PartError}
use Rattle.extent_pages.specs.declared.fault.PartError.TheVariants as parts
use Rattle.extent_pages.specs.declared.fault.FieldError.{FieldError}
use Rattle.extent_pages.specs.declared.fault.FieldError.TheVariants as fields
use Rattle.extent_pages.specs.Pages.{page_size, Fault, is_one_of}
use Rattle.extent_pages.specs.Contents.{PayloadFault}

-- the fault is that of a page, at its offset
abbrev pub IsFault : {Y : Type 0} → PageFault → Result Y Fault → Type 0
IsFault (NotPages at broken) read =
    (page : ℕ) × (at ≡ page_size * page) × (read ≡ Err (page, broken))
IsFault Disk read = Unit {0}
IsFault NoMemory read = Unit {0}

-- what a function returned, seen by view, is what reading gives
abbrev pub Gives : {X Y : Type 0} → (X → Y) → Result X PageFault → Result Y Fault → Type 0
Gives view (Ok x) read = read ≡ Ok (view x)
Gives view (Err fault) read = IsFault fault read

-- the same of one page, whose number is known
abbrev pub BreaksPage : {Y : Type 0} → ℕ → PageFault → Result Y PageRule → Type 0
BreaksPage page (NotPages at broken) read = (at ≡ page_size * page) × (read ≡ Err broken)
BreaksPage page Disk read = Unit {0}
BreaksPage page NoMemory read = Unit {0}

abbrev pub GivesPage : {X Y : Type 0} → ℕ → (X → Y) → Result X PageFault → Result Y PageRule
    → Type 0
GivesPage page view (Ok x) read = read ≡ Ok (view x)
GivesPage page view (Err fault) read = BreaksPage page fault read

-- the same of a part of a payload
abbrev pub IsPartError : {Y : Type 0} → PartError → Result Y PayloadFault → Type 0
IsPartError (parts.Broken left broken) read = read ≡ Err (left, broken)
IsPartError parts.NoMemory read = Unit {0}

abbrev pub GivesPart : {X Y : Type 0} → (X → Y) → Result X PartError → Result Y PayloadFault
    → Type 0
GivesPart view (Ok x) read = read ≡ Ok (view x)
GivesPart view (Err error) read = IsPartError error read

-- the same of fields that are all read by one rule
abbrev pub IsFieldError : {Y : Type 0} → FieldError → Result Y Flaw → Type 0
IsFieldError (fields.Broken flaw) read = read ≡ Err flaw
IsFieldError fields.NoMemory read = Unit {0}

abbrev pub GivesFields : {X Y : Type 0} → (X → Y) → Result X FieldError → Result Y Flaw → Type 0
GivesFields view (Ok x) read = read ≡ Ok (view x)
GivesFields view (Err error) read = IsFieldError error read

-- the same of one field, which takes no memory
abbrev pub GivesField : {X Y : Type 0} → (X → Y) → Result X Flaw → Result Y Flaw → Type 0
GivesField view (Ok x) read = read ≡ Ok (view x)
GivesField view (Err flaw) read = read ≡ Err flaw

-- for each page that has a mark, whether it is one of those that are taken
abbrev pub Marks : List Bool → List ℕ → Type 0
Marks marks taken =
    (page : ℕ) → page < length marks → get_or marks page false ≡ is_one_of page taken

-- all that was done to a disk is one sync of the extent, at most; it was done where the call
-- succeeded
abbrev pub SyncsOnce : {T E : Type 0} → Past → Result T E → Past → Type 0
SyncsOnce old result new = MatchResult result
    (λ _. new ≡ stepped old Extent Synced (reads old Extent))
    (λ _. (new ≡ old) ⊎ (new ≡ stepped old Extent Synced (reads old Extent)))
