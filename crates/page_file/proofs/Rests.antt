-- What leaves an extent at rest.
use Rattle.std.proofs.Common.{◌≡◌, ℕ, List, Option, Result, Ok, Err, inl, inr, sym, ap, subst, ◌∙◌}
use Rattle.gem_io.specs.declared.device.Failed.{Failed}
use Rattle.gem_disk.specs.declared.disk.Which.TheVariants.{Extent as OfExtent, Log}
use Rattle.gem_disk.specs.Disk.{Change, Past, FileImages, stepped, Writes, Cuts, Syncs}
use Rattle.extent_pages.specs.Extent.{Extent, extent_of}
use Rattle.page_file.specs.declared.file.PageFile.{PageFile}
use Rattle.page_file.specs.PageFile.{IsAtRest}

pub held : (past : Past) (pages : PageFile) (before : Option Extent) (image : List ℕ) → IsAtRest past pages before
    → FileImages past.first past.steps OfExtent image → extent_of image ≡ Ok before
held past pages before image rest left = ap extent_of (rest.durable image left) ∙ rest.stands

pub step_stays : (past : Past) (change : Change) (bytes : List ℕ) (pages : PageFile) (before : Option Extent)
    → IsAtRest past pages before → IsAtRest (stepped past Log change bytes) pages before
step_stays past change bytes pages before rest =
    record { stands = rest.stands; durable = rest.durable; lists = rest.lists }

module _ (old new : Past) (pages : PageFile) (before : Option Extent) (rest : IsAtRest old pages before) where
  same_stays : new ≡ old → IsAtRest new pages before
  same_stays is = subst (λ (p : Past). IsAtRest p pages before) (sym is) rest

  next_stays : (change : Change) (bytes : List ℕ) → new ≡ stepped old Log change bytes → IsAtRest new pages before
  next_stays change bytes is =
      subst (λ (p : Past). IsAtRest p pages before) (sym is) (step_stays old change bytes pages before rest)

pub write_stays : (at : ℕ) (bytes : List ℕ) (old new : Past) (outcome : Result (Unit {0}) Failed) (pages : PageFile)
    (before : Option Extent) → Writes Log at bytes old outcome new → IsAtRest old pages before → IsAtRest new pages before
write_stays at bytes old new (Ok x) pages before is rest = next_stays old new pages before rest _ _ is
write_stays at bytes old new (Err x) pages before (inl same) rest = same_stays old new pages before rest same
write_stays at bytes old new (Err x) pages before (inr (now, torn, is)) rest =
    next_stays old new pages before rest _ now is

pub cut_stays : (n : ℕ) (old new : Past) (outcome : Result (Unit {0}) Failed) (pages : PageFile) (before : Option Extent)
    → Cuts Log n old outcome new → IsAtRest old pages before → IsAtRest new pages before
cut_stays n old new (Ok x) pages before is rest = next_stays old new pages before rest _ _ is
cut_stays n old new (Err x) pages before (inl same) rest = same_stays old new pages before rest same
cut_stays n old new (Err x) pages before (inr (now, cut, is)) rest = next_stays old new pages before rest _ now is

pub sync_stays : (old new : Past) (outcome : Result (Unit {0}) Failed) (pages : PageFile) (before : Option Extent)
    → Syncs Log old outcome new → IsAtRest old pages before → IsAtRest new pages before
sync_stays old new (Ok x) pages before is rest = next_stays old new pages before rest _ _ is
sync_stays old new (Err x) pages before is rest = same_stays old new pages before rest is
