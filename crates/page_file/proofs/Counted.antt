-- How many pages a checkpoint takes.
use Rattle.std.proofs.Common.{◌≡◌, ℕ, ◌-◌, ◌^◌, ◌≤◌, ◌<◌, min, Bool, true, false, cond, ltb, List, [], length, Some, None, Result, Ok, Err, OnOk, refl, sym, ap, subst, ◌∙◌, arith}
use Rattle.std.proofs.lemmas.Bool.Decides.{nat_tests}
use Rattle.gem_image.specs.Image.{Image, AreNamed}
use Rattle.extent_pages.specs.Pages.{most_pages}
use Rattle.extent_pages.specs.Extent.{Extent, pages_used}
use Rattle.extent_plan.specs.declared.place.LeafPlace.{LeafPlace}
use Rattle.extent_plan.specs.declared.plan.PlanFault.{PlanFault}
use Rattle.extent_plan.specs.declared.plan.PlanFault.TheVariants as plans
use Rattle.extent_plan.specs.Runs.{AscendFrom}
use Rattle.extent_plan.specs.Needed.{AreToWrite, numbers_at, checkpoint_pages}
use Rattle.extent_plan.specs.Plan.{ArePlaces}
use Rattle.extent_plan.proofs.Counts.{first_counted as none_counted, later_counted as some_counted}
use Rattle.page_file.specs.declared.fault.CheckFault.TheVariants as faults
use Rattle.page_file.specs.declared.file.Current.{Current}
use Rattle.page_file.specs.Planned.{AreUsed}
use Rattle.page_file.specs.Changing.{check_fault, pages_taken, IsFaultCounted, IsPlanFaultCounted, IsPlanCounted, MayShare}

-- ---- how many pages are taken

-- a plan, by what its call says of its pages
pub plan_counted : {T : Type 0} (pages : ℕ) (result : Result T PlanFault)
    → ((count : ℕ) → result ≡ Err (plans.Full count) → (most_pages < pages) × (count ≡ min pages (2 ^ 64 - 1)))
    → OnOk result (pages ≤ most_pages) → IsPlanCounted pages result
plan_counted pages (Ok plan) full room = room
plan_counted pages (Err (plans.Full count)) full room = full count refl
plan_counted pages (Err plans.NoMemory) full room = tt

-- a fault of the plan
pub fault_counted : (pages : ℕ) (fault : PlanFault) → IsPlanFaultCounted pages fault
    → IsFaultCounted pages (check_fault fault)
fault_counted pages (plans.Full count) counted = by (ltb count (2 ^ 64 - 1)) refl
  where
    by : (b : Bool) → ltb count (2 ^ 64 - 1) ≡ b → IsFaultCounted pages (cond b (faults.Full count) faults.NoMemory)
    by true less = (counted.0, exact (grind (arith, nat_tests, less)))
      where
        exact : count < 2 ^ 64 - 1 → count ≡ pages
        exact low = omega (arith, low, counted.1)
    by false no_less = tt
fault_counted pages plans.NoMemory counted = tt

-- a first plan
pub first_counted : {T : Type 0} (image : Image) (result : Result T PlanFault) → AreNamed image
    → ((pages : ℕ) → result ≡ Err (plans.Full pages) → (most_pages < checkpoint_pages image 0 [] []) × (pages ≡ min (checkpoint_pages image 0 [] []) (2 ^ 64 - 1)))
    → OnOk result (checkpoint_pages image 0 [] [] ≤ most_pages) → IsPlanCounted (pages_taken None image) result
first_counted image result named full room =
    subst (λ (pages : ℕ). IsPlanCounted pages result) (none_counted image named 0) (plan_counted (checkpoint_pages image 0 [] []) result full room)

-- a later plan
pub later_counted : {T : Type 0} (image : Image) (changed : List ℕ) (current : Current) (extent : Extent) (used seen : List ℕ)
    (places : List LeafPlace) (result : Result T PlanFault)
    → AreNamed image → MayShare image changed current extent → seen ≡ used → places ≡ current.leaves.items → AscendFrom 3 used
    → AreUsed used extent
    → ((pages : ℕ) → AreToWrite image current.number (numbers_at places) changed → result ≡ Err (plans.Full pages)
    → (most_pages < checkpoint_pages image current.number seen places) × (pages ≡ min (checkpoint_pages image current.number seen places) (2 ^ 64 - 1)))
    → (AreToWrite image current.number (numbers_at places) changed → OnOk result (checkpoint_pages image current.number seen places ≤ most_pages))
    → IsPlanCounted (pages_taken (Some extent) image) result
later_counted image changed current extent used seen places result named share seen_is places_are ascend are full room =
    subst (λ (pages : ℕ). IsPlanCounted pages result) same (plan_counted (checkpoint_pages image current.number seen places) result (λ count is. full count written is) (room written))
  where
    lie : ArePlaces places extent.leaves
    lie = subst (λ (l : List LeafPlace). ArePlaces l extent.leaves) (sym places_are) share.leaves

    written : AreToWrite image current.number (numbers_at places) changed
    written = subst (λ (l : List LeafPlace). AreToWrite image current.number (numbers_at l) changed) (sym places_are) share.written

    many : length seen ≡ length (pages_used extent)
    many = ap (λ (l : List ℕ). length l) seen_is ∙ share.many used ascend are

    same : checkpoint_pages image current.number seen places ≡ pages_taken (Some extent) image
    same = ap (λ (n : ℕ). checkpoint_pages image n seen places) share.number
        ∙ some_counted image extent.number extent.leaves share.stored share.keeps named seen places (length (pages_used extent)) lie many
