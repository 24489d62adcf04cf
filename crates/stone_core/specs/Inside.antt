-- From the fields of a Stone to what contracts see.
use Rattle.std.specs.Prelude.{ℕ, Bool, Option}
use Rattle.std.specs.Vec.{vec_capacity}
use Rattle.gem_record.specs.Stored.{Stored}
use Rattle.gem_keeper.specs.Found.{Found}
use Rattle.gem_meaning.specs.Events.{Told}
use Rattle.stone_core.specs.Kept.{Kept, IsHalting}
use Rattle.stone_core.specs.Stone.{IsStone}
use Rattle.stone_core.specs.declared.stone.Stone.TheInside.{Inside}

module _ {K : Type 0} (counts_pages : Bool) (stored : K → Stored) where
  abbrev pub told_by : Inside K → Told
  told_by stone = record {
    opened = record {
      image = stone.opened_image;
      number = stone.opened_number;
      script = stone.script.value;
      stored = stored stone.started.value;
      counts_pages = counts_pages;
    };
    events = stone.events.items;
  }

  abbrev pub kept_by : Inside K → Kept K
  kept_by stone =
      record { told = told_by stone; started = stone.started.value; keeper = stone.keeper }

  abbrev pub IsWholeStone : (K → Bool) → (K → ℕ) → Bool → (K → ℕ) → (K → Option Found)
      → (K → ℕ → Option Found → Type 0) → Inside K → Type 0
  IsWholeStone ready faults tells moment stands left_since stone =
      IsStone (told_by stone) stone.image stone.number stone.locks stone.history.items
      (vec_capacity stone.events)
      × IsHalting stored ready faults tells moment stands left_since (told_by stone) stone.halted
      stone.started.value stone.keeper
