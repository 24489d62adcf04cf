-- What a keeper in memory has stored.
use Rattle.std.specs.Prelude.{ℕ, option_map}
use Rattle.gem_record.specs.Stored.{Root, Stored}
use Rattle.gem_keeper.specs.declared.memory.MemKeeper.{MemKeeper}

-- the root of a checkpoint of this number: no pages are counted
abbrev pub root_of : (number : ℕ) → Root
root_of number = record { number = number; pages = 0 }

abbrev pub stored_in : MemKeeper → Stored
stored_in keeper = record { log_length = keeper.length; root = option_map root_of keeper.root }
