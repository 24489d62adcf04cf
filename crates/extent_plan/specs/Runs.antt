-- Lists of pages: in ascending order, and the lowest that are free.
use Rattle.std.specs.Prelude.{◌≡◌, ℕ, ◌+◌, ◌≤◌, ◌<◌, true, false, List, [], ◌∷◌}
use Rattle.extent_pages.specs.Pages.{most_pages, is_one_of}

-- the pages ascend, from this one on
abbrev pub AscendFrom : ℕ → List ℕ → Type 0
AscendFrom from [] = Unit {0}
AscendFrom from (page ∷ pages) = (from ≤ page) × AscendFrom (page + 1) pages

-- the page behind the last of these, or the first where there are none
abbrev pub behind : ℕ → List ℕ → ℕ
behind from [] = from
behind from (page ∷ pages) = behind (page + 1) pages

-- each page from one on and before another is kept
abbrev pub AreKept : List ℕ → ℕ → ℕ → Type 0
AreKept kept from to = (page : ℕ) → from ≤ page → page < to → is_one_of page kept ≡ true

-- These pages are the lowest from one on that aren't kept, in ascending order.
abbrev pub IsRun : List ℕ → ℕ → List ℕ → Type 0
IsRun kept from [] = Unit {0}
IsRun kept from (page ∷ pages) = (from ≤ page) × (is_one_of page kept ≡ false)
    × (page < most_pages) × AreKept kept from page × IsRun kept (page + 1) pages
