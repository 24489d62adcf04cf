-- The rule of a clock's table: what its word and the views of its seats have to do with each other.
use Rattle.std.specs.Prelude.{◌≡◌, ℕ, true, false, List, [], ◌∷◌, ◌++◌, length}
use Rattle.std.specs.List.{range_with_len}
use mathlib.Core.Option.{some}
use lib.ListN.{get_elem?}
use Rattle.atomic_table.specs.Table.{State, Me}
use Rattle.gem_clock.specs.Pairs.{Has, without, IsAuthor, AreAuthors, AllKnow}
use Rattle.gem_clock.specs.declared.rule.Known.{Known}

-- ---- the views of seats

-- the pen's view at the start: it holds all authors, and the list is empty
abbrev pub first_known : {E : Type 0} → ℕ → Known E
first_known authors = record
    { is_pen = true; authors = authors; held = range_with_len 1 authors; list = []; met = [] }

-- the pen's view once it has given the author away
abbrev pub known_without : {E : Type 0} → ℕ → Known E → Known E
known_without author known = record known { held = without author known.held }

-- the view of a stamp that the author is given to: its author, and a copy of the pen's list
abbrev pub known_stamped : {E : Type 0} → ℕ → Known E → Known E
known_stamped author known = record
    { is_pen = false; authors = known.authors; held = author ∷ []; list = known.list; met = [] }

-- the pen's view once it has met a stamp: it holds the stamp's author, and remembers what it saw
abbrev pub known_joined : {E : Type 0} → Known E → Known E → Known E
known_joined known stamp = record known
    { held = stamp.held ++ known.held; met = (stamp.held, stamp.list) ∷ known.met }

-- the view of a stamp that was met
abbrev pub known_spent : {E : Type 0} → Known E
known_spent = record { is_pen = false; authors = 0; held = []; list = []; met = [] }

-- the pen's view once it has given up what the stamps that it met had seen
abbrev pub known_settled : {E : Type 0} → Known E → Known E
known_settled known = record known { met = [] }

-- the pen's view once it has added pairs
abbrev pub known_longer : {E : Type 0} → List (ℕ × E) → Known E → Known E
known_longer pairs known = record known { list = known.list ++ pairs }

-- ---- the rule

-- of each of these, authors and what they saw, that is a front of the list, and no pair of one of
-- its authors follows it
abbrev pub AreKnown : {E : Type 0} → List (List ℕ × List (ℕ × E)) → List (ℕ × E) → Type 0
AreKnown [] list = Unit {0}
AreKnown (seen ∷ more) list = AllKnow seen.0 seen.1 list × AreKnown more list

-- what the pen knows: it stands at the pen's seat, and its list is the whole
pub record IsWhole {E : Type 0} (pen : ℕ) (list : List (ℕ × E)) (seat : ℕ) (known : Known E)
    : Type 0 where
  pub stands : seat ≡ pen
  pub whole : known.list ≡ list
  pub met : AreKnown known.met list

-- What a seat knows. What it saw is a front of the list, and no pair of an author that it holds
-- follows. Each author that it holds stands with this seat alone. If it says that it is the pen's,
-- it is.
pub record Fits {E : Type 0} (authors pen : ℕ) (list : List (ℕ × E)) (owner : ℕ → ℕ)
    (seat : ℕ) (known : Known E) : Type 0 where
  pub front : AllKnow known.held known.list list
  pub owned : (author : ℕ) → Has known.held author
      → (owner author ≡ seat) × IsAuthor authors author
  pub whole : known.is_pen ≡ true → IsWhole pen list seat known

-- The word is the length of the list. One seat is the pen's. Each author stands with at most one
-- seat, its owner.
pub record Kept {E : Type 0} (authors : ℕ) (s : State (Unit {0}) (Known E)) : Type 0 where
  pub list : List (ℕ × E)
  pub pen : ℕ
  pub owner : ℕ → ℕ
  pub word : s.words ≡ length list ∷ []
  pub range : AreAuthors authors list
  pub written : (known : Known E)
      × (get_elem? s.views pen ≡ some known) × (known.is_pen ≡ true)
  pub fits : (seat : ℕ) (known : Known E) → get_elem? s.views seat ≡ some known
      → Fits authors pen list owner seat known

-- ---- what two of the steps tell the pen

-- a load: the word is the length of the list, and of the stamps that were met it is known what
-- they saw
pub record Met {E : Type 0} (before : Me (Unit {0}) (Known E)) (found : ℕ)
    (after : Me (Unit {0}) (Known E)) : Type 0 where
  pub now : after ≡ (known_settled before.0, before.1)
  pub word : found ≡ length before.0.list
  pub range : AreAuthors before.0.authors before.0.list
  pub held : (author : ℕ) → Has before.0.held author → IsAuthor before.0.authors author
  pub known : AreKnown before.0.met before.0.list

-- a fetch_add: the list has the pairs at its end
pub record Added {E : Type 0} (pairs : List (ℕ × E)) (before : Me (Unit {0}) (Known E))
    (found : ℕ) (after : Me (Unit {0}) (Known E)) : Type 0 where
  pub now : after ≡ (known_longer pairs before.0, before.1)
  pub word : found ≡ length before.0.list
