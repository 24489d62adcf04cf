-- The numbers of a load, and how large one may be.
use Rattle.std.specs.Prelude.{ℕ, zero, suc, ◌+◌, ◌*◌, ◌/◌, ◌%◌, ◌^◌, ◌≤◌, List, [], ◌∷◌, sum, sum_by}
use Rattle.load_maker.specs.declared.limits.TheConstants.{LOAD_SEED_LIMIT, LOAD_SESSION_LIMIT, LOAD_ROUND_LIMIT}

abbrev pub IsSeed : ℕ → Type 0
IsSeed seed = seed ≤ LOAD_SEED_LIMIT

abbrev pub IsSessionCount : ℕ → Type 0
IsSessionCount sessions = (1 ≤ sessions) × (sessions ≤ LOAD_SESSION_LIMIT)

abbrev pub IsRoundCount : ℕ → Type 0
IsRoundCount rounds = (1 ≤ rounds) × (rounds ≤ LOAD_ROUND_LIMIT)

-- what follows a state of the generator, which begins with the seed
abbrev pub next_state : ℕ → ℕ
next_state state = (1103515245 * state + 12345) % (2 ^ 31)

-- the number that a state gives, from 1 to 9
abbrev pub number_of : ℕ → ℕ
number_of state = 1 + ((state / 65536) % 9)

-- the numbers of so many rounds, in order, of which each has a state of its own after this one
abbrev pub round_numbers : ℕ → ℕ → List ℕ
round_numbers zero state = []
round_numbers (suc rounds) state =
    number_of (next_state state) ∷ round_numbers rounds (next_state state)

-- the state after so many rounds
abbrev pub state_after : ℕ → ℕ → ℕ
state_after zero state = state
state_after (suc rounds) state = state_after rounds (next_state state)

-- The numbers of the rounds of each session, where so many sessions of so many rounds follow the
-- state. A session goes on where the one before it ended.
abbrev pub load_numbers : (sessions rounds state : ℕ) → List (List ℕ)
load_numbers zero rounds state = []
load_numbers (suc sessions) rounds state =
    round_numbers rounds state ∷ load_numbers sessions rounds (state_after rounds state)

-- what all numbers of a load add up to
abbrev pub load_sum : (seed sessions rounds : ℕ) → ℕ
load_sum seed sessions rounds = sum_by sum (load_numbers sessions rounds seed)
