-- The scripts of a load, line by line.
use Rattle.std.specs.Prelude.{ℕ, codes, List, [], ◌∷◌, ◌++◌}
use Rattle.std.specs.Fmt.{decimal}
use Rattle.std.specs.List.{flat_map}
use Rattle.texts.specs.Bytes.{Bytes}
use Rattle.texts.specs.Lines.{text_of_lines}
use Rattle.load_maker.specs.Numbers.{load_numbers}

-- a chunk of one line
abbrev pub chunk_lines : Bytes → Bytes → List Bytes
chunk_lines opening line = opening ∷ line ∷ codes "%" ∷ []

-- the set-up: one chunk, and a commit
abbrev pub setup_text : Bytes
setup_text = text_of_lines (codes "session DataCurator" ∷ chunk_lines (codes "run")
    (codes "Globals at: #Hits put: RcCounter new. Globals at: #Names put: RcIdentityBag new")
    ++ codes "commit" ∷ [])

-- a round with this number: one chunk, and a commit
abbrev pub round_lines : ℕ → List Bytes
round_lines number = chunk_lines (codes "run")
    (codes "Hits incrementBy: " ++ decimal number ++ codes ". Names add: #n" ++ decimal number)
    ++ codes "commit" ∷ []

-- a session with a round for each of these numbers
abbrev pub session_lines : List ℕ → List Bytes
session_lines numbers = codes "session DataCurator" ∷ flat_map round_lines numbers

-- the load of so many sessions, each of so many rounds, whose numbers come from the seed
abbrev pub load_text : (seed sessions rounds : ℕ) → Bytes
load_text seed sessions rounds =
    text_of_lines (flat_map session_lines (load_numbers sessions rounds seed))

-- the tally: the counter's value and the bag's size are printed
abbrev pub tally_text : Bytes
tally_text = text_of_lines (codes "session DataCurator" ∷ chunk_lines (codes "printit")
    (codes "Hits value") ++ chunk_lines (codes "printit") (codes "Names size"))
