-- What torn bytes keep of a file, and which pieces stand in it.
use Rattle.std.proofs.Common.{◌≡◌, ◌⊎◌, ℕ, ◌+◌, ◌-◌, ◌*◌, ◌≤◌, max, List, [], ◌∷◌, ◌++◌, length, take, drop, refl, sym, ◌∙◌, ap, inl, inr, arith}
use Rattle.std.proofs.lemmas.List.{drop-drop, drop-take, take-take}
use Rattle.gem_disk.specs.Disk.{placed, Torn}
use Rattle.gem_disk.proofs.Placed.{length-placed, reads_back}
use Rattle.disk_pieces.specs.Pieces.{Piece, end_of, Kept, Misses, Keeps, Stands, Stand}

-- bytes that lie before an offset are seen in the front up to it
in_front : (start n at : ℕ) (l : List ℕ) → start + n ≤ at → take n (drop start (take at l)) ≡ take n (drop start l)
in_front start n at l before =
    let rest : at ≡ start + (at - start) = omega (arith, before) in
    ap (λ (m : ℕ). take n (drop start (take m l))) rest
    ∙ ap (take n) (drop-take start (at - start) l)
    ∙ take-take n (at - start) (drop start l) (omega (arith, before))

-- bytes that lie from an offset on are seen behind it
behind_it : (start n from : ℕ) (l : List ℕ) → from ≤ start → take n (drop (start - from) (drop from l)) ≡ take n (drop start l)
behind_it start n from l after =
    let whole : from + (start - from) ≡ start = omega (arith, after) in
    ap (take n) (drop-drop (start - from) from l) ∙ ap (λ (m : ℕ). take n (drop m l)) whole

-- bytes that a torn write doesn't touch
pub torn_outside : (start n at count : ℕ) (old new : List ℕ) → Torn at count old new → (start + n ≤ at) ⊎ (at + count ≤ start) → take n (drop start new) ≡ take n (drop start old)
torn_outside start n at count old new torn (inl before) =
    sym (in_front start n at new before) ∙ ap (λ (l : List ℕ). take n (drop start l)) torn.before ∙ in_front start n at old before
torn_outside start n at count old new torn (inr after) =
    sym (behind_it start n (at + count) new after) ∙ ap (λ (l : List ℕ). take n (drop (start - (at + count)) l)) torn.after ∙ behind_it start n (at + count) old after

pub keeps_all : (kept : Kept) (file : List ℕ) → Keeps kept file file
keeps_all kept file = record { front = refl; no_shorter = omega arith; same = λ block yes inside. refl }

-- a torn write that misses what has to stay keeps it
pub keeps_torn : (kept : Kept) (file d c : List ℕ) (at n : ℕ) → Misses kept at n → Keeps kept file d → Torn at n d c → Keeps kept file c
keeps_torn kept file d c at n misses keeps torn = record {
  front = torn_outside 0 kept.front at n d c torn (inl (omega (arith, misses.front))) ∙ keeps.front;
  no_shorter = omega (arith, keeps.no_shorter, torn.no_shorter);
  same = λ block is inside. torn_outside (kept.size * block) kept.size at n d c torn (misses.blocks block is) ∙ keeps.same block is inside;
}

-- ---- pieces that stand

-- no piece ends behind this offset
abbrev pub EndBy : ℕ → List Piece → Type 0
EndBy next [] = Unit {0}
EndBy next (piece ∷ pieces) = (end_of piece ≤ next) × EndBy next pieces

pub end_later : (next later : ℕ) (pieces : List Piece) → next ≤ later → EndBy next pieces → EndBy later pieces
end_later next later [] le ends = tt
end_later next later (piece ∷ pieces) le (one, ends) = (omega (arith, le, one), end_later next later pieces le ends)

pub end_more : (next : ℕ) (pieces : List Piece) (piece : Piece) → next ≤ piece.at → EndBy next pieces → EndBy (end_of piece) (pieces ++ piece ∷ [])
end_more next [] piece le ends = (omega arith, tt)
end_more next (first ∷ pieces) piece le (one, ends) = (omega (arith, le, one), end_more next pieces piece le ends)

pub stand_more : (file : List ℕ) (pieces : List Piece) (piece : Piece) → Stand file pieces → Stands file piece → Stand file (pieces ++ piece ∷ [])
stand_more file [] piece stand stands = (stands, tt)
stand_more file (first ∷ pieces) piece (one, stand) stands = (one, stand_more file pieces piece stand stands)

-- pieces stand where a write tears something behind them
pub stand_torn : (at n : ℕ) (d c : List ℕ) (pieces : List Piece) → EndBy at pieces → Torn at n d c → Stand d pieces → Stand c pieces
stand_torn at n d c [] ends torn stand = tt
stand_torn at n d c (piece ∷ pieces) (one, ends) torn (stands, stand) = (
  record {
    inside = omega (arith, stands.inside, torn.no_shorter);
    reads = torn_outside piece.at (length piece.bytes) at n d c torn (inl one) ∙ stands.reads;
  },
  stand_torn at n d c pieces ends torn stand,
)

-- what is written stands
pub placed_stands : (piece : Piece) (file : List ℕ) → piece.at ≤ length file → Stands (placed piece.at piece.bytes file) piece
placed_stands piece file inside =
    let size = length-placed piece.at piece.bytes file inside in
    record { inside = omega (arith, size); reads = reads_back piece.at piece.bytes file inside }

pub size_placed : (piece : Piece) (file : List ℕ) → piece.at ≤ length file → length (placed piece.at piece.bytes file) ≡ max (length file) (end_of piece)
size_placed piece file inside = omega (arith, length-placed piece.at piece.bytes file inside)
