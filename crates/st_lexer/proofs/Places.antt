-- What a text has from a place on.
use Rattle.std.proofs.Common.{◌≡◌, ℕ, ◌+◌, ◌<◌, ◌≤◌, Bool, false, [], ◌∷◌, length, get_or, drop, refl, ap, arith}
use Rattle.std.proofs.Common.{add-one}
use Rattle.std.proofs.Math.Seq.{drop-cons}
use Rattle.std.proofs.Math.ListN.{drop_of_length-le}
use Rattle.texts.specs.Bytes.{Bytes}
use Rattle.st_grammar.specs.Tokens.{begins}

-- the byte at a place, and those after it
pub from_place : (text : Bytes) (i : ℕ) → i < length text → drop i text ≡ get_or text i 0 ∷ drop (i + 1) text
from_place text i h = rw (add-one, drop-cons text i 0)

pub begins-drop : (p : ℕ → Bool) (text : Bytes) (i : ℕ) → i < length text → begins p (drop i text) ≡ p (get_or text i 0)
begins-drop p text i h = ap (begins p) (from_place text i h)

pub begins-drop_past : (p : ℕ → Bool) (text : Bytes) (i : ℕ) → length text ≤ i → begins p (drop i text) ≡ false
begins-drop_past p text i h = ap (begins p) (drop_of_length-le text h)

pub begins_first : (p : ℕ → Bool) (text : Bytes) → 0 < length text → begins p text ≡ p (get_or text 0 0)
begins_first p [] h = absurd (omega arith)
begins_first p (b ∷ bs) h = refl

pub begins_none : (p : ℕ → Bool) (text : Bytes) → length text ≤ 0 → begins p text ≡ false
begins_none p [] h = refl
begins_none p (b ∷ bs) h = absurd (omega arith)
