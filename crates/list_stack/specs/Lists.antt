-- Lists that stand one behind the other in one list of items.
use Rattle.std.specs.Prelude.{ℕ, List, [], ◌∷◌, ◌++◌, get_or, take, drop}

-- The lists that begin at these places, where the items are so many: each ends where the next one
-- begins, and the last one at the end.
abbrev pub lists_of : {A : Type 0} → ℕ → List A → List ℕ → List (List A)
lists_of size items [] = []
lists_of size items (start ∷ starts) =
    drop start (take (get_or starts 0 size) items) ∷ lists_of size items starts

-- the last list has this item at its end
abbrev pub with_last : {A : Type 0} → List (List A) → A → List (List A)
with_last [] item = []
with_last (list ∷ []) item = (list ++ item ∷ []) ∷ []
with_last (list ∷ next ∷ rest) item = list ∷ with_last (next ∷ rest) item
