-- Lists that grow by one item, and places among elements that stand after named slots.
use Rattle.std.proofs.Common.{◌≡◌, sym, ap, ◌∙◌, ℕ, ◌+◌, List, [], ◌∷◌, ◌++◌, Some, map, take}
use Rattle.std.specs.List.{slice_get}
use Rattle.std.proofs.lemmas.List.{take_more, map-append}
use Rattle.std.proofs.lemmas.Option.{slice_get_within, get_or_from_slice_get}

-- one item more
pub map_added : {X Y : Type 0} (f : X → Y) (xs : List X) (at : ℕ) (x : X) (now next : List Y) → slice_get xs at ≡ Some x
    → now ≡ map f (take at xs) → next ≡ now ++ f x ∷ [] → next ≡ map f (take (at + 1) xs)
map_added f xs at x now next found here added =
    let is = take_more xs at x (slice_get_within xs at x found) ∙ ap (λ y. take at xs ++ y ∷ [])
    (get_or_from_slice_get xs at x x found) in
    added ∙ ap (λ list. list ++ f x ∷ []) here ∙ sym (map-append f (take at xs) (x ∷ [])) ∙ ap (map f) (sym is)
