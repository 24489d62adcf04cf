-- What stands at the names of an image that objects were put into.
use Rattle.std.proofs.Common.{◌≡◌, ◌≢◌, ℕ, List, [], ◌∷◌, ◌++◌, Some, refl, sym, ap, ◌∙◌}
use Rattle.std.specs.List.{All}
use Rattle.std.specs.FinMap.{get, insert}
use Rattle.std.proofs.lemmas.List.Elements.{All-head, All-tail}
use Rattle.std.proofs.lemmas.List.Sums.{fold-append}
use Rattle.radix_pages.proofs.Tables.{get-insert_same, get-insert_other}
use Rattle.gem_object.specs.declared.object.Object.{Object}
use Rattle.gem_image.specs.Image.{Image, with_objects}

-- the name isn't that of the entry
abbrev IsOther : ℕ → ℕ × Object → Type 0
IsOther number entry = entry.0 ≢ number

pub parts : (image : Image) (objects more : List (ℕ × Object))
    → with_objects image (objects ++ more) ≡ with_objects (with_objects image objects) more
parts image objects more =
    fold-append (λ (made : Image) (entry : ℕ × Object). insert made entry.0 entry.1) image objects more

pub others_stay : (image : Image) (objects : List (ℕ × Object)) (number : ℕ)
    → All (λ entry. entry.0 ≢ number) objects
    → get (with_objects image objects) number ≡ get image number
others_stay image [] number others = refl
others_stay image (entry ∷ objects) number others =
    let apart : number ≢ entry.0 = λ same. All-head (IsOther number) entry objects others (sym same) in
    others_stay (insert image entry.0 entry.1) objects number (All-tail (IsOther number) entry objects others)
    ∙ get-insert_other image entry.0 entry.1 number apart

pub last_stands : (image : Image) (before after : List (ℕ × Object)) (number : ℕ) (object : Object)
    → All (λ entry. entry.0 ≢ number) after
    → get (with_objects image (before ++ ((number, object) ∷ after))) number ≡ Some object
last_stands image before after number object others =
    let made = with_objects image before in
    ap (λ (m : Image). get m number) (parts image before ((number, object) ∷ after))
    ∙ (others_stay (insert made number object) after number others
    ∙ get-insert_same made number object number refl)
