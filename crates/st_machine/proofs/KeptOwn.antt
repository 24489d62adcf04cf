-- What an activation has put on a stack stays there when it ends.
use Rattle.std.proofs.Common.{◌≡◌, ◌∙◌, sym, ap, ap₂, ℕ, ◌≤◌, List, [], ◌∷◌, ◌++◌, length, reverse, take, drop}
use Rattle.std.proofs.lemmas.List.{reverse-append, take-append-drop, take-append-le, drop-append-le, take_at, drop_at, reverse-reverse}
use Rattle.gem_object.specs.declared.value.Value.{Value}
use Rattle.st_machine.specs.Called.{top, IsAbove}
use Rattle.st_machine.specs.Layers.{Layers, kept}

module _ {A : Type 0} where
  -- the items of one that waits, and of the one that ends
  pub kept_own : (items own below : List A) (inner base : ℕ) → reverse (drop inner items) ≡ own
      → take inner items ≡ below → base ≤ length below
      → reverse (drop base items) ≡ own ++ reverse (drop base below)
  kept_own items own below inner base is_own is_below within =
      let parts : below ++ drop inner items ≡ items =
      ap (λ (first : List A). first ++ drop inner items) (sym is_below) ∙ take-append-drop inner items in
      ap (λ (all : List A). reverse (drop base all)) (sym parts)
      ∙ (ap reverse (drop-append-le base below (drop inner items) within)
      ∙ (reverse-append (drop base below) (drop inner items)
      ∙ ap (λ (first : List A). first ++ reverse (drop base below)) is_own))

  pub end_kept : (items : List A) (inner base : ℕ) (now : Layers A)
      → record { own = reverse (drop inner items); below = take inner items } ≡ now → base ≤ length now.below
      → record { own = reverse (drop base items); below = take base items } ≡ kept base now
  end_kept items inner base now is within =
      let own : reverse (drop inner items) ≡ now.own = ap (λ (layers : Layers A). layers.own) is in
      let below : take inner items ≡ now.below = ap (λ (layers : Layers A). layers.below) is in
      let parts : now.below ++ drop inner items ≡ items =
      ap (λ (first : List A). first ++ drop inner items) (sym below) ∙ take-append-drop inner items in
      let left : take base items ≡ take base now.below =
      ap (take base) (sym parts) ∙ take-append-le base now.below (drop inner items) within in
      ap₂ (λ (first second : List A). record { own = first; below = second })
      (kept_own items now.own now.below inner base own below within) left

-- A value that an activation left stands above what the one that waited had put there.
pub kept_above : (old last : Layers Value) (base : ℕ) → base ≡ length old.below
    → last.below ≡ old.below ++ reverse old.own → IsAbove [] last.own → IsAbove old.own (kept base last).own
kept_above old last base is_base is_below alone =
    let rest : reverse (drop base last.below) ≡ old.own =
    ap (λ (items : List Value). reverse (drop base items)) is_below
    ∙ (ap reverse (drop_at old.below (reverse old.own) base (sym is_base)) ∙ reverse-reverse old.own) in
    let all : last.own ++ reverse (drop base last.below) ≡ top last.own ∷ old.own =
    ap₂ (λ (first second : List Value). first ++ second) alone rest in
    all ∙ ap (λ (value : Value). value ∷ old.own) (sym (ap top all))

pub kept_below : {A : Type 0} (old last : Layers A) (base : ℕ) → base ≡ length old.below
    → last.below ≡ old.below ++ reverse old.own → (kept base last).below ≡ old.below
kept_below {A} old last base is_base is_below =
    ap (take base) is_below ∙ take_at old.below (reverse old.own) base (sym is_base)
