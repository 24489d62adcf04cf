-- Leaves renewed one after the other.
use Rattle.std.proofs.Common.{◌≡◌, inl, inr, ℕ, List, [], ◌∷◌, ◌++◌, refl, sym, ap, subst, ◌∙◌, append_assoc, append-nil}
use Rattle.disk_pieces.specs.Pieces.{Piece}
use Rattle.extent_pages.specs.Spelled.{spelled_leaf}
use Rattle.extent_pages.specs.Extent.{Leaf}
use Rattle.extent_plan.specs.Runs.{behind}
use Rattle.extent_plan.specs.Pieces.{chain_pieces}
use Rattle.extent_plan.specs.Plan.{IsFresh, RenewsTo}

module _ (kept : List ℕ) where
  abbrev leaf_pieces : Leaf → List Piece
  leaf_pieces leaf = chain_pieces leaf.pages (spelled_leaf leaf.objects)

  pub renews_none : (old : List Leaf) (from : ℕ) → RenewsTo kept old from [] [] old from
  renews_none old from = (refl, ([], refl), refl)

  -- one leaf more is written
  pub renews_fresh : (old : List Leaf) (from : ℕ) (leaves : List Leaf) (pieces : List Piece) (left : List Leaf) (next : ℕ) (leaf : Leaf)
      → IsFresh kept next leaf → RenewsTo kept old from leaves pieces left next
      → RenewsTo kept old from (leaves ++ leaf ∷ []) (pieces ++ leaf_pieces leaf) left (behind next leaf.pages)
  renews_fresh old from [] pieces left next leaf fresh to = inl (
    subst (λ (n : ℕ). IsFresh kept n leaf) to.2 fresh,
    (
      [],
      ap (λ (l : List Piece). l ++ leaf_pieces leaf) to.0 ∙ sym (append-nil (leaf_pieces leaf)),
      (refl, to.1, ap (λ (n : ℕ). behind n leaf.pages) to.2),
    ),
  )
  renews_fresh old from (first ∷ leaves) pieces left next leaf fresh (inl r) = inl (
    r.0,
    (
      r.1.0 ++ leaf_pieces leaf,
      ap (λ (l : List Piece). l ++ leaf_pieces leaf) r.1.1 ∙ append_assoc (leaf_pieces first) r.1.0 (leaf_pieces leaf),
      renews_fresh old (behind from first.pages) leaves r.1.0 left next leaf fresh r.1.2,
    ),
  )
  renews_fresh old from (first ∷ leaves) pieces left next leaf fresh (inr s) =
      inr (s.0, s.1, s.2, renews_fresh s.1 from leaves pieces left next leaf fresh s.3)

  -- one leaf more stays
  pub renews_shared : (old : List Leaf) (from : ℕ) (leaves : List Leaf) (pieces : List Piece) (left : List Leaf) (next : ℕ)
      (before : List Leaf) (leaf : Leaf) (after : List Leaf) → left ≡ before ++ leaf ∷ after
      → RenewsTo kept old from leaves pieces left next → RenewsTo kept old from (leaves ++ leaf ∷ []) pieces after next
  renews_shared old from [] pieces left next before leaf after e to = inr (
    to.1.0 ++ before,
    after,
    to.1.1 ∙ ap (λ (l : List Leaf). to.1.0 ++ l) e ∙ sym (append_assoc to.1.0 before (leaf ∷ after)),
    (to.0, ([], refl), to.2),
  )
  renews_shared old from (first ∷ leaves) pieces left next before leaf after e (inl r) = inl (
    r.0,
    (r.1.0, r.1.1, renews_shared old (behind from first.pages) leaves r.1.0 left next before leaf after e r.1.2),
  )
  renews_shared old from (first ∷ leaves) pieces left next before leaf after e (inr s) =
      inr (s.0, s.1, s.2, renews_shared s.1 from leaves pieces left next before leaf after e s.3)
