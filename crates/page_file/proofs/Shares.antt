-- What a later checkpoint shares with the current root.
use Rattle.std.proofs.Common.{◌≡◌, ◌⊎◌, ℕ, ◌-◌, ◌≤◌, ◌<◌, Bool, true, false, List, [], ◌∷◌, ◌++◌, length, Result, Ok, Err, IfOk, refl, sym, ap, subst, ◌∙◌, inl, inr, arith}
use Rattle.std.proofs.lemmas.Bool.{cases_lt}
use Rattle.gem_image.specs.Image.{Image}
use Rattle.disk_pieces.specs.Pieces.{Piece}
use Rattle.extent_pages.specs.Pages.{most_pages, is_one_of}
use Rattle.extent_pages.specs.Extent.{Leaf, Extent, pages_of_leaves, pages_used}
use Rattle.extent_plan.specs.declared.place.LeafPlace.{LeafPlace}
use Rattle.extent_plan.specs.declared.plan.Plan.{Plan}
use Rattle.extent_plan.specs.Drafts.{Sharing}
use Rattle.extent_plan.specs.Needed.{AreToWrite, numbers_at}
use Rattle.extent_plan.specs.Plan.{ArePlaces}
use Rattle.extent_plan.specs.Planning.{IsPlanFor}
use Rattle.extent_plan.specs.Used.{pages_in}
use Rattle.page_file.specs.declared.file.Current.{Current}
use Rattle.page_file.specs.Around.{selector_piece, empty_piece, first_around}
use Rattle.page_file.specs.Planned.{AreUsed}
use Rattle.page_file.specs.Changing.{MayShare}

-- ---- pages in use

pages_placed : (places : List LeafPlace) (leaves : List Leaf) → ArePlaces places leaves
    → pages_in places ≡ pages_of_leaves leaves
pages_placed [] [] are = refl
pages_placed [] (leaf ∷ leaves) are = absurd are
pages_placed (place ∷ places) [] are = absurd are
pages_placed (place ∷ places) (leaf ∷ leaves) (one, are) =
    ap (λ (l : List ℕ). l ++ pages_in places) one.pages ∙ ap (λ (l : List ℕ). leaf.pages ++ l) (pages_placed places leaves are)

none_unless_one : (page : ℕ) (pages : List ℕ) → (is_one_of page pages ≡ true → ⊥) → is_one_of page pages ≡ false
none_unless_one page pages no_one = by (is_one_of page pages) refl
  where
    by : (b : Bool) → is_one_of page pages ≡ b → b ≡ false
    by true one = absurd (no_one one)
    by false none = refl

pub used_are : (image : Image) (changed : List ℕ) (current : Current) (extent : Extent) (kept directory : List ℕ) (places : List LeafPlace)
    → MayShare image changed current extent
    → directory ≡ current.directory.items → places ≡ current.leaves.items
    → ((page : ℕ) → 3 ≤ page → page < most_pages → is_one_of page kept ≡ is_one_of page (directory ++ pages_in places))
    → ((page : ℕ) → (page < 3) ⊎ (most_pages ≤ page) → is_one_of page kept ≡ false) → AreUsed kept extent
used_are image changed current extent kept directory places share directory_is places_are are none page = by (cases_lt page 3) (cases_lt page most_pages)
  where
    same : directory ++ pages_in places ≡ pages_used extent
    same = ap (λ (l : List ℕ). l ++ pages_in places) (directory_is ∙ share.directory) ∙ ap (λ (l : List LeafPlace). extent.directory ++ pages_in l) places_are
        ∙ ap (λ (l : List ℕ). extent.directory ++ l) (pages_placed current.leaves.items extent.leaves share.leaves)

    by : (page < 3) ⊎ (3 ≤ page) → (page < most_pages) ⊎ (most_pages ≤ page)
        → is_one_of page kept ≡ is_one_of page (pages_used extent)
    by (inl low) few = none page (inl low) ∙ sym (none_unless_one page (pages_used extent) (λ one. let far = share.far page one in omega (arith, far, low)))
    by (inr high) (inl few) = are page high few ∙ ap (is_one_of page) same
    by (inr high) (inr many) = none page (inr many) ∙ sym (none_unless_one page (pages_used extent) (λ one. let low = share.numbers page one in omega (arith, low, many)))

-- a later plan, by what its call says
pub later_planned : {E : Type 0} (image : Image) (changed : List ℕ) (number : ℕ) (current : Current) (extent : Extent) (used seen : List ℕ)
    (places : List LeafPlace) (page : ℕ) (before after : List Piece) (result : Result Plan E)
    → MayShare image changed current extent → page ≡ 3 - current.page → seen ≡ used → places ≡ current.leaves.items → before ≡ []
    → after ≡ [] → AreUsed used extent
    → (AreToWrite image current.number (numbers_at places) changed → ArePlaces places extent.leaves → Sharing image current.number extent.leaves → length (pages_of_leaves extent.leaves) ≤ most_pages → IfOk result (IsPlanFor image number page seen extent.leaves before after))
    → IfOk result (λ plan. (kept : List ℕ) × AreUsed kept extent × IsPlanFor image number (3 - current.page) kept extent.leaves [] [] plan)
later_planned image changed number current extent used seen places page before after (Err e) share page_is seen_is places_are before_is after_is are planned = tt
later_planned image changed number current extent used seen places page before after (Ok plan) share page_is seen_is places_are before_is after_is are planned =
    let written = subst (λ (l : List LeafPlace). AreToWrite image current.number (numbers_at l) changed) (sym places_are) share.written in
    let for = planned written (subst (λ (l : List LeafPlace). ArePlaces l extent.leaves) (sym places_are) share.leaves) share.sharing share.few in (
      used,
      are,
      subst (λ (l : List Piece). IsPlanFor image number (3 - current.page) used extent.leaves [] l plan) after_is
          (subst (λ (l : List Piece). IsPlanFor image number (3 - current.page) used extent.leaves l after plan) before_is
          (subst (λ (l : List ℕ). IsPlanFor image number (3 - current.page) l extent.leaves before after plan) seen_is
          (subst (λ (p : ℕ). IsPlanFor image number p seen extent.leaves before after plan) page_is for))),
    )

-- a first plan, with what it writes around its root
pub first_planned : {E : Type 0} (image : Image) (number : ℕ) (before after : List Piece) (first last : Piece) (result : Result Plan E)
    → before ≡ first ∷ [] → first ≡ selector_piece → after ≡ last ∷ [] → last ≡ empty_piece
    → IfOk result (IsPlanFor image number 1 [] [] before after)
    → IfOk result (IsPlanFor image number 1 [] [] first_around.before first_around.after)
first_planned image number before after first last result before_is first_is after_is last_is planned =
    subst (λ (l : List Piece). IfOk result (IsPlanFor image number 1 [] [] l first_around.after)) (before_is ∙ ap (λ (p : Piece). p ∷ []) first_is)
    (subst (λ (l : List Piece). IfOk result (IsPlanFor image number 1 [] [] before l)) (after_is ∙ ap (λ (p : Piece). p ∷ []) last_is) planned)
