use Rattle.std.proofs.Common.{◌≡◌, List, ℕ, ◌<◌, ◌^◌, length, refl, ap, subst, ◌∙◌}
use Rattle.gem_record.specs.Stored.{chain_pages}
use Rattle.extent_pages.specs.Pages.{Chain}
use Rattle.extent_pages.specs.Extent.{first_page}
use Rattle.extent_pages.proofs.extent.read_leaf_of.Goals as goal

pub returns-clause-stored : goal.returns-clause-stored
returns-clause-stored g c =
    let pages_are : c.chain.inside.pages.items ≡ c.in_ok-chain.chain.pages = ap (λ (p : Chain). p.pages) c.chain.view_is in (
      record {
        are = c.in_ok-objects.ensures.stored;
        first = subst (λ (l : List ℕ). first_page l < 2 ^ 32) c.deref.ensures.value c.first_has_room.ensures;
        many = ap (λ (l : List ℕ). length l) pages_are ∙ c.in_ok-chain.ensures.filled ∙ ap (λ (l : List ℕ). chain_pages (length l)) c.in_ok-objects.ensures.spelled;
      },
      refl,
    )
