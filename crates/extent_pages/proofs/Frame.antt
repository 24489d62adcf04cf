-- What a root stands for depends on its page and on the pages that it uses, and on nothing else.
use Rattle.std.proofs.Common.{◌≡◌, ℕ, true, List, [], ◌∷◌, ◌++◌}
use Rattle.extent_pages.specs.Pages.{Book, is_one_of, Chain}
use Rattle.extent_pages.specs.Extent.{Leaf, Extent, pages_of_leaves, pages_used}
use Rattle.extent_pages.specs.Laid.{IsPage, Links, IsChain, LeafLies, LeavesLie, IsLaid, KeepsPages}
use Rattle.extent_pages.proofs.Tests.{one_here, one_later, one_left, one_right}

pub keeps_less : (few pages : List ℕ) (book other : Book)
    → ((page : ℕ) → is_one_of page few ≡ true → is_one_of page pages ≡ true)
    → KeepsPages pages book other → KeepsPages few book other
keeps_less few pages book other inside keeps page bytes one = keeps page bytes (inside page one)

pub keeps_then : (pages : List ℕ) (book other third : Book) → KeepsPages pages book other
    → KeepsPages pages other third → KeepsPages pages book third
keeps_then pages book other third first second page bytes one there =
    second page bytes one (first page bytes one there)

module _ (book other : Book) where
  page_kept : (page next : ℕ) (bytes : List ℕ) (pages : List ℕ) → KeepsPages pages book other
      → is_one_of page pages ≡ true → IsPage book page next bytes → IsPage other page next bytes
  page_kept page next bytes pages keeps one is = record {
    there = keeps page bytes one is.there;
    next_is = is.next_is;
    filled = is.filled;
  }

  pub links_kept : (pages payload : List ℕ) → KeepsPages pages book other → Links book pages payload
      → Links other pages payload
  links_kept [] payload keeps links = links
  links_kept (page ∷ []) payload keeps (bytes, is, holds) =
      (bytes, page_kept page 0 bytes (page ∷ []) keeps (one_here page []) is, holds)
  links_kept (page ∷ next ∷ pages) payload keeps (bytes, rest, is, holds, links) = (
    bytes,
    rest,
    page_kept page next bytes (page ∷ next ∷ pages) keeps (one_here page (next ∷ pages)) is,
    holds,
    links_kept (next ∷ pages) rest (keeps_less (next ∷ pages) (page ∷ next ∷ pages) book other
        (λ p one. one_later p page (next ∷ pages) one) keeps) links,
  )

  pub chain_kept : (taken : List ℕ) (chain : Chain) → KeepsPages chain.pages book other
      → IsChain book taken chain → IsChain other taken chain
  chain_kept taken chain keeps is = record {
    links = links_kept chain.pages chain.payload keeps is.links;
    free = is.free;
    short = is.short;
  }

  pub leaf_kept : (taken : List ℕ) (leaf : Leaf) → KeepsPages leaf.pages book other
      → LeafLies book taken leaf → LeafLies other taken leaf
  leaf_kept taken leaf keeps lies = record {
    payload = lies.payload;
    chain = chain_kept taken (record { pages = leaf.pages; payload = lies.payload }) keeps lies.chain;
    holds = lies.holds;
  }

  pub leaves_kept : (taken : List ℕ) (leaves : List Leaf) → KeepsPages (pages_of_leaves leaves) book other
      → LeavesLie book taken leaves → LeavesLie other taken leaves
  leaves_kept taken [] keeps lie = lie
  leaves_kept taken (leaf ∷ leaves) keeps lie = (
    leaf_kept taken leaf (keeps_less leaf.pages (leaf.pages ++ pages_of_leaves leaves) book other
        (λ p one. one_left p leaf.pages (pages_of_leaves leaves) one) keeps) lie.0,
    leaves_kept (leaf.pages ++ taken) leaves (keeps_less (pages_of_leaves leaves) (leaf.pages ++ pages_of_leaves leaves) book other
        (λ p one. one_right p leaf.pages (pages_of_leaves leaves) one) keeps) lie.1,
  )

  pub laid_kept : (page : ℕ) (extent : Extent) → KeepsPages (page ∷ pages_used extent) book other
      → IsLaid book page extent → IsLaid other page extent
  laid_kept page extent keeps laid =
      let used = pages_used extent in
      let behind = keeps_less used (page ∷ used) book other (λ p one. one_later p page used one) keeps in
      record {
        bytes = laid.bytes;
        there = keeps page laid.bytes (one_here page used) laid.there;
        number = laid.number;
        counted = laid.counted;
        first = laid.first;
        payload = laid.payload;
        chain = chain_kept [] (record { pages = extent.directory; payload = laid.payload })
            (keeps_less extent.directory used book other
            (λ p one. one_left p extent.directory (pages_of_leaves extent.leaves) one) behind) laid.chain;
        entries = laid.entries;
        leaves = leaves_kept extent.directory extent.leaves
            (keeps_less (pages_of_leaves extent.leaves) used book other
            (λ p one. one_right p extent.directory (pages_of_leaves extent.leaves) one) behind) laid.leaves;
      }
