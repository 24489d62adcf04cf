-- How full the pages of a chain are, and how many bytes the entries of a directory take.
use Rattle.std.proofs.Common.{◌≡◌, ℕ, ◌+◌, ◌*◌, ◌≤◌, ◌<◌, ◌==◌, ◌&&◌, ◌||◌, nat_le, true, List, [], ◌∷◌, ◌++◌, length, drop, refl, length-append, arith}
use Rattle.std.specs.List.{flat_map}
use Rattle.std.proofs.lemmas.Bool.Decides.{nat_tests}
use Rattle.std.proofs.lemmas.List.{length-take, length-drop}
use Rattle.gem_record.specs.Stored.{chain_pages}
use Rattle.body_codec.specs.Spelled.{four_bytes, eight_bytes}
use Rattle.body_codec.proofs.Lengths.{four_long, eight_long}
use Rattle.extent_pages.specs.Pages.{page_size, payload_size, next_in, used_in, payload_in, is_filled}
use Rattle.extent_pages.specs.Spelled.{spelled_entry, spelled_directory}
use Rattle.extent_pages.proofs.Tests.{both_true}

-- how much of a page is used
pub record IsUsed (bytes : List ℕ) : Type 0 where
  pub some : 1 ≤ length (payload_in bytes)
  pub most : length (payload_in bytes) ≤ payload_size
  pub full : 0 < next_in bytes → length (payload_in bytes) ≡ payload_size

pub is_used : (bytes : List ℕ) → length bytes ≡ page_size → is_filled bytes ≡ true → IsUsed bytes
is_used bytes whole filled =
    let first = both_true (nat_le 1 (used_in bytes)) (nat_le (used_in bytes) payload_size && ((next_in bytes == 0) || (used_in bytes == payload_size))) filled in
    let second = both_true (nat_le (used_in bytes) payload_size) ((next_in bytes == 0) || (used_in bytes == payload_size)) first.1 in
    let low : 1 ≤ used_in bytes = grind (arith, nat_tests, first.0) in
    let high : used_in bytes ≤ payload_size = grind (arith, nat_tests, second.0) in
    let long : length (payload_in bytes) ≡ used_in bytes = omega (arith, length-take (used_in bytes) (drop 8 bytes), length-drop 8 bytes, whole, high) in
    record {
      some = omega (arith, long, low);
      most = omega (arith, long, high);
      full = λ more.
          let other : used_in bytes ≡ payload_size = grind (arith, nat_tests, second.1, more) in
          omega (arith, long, other);
    }

-- ---- a chain, page by page

module _ (pages payload bytes : List ℕ) (page : ℕ) (so_far : length payload ≡ payload_size * length pages) (used : IsUsed bytes) where
  -- with a page more that isn't the last
  pub more_full : 0 < next_in bytes → length (payload ++ payload_in bytes) ≡ payload_size * length (pages ++ page ∷ [])
  more_full more = omega (arith, so_far, used.full more, length-append payload (payload_in bytes), length-append pages (page ∷ []))

  -- with the last one
  pub all_filled : length (pages ++ page ∷ []) ≡ chain_pages (length (payload ++ payload_in bytes))
  all_filled = omega (arith, so_far, used.some, used.most, length-append payload (payload_in bytes), length-append pages (page ∷ []))

-- ---- a directory

entries_long : (entries : List (ℕ × ℕ)) → length (flat_map spelled_entry entries) ≡ 12 * length entries
entries_long [] = refl
entries_long (entry ∷ entries) = omega (
  arith,
  entries_long entries,
  length-append (spelled_entry entry) (flat_map spelled_entry entries),
  length-append (eight_bytes entry.0) (four_bytes entry.1),
  eight_long entry.0,
  four_long entry.1,
)

pub directory_long : (entries : List (ℕ × ℕ)) → length (spelled_directory entries) ≡ 4 + 12 * length entries
directory_long entries = omega (
  arith,
  entries_long entries,
  length-append (four_bytes (length entries)) (flat_map spelled_entry entries),
  four_long (length entries),
)
