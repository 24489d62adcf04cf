-- Chains have as many pages as their payloads fill, and leaves of the same names and contents the same bytes.
use Rattle.std.proofs.Common.{◌≡◌, ℕ, ◌+◌, ◌*◌, ◌<◌, ◌≤◌, Bool, true, false, cond, List, [], ◌∷◌, ◌++◌, length, drop, Some, None, refl, sym, ap, ◌∙◌, length-append, arith}
use Rattle.std.specs.List.{flat_map}
use Rattle.std.proofs.lemmas.Bool.Decides.{nat_tests}
use Rattle.std.proofs.lemmas.List.{length-take, length-drop}
use Rattle.gem_object.specs.declared.object.Object.{Object}
use Rattle.gem_image.specs.Image.{Contents, contents_of}
use Rattle.body_codec.specs.Spelled.{eight_bytes, spelled_object, spelled_changed}
use Rattle.extent_pages.specs.Pages.{page_size, payload_size, pages_of, page_of, is_inside, payload_in}
use Rattle.extent_pages.specs.Spelled.{spelled_leaf}
use Rattle.extent_pages.specs.Laid.{Links, AreFree}
use Rattle.extent_pages.proofs.Filled.{is_used}
use Rattle.extent_plan.specs.Pieces.{pages_filled}
use Rattle.extent_plan.specs.Shared.{Alike}
use Rattle.extent_plan.proofs.Lays.{free_none}

-- ---- how long a page's payload is

page_whole : (file : List ℕ) (page : ℕ) (bytes : List ℕ) → pages_of file page ≡ Some bytes → length bytes ≡ page_size
page_whole file page bytes there = by (is_inside file page) refl there where
  some_is : (a b : List ℕ) → Some a ≡ Some b → a ≡ b
  some_is a b e = cc

  none_some : {G : Type 0} (b : List ℕ) → None ≡ Some b → G
  none_some b e = absurd cc

  by : (b : Bool) → is_inside file page ≡ b → cond b (Some (page_of file page)) None ≡ Some bytes → length bytes ≡ page_size
  by true inside e =
      let fits : page_size * page + page_size ≤ length file = grind (arith, nat_tests, inside) in
      ap length (sym (some_is (page_of file page) bytes e))
      ∙ omega (arith, length-take page_size (drop (page_size * page) file), length-drop (page_size * page) file, fits)
  by false inside e = none_some bytes e

-- a chain has as many pages as its payload fills
pub chain_many : (file : List ℕ) (pages payload taken : List ℕ) → Links (pages_of file) pages payload → AreFree taken pages
    → (length pages ≡ pages_filled (length payload)) × (0 < length payload)
chain_many file [] payload taken links free = absurd links
chain_many file (page ∷ []) payload taken links free =
    let u = is_used links.0 (page_whole file page links.0 links.1.there) links.1.filled in
    let long : length payload ≡ length (payload_in links.0) = ap length links.2 in
    (omega (arith, long, u.some, u.most), omega (arith, long, u.some))
chain_many file (page ∷ next ∷ pages) payload taken links free =
    let u = is_used links.0 (page_whole file page links.0 links.2.there) links.2.filled in
    let more = chain_many file (next ∷ pages) links.1 (page ∷ taken) links.4 free.1 in
    let high : 3 ≤ next = (free_none (page ∷ taken) next free.1.0).0 in
    let full = u.full (omega (arith, high, links.2.next_is)) in
    let long : length payload ≡ payload_size + length links.1 = ap length links.3 ∙ omega (arith, full, length-append (payload_in links.0) links.1) in
    (omega (arith, long, more.0, more.1), omega (arith, long))

-- ---- the same names and contents

object_bytes : (object other : Object) → contents_of object ≡ contents_of other → spelled_object object ≡ spelled_object other
object_bytes object other same = ap (λ (c : Contents). spelled_object (record { class = c.class; segment = c.segment; changed = 0; body = c.body })) same

same_items : (objects others : List (ℕ × Object)) → Alike objects others
    → (flat_map spelled_changed objects ≡ flat_map spelled_changed others) × (length objects ≡ length others)
same_items [] [] alike = (refl, refl)
same_items [] (entry ∷ others) alike = absurd alike
same_items (entry ∷ objects) [] alike = absurd alike
same_items (entry ∷ objects) (other ∷ others) alike =
    let more = same_items objects others alike.2 in (
      ap (λ (n : ℕ). (eight_bytes n ++ spelled_object entry.1) ++ flat_map spelled_changed objects) alike.0
          ∙ ap (λ (l : List ℕ). (eight_bytes other.0 ++ l) ++ flat_map spelled_changed objects) (object_bytes entry.1 other.1 alike.1)
          ∙ ap (λ (l : List ℕ). spelled_changed other ++ l) more.0,
      omega (arith, more.1),
    )

-- leaves that have the same contents at the same names have the same bytes
pub same_bytes : (objects others : List (ℕ × Object)) → Alike objects others → spelled_leaf objects ≡ spelled_leaf others
same_bytes objects others alike =
    let same = same_items objects others alike in
    ap (λ (n : ℕ). n ∷ flat_map spelled_changed objects) same.1 ∙ ap (λ (l : List ℕ). length others ∷ l) same.0
