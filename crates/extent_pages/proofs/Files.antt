-- A file stands for an extent that lies in it behind an open gate, and for nothing else.
use Rattle.std.proofs.Common.{◌≡◌, ℕ, ◌≤◌, Bool, true, false, cond, eqb, List, [], ◌∷◌, length, get_or, take, Option, Some, None, Result, Ok, Err, refl, sym, ap, subst, ◌∙◌, arith}
use Rattle.std.proofs.lemmas.Bool.{eq-eqb}
use Rattle.std.proofs.lemmas.Bool.Decides.{nat_tests}
use Rattle.extent_pages.specs.Pages.{pages_of, Fault}
use Rattle.extent_pages.specs.Extent.{Extent, extent_at, root_page_of, selected, found, extent_of}
use Rattle.extent_pages.specs.Laid.{IsLaid, KeepsPages, kept_pages, IsOpen}
use Rattle.extent_pages.proofs.Tests.{ok_is, not_ok}
use Rattle.extent_pages.proofs.Frame.{laid_kept}
use Rattle.extent_pages.proofs.Ways.{extent_reads, extent_takes}

abbrev some : Extent → Option Extent
some extent = Some extent

some_is : (x y : Extent) → some x ≡ some y → x ≡ y
some_is x y e = cc

none_some : {G : Type 0} (x : Extent) → None ≡ some x → G
none_some x e = absurd cc

found_some : (r : Result Extent Fault) (extent : Extent) → found r ≡ Ok (Some extent) → r ≡ Ok extent
found_some (Ok x) extent e = ap (λ z. Ok z) (some_is x extent (ok_is (Some x) (Some extent) e))
found_some (Err fault) extent e = not_ok fault (Some extent) e

pub opens : (file : List ℕ) (extent : Extent) → IsOpen file extent → extent_of file ≡ Ok (Some extent)
opens [] extent is = absurd (omega (arith, is.long))
opens (gate ∷ []) extent is = absurd (omega (arith, is.long))
opens (gate ∷ selector ∷ rest) extent is =
    let file = gate ∷ selector ∷ rest in
    let book = pages_of file in
    let page = root_page_of selector in
    ap (λ b. cond b (found (extent_at book page)) (Ok None)) (eq-eqb gate 1 is.gate)
    ∙ ap found (extent_reads book page extent is.laid)

pub opened : (file : List ℕ) (extent : Extent) → extent_of file ≡ Ok (Some extent) → IsOpen file extent
opened [] extent e = none_some extent (ok_is None (Some extent) e)
opened (gate ∷ []) extent e = none_some extent (ok_is None (Some extent) e)
opened (gate ∷ selector ∷ rest) extent e = by (eqb gate 1) refl e where
  file : List ℕ
  file = gate ∷ selector ∷ rest

  by : (b : Bool) → eqb gate 1 ≡ b → cond b (found (extent_at (pages_of (gate ∷ selector ∷ rest)) (root_page_of selector))) (Ok None) ≡ Ok (Some extent)
      → IsOpen (gate ∷ selector ∷ rest) extent
  by true is e = record {
    long = omega arith;
    gate = grind (arith, nat_tests, is);
    laid = extent_takes (pages_of (gate ∷ selector ∷ rest)) (root_page_of selector) extent
        (found_some (extent_at (pages_of (gate ∷ selector ∷ rest)) (root_page_of selector)) extent e);
  }
  by false is e = none_some extent (ok_is None (Some extent) e)

-- ---- what a file stands for depends on its first two bytes, and on the pages of the root

-- two files that begin alike
record BeginAlike (file image : List ℕ) : Type 0 where
  gate : get_or image 0 0 ≡ get_or file 0 0
  selector : get_or image 1 0 ≡ get_or file 1 0
  long : 2 ≤ length image

begin_alike : (file image : List ℕ) → 2 ≤ length file → take 2 image ≡ take 2 file → BeginAlike file image
begin_alike [] image long e = absurd (omega (arith, long))
begin_alike (a ∷ []) image long e = absurd (omega (arith, long))
begin_alike (a ∷ b ∷ file) [] long e = absurd cc
begin_alike (a ∷ b ∷ file) (c ∷ []) long e =
    let same : c ∷ [] ≡ a ∷ b ∷ [] = e in
    let fewer : length (c ∷ []) ≡ length (a ∷ b ∷ []) = ap length same in
    absurd (omega (arith, fewer))
begin_alike (a ∷ b ∷ file) (c ∷ d ∷ image) long e = record {
  gate = ap (λ (l : List ℕ). get_or l 0 0) (the_two e);
  selector = ap (λ (l : List ℕ). get_or l 1 0) (the_two e);
  long = omega arith;
} where
  the_two : take 2 (c ∷ d ∷ image) ≡ take 2 (a ∷ b ∷ file) → c ∷ d ∷ [] ≡ a ∷ b ∷ []
  the_two e = e

pub open_kept : (file image : List ℕ) (extent : Extent) → take 2 image ≡ take 2 file
    → KeepsPages (kept_pages file extent) (pages_of file) (pages_of image) → IsOpen file extent → IsOpen image extent
open_kept file image extent start keeps is =
    let alike = begin_alike file image is.long start in
    let laid = laid_kept (pages_of file) (pages_of image) (selected file) extent keeps is.laid in
    record {
      long = alike.long;
      gate = alike.gate ∙ is.gate;
      laid = subst (λ (page : ℕ). IsLaid (pages_of image) page extent) (ap root_page_of (sym alike.selector)) laid;
    }
