-- How the lists change as items and starts do.
use Rattle.std.proofs.Common.{◌≡◌, ℕ, zero, suc, ◌+◌, ◌<◌, ◌≤◌, List, [], ◌∷◌, ◌++◌, length, get_or, take, drop, set, Some, None, refl, sym, ap, ap₂, ◌∙◌, arith, length-append, length-drop}
use Rattle.std.specs.List.{slice_get}
use Rattle.std.proofs.lemmas.List.{length-take, take-take, append-nil, take_all, take-append-le, drop-append-le, drop_at, take-set-le, drop-set-lt, drop-set-add, set_past, set-get_or, get_or-take, get_or-drop, get_or_default, length-take-le}
use Rattle.std.proofs.lemmas.Option.{slice_get-get_or, slice_get_past}
use Rattle.list_stack.specs.Lists.{lists_of, with_last}
use Rattle.list_stack.specs.Places.{Ascend, AreStarts, IsPlace}

-- places that ascend stay within the size
pub ascend_within : (starts : List ℕ) (size i : ℕ) → Ascend starts size → get_or starts i size ≤ size
ascend_within [] size i ascend = omega arith
ascend_within (s ∷ starts) size zero ascend = omega (arith, ascend.0, ascend_within starts size 0 ascend.1)
ascend_within (s ∷ starts) size (suc i) ascend = ascend_within starts size i ascend.1

-- the first is the lowest
pub first_lowest : (starts : List ℕ) (size i : ℕ) → Ascend starts size → get_or starts 0 size ≤ get_or starts i size
first_lowest [] size i ascend = omega arith
first_lowest (s ∷ starts) size zero ascend = omega arith
first_lowest (s ∷ starts) size (suc i) ascend = omega (arith, ascend.0, first_lowest starts size i ascend.1)

-- each is no higher than the next
pub next_higher : (starts : List ℕ) (size i d : ℕ) → Ascend starts size → i < length starts → get_or starts i d ≤ get_or starts (suc i) size
next_higher [] size i d ascend within = absurd (omega arith)
next_higher (s ∷ starts) size zero d ascend within = ascend.0
next_higher (s ∷ starts) size (suc i) d ascend within = next_higher starts size i d ascend.1 (omega arith)

first_kept : (starts : List ℕ) (size count : ℕ) → get_or (take count starts) 0 (get_or starts count size) ≡ get_or starts 0 size
first_kept starts size zero = refl
first_kept [] size (suc count) = refl
first_kept (s ∷ starts) size (suc count) = refl

ascend_kept : (starts : List ℕ) (size count : ℕ) → Ascend starts size → Ascend (take count starts) (get_or starts count size)
ascend_kept starts size zero ascend = tt
ascend_kept [] size (suc count) ascend = tt
ascend_kept (s ∷ starts) size (suc count) ascend = (rw (first_kept starts size count) ascend.0, ascend_kept starts size count ascend.1)

ascend_opened : (starts : List ℕ) (size more : ℕ) → size ≤ more → Ascend starts size → Ascend (starts ++ size ∷ []) more
ascend_opened [] size more low ascend = (low, tt)
ascend_opened (s ∷ []) size more low ascend = (ascend.0, ascend_opened [] size more low tt)
ascend_opened (s ∷ t ∷ starts) size more low ascend = (ascend.0, ascend_opened (t ∷ starts) size more low ascend.1)

ascend_higher : (starts : List ℕ) (size more : ℕ) → size ≤ more → Ascend starts size → Ascend starts more
ascend_higher [] size more low ascend = tt
ascend_higher (s ∷ []) size more low ascend = (omega (arith, low, ascend.0), tt)
ascend_higher (s ∷ t ∷ starts) size more low ascend = (ascend.0, ascend_higher (t ∷ starts) size more low ascend.1)

-- the starts after each change
pub starts_opened : (starts : List ℕ) (size more : ℕ) → size ≤ more → AreStarts starts size → AreStarts (starts ++ size ∷ []) more
starts_opened [] size more low are = record { first = are.first; ascend = ascend_opened [] size more low are.ascend }
starts_opened (s ∷ starts) size more low are = record { first = are.first; ascend = ascend_opened (s ∷ starts) size more low are.ascend }

pub starts_pushed : (starts : List ℕ) (size more : ℕ) → size ≤ more → 0 < length starts → AreStarts starts size → AreStarts starts more
starts_pushed [] size more low some are = absurd (omega arith)
starts_pushed (s ∷ starts) size more low some are = record { first = are.first; ascend = ascend_higher (s ∷ starts) size more low are.ascend }

pub starts_kept : (starts : List ℕ) (size count : ℕ) → AreStarts starts size → AreStarts (take count starts) (get_or starts count size)
starts_kept starts size count are = record { first = first_kept starts size count ∙ are.first; ascend = ascend_kept starts size count are.ascend }

module _ {A : Type 0} where
  take-set_any : (n : ℕ) (items : List A) (k : ℕ) (x : A) → take n (set items k x) ≡ set (take n items) k x
  take-set_any zero items k x = refl
  take-set_any (suc n) [] k x = refl
  take-set_any (suc n) (y ∷ items) zero x = refl
  take-set_any (suc n) (y ∷ items) (suc k) x = ap (λ l. y ∷ l) (take-set_any n items k x)

  pub length-lists_of : (size : ℕ) (items : List A) (starts : List ℕ) → length (lists_of size items starts) ≡ length starts
  length-lists_of size items [] = refl
  length-lists_of size items (s ∷ starts) = ap (λ (n : ℕ). suc n) (length-lists_of size items starts)

  get_or-lists_of : (size : ℕ) (items : List A) (starts : List ℕ) (i d : ℕ) → i < length starts
      → get_or (lists_of size items starts) i [] ≡ drop (get_or starts i d) (take (get_or starts (suc i) size) items)
  get_or-lists_of size items [] i d within = absurd (omega arith)
  get_or-lists_of size items (s ∷ starts) zero d within = refl
  get_or-lists_of size items (s ∷ starts) (suc i) d within = get_or-lists_of size items starts i d (omega arith)

  -- a new list on top
  pub lists_opened : (items more : List A) (starts : List ℕ) (size all : ℕ) → size ≡ length items → all ≡ length (items ++ more) → Ascend starts size
      → lists_of all (items ++ more) (starts ++ size ∷ []) ≡ lists_of size items starts ++ more ∷ []
  lists_opened items more [] size all is_size is_all ascend =
      ap (λ l. l ∷ []) (ap (drop size) (take_all all (items ++ more) (omega (arith, is_all))) ∙ drop_at items more size (sym is_size))
  lists_opened items more (s ∷ []) size all is_size is_all ascend =
      ap₂ (λ (l : List A) (ls : List (List A)). l ∷ ls) (ap (drop s) (take-append-le size items more (omega (arith, is_size)))) (lists_opened items more [] size all is_size is_all tt)
  lists_opened items more (s ∷ t ∷ starts) size all is_size is_all ascend =
      ap₂ (λ (l : List A) (ls : List (List A)). l ∷ ls) (ap (drop s) (take-append-le t items more (omega (arith, is_size, ascend_within (t ∷ starts) size 0 ascend.1)))) (lists_opened items more (t ∷ starts) size all is_size is_all ascend.1)

  pub list_opened : (items : List A) (starts : List ℕ) → Ascend starts (length items) → lists_of (length items) items (starts ++ length items ∷ []) ≡ lists_of (length items) items starts ++ [] ∷ []
  list_opened items starts ascend =
      ap (λ (l : List A). lists_of (length items) l (starts ++ length items ∷ [])) (sym (append-nil items))
      ∙ lists_opened items [] starts (length items) (length items) refl (ap length (sym (append-nil items))) ascend

  -- an item at the end of the uppermost one
  pub lists_pushed : (items : List A) (starts : List ℕ) (x : A) (size all : ℕ) → size ≡ length items → all ≡ size + 1 → Ascend starts size
      → lists_of all (items ++ x ∷ []) starts ≡ with_last (lists_of size items starts) x
  lists_pushed items [] x size all is_size is_all ascend = refl
  lists_pushed items (s ∷ []) x size all is_size is_all ascend =
      let whole : take all (items ++ x ∷ []) ≡ items ++ x ∷ [] = take_all all (items ++ x ∷ []) (omega (arith, is_size, is_all, length-append items (x ∷ []))) in
      let old : take size items ≡ items = take_all size items (omega (arith, is_size)) in
      ap (λ l. l ∷ []) (ap (drop s) whole ∙ drop-append-le s items (x ∷ []) (omega (arith, is_size, ascend.0)) ∙ ap (λ l. drop s l ++ x ∷ []) (sym old))
  lists_pushed items (s ∷ t ∷ starts) x size all is_size is_all ascend =
      ap₂ (λ (l : List A) (ls : List (List A)). l ∷ ls) (ap (drop s) (take-append-le t items (x ∷ []) (omega (arith, is_size, ascend_within (t ∷ starts) size 0 ascend.1)))) (lists_pushed items (t ∷ starts) x size all is_size is_all ascend.1)

  -- the lowest lists alone
  pub lists_kept : (size : ℕ) (items : List A) (starts : List ℕ) (count : ℕ) → Ascend starts size
      → lists_of (get_or starts count size) (take (get_or starts count size) items) (take count starts) ≡ take count (lists_of size items starts)
  lists_kept size items starts zero ascend = refl
  lists_kept size items [] (suc count) ascend = refl
  lists_kept size items (s ∷ starts) (suc count) ascend =
      ap₂ (λ (l : List A) (ls : List (List A)). l ∷ ls)
      (ap (drop s) (ap (λ (n : ℕ). take n (take (get_or starts count size) items)) (first_kept starts size count)
      ∙ take-take (get_or starts 0 size) (get_or starts count size) items (first_lowest starts size count ascend.1)))
      (lists_kept size items starts count ascend.1)

  pub lists_cut : (items : List A) (starts : List ℕ) (count size : ℕ) → size ≡ get_or starts count (length items) → Ascend starts (length items)
      → lists_of (length (take size items)) (take size items) (take count starts) ≡ take count (lists_of (length items) items starts)
  lists_cut items starts count size is_size ascend =
      let within : size ≤ length items = omega (arith, is_size, ascend_within starts (length items) count ascend) in
      ap (λ (n : ℕ). lists_of n (take size items) (take count starts)) (length-take-le size items within)
      ∙ ap (λ (n : ℕ). lists_of n (take n items) (take count starts)) is_size
      ∙ lists_kept (length items) items starts count ascend

  pub starts_cut : (items : List A) (starts : List ℕ) (count size : ℕ) → size ≡ get_or starts count (length items) → AreStarts starts (length items) → AreStarts (take count starts) (length (take size items))
  starts_cut items starts count size is_size are =
      let within : size ≤ length items = omega (arith, is_size, ascend_within starts (length items) count are.ascend) in
      rw (length-take-le size items within, is_size) (starts_kept starts (length items) count are)

  -- an item below all lists
  set_below : (size : ℕ) (items : List A) (starts : List ℕ) (k : ℕ) (x : A) → Ascend starts size → k < get_or starts 0 size → lists_of size (set items k x) starts ≡ lists_of size items starts
  set_below size items [] k x ascend low = refl
  set_below size items (s ∷ starts) k x ascend low =
      ap₂ (λ (l : List A) (ls : List (List A)). l ∷ ls)
      (ap (drop s) (take-set_any (get_or starts 0 size) items k x) ∙ drop-set-lt s (take (get_or starts 0 size) items) k x low)
      (set_below size items starts k x ascend.1 (omega (arith, low, ascend.0)))

  -- an item in one of them
  pub lists_set : (size : ℕ) (items : List A) (starts : List ℕ) (list at k : ℕ) (x : A) → Ascend starts size → list < length starts → k ≡ get_or starts list 0 + at → k < get_or starts (suc list) size
      → lists_of size (set items k x) starts ≡ set (lists_of size items starts) list (set (get_or (lists_of size items starts) list []) at x)
  lists_set size items [] list at k x ascend within is_place low = absurd (omega (arith, within))
  lists_set size items (s ∷ starts) zero at k x ascend within is_place low =
      ap₂ (λ (l : List A) (ls : List (List A)). l ∷ ls)
      (ap (drop s) (take-set_any (get_or starts 0 size) items k x) ∙ ap (λ (n : ℕ). drop s (set (take (get_or starts 0 size) items) n x)) is_place ∙ drop-set-add s (take (get_or starts 0 size) items) at x)
      (set_below size items starts k x ascend.1 low)
  lists_set size items (s ∷ starts) (suc list) at k x ascend within is_place low =
      let high : get_or starts 0 size ≤ k = omega (arith, is_place, first_lowest starts size list ascend.1, get_or_default starts list size 0 (omega arith)) in
      ap₂ (λ (l : List A) (ls : List (List A)). l ∷ ls)
      (ap (drop s) (take-set-le (get_or starts 0 size) items k x high))
      (lists_set size items starts list at k x ascend.1 (omega arith) is_place low)

  -- where there is no such list or place, nothing stands there and nothing can be set
  past : (size : ℕ) (items : List A) (starts : List ℕ) (list at : ℕ) → IsPlace starts size list at None → length (get_or (lists_of size items starts) list []) ≤ at
  past size items [] list at none = omega arith
  past size items (s ∷ starts) zero at none =
      omega (arith, none (omega arith), length-drop s (take (get_or starts 0 size) items), length-take (get_or starts 0 size) items)
  past size items (s ∷ starts) (suc list) at none = past size items starts list at (λ within. none (omega arith))

  pub none_there : (size : ℕ) (items : List A) (starts : List ℕ) (list at : ℕ) → IsPlace starts size list at None → slice_get (get_or (lists_of size items starts) list []) at ≡ None
  none_there size items starts list at none = slice_get_past (get_or (lists_of size items starts) list []) at (past size items starts list at none)

  pub none_set : (size : ℕ) (items : List A) (starts : List ℕ) (list at : ℕ) (x : A) → IsPlace starts size list at None
      → lists_of size items starts ≡ set (lists_of size items starts) list (set (get_or (lists_of size items starts) list []) at x)
  none_set size items starts list at x none =
      sym (ap (set (lists_of size items starts) list) (set_past (get_or (lists_of size items starts) list []) at x (past size items starts list at none)) ∙ set-get_or (lists_of size items starts) list [])

  module _ (size : ℕ) (items : List A) (starts : List ℕ) (list at : ℕ) (is_size : size ≡ length items) (ascend : Ascend starts size) where
    -- what stands at a place of a list
    pub item_there : (k : ℕ) (x : A) → IsPlace starts size list at (Some k) → x ≡ get_or items k x → slice_get (get_or (lists_of size items starts) list []) at ≡ Some x
    item_there k x (within, is_place, low) read =
        let end : get_or starts (suc list) size ≤ length items = omega (arith, is_size, ascend_within starts size (suc list) ascend) in
        let front : List A = take (get_or starts (suc list) size) items in
        let long : length front ≡ get_or starts (suc list) size = length-take-le (get_or starts (suc list) size) items end in
        let far : at < length (drop (get_or starts list 0) front) = omega (arith, length-drop (get_or starts list 0) front, long, is_place, low) in
        ap (λ (l : List A). slice_get l at) (get_or-lists_of size items starts list 0 within)
        ∙ slice_get-get_or (drop (get_or starts list 0) front) at x far
        ∙ ap (λ (y : A). Some y) (get_or-drop (get_or starts list 0) front at x ∙ ap (λ (n : ℕ). get_or front n x) (sym is_place) ∙ get_or-take (get_or starts (suc list) size) items k x low ∙ sym read)

    pub place_within : (k : ℕ) → IsPlace starts size list at (Some k) → k < length items
    place_within k (within, is_place, low) = omega (arith, is_size, low, ascend_within starts size (suc list) ascend)
