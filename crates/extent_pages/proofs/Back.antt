-- Pages and roots read back as they were written.
use Rattle.std.proofs.Common.{◌≡◌, ◌⊎◌, inl, inr, ℕ, ◌-◌, ◌<◌, ◌≤◌, ◌^◌, true, nat_le, ◌&&◌, ◌||◌, eqb, List, ◌++◌, length, take, drop, replicate, refl, sym, ap, ◌∙◌, append_assoc, length-append, arith}
use Rattle.std.specs.Int.{w32, w64, from_le_bytes}
use Rattle.std.proofs.lemmas.Bool.Decides.{nat_tests}
use Rattle.std.proofs.lemmas.List.{take_at, drop_at, drop-drop, length-replicate}
use Rattle.body_codec.specs.Spelled.{four_bytes, eight_bytes}
use Rattle.body_codec.proofs.Lengths.{four_long, eight_long}
use Rattle.body_codec.proofs.Fields.{four_back, eight_back}
use Rattle.extent_pages.specs.Pages.{page_size, payload_size, next_in, used_in, payload_in, is_filled}
use Rattle.extent_pages.specs.declared.root.Root.{Root}
use Rattle.extent_pages.specs.Spelled.{spelled_page, spelled_root, root_page}
use Rattle.extent_pages.specs.Extent.{root_in}
use Rattle.extent_pages.specs.Stored.{FitsRoot, FitsPage}

-- ---- fields in a row

-- what stands behind a part
pub behind : (a b : List ℕ) (n : ℕ) → length a ≡ n → drop n (a ++ b) ≡ b
behind a b n long = drop_at a b n long

pub front : (a b : List ℕ) (n : ℕ) → length a ≡ n → take n (a ++ b) ≡ a
front a b n long = take_at a b n long

four_front : (n : ℕ) (rest : List ℕ) → n < 2 ^ 32 → from_le_bytes w32 (take 4 (four_bytes n ++ rest)) ≡ n
four_front n rest fits = ap (from_le_bytes w32) (front (four_bytes n) rest 4 (four_long n)) ∙ four_back n fits

eight_front : (n : ℕ) (rest : List ℕ) → n < 2 ^ 64 → from_le_bytes w64 (take 8 (eight_bytes n ++ rest)) ≡ n
eight_front n rest fits = ap (from_le_bytes w64) (front (eight_bytes n) rest 8 (eight_long n)) ∙ eight_back n fits

-- ---- pages of chains

module _ (next : ℕ) (payload : List ℕ) where
  behind_four : drop 4 (spelled_page next payload) ≡ four_bytes (length payload) ++ (payload ++ replicate (payload_size - length payload) 0)
  unfolding spelled_page
  behind_four = behind (four_bytes next) _ 4 (four_long next)

  behind_eight : drop 8 (spelled_page next payload) ≡ payload ++ replicate (payload_size - length payload) 0
  behind_eight = sym (drop-drop 4 4 (spelled_page next payload)) ∙ ap (drop 4) behind_four
      ∙ behind (four_bytes (length payload)) _ 4 (four_long (length payload))

  pub page_long : length payload ≤ payload_size → length (spelled_page next payload) ≡ page_size
  unfolding spelled_page
  page_long short =
      let zeros : List ℕ = replicate (payload_size - length payload) 0 in
      omega (
        arith,
        short,
        length-append (four_bytes next) (four_bytes (length payload) ++ (payload ++ zeros)),
        four_long next,
        length-append (four_bytes (length payload)) (payload ++ zeros),
        four_long (length payload),
        length-append payload zeros,
        length-replicate {A = ℕ} (payload_size - length payload) 0,
      )

  pub next_back : next < 2 ^ 32 → next_in (spelled_page next payload) ≡ next
  unfolding spelled_page
  next_back fits = four_front next _ fits

  pub used_back : length payload ≤ payload_size → used_in (spelled_page next payload) ≡ length payload
  used_back short =
      ap (λ (l : List ℕ). from_le_bytes w32 (take 4 l)) behind_four
      ∙ four_front (length payload) _ (omega (arith, short))

  pub payload_back : length payload ≤ payload_size → payload_in (spelled_page next payload) ≡ payload
  payload_back short =
      ap (λ (n : ℕ). take n (drop 8 (spelled_page next payload))) (used_back short)
      ∙ ap (take (length payload)) behind_eight
      ∙ front payload _ (length payload) refl

  ends_or_full : (n : ℕ) → (next ≡ 0) ⊎ (n ≡ payload_size) → (eqb next 0 || eqb n payload_size) ≡ true
  ends_or_full n (inl none) = grind (arith, nat_tests, none)
  ends_or_full n (inr full) = grind (arith, nat_tests, full)

  pub page_filled : FitsPage next payload → is_filled (spelled_page next payload) ≡ true
  page_filled fits =
      let used = used_back fits.short in
      let next_is = next_back fits.next_fits in
      let low : nat_le 1 (used_in (spelled_page next payload)) ≡ true = grind (arith, nat_tests, used, fits.some) in
      let high : nat_le (used_in (spelled_page next payload)) payload_size ≡ true = grind (arith, nat_tests, used, fits.short) in
      let last : (eqb (next_in (spelled_page next payload)) 0 || eqb (used_in (spelled_page next payload)) payload_size) ≡ true =
      ap (λ (n : ℕ). eqb n 0 || eqb (used_in (spelled_page next payload)) payload_size) next_is
      ∙ ap (λ (n : ℕ). eqb next 0 || eqb n payload_size) used ∙ ends_or_full (length payload) fits.filled in
      ap (λ b. b && (nat_le (used_in (spelled_page next payload)) payload_size
      && (eqb (next_in (spelled_page next payload)) 0 || eqb (used_in (spelled_page next payload)) payload_size))) low
      ∙ ap (λ b. b && (eqb (next_in (spelled_page next payload)) 0 || eqb (used_in (spelled_page next payload)) payload_size)) high
      ∙ last

-- ---- roots

module _ (root : Root) where
  root_long : length (spelled_root root) ≡ 28
  root_long = omega (
    arith,
    length-append (eight_bytes root.number) (four_bytes root.serial ++ (eight_bytes root.objects ++ (four_bytes root.directory ++ four_bytes root.pages))),
    length-append (four_bytes root.serial) (eight_bytes root.objects ++ (four_bytes root.directory ++ four_bytes root.pages)),
    length-append (eight_bytes root.objects) (four_bytes root.directory ++ four_bytes root.pages),
    length-append (four_bytes root.directory) (four_bytes root.pages),
    eight_long root.number,
    four_long root.serial,
    eight_long root.objects,
    four_long root.directory,
    four_long root.pages,
  )

  pub root_page_long : length (root_page root) ≡ page_size
  unfolding root_page
  root_page_long =
      let zeros : List ℕ = replicate (page_size - length (spelled_root root)) 0 in
      omega (
        arith,
        root_long,
        length-append (spelled_root root) zeros,
        length-replicate {A = ℕ} (page_size - length (spelled_root root)) 0,
      )

  -- the fields of a root, with anything behind them
  abbrev in_a_row : List ℕ → List ℕ
  in_a_row rest = eight_bytes root.number ++ (four_bytes root.serial ++ (eight_bytes root.objects
      ++ (four_bytes root.directory ++ (four_bytes root.pages ++ rest))))

  rowed : (rest : List ℕ) → spelled_root root ++ rest ≡ in_a_row rest
  rowed rest =
      append_assoc (eight_bytes root.number) _ rest
      ∙ ap (λ (l : List ℕ). eight_bytes root.number ++ l) (append_assoc (four_bytes root.serial) _ rest
      ∙ ap (λ (l : List ℕ). four_bytes root.serial ++ l) (append_assoc (eight_bytes root.objects) _ rest
      ∙ ap (λ (l : List ℕ). eight_bytes root.objects ++ l) (append_assoc (four_bytes root.directory) (four_bytes root.pages) rest)))

  same_root : {a b c d e : ℕ} → a ≡ root.number → b ≡ root.serial → c ≡ root.objects → d ≡ root.directory → e ≡ root.pages
      → ◌≡◌ {A = Root} (record { number = a; serial = b; objects = c; directory = d; pages = e }) root
  same_root a b c d e = rw (a, b, c, d, e) refl

  module _ (fits : FitsRoot root) where
    fields_back : (rest : List ℕ) → root_in (in_a_row rest) ≡ root
    fields_back rest =
        let after_pages = four_bytes root.pages ++ rest in
        let after_directory = four_bytes root.directory ++ after_pages in
        let after_objects = eight_bytes root.objects ++ after_directory in
        let after_serial = four_bytes root.serial ++ after_objects in
        let whole = in_a_row rest in
        let eight : drop 8 whole ≡ after_serial = behind (eight_bytes root.number) after_serial 8 (eight_long root.number) in
        let twelve : drop 12 whole ≡ after_objects =
        sym (drop-drop 4 8 whole) ∙ ap (drop 4) eight ∙ behind (four_bytes root.serial) after_objects 4 (four_long root.serial) in
        let twenty : drop 20 whole ≡ after_directory =
        sym (drop-drop 8 12 whole) ∙ ap (drop 8) twelve ∙ behind (eight_bytes root.objects) after_directory 8 (eight_long root.objects) in
        let later : drop 24 whole ≡ after_pages =
        sym (drop-drop 4 20 whole) ∙ ap (drop 4) twenty ∙ behind (four_bytes root.directory) after_pages 4 (four_long root.directory) in
        let number = eight_front root.number after_serial fits.number in
        let serial = ap (λ (l : List ℕ). from_le_bytes w32 (take 4 l)) eight ∙ four_front root.serial after_objects fits.serial in
        let objects = ap (λ (l : List ℕ). from_le_bytes w64 (take 8 l)) twelve ∙ eight_front root.objects after_directory fits.objects in
        let directory = ap (λ (l : List ℕ). from_le_bytes w32 (take 4 l)) twenty ∙ four_front root.directory after_pages fits.directory in
        let pages = ap (λ (l : List ℕ). from_le_bytes w32 (take 4 l)) later ∙ four_front root.pages rest fits.pages in
        same_root number serial objects directory pages

    pub root_back : root_in (root_page root) ≡ root
    unfolding root_page
    root_back = ap root_in (rowed (replicate (page_size - length (spelled_root root)) 0)) ∙ fields_back _
