-- Pieces of a chain, page by page.
use Rattle.std.proofs.Common.{◌≡◌, ◌⊎◌, inl, inr, ℕ, ◌+◌, ◌-◌, ◌≤◌, min, List, [], ◌∷◌, ◌++◌, length, take, drop, replicate, refl, sym, ap, subst, ◌∙◌, append_assoc, append-nil, length-append, arith}
use Rattle.std.proofs.lemmas.List.{take_all, drop_all, length-take}
use Rattle.disk_pieces.specs.Pieces.{Piece}
use Rattle.body_codec.specs.Spelled.{four_bytes}
use Rattle.body_codec.proofs.Lengths.{four_long}
use Rattle.extent_pages.specs.Pages.{page_size, payload_size}
use Rattle.extent_pages.specs.Spelled.{spelled_page}
use Rattle.extent_pages.specs.Extent.{first_page}
use Rattle.extent_plan.specs.Pieces.{page_piece, chain_pieces, Fills}

-- all pages are written, or what is left fills the ones that are left
abbrev pub Left : List ℕ → List ℕ → Type 0
Left rest left = (rest ≡ []) ⊎ Fills rest left

-- what was added, with the pieces of what is left, is what is to be added
pub record Adding (old out : List Piece) (pages payload rest left : List ℕ) : Type 0 where
  pub left_fills : Left rest left
  pub whole : out ++ chain_pieces rest left ≡ old ++ chain_pieces pages payload

pub add_start : (old : List Piece) (pages payload : List ℕ) → Fills pages payload
    → Adding old old pages payload pages payload
add_start old pages payload fills = record { left_fills = inr fills; whole = refl }

pub add_end : (old out : List Piece) (pages payload left : List ℕ) → Adding old out pages payload [] left
    → out ≡ old ++ chain_pieces pages payload
add_end old out pages payload left is = sym (append-nil out) ∙ is.whole

-- the first page, with the one behind it
pub one_page_more : (page : ℕ) (behind left : List ℕ) → Fills (page ∷ behind) left
    → (Left behind (drop payload_size left))
    × (chain_pieces (page ∷ behind) left ≡ page_piece page (first_page behind) (take payload_size left)
    ∷ chain_pieces behind (drop payload_size left))
one_page_more page [] left fills =
    (inl refl, ap (λ (l : List ℕ). page_piece page 0 l ∷ []) (sym (take_all payload_size left fills.1)))
one_page_more page (next ∷ behind) left fills = (inr fills.1, refl)

not_none : {G : Type 0} (page : ℕ) (behind : List ℕ) → page ∷ behind ≡ [] → G
not_none page behind e = absurd cc

pub add_page : (old out : List Piece) (pages payload left : List ℕ) (page : ℕ) (behind : List ℕ)
    → Adding old out pages payload (page ∷ behind) left
    → Adding old (out ++ page_piece page (first_page behind) (take payload_size left) ∷ []) pages payload
    behind (drop payload_size left)
add_page old out pages payload left page behind is = by is.left_fills where
  by : Left (page ∷ behind) left
      → Adding old (out ++ page_piece page (first_page behind) (take payload_size left) ∷ []) pages payload
      behind (drop payload_size left)
  by (inl none) = not_none page behind none
  by (inr fills) =
      let more = one_page_more page behind left fills in
      let one = page_piece page (first_page behind) (take payload_size left) in
      record {
        left_fills = more.0;
        whole = append_assoc out (one ∷ []) (chain_pieces behind (drop payload_size left))
            ∙ ap (λ l. out ++ l) (sym more.1) ∙ is.whole;
      }

-- ---- what a page and an entry are spelled as, part by part

pub page_spelled : (next from : ℕ) (payload none one two three : List ℕ) {whole : List ℕ} → from ≡ next → none ≡ [] → one ≡ none ++ four_bytes from
    → two ≡ one ++ four_bytes (length payload) → three ≡ two ++ payload
    → whole ≡ three ++ replicate (page_size - length three) 0 → length payload ≤ payload_size
    → whole ≡ spelled_page next payload
unfolding spelled_page
page_spelled next from payload none one two three {whole} from_is a b d e f short =
    let here = four_bytes next in
    let used = four_bytes (length payload) in
    let first : one ≡ here = b ∙ ap (λ (n : ℕ). none ++ four_bytes n) from_is ∙ ap (λ (l : List ℕ). l ++ here) a in
    let parts : three ≡ (here ++ used) ++ payload =
    e ∙ ap (λ (l : List ℕ). l ++ payload) (d ∙ ap (λ (l : List ℕ). l ++ used) first) in
    let long : length three ≡ 8 + length payload = ap length parts ∙ omega (
      arith,
      length-append (here ++ used) payload,
      length-append here used,
      four_long next,
      four_long (length payload),
    ) in
    let left : page_size - length three ≡ payload_size - length payload = omega (arith, long, short) in
    let zeros : List ℕ = replicate (payload_size - length payload) 0 in
    f ∙ ap (λ (n : ℕ). three ++ replicate n 0) left ∙ ap (λ (l : List ℕ). l ++ zeros) parts
    ∙ append_assoc (here ++ used) payload zeros ∙ append_assoc here used (payload ++ zeros)

-- ---- the loop over pages

short_or_full : (left : List ℕ) (n : ℕ) → n ≡ min (length left) payload_size
    → (take n left ≡ take payload_size left) × (drop n left ≡ drop payload_size left)
short_or_full left n is = by (either (length left) payload_size) where
  either : (a b : ℕ) → (a ≤ b) ⊎ (b ≤ a)
  either a b = search arith

  by : (length left ≤ payload_size) ⊎ (payload_size ≤ length left)
      → (take n left ≡ take payload_size left) × (drop n left ≡ drop payload_size left)
  by (inl short) =
      let all : length left ≤ n = omega (arith, is, short) in
      (take_all n left all ∙ sym (take_all payload_size left short), drop_all n left all ∙ sym (drop_all payload_size left short))
  by (inr full) =
      let same : n ≡ payload_size = omega (arith, is, full) in
      (ap (λ (m : ℕ). take m left) same, ap (λ (m : ℕ). drop m left) same)

pub page_done : (old out : List Piece) (pages payload left : List ℕ) (page next n : ℕ) (rest behind here more : List ℕ) (piece : Piece) (new : List Piece)
    → Adding old out pages payload rest left → rest ≡ page ∷ behind → n ≡ min (length left) payload_size
    → here ≡ take n left → more ≡ drop n left → next ≡ first_page behind → piece ≡ page_piece page next here
    → new ≡ out ++ piece ∷ [] → Adding old new pages payload behind more
page_done old out pages payload left page next n rest behind here more piece new is parts n_is here_is more_is next_is piece_is new_is =
    let cut = short_or_full left n n_is in
    let so : Adding old out pages payload (page ∷ behind) left = subst (λ l. Adding old out pages payload l left) parts is in
    let piece_so : piece ≡ page_piece page (first_page behind) (take payload_size left) =
    piece_is ∙ ap (λ (m : ℕ). page_piece page m here) next_is ∙ ap (page_piece page (first_page behind)) (here_is ∙ cut.0) in
    let new_so : new ≡ out ++ page_piece page (first_page behind) (take payload_size left) ∷ [] =
    new_is ∙ ap (λ (p : Piece). out ++ p ∷ []) piece_so in
    subst (λ l. Adding old new pages payload behind l) (sym (more_is ∙ cut.1))
    (subst (λ l. Adding old l pages payload behind (drop payload_size left)) (sym new_so)
    (add_page old out pages payload left page behind so))

-- what may be written of a chain's next page
pub part_short : (left here : List ℕ) (n : ℕ) → n ≡ min (length left) payload_size → here ≡ take n left → length here ≤ payload_size
part_short left here n n_is here_is = omega (arith, n_is, ap length here_is, length-take n left)

pub page_room : (next from : ℕ) (payload none one two three : List ℕ) → from ≡ next → none ≡ [] → one ≡ none ++ four_bytes from
    → two ≡ one ++ four_bytes (length payload) → three ≡ two ++ payload → length payload ≤ payload_size → length three ≤ page_size
page_room next from payload none one two three from_is a b d e short =
    omega (
      arith,
      short,
      ap length e,
      length-append two payload,
      ap length d,
      length-append one (four_bytes (length payload)),
      four_long (length payload),
      ap length b,
      length-append none (four_bytes from),
      four_long from,
      ap length a,
    )
