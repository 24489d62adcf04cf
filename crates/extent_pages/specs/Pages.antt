-- Pages of a file, and chains of them.
use Rattle.std.specs.Prelude.{ℕ, zero, suc, ◌+◌, ◌*◌, ◌==◌, ◌&&◌, ◌||◌, not, nat_lt, nat_le, Bool, false, if◌then◌else◌, List, [], ◌∷◌, ◌++◌, length, take, drop, Option, Some, None, Result, Ok, Err}
use Rattle.std.specs.Int.{w32, from_le_bytes}
use Rattle.extent_pages.specs.declared.fault.PageRule.{PageRule}
use Rattle.extent_pages.specs.declared.fault.PageRule.TheVariants as rule

-- ---- Pages.

-- how many bytes a page has
abbrev pub page_size : ℕ
page_size = 16384

-- how many of them are payload at most; the number of the next page and the count of bytes that are
-- used stand in front of them, in four bytes each
abbrev pub payload_size : ℕ
payload_size = 16376

-- the first number that no page has
abbrev pub most_pages : ℕ
most_pages = 262144

-- what stands in each page that lies whole within a file and has a number that a page may have
abbrev pub Book : Type 0
Book = ℕ → Option (List ℕ)

-- the bytes from where a page begins, up to where the next one does
abbrev pub page_of : List ℕ → ℕ → List ℕ
page_of file page = take page_size (drop (page_size * page) file)

abbrev pub is_inside : List ℕ → ℕ → Bool
is_inside file page =
    nat_lt page most_pages && nat_le (page_size * page + page_size) (length file)

abbrev pub pages_of : List ℕ → Book
pages_of file page = if is_inside file page then Some (page_of file page) else None

-- the number of the page behind this one in its chain; 0 stands for none
abbrev pub next_in : List ℕ → ℕ
next_in bytes = from_le_bytes w32 (take 4 bytes)

-- how many bytes of it are used
abbrev pub used_in : List ℕ → ℕ
used_in bytes = from_le_bytes w32 (take 4 (drop 4 bytes))

-- these bytes
abbrev pub payload_in : List ℕ → List ℕ
payload_in bytes = take (used_in bytes) (drop 8 bytes)

-- A page uses one byte at least and as many as it has at most; as many as it has, where it isn't
-- the last of its chain.
abbrev pub is_filled : List ℕ → Bool
is_filled bytes = nat_le 1 (used_in bytes) && (nat_le (used_in bytes) payload_size
    && ((next_in bytes == 0) || (used_in bytes == payload_size)))

abbrev pub is_one_of : ℕ → List ℕ → Bool
is_one_of page [] = false
is_one_of page (other ∷ others) = (page == other) || is_one_of page others

-- A page that a chain may use: not one of the three at the front of the file, which hold the gate
-- and the roots, and none of those that are taken.
abbrev pub is_free : List ℕ → ℕ → Bool
is_free taken page = nat_le 3 page && not (is_one_of page taken)

-- ---- Chains.

-- a fault: the page in which a rule is broken, and the rule
abbrev pub Fault : Type 0
Fault = ℕ × PageRule

infixl 10 ◌andthen◌
abbrev pub ◌andthen◌ : {A B E : Type 0} → Result A E → (A → Result B E) → Result B E
(Ok x) andthen f = f x
(Err e) andthen f = Err e

abbrev pub inside_at : List ℕ → ℕ → Option (List ℕ) → Result (List ℕ) PageRule
inside_at taken page None = Err rule.Outside
inside_at taken page (Some bytes) = if is_free taken page
    then (if is_filled bytes then Ok bytes else Err rule.Used)
    else Err rule.Taken

-- The bytes of a page of a chain, where these pages are taken. The rules are tried in their order.
unfoldable pub page_at : Book → List ℕ → ℕ → Result (List ℕ) PageRule
page_at book taken page = inside_at taken page (book page)

-- a chain: its pages, and what they hold
pub record Chain : Type 0 where
  pub pages : List ℕ
  pub payload : List ℕ

-- the chain of one page
abbrev pub one_page : ℕ → List ℕ → Chain
one_page page bytes = record { pages = page ∷ []; payload = payload_in bytes }

-- a chain with one page more in front of it
abbrev pub in_front : ℕ → List ℕ → Result Chain Fault → Result Chain Fault
in_front page bytes (Ok chain) = Ok (record {
  pages = page ∷ chain.pages;
  payload = payload_in bytes ++ chain.payload;
})
in_front page bytes (Err fault) = Err fault

-- the chain that a page begins, by its bytes and by the chain that the next page begins
abbrev pub linked : ℕ → Result (List ℕ) PageRule → (List ℕ → Result Chain Fault)
    → Result Chain Fault
linked page (Ok bytes) more = if next_in bytes == 0
    then Ok (one_page page bytes)
    else in_front page bytes (more bytes)
linked page (Err broken) more = Err (page, broken)

-- The chain that begins at a page, of so many pages at most. A chain that goes on uses one twice.
abbrev pub chain_at : ℕ → Book → List ℕ → ℕ → Result Chain Fault
chain_at zero book taken page = Err (page, rule.Taken)
chain_at (suc more) book taken page = linked page (page_at book taken page)
    (λ bytes. chain_at more book (page ∷ taken) (next_in bytes))

-- The chain that begins at a page, where these pages are taken. There are no more pages than
-- numbers for them.
unfoldable pub chain_from : Book → List ℕ → ℕ → Result Chain Fault
chain_from book taken page = chain_at most_pages book taken page
