-- What is read of a book is what lies there, and what lies there is read.
use Rattle.std.proofs.Common.{◌≡◌, ℕ, zero, suc, ◌≤◌, Bool, true, false, cond, not, nat_le, eqb, List, [], ◌∷◌, ◌++◌, length, Option, Some, None, Result, Ok, Err, refl, sym, ap, ap₂, subst, ◌∙◌, arith}
use Rattle.std.proofs.lemmas.Bool.Decides.{nat_tests}
use Rattle.gem_object.specs.declared.object.Object.{Object}
use Rattle.extent_pages.specs.declared.fault.PageRule.{PageRule}
use Rattle.extent_pages.specs.declared.fault.PageRule.TheVariants as rule
use Rattle.extent_pages.specs.declared.root.Root.{Root}
use Rattle.extent_pages.specs.Pages.{most_pages, Book, next_in, payload_in, is_filled, is_one_of, is_free, Fault, ◌andthen◌, inside_at, page_at, Chain, one_page, in_front, linked, chain_at, chain_from}
use Rattle.extent_pages.specs.Contents.{directory_of, leaf_of}
use Rattle.extent_pages.specs.Extent.{Leaf, Extent, root_in, root_at, first_page, is_counted, counted, leaf_in, leaves_at, extent_at}
use Rattle.extent_pages.specs.Laid.{IsPage, Links, AreFree, IsChain, LeafLies, LeavesLie, entries_of, IsLaid}
use Rattle.extent_pages.proofs.Tests.{ok_is, not_ok, then_ok, then_is, passed, both_true}

-- ---- pages

module _ (book : Book) where
  page_reads : (taken : List ℕ) (page next : ℕ) (bytes : List ℕ) → is_free taken page ≡ true
      → IsPage book page next bytes → page_at book taken page ≡ Ok bytes
  unfolding page_at
  page_reads taken page next bytes free is =
      ap (inside_at taken page) is.there
      ∙ ap (λ b. cond b (cond (is_filled bytes) (Ok bytes) (Err rule.Used)) (Err rule.Taken)) free
      ∙ ap (λ b. cond b (Ok bytes) (Err rule.Used)) is.filled

  -- what is known of a page that was read
  record ReadAt (taken : List ℕ) (page : ℕ) (bytes : List ℕ) : Type 0 where
    there : book page ≡ Some bytes
    free : is_free taken page ≡ true
    filled : is_filled bytes ≡ true

  inside_ok : (taken : List ℕ) (page : ℕ) (o : Option (List ℕ)) (bytes : List ℕ)
      → inside_at taken page o ≡ Ok bytes
      → (o ≡ Some bytes) × (is_free taken page ≡ true) × (is_filled bytes ≡ true)
  inside_ok taken page None bytes e = not_ok rule.Outside bytes e
  inside_ok taken page (Some other) bytes e = by (is_free taken page) (is_filled other) refl refl e where
    by : (f u : Bool) → is_free taken page ≡ f → is_filled other ≡ u
        → cond f (cond u (Ok other) (Err rule.Used)) (Err rule.Taken) ≡ Ok bytes
        → (Some other ≡ Some bytes) × (is_free taken page ≡ true) × (is_filled bytes ≡ true)
    by true true free filled e =
        let same = ok_is other bytes e in
        (ap Some same, free, subst (λ b. is_filled b ≡ true) same filled)
    by true false free filled e = not_ok rule.Used bytes e
    by false u free filled e = not_ok rule.Taken bytes e

  page_takes : (taken : List ℕ) (page : ℕ) (bytes : List ℕ) → page_at book taken page ≡ Ok bytes
      → ReadAt taken page bytes
  unfolding page_at
  page_takes taken page bytes e =
      let is = inside_ok taken page (book page) bytes e in
      record { there = is.0; free = is.1; filled = is.2 }

  -- ---- chains

  free_from : (taken : List ℕ) (page : ℕ) → is_free taken page ≡ true → 3 ≤ page
  free_from taken page free =
      let low = (both_true (nat_le 3 page) (not (is_one_of page taken)) free).0 in
      grind (arith, nat_tests, low)

  abbrev next_at : ℕ → List ℕ → ℕ → List ℕ → Result Chain Fault
  next_at more taken page bytes = chain_at more book (page ∷ taken) (next_in bytes)

  -- how a page is linked, by the number of the next one
  abbrev linked_by : ℕ → List ℕ → ℕ → List ℕ → ℕ → Result Chain Fault
  linked_by more taken page bytes next = cond (eqb next 0) (Ok (one_page page bytes))
      (in_front page bytes (chain_at more book (page ∷ taken) next))

  pub links_read : (more : ℕ) (pages payload taken : List ℕ) → Links book pages payload → AreFree taken pages
      → length pages ≤ more
      → chain_at more book taken (first_page pages) ≡ Ok (record { pages = pages; payload = payload })
  links_read more [] payload taken links free short = absurd links
  links_read zero (page ∷ pages) payload taken links free short = absurd (omega (arith, short))
  links_read (suc more) (page ∷ []) payload taken (bytes, is, holds) free short =
      ap (λ r. linked page r (next_at more taken page)) (page_reads taken page 0 bytes free.0 is)
      ∙ ap (linked_by more taken page bytes) is.next_is
      ∙ ap (λ (l : List ℕ). Ok (record { pages = page ∷ []; payload = l })) (sym holds)
  links_read (suc more) (page ∷ next ∷ pages) payload taken (bytes, rest, is, holds, links) free short =
      let low = free_from (page ∷ taken) next free.1.0 in
      let goes_on : eqb next 0 ≡ false = grind (arith, nat_tests, low) in
      ap (λ r. linked page r (next_at more taken page)) (page_reads taken page next bytes free.0 is)
      ∙ ap (linked_by more taken page bytes) is.next_is
      ∙ ap (λ b. cond b (Ok (one_page page bytes)) (in_front page bytes (chain_at more book (page ∷ taken) next))) goes_on
      ∙ ap (in_front page bytes) (links_read more (next ∷ pages) rest (page ∷ taken) links free.1 (omega (arith, short)))
      ∙ ap (λ (l : List ℕ). Ok (record { pages = page ∷ next ∷ pages; payload = l })) (sym holds)

  -- what is known of a chain that was read
  record ReadChain (more : ℕ) (taken : List ℕ) (page : ℕ) (chain : Chain) : Type 0 where
    links : Links book chain.pages chain.payload
    free : AreFree taken chain.pages
    short : length chain.pages ≤ more
    first : first_page chain.pages ≡ page

  abbrev ReadsChains : ℕ → Type 0
  ReadsChains more = (taken : List ℕ) (page : ℕ) (chain : Chain) → chain_at more book taken page ≡ Ok chain
      → ReadChain more taken page chain

  link_front : (page : ℕ) (bytes pages payload : List ℕ) → book page ≡ Some bytes → is_filled bytes ≡ true
      → Links book pages payload → first_page pages ≡ next_in bytes
      → Links book (page ∷ pages) (payload_in bytes ++ payload)
  link_front page bytes [] payload there filled links first = absurd links
  link_front page bytes (next ∷ pages) payload there filled links first =
      (bytes, payload, record { there = there; next_is = sym first; filled = filled }, refl, links)

  fronted : (page : ℕ) (bytes : List ℕ) (r : Result Chain Fault) (chain : Chain) → in_front page bytes r ≡ Ok chain
      → (behind : Chain) × (r ≡ Ok behind)
      × (record { pages = page ∷ behind.pages; payload = payload_in bytes ++ behind.payload } ≡ chain)
  fronted page bytes (Ok behind) chain e = (behind, refl, ok_is _ chain e)
  fronted page bytes (Err fault) chain e = not_ok fault chain e

  link_takes : (more : ℕ) → ReadsChains more → (taken : List ℕ) (page : ℕ) (r : Result (List ℕ) PageRule) (chain : Chain)
      → page_at book taken page ≡ r → linked page r (next_at more taken page) ≡ Ok chain
      → ReadChain (suc more) taken page chain
  link_takes more further taken page (Err broken) chain is e = not_ok (page, broken) chain e
  link_takes more further taken page (Ok bytes) chain is e = by (eqb (next_in bytes) 0) refl e where
    read : ReadAt taken page bytes
    read = page_takes taken page bytes is

    by : (b : Bool) → eqb (next_in bytes) 0 ≡ b
        → cond b (Ok (one_page page bytes)) (in_front page bytes (next_at more taken page bytes)) ≡ Ok chain
        → ReadChain (suc more) taken page chain
    by true last e =
        let ends : next_in bytes ≡ 0 = grind (arith, nat_tests, last) in
        let one : ReadChain (suc more) taken page (one_page page bytes) = record {
          links = (bytes, record { there = read.there; next_is = ends; filled = read.filled }, refl);
          free = (read.free, tt);
          short = omega arith;
          first = refl;
        } in
        subst (λ c. ReadChain (suc more) taken page c) (ok_is (one_page page bytes) chain e) one
    by false last e =
        let behind = fronted page bytes (next_at more taken page bytes) chain e in
        let known = further (page ∷ taken) (next_in bytes) behind.0 behind.1 in
        let whole : ReadChain (suc more) taken page
        (record { pages = page ∷ behind.0.pages; payload = payload_in bytes ++ behind.0.payload }) = record {
          links = link_front page bytes behind.0.pages behind.0.payload read.there read.filled known.links known.first;
          free = (read.free, known.free);
          short = omega (arith, known.short);
          first = refl;
        } in
        subst (λ c. ReadChain (suc more) taken page c) behind.2 whole

  links_take : (more : ℕ) → ReadsChains more
  links_take zero taken page chain e = not_ok (page, rule.Taken) chain e
  links_take (suc more) taken page chain e =
      link_takes more (links_take more) taken page (page_at book taken page) chain refl e

  pub chain_reads : (taken : List ℕ) (chain : Chain) → IsChain book taken chain
      → chain_from book taken (first_page chain.pages) ≡ Ok chain
  unfolding chain_from
  chain_reads taken chain is = links_read most_pages chain.pages chain.payload taken is.links is.free is.short

  -- a chain that was read lies there, and begins at the page
  pub record Begins (taken : List ℕ) (page : ℕ) (chain : Chain) : Type 0 where
    pub is : IsChain book taken chain
    pub first : first_page chain.pages ≡ page

  pub chain_takes : (taken : List ℕ) (page : ℕ) (chain : Chain) → chain_from book taken page ≡ Ok chain
      → Begins taken page chain
  unfolding chain_from
  chain_takes taken page chain e =
      let known = links_take most_pages taken page chain e in
      record {
        is = record { links = known.links; free = known.free; short = known.short };
        first = known.first;
      }

  -- ---- leaves

  abbrev leaf_with : ℕ × ℕ → Chain → List (ℕ × Object) → Result Leaf Fault
  leaf_with entry chain objects = Ok (record { number = entry.0; pages = chain.pages; objects = objects })

  abbrev leaf_on : ℕ × ℕ → Chain → Result Leaf Fault
  leaf_on entry chain = leaf_of entry.0 chain andthen leaf_with entry chain

  leaf_reads : (taken : List ℕ) (leaf : Leaf) → LeafLies book taken leaf
      → leaf_in book taken (leaf.number, first_page leaf.pages) ≡ Ok leaf
  leaf_reads taken leaf lies =
      let chain : Chain = record { pages = leaf.pages; payload = lies.payload } in
      let entry : ℕ × ℕ = (leaf.number, first_page leaf.pages) in
      then_is (chain_from book taken (first_page leaf.pages)) chain (leaf_on entry) (chain_reads taken chain lies.chain)
      ∙ then_is (leaf_of leaf.number chain) leaf.objects (leaf_with entry chain) lies.holds

  -- a leaf that was read lies there, by this entry
  record LeafOf (taken : List ℕ) (entry : ℕ × ℕ) (leaf : Leaf) : Type 0 where
    lies : LeafLies book taken leaf
    is : (leaf.number, first_page leaf.pages) ≡ entry

  leaf_took : (taken : List ℕ) (entry : ℕ × ℕ) (leaf : Leaf) → leaf_in book taken entry ≡ Ok leaf → LeafOf taken entry leaf
  leaf_took taken entry leaf e =
      let chain = then_ok (chain_from book taken entry.1) (leaf_on entry) leaf e in
      let objects = then_ok (leaf_of entry.0 chain.0) (leaf_with entry chain.0) leaf chain.2 in
      let begins = chain_takes taken entry.1 chain.0 chain.1 in
      let whole : LeafOf taken entry (record { number = entry.0; pages = chain.0.pages; objects = objects.0 }) = record {
        lies = record { payload = chain.0.payload; chain = begins.is; holds = objects.1 };
        is = ap (λ (n : ℕ). (entry.0, n)) begins.first;
      } in
      subst (λ x. LeafOf taken entry x) (ok_is _ leaf objects.2) whole

  abbrev leaves_behind : List ℕ → List (ℕ × ℕ) → Leaf → Result (List Leaf) Fault
  leaves_behind taken entries leaf = leaves_at book (leaf.pages ++ taken) entries andthen λ leaves. Ok (leaf ∷ leaves)

  abbrev leaf_and : Leaf → List Leaf → Result (List Leaf) Fault
  leaf_and leaf leaves = Ok (leaf ∷ leaves)

  pub leaves_read : (taken : List ℕ) (leaves : List Leaf) → LeavesLie book taken leaves
      → leaves_at book taken (entries_of leaves) ≡ Ok leaves
  leaves_read taken [] lie = refl
  leaves_read taken (leaf ∷ leaves) lie =
      then_is (leaf_in book taken (leaf.number, first_page leaf.pages)) leaf (leaves_behind taken (entries_of leaves))
      (leaf_reads taken leaf lie.0)
      ∙ ap (λ r. r andthen leaf_and leaf) (leaves_read (leaf.pages ++ taken) leaves lie.1)

  -- leaves that were read lie there, by these entries
  pub record LeavesOf (taken : List ℕ) (entries : List (ℕ × ℕ)) (leaves : List Leaf) : Type 0 where
    pub lie : LeavesLie book taken leaves
    pub are : entries_of leaves ≡ entries

  pub leaves_take : (taken : List ℕ) (entries : List (ℕ × ℕ)) (leaves : List Leaf)
      → leaves_at book taken entries ≡ Ok leaves → LeavesOf taken entries leaves
  leaves_take taken [] leaves e =
      subst (λ (l : List Leaf). LeavesOf taken [] l) (ok_is [] leaves e) (record { lie = tt; are = refl })
  leaves_take taken (entry ∷ entries) leaves e =
      let first = then_ok (leaf_in book taken entry) (leaves_behind taken entries) leaves e in
      let others = then_ok (leaves_at book (first.0.pages ++ taken) entries) (leaf_and first.0) leaves first.2 in
      let one = leaf_took taken entry first.0 first.1 in
      let known = leaves_take (first.0.pages ++ taken) entries others.0 others.1 in
      let whole : LeavesOf taken (entry ∷ entries) (first.0 ∷ others.0) = record {
        lie = (one.lies, known.lie);
        are = ap₂ (λ (x : ℕ × ℕ) (l : List (ℕ × ℕ)). x ∷ l) one.is known.are;
      } in
      subst (λ (l : List Leaf). LeavesOf taken (entry ∷ entries) l) (ok_is (first.0 ∷ others.0) leaves others.2) whole

  -- ---- extents

  abbrev pub told : ℕ → Root → Chain → List Leaf → Result Extent Fault
  told page root chain leaves =
      counted page root (record { number = root.number; directory = chain.pages; leaves = leaves })

  abbrev pub from_entries_on : ℕ → Root → Chain → List (ℕ × ℕ) → Result Extent Fault
  from_entries_on page root chain entries = leaves_at book chain.pages entries andthen told page root chain

  abbrev pub from_chain_on : ℕ → Root → Chain → Result Extent Fault
  from_chain_on page root chain = directory_of chain andthen from_entries_on page root chain

  abbrev pub from_root_on : ℕ → Root → Result Extent Fault
  from_root_on page root = chain_from book [] root.directory andthen from_chain_on page root

  pub extent_reads : (page : ℕ) (extent : Extent) → IsLaid book page extent → extent_at book page ≡ Ok extent
  extent_reads page extent laid =
      let root = root_in laid.bytes in
      let chain : Chain = record { pages = extent.directory; payload = laid.payload } in
      let reads : chain_from book [] root.directory ≡ Ok chain =
      ap (chain_from book []) laid.first ∙ chain_reads [] chain laid.chain in
      ap (λ o. root_at page o andthen from_root_on page) laid.there
      ∙ then_is (chain_from book [] root.directory) chain (from_chain_on page root) reads
      ∙ then_is (directory_of chain) (entries_of extent.leaves) (from_entries_on page root chain) laid.entries
      ∙ then_is (leaves_at book extent.directory (entries_of extent.leaves)) extent.leaves (told page root chain)
      (leaves_read extent.directory extent.leaves laid.leaves)
      ∙ ap (λ (n : ℕ). counted page root (record { number = n; directory = extent.directory; leaves = extent.leaves })) laid.number
      ∙ ap (λ b. cond b (Ok extent) (Err (page, rule.Count))) laid.counted

  root_there : (page : ℕ) (o : Option (List ℕ)) (extent : Extent)
      → (root_at page o andthen from_root_on page) ≡ Ok extent
      → (bytes : List ℕ) × (o ≡ Some bytes) × (from_root_on page (root_in bytes) ≡ Ok extent)
  root_there page None extent e = not_ok (page, rule.Outside) extent e
  root_there page (Some bytes) extent e = (bytes, refl, e)

  pub extent_takes : (page : ℕ) (extent : Extent) → extent_at book page ≡ Ok extent → IsLaid book page extent
  extent_takes page extent e =
      let there = root_there page (book page) extent e in
      let root = root_in there.0 in
      let chain = then_ok (chain_from book [] root.directory) (from_chain_on page root) extent there.2 in
      let entries = then_ok (directory_of chain.0) (from_entries_on page root chain.0) extent chain.2 in
      let leaves = then_ok (leaves_at book chain.0.pages entries.0) (told page root chain.0) extent entries.2 in
      let whole : Extent = record { number = root.number; directory = chain.0.pages; leaves = leaves.0 } in
      let count = passed (is_counted root whole) whole extent (page, rule.Count) leaves.2 in
      let begins = chain_takes [] root.directory chain.0 chain.1 in
      let known = leaves_take chain.0.pages entries.0 leaves.0 leaves.1 in
      let laid : IsLaid book page whole = record {
        bytes = there.0;
        there = there.1;
        number = refl;
        counted = count.0;
        first = sym begins.first;
        payload = chain.0.payload;
        chain = begins.is;
        entries = entries.1 ∙ ap (λ (l : List (ℕ × ℕ)). Ok l) (sym known.are);
        leaves = known.lie;
      } in
      subst (λ x. IsLaid book page x) count.1 laid
