use Rattle.std.proofs.Common.{◌≡◌, List, ℕ, ◌+◌, ◌*◌, length, Ok, option_map, IsTrue, sym, ap, ◌∙◌}
use Rattle.std.proofs.lemmas.Result.{err_from_is_err_and}
use Rattle.gem_disk.specs.declared.disk.Which.TheVariants as which
use Rattle.gem_disk.specs.Disk.{reads}
use Rattle.gem_record.specs.Stored.{chain_pages}
use Rattle.extent_pages.specs.Pages.{pages_of, Chain}
use Rattle.extent_pages.specs.Extent.{root_in}
use Rattle.extent_pages.proofs.Extents.{page_missing, leaves_exit, counts_exit, counts_fault, firsts_of, stored_by, as_many}
use Rattle.extent_pages.proofs.extent.read_extent.Goals as goal

pub returns-in_default-clause-extent : goal.returns-in_default-clause-extent
returns-in_default-clause-extent g c tell =
    page_missing (pages_of (reads (g.D.Disk.past c.args.disk.now) which.Extent)) c.args.page
    (sym (c.in_ok-bytes.ensures.page tell) ∙ ap (option_map (λ b. b.items)) c.in_default.is)

pub returns-in_err-leaves-clause-extent : goal.returns-in_err-leaves-clause-extent
returns-in_err-leaves-clause-extent g c tell =
    let p = err_from_is_err_and c.from_residual-in_err-leaves.result c.from_residual-in_err-leaves.ensures.1 in
    rw (p.1, p.2) (leaves_exit (IsTrue g.D.Disk.tells) (g.D.Disk.past c.args.disk.now) (g.D.Disk.past c.read_page.new.disk)
    (g.D.Disk.past c.read_chain.new.disk) c.args.page c.in-Some.bytes.items c.root_in-root.result c.in_ok-marks.marks.items
    c.read_chain.new.marks.items c.in_ok-chain.chain c.deref-2.result.now
    (sym (c.in_ok-bytes.ensures.page tell) ∙ ap (option_map (λ b. b.items)) c.in-Some.is)
    (c.root_in-root.ensures ∙ ap root_in c.deref.ensures.value)
    (c.in_ok-bytes.ensures.past tell) (c.in_ok-chain.ensures.past tell) c.in_ok-marks.ensures.marks
    c.in_ok-chain.ensures.chain c.in_ok-chain.ensures.marked
    (c.in_ok-entries.ensures.entries ∙ ap (λ (l : List (ℕ × ℕ)). Ok l) (sym c.deref-2.ensures.value)) tell
    c.in_err-leaves.field-0.0 c.in_err-leaves.ensures.leaves)

pub returns-then-is_counted-clause-extent : goal.returns-then-is_counted-clause-extent
returns-then-is_counted-clause-extent g c tell =
    counts_exit (IsTrue g.D.Disk.tells) (g.D.Disk.past c.args.disk.now) (g.D.Disk.past c.read_page.new.disk)
    (g.D.Disk.past c.read_chain.new.disk) c.args.page c.in-Some.bytes.items c.root_in-root.result c.in_ok-marks.marks.items
    c.read_chain.new.marks.items c.in_ok-chain.chain c.deref-2.result.now
    (sym (c.in_ok-bytes.ensures.page tell) ∙ ap (option_map (λ b. b.items)) c.in-Some.is)
    (c.root_in-root.ensures ∙ ap root_in c.deref.ensures.value)
    (c.in_ok-bytes.ensures.past tell) (c.in_ok-chain.ensures.past tell) c.in_ok-marks.ensures.marks
    c.in_ok-chain.ensures.chain c.in_ok-chain.ensures.marked
    (c.in_ok-entries.ensures.entries ∙ ap (λ (l : List (ℕ × ℕ)). Ok l) (sym c.deref-2.ensures.value)) tell
    c.in_ok-leaves.leaves.items c.in_ok-leaves.ensures.leaves c.chain.inside.pages.items
    (ap (λ (p : Chain). p.pages) c.chain.view_is) (sym c.is_counted.ensures ∙ c.if-is_counted.true)

pub returns-clause-extent : goal.returns-clause-extent
returns-clause-extent g c tell =
    counts_fault (IsTrue g.D.Disk.tells) (g.D.Disk.past c.args.disk.now) (g.D.Disk.past c.read_page.new.disk)
    (g.D.Disk.past c.read_chain.new.disk) c.args.page c.in-Some.bytes.items c.root_in-root.result c.in_ok-marks.marks.items
    c.read_chain.new.marks.items c.in_ok-chain.chain c.deref-2.result.now
    (sym (c.in_ok-bytes.ensures.page tell) ∙ ap (option_map (λ b. b.items)) c.in-Some.is)
    (c.root_in-root.ensures ∙ ap root_in c.deref.ensures.value)
    (c.in_ok-bytes.ensures.past tell) (c.in_ok-chain.ensures.past tell) c.in_ok-marks.ensures.marks
    c.in_ok-chain.ensures.chain c.in_ok-chain.ensures.marked
    (c.in_ok-entries.ensures.entries ∙ ap (λ (l : List (ℕ × ℕ)). Ok l) (sym c.deref-2.ensures.value)) tell
    c.in_ok-leaves.leaves.items c.in_ok-leaves.ensures.leaves c.chain.inside.pages.items
    (ap (λ (p : Chain). p.pages) c.chain.view_is) (sym c.is_counted.ensures ∙ c.if-is_counted.false)

pub returns-then-is_counted-clause-stored : goal.returns-then-is_counted-clause-stored
returns-then-is_counted-clause-stored g c =
    let numbers = c.in_ok-leaves.ensures.numbers ∙ ap firsts_of c.deref-2.ensures.value in
    let pages_are : c.chain.inside.pages.items ≡ c.in_ok-chain.chain.pages = ap (λ (p : Chain). p.pages) c.chain.view_is in
    record {
      leaves = stored_by c.in_ok-entries.entries.items c.in_ok-leaves.leaves.items c.in_ok-entries.ensures.stored
          c.in_ok-leaves.ensures.stored numbers;
      directory = ap (λ (l : List ℕ). length l) pages_are ∙ c.in_ok-chain.ensures.filled ∙ ap chain_pages c.in_ok-entries.ensures.long
          ∙ ap (λ (n : ℕ). chain_pages (4 + 12 * n)) (sym (as_many c.in_ok-entries.entries.items c.in_ok-leaves.leaves.items numbers));
    }
