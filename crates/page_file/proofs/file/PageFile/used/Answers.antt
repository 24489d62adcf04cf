use Rattle.std.proofs.Common.{◌≡◌, ℕ, ◌+◌, ◌-◌, ◌^◌, Some, min, length, ap, ◌∙◌, arith}
use Rattle.extent_plan.specs.Totals.{pages_at}
use Rattle.page_file.proofs.Using.{used_some}
use Rattle.page_file.proofs.file.PageFile.used.Goals as goal

pub returns-in-Some : goal.returns-in-Some
returns-in-Some c past before rest =
    let places = ap pages_at c.deref.ensures.value in
    let sum : c.saturating_add.result ≡ min (min (pages_at c.in-Some.current.leaves.items) (2 ^ 64 - 1)
    + length c.in-Some.current.directory.items) (2 ^ 64 - 1) =
    omega (arith, places, c.count_pages.ensures, c.len-directory.ensures, c.saturating_add.ensures, c.deref.ensures) in
    ap (λ (n : ℕ). Some n) sum ∙ used_some past c.args.self.now before c.in-Some.current rest c.in-Some.is
