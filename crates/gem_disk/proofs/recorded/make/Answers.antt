use Rattle.std.proofs.Common.{◌≡◌, ℕ, List, length, take, drop, ◌∙◌, ap, arith}
use Rattle.std.proofs.lemmas.List.{take_min}
use Rattle.std.proofs.lemmas.Grind.{common_steps}
use Rattle.gem_disk.specs.Disk.{placed}
use Rattle.gem_disk.proofs.Placed.{undone_write}
use Rattle.gem_disk.proofs.recorded.make.Goals as goal

pub returns-in_ok-put-in-Write-clause-lost : goal.returns-in_ok-put-in-Write-clause-lost
returns-in_ok-put-in-Write-clause-lost c =
    let old = c.args.held.now.items in
    let lost = c.in_ok-lost-in-Write.lost.items in
    let is : c.in_ok-lost-in-Write.lost.items ≡ take (length c.args.bytes.now) (drop c.args.at c.args.held.now.items) = grind (arith, common_steps, take_min) in
    ap (λ (l : List ℕ). take (length old) (placed c.args.at lost l)) c.in_ok-put-in-Write.ensures.ok
    ∙ undone_write c.args.at c.args.bytes.now old lost c.requires is
