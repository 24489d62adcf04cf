use Rattle.std.proofs.Common.{◌≡◌, rules}
use Rattle.std.specs.Ordering.{nat_cmp}
use Rattle.std.proofs.lemmas.Cmp.{nat_cmp_total}
use Rattle.std.proofs.lemmas.Fn.{always_returns_same}
use Rattle.sorted_pairs.proofs.Found.{searched}
use Rattle.kept_set.proofs.reach.place_of.Goals as goal

pub returns-clause-stands : goal.returns-clause-stands
returns-clause-stands c =
    let facts = c.binary_search_by_key.ensures in
    let by_key = facts.position (λ entry. entry.0) (always_returns_same _ (λ a r. r ≡ a.0.now.0) _ (λ a r h called. search rules)) in
    (searched nat_cmp nat_cmp_total c.args.name c.args.made.now c.requires _ facts.bound by_key).0

pub returns-clause-fits : goal.returns-clause-fits
returns-clause-fits c =
    let facts = c.binary_search_by_key.ensures in
    let by_key = facts.position (λ entry. entry.0) (always_returns_same _ (λ a r. r ≡ a.0.now.0) _ (λ a r h called. search rules)) in
    (searched nat_cmp nat_cmp_total c.args.name c.args.made.now c.requires _ facts.bound by_key).1
