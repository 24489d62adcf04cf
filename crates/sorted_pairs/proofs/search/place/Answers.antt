use Rattle.std.proofs.Common.{◌≡◌, rules}
use Rattle.std.proofs.lemmas.Fn.{always_returns_same}
use Rattle.sorted_pairs.proofs.Found.{searched}
use Rattle.sorted_pairs.proofs.search.place.Goals as goal

pub returns-clause-stands : goal.returns-clause-stands
returns-clause-stands g c =
    let facts = c.binary_search_by.ensures in
    let by_key = facts.position (λ pair. g.K.Ord.cmp pair.0 c.args.key.now) (always_returns_same _ (λ a r. r ≡ g.K.Ord.cmp a.0.now.0 c.args.key.now) _ (λ a r h called. search rules)) in
    (searched g.K.Ord.cmp g.met.K.Ord.total c.args.key.now c.args.pairs.now c.requires _ facts.bound by_key).0

pub returns-clause-fits : goal.returns-clause-fits
returns-clause-fits g c =
    let facts = c.binary_search_by.ensures in
    let by_key = facts.position (λ pair. g.K.Ord.cmp pair.0 c.args.key.now) (always_returns_same _ (λ a r. r ≡ g.K.Ord.cmp a.0.now.0 c.args.key.now) _ (λ a r h called. search rules)) in
    (searched g.K.Ord.cmp g.met.K.Ord.total c.args.key.now c.args.pairs.now c.requires _ facts.bound by_key).1
