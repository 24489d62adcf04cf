use Rattle.std.proofs.Common.{sym, refl, ap, ◌∙◌, arith}
use Rattle.std.proofs.lemmas.Bool.{false≢true}
use Rattle.std.specs.Ordering.{is_lt}
use Rattle.sorted_pairs.proofs.Places.{ascends_from_next, not_ascending}
use Rattle.sorted_pairs.proofs.search.ascend.Goals as goal

pub returns-then-not-is_lt : goal.returns-then-not-is_lt
returns-then-not-is_lt g c = (
  λ no. absurd (false≢true no),
  λ ascends. absurd (not_ascending g.K.Ord.cmp c.args.pairs.now c.loop-at.at c.index-pairs-at.result c.index-pairs-at-in-loop-at.result (omega arith) (omega arith) (ap is_lt (sym c.cmp.ensures) ∙ sym c.is_lt.ensures ∙ c.if-not-is_lt.true) ascends),
)

pub returns : goal.returns
returns g c =
    (λ _. ascends_from_next g.K.Ord.cmp g.met.K.Ord.total c.args.pairs.now (λ k d within. c.loop-at.invariant k d (omega arith)), λ _. refl)
