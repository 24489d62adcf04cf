use Rattle.std.proofs.Common.{◌∙◌, sym, refl, inl, arith}
use Rattle.std.proofs.lemmas.Result.{err_from_is_err_and}
use Rattle.session_view.specs.Calls.{names_due}
use Rattle.session_view.proofs.Ends.{size_refused, size_allowed, names_refused, names_allowed}
use Rattle.session_view.proofs.view.View.make.Goals as goal

pub returns-then-not-is_small-clause-ends : goal.returns-then-not-is_small-clause-ends
returns-then-not-is_small-clause-ends c =
    let x = c.args.self.now.state.seen in
    size_refused c.args.body x x (names_due x) c.is_small.result c.is_small.ensures c.if-not-is_small.true refl

pub returns-then-next_counter-ge-COUNTER_LIMIT-clause-ends : goal.returns-then-next_counter-ge-COUNTER_LIMIT-clause-ends
returns-then-next_counter-ge-COUNTER_LIMIT-clause-ends c =
    let x = c.args.self.now.state.seen in
    size_allowed c.args.body x (names_due x) c.is_small.result c.is_small.ensures c.if-not-is_small.false
    ∙ names_refused x (omega (arith, c.next_counter.ensures, c.if-next_counter-ge-COUNTER_LIMIT.true))

pub add-requires-clause-limits : goal.add-requires-clause-limits
add-requires-clause-limits c = sym c.is_small.ensures ∙ c.if-not-is_small.false

pub add-requires-clause-fits : goal.add-requires-clause-fits
add-requires-clause-fits c = c.requires.fits (omega (arith, c.next_counter.ensures, c.if-next_counter-ge-COUNTER_LIMIT.false))

pub returns-in_err-add-clause-ends : goal.returns-in_err-add-clause-ends
returns-in_err-add-clause-ends c =
    let p = err_from_is_err_and c.from_residual.result c.from_residual.ensures.1 in
    rw (p.1, p.2) (inl c.in_err-add.ensures.unchanged)

pub returns-clause-ends : goal.returns-clause-ends
returns-clause-ends c =
    let x = c.args.self.now.state.seen in (
      size_allowed c.args.body x (names_due x) c.is_small.result c.is_small.ensures c.if-not-is_small.false
          ∙ names_allowed x (omega (arith, c.next_counter.ensures, c.if-next_counter-ge-COUNTER_LIMIT.false)),
      c.in_ok-add.ensures.added,
    )
