use Rattle.std.proofs.Common.{◌≡◌, ◌++◌, ◌∷◌, [], ◌∙◌}
use Rattle.std.proofs.lemmas.Result.{err_from_is_err_and}
use Rattle.body_codec.specs.ReadingBodies.{pair_at}
use Rattle.body_codec.proofs.Equal.{same_put}
use Rattle.body_codec.proofs.Given.{pair_new}
use Rattle.body_codec.proofs.Loop.{goes_on, ends, is_done}
use Rattle.body_codec.proofs.read_lists.read_pairs.Goals as goal

pub returns-in_err-key : goal.returns-in_err-key
returns-in_err-key c =
    let p = err_from_is_err_and c.from_residual.result c.from_residual.ensures.1 in
    rw (p.1, p.2) (ends pair_at c.loop.pairs c.args.count c.loop.counter c.loop.rest.now _
    c.loop.invariant c.in_err-key.field-0.0 c.loop-test.true c.in_err-key.ensures)

pub loop-preserved : goal.loop-preserved
loop-preserved c =
    let key = c.in_ok-key.key in
    let value = c.in_ok-key.value in
    let more : c.put.new.self ≡ c.loop.pairs ++ (key, value) ∷ [] = c.in_ok-put.ensures.put
    ∙ same_put key value c.loop.pairs
    ∙ pair_new c.loop.pairs c.loop.rest.now key value c.in_ok-key.after.now c.in_ok-key.ensures in
    rw more (goes_on pair_at c.loop.pairs c.args.count c.loop.counter c.loop.rest.now _
    c.loop.invariant (key, value) c.in_ok-key.after.now c.loop-test.true c.in_ok-key.ensures)

pub returns : goal.returns
returns c = is_done pair_at c.loop.pairs c.args.count c.loop.counter c.loop.rest.now _
    c.loop.invariant c.loop-test.false
