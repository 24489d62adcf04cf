use Rattle.std.proofs.lemmas.Result.{on_ok_weaker}
use Rattle.gem_object.specs.References.{reference_of}
use Rattle.gem_object.proofs.Joined.{given_after}
use Rattle.gem_object.proofs.body.Body.push_references.Goals as goal

pub returns-in-Plain : goal.returns-in-Plain
returns-in-Plain c = rw c.in-Plain.is (on_ok_weaker c.push_all.result
    (given_after reference_of c.in-Plain.values c.as_slice.result.now _ _ c.as_slice.ensures)
    c.push_all.ensures)

pub returns-in-Bag : goal.returns-in-Bag
returns-in-Bag c = rw c.in-Bag.is (on_ok_weaker c.push_all-in-Bag.result
    (given_after (λ pair. reference_of pair.0) c.in-Bag.bag c.pairs.result.now _ _ c.pairs.ensures.pairs)
    c.push_all-in-Bag.ensures)
