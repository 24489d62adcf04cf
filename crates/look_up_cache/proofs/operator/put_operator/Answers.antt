use Rattle.look_up_cache.specs.Operators.{IsAnswered}
use Rattle.look_up_cache.proofs.Again.{all_added}
use Rattle.look_up_cache.proofs.operator.put_operator.Goals as goal

pub returns : goal.returns
returns c = λ seen answered all. all_added (IsAnswered seen) c.args.operators.now.items c.put_at.new.places.items
    c.args.operator c.put_at.ensures.held answered all
