use Rattle.std.proofs.Common.{sym}
use Rattle.look_up_cache.proofs.Operators.{answered_at, found_number}
use Rattle.look_up_cache.proofs.operator.answered_at.Goals as goal

pub returns-then-found_primitive : goal.returns-then-found_primitive
returns-then-found_primitive g c = λ seen all. answered_at c.in_ok-operator.operator seen c.args.methods.now.items
    c.args.at c.in_ok-entry.entry.now c.in_ok-start.start c.args.selector.now (sym c.in_ok-entry.ensures)
    c.in_ok-start.ensures (c.is_for.ensures.start c.if-is_for.true) c.in_ok-operator.ensures
    (c.is_for.ensures.selector c.if-is_for.true) (found_number c.in_ok-operator.operator c.in_ok-entry.entry.now c.number.result c.number.ensures
    (c.found_primitive.ensures c.if-found_primitive.true)) all
