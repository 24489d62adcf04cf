use Rattle.gem_object.specs.Edits.{with_value_at}
use Rattle.gem_object.specs.declared.value.Value.TheVariants.{Ref}
use Rattle.prim_parts.proofs.Entries.{entry_told, entry_refused, entry_limits, entry_growth}
use Rattle.prim_parts.proofs.entering.entry_room.Goals as goal

pub returns-in_err-check : goal.returns-in_err-check
returns-in_err-check g c = λ object there. entry_refused c.args.key.now c.args.chosen object c.stays_small.result
    (c.stays_small.ensures object (with_value_at c.args.key.now (Ref c.args.chosen) object.body) there
    (entry_limits c.args.key.now c.args.chosen _ object c.pair_put-change.result c.in-Some.ensures there c.pair_put-change.ensures))
    c.in_err-check.ensures c.from_residual.ensures.1

pub returns : goal.returns
returns g c = λ object there. entry_told c.args.key.now c.args.chosen object c.stays_small.result
    (c.stays_small.ensures object (with_value_at c.args.key.now (Ref c.args.chosen) object.body) there
    (entry_limits c.args.key.now c.args.chosen _ object c.pair_put-change.result c.in-Some.ensures there c.pair_put-change.ensures))
    c.pair_growth.result (entry_growth c.args.key.now _ object c.pair_growth.result c.in-Some.ensures there c.pair_growth.ensures)
    c.in_ok-check.ensures
