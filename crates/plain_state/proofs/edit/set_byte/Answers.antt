use Rattle.std.proofs.Common.{◌∙◌}
use Rattle.body_growth.proofs.Changes.{changed_as, byte_set}
use Rattle.plain_state.proofs.edit.set_byte.Goals as goal
use Rattle.plain_state.proofs.edit.set_byte.Goals.{then-at-byte_count, else-at-byte_count}

pub returns-clause-changed : goal.returns-clause-changed
returns-clause-changed c = elim c.if-at-byte_count.branch [
  | then-at-byte_count w ↦ changed_as (w.body-is ∙ w.set_byte.ensures) (byte_set c.none.ensures c.args.at c.args.byte c.args.body.now)
  | else-at-byte_count w ↦ changed_as w.body-is (c.none.ensures c.args.body.now)
]
