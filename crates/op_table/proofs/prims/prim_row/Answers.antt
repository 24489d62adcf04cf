use Rattle.op_table.proofs.PrimRows.{prim_at-below, read_value, read_some-within, read_number}
use Rattle.op_table.proofs.prims.prim_row.Goals as goal

pub returns-in_err-checked_sub-clause-value : goal.returns-in_err-checked_sub-clause-value
returns-in_err-checked_sub-clause-value c = rw (c.from_residual.ensures, prim_at-below c.args.number c.in_err-checked_sub.ensures)

pub returns-clause-value : goal.returns-clause-value
returns-clause-value c =
    let sub = c.in_ok-checked_sub.ensures in
    rw (c.row_in.ensures, c.from.ensures) (read_value c.prim_table.result.now c.prim_table.ensures _ c.args.number sub.0 sub.1)

pub returns-clause-some : goal.returns-clause-some
returns-clause-some c =
    let sub = c.in_ok-checked_sub.ensures in
    rw (c.row_in.ensures, c.from.ensures) (read_some-within c.prim_table.result.now c.prim_table.ensures _ c.args.number sub.0 sub.1)

pub returns-clause-number : goal.returns-clause-number
returns-clause-number c =
    let sub = c.in_ok-checked_sub.ensures in
    rw (c.row_in.ensures, c.from.ensures) (read_number c.prim_table.result.now c.prim_table.ensures _ c.args.number sub.0 sub.1)
