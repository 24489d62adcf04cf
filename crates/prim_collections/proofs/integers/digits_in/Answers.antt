use Rattle.std.proofs.Common.{sym, refl}
use Rattle.prim_collections.proofs.DigitsRead.{read_none, read_more, read_all}
use Rattle.prim_collections.proofs.integers.digits_in.Goals as goal

pub loop-byte-init : goal.loop-byte-init
loop-byte-init c = read_none c.args.text.now

pub loop-byte-preserved : goal.loop-byte-preserved
loop-byte-preserved c = read_more c.args.text.now c.loop-byte.byte-index c.loop-byte.number _ _ c.loop-byte.invariant
    c.loop-byte-test.true refl (sym c.if-not-is_ascii_digit.ensures.value)
    (rw (c.saturating_mul.ensures, c.from.ensures) at c.saturating_add-number.ensures)

pub returns : goal.returns
returns c = read_all c.args.text.now c.loop-byte.byte-index c.loop-byte.number c.loop-byte.invariant
    c.loop-byte-test.false c.if-is_empty.ensures
