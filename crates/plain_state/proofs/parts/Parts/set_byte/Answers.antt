use Rattle.std.proofs.Common.{◌∙◌, sym, arith}
use Rattle.std.proofs.lemmas.Bool.{lt-ltb, le-ltb}
use Rattle.std.proofs.lemmas.Result.{err_from_is_err_and}
use Rattle.gem_object.specs.Edits.{with_byte}
use Rattle.plain_state.specs.Edit.{edited_by}
use Rattle.plain_state.specs.declared.edit.Edit.TheVariants.{SetByte}
use Rattle.plain_state.proofs.Slots.{byte_set, byte_lacks, no_byte, edited_nothing, edited_as}
use Rattle.plain_state.proofs.SlotPuts.{edited_absent}
use Rattle.plain_state.proofs.parts.Parts.set_byte.Goals as goal

pub returns-then-not-has_byte-clause-edited : goal.returns-then-not-has_byte-clause-edited
returns-then-not-has_byte-clause-edited c = no_byte c.args.self.now.seen c.args.oid c.args.at c.args.byte c.requires
    (sym c.has_byte.ensures ∙ c.if-not-has_byte.true)

pub returns-then-byte-ge128-clause-edited : goal.returns-then-byte-ge128-clause-edited
returns-then-byte-ge128-clause-edited c = byte_lacks c.args.self.now.seen c.args.oid c.args.at c.args.byte c.requires
    (sym c.has_byte.ensures ∙ c.if-not-has_byte.false) (le-ltb c.args.byte 128 (omega (arith, c.if-byte-ge128.true)))

pub returns-in_err-change-clause-edited : goal.returns-in_err-change-clause-edited
returns-in_err-change-clause-edited c =
    let p = err_from_is_err_and c.from_residual.result c.from_residual.ensures.1 in
    rw (p.1, p.2) (edited_nothing c.args.oid (with_byte c.args.at c.args.byte) c.in_err-change.ensures.unchanged)

pub returns-clause-edited : goal.returns-clause-edited
returns-clause-edited c = edited_as c.args.oid (with_byte c.args.at c.args.byte)
    (byte_set c.args.self.now.seen c.args.oid c.args.at c.args.byte c.requires
    (sym c.has_byte.ensures ∙ c.if-not-has_byte.false) (lt-ltb c.args.byte 128 (omega (arith, c.if-byte-ge128.false))))
    c.in_ok-change.ensures.edited

pub returns-clause-absent : goal.returns-clause-absent
returns-clause-absent c = λ absent. c.in_ok-change.ensures.edited
    ∙ edited_absent c.args.self.now.seen c.args.oid (edited_by (SetByte c.args.at c.args.byte)) absent
