use Rattle.std.proofs.Common.{Err, inl, inr, ap, subst, sym, ◌∙◌}
use Rattle.body_codec.specs.Stored.{IsStored}
use Rattle.body_codec.specs.Spelled.{spelled_object}
use Rattle.body_codec.specs.Reading.{Fails}
use Rattle.body_codec.specs.ReadingBodies.{object_at}
use Rattle.body_codec.proofs.Given.{as_bytes}
use Rattle.body_codec.proofs.Readers.{object_reads}
use Rattle.body_codec.proofs.Answered.{shorter, flaw_within, is_read, read_again, fault_is, none_told}
use Rattle.body_codec.proofs.read_objects.read_object.Goals as goal

pub overflow_sub-result : goal.overflow_sub-result
overflow_sub-result c = shorter (IsStored 0) spelled_object (object_at 0) (object_reads 0) c.args.bytes.now c.in-Ok.object c.in-Ok.rest.now c.in-Ok.ensures

pub fault_of-requires : goal.fault_of-requires
fault_of-requires c flaw is = flaw_within (IsStored 0) spelled_object (object_at 0) (object_reads 0) c.args.bytes.now flaw
    (subst (λ e. Fails e (object_at 0 c.args.bytes.now)) is c.in-Err.ensures)

pub returns-in-Ok-clause-read : goal.returns-in-Ok-clause-read
returns-in-Ok-clause-read c = is_read (IsStored 0) spelled_object (object_at 0) (object_reads 0) c.args.bytes.now
    (as_bytes c.args.bytes.now c.type_inv.bytes) c.in-Ok.object c.in-Ok.rest.now c.in-Ok.ensures

pub returns-in-Ok-clause-reads : goal.returns-in-Ok-clause-reads
returns-in-Ok-clause-reads c y size is = inl (read_again (IsStored 0) spelled_object (object_at 0) (object_reads 0) c.args.bytes.now
    (as_bytes c.args.bytes.now c.type_inv.bytes) c.in-Ok.object c.in-Ok.rest.now c.in-Ok.ensures y size is)

pub returns-in-Err-clause-fault : goal.returns-in-Err-clause-fault
returns-in-Err-clause-fault c at broken told = fault_is (IsStored 0) spelled_object (object_at 0) (object_reads 0) c.args.bytes.now
    c.in-Err.error c.in-Err.ensures at broken (ap Err (sym c.fault_of.ensures) ∙ told)

pub returns-in-Err-clause-reads : goal.returns-in-Err-clause-reads
returns-in-Err-clause-reads c y size is = inr (ap Err c.fault_of.ensures ∙ none_told (IsStored 0) spelled_object (object_at 0) (object_reads 0) c.args.bytes.now
    c.in-Err.error c.in-Err.ensures y size is)
