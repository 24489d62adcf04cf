use Rattle.std.proofs.Common.{◌≡◌, ◌∙◌, false, rules}
use Rattle.st_encoder.specs.Bytes.{text_fits}
use Rattle.st_encoder.specs.Written.{IsTooLarge}
use Rattle.st_encoder.proofs.Writes.{too_large_by, TextWrote, text_stops, rest_stops, rest_wrote, wrote_passes}
use Rattle.st_encoder.proofs.writer.encode.Goals as goal

pub returns-in_err-put_body-clause-large : goal.returns-in_err-put_body-clause-large
returns-in_err-put_body-clause-large c =
    let why : IsTooLarge (text_fits c.args.compiled.now ≡ false) c.in_err-put_body.field-0.0 =
    too_large_by c.in_err-put_body.field-0.0
    (text_stops c.args.compiled.now c.params_count.result c.temps_count.result c.code.result.now
    c.new-bytes.result.items c.new-literals.result.items c.new-blocks.result.items c.params_count.ensures
    c.temps_count.ensures c.code.ensures c.new-bytes.ensures.items c.new-literals.ensures.items
    c.new-blocks.ensures.items)
    c.in_err-put_body.ensures.large in
    search rules

pub returns-in_err-put_bodies-clause-large : goal.returns-in_err-put_bodies-clause-large
returns-in_err-put_bodies-clause-large c =
    let why : IsTooLarge (text_fits c.args.compiled.now ≡ false) c.in_err-put_bodies.field-0.0 =
    too_large_by c.in_err-put_bodies.field-0.0
    (rest_stops c.args.compiled.now c.params_count.result c.temps_count.result c.code.result.now
    c.new-bytes.result.items c.new-literals.result.items c.new-blocks.result.items c.params_count.ensures
    c.temps_count.ensures c.code.ensures c.new-bytes.ensures.items c.new-literals.ensures.items
    c.new-blocks.ensures.items c.blocks-2.result.now c.blocks-2.ensures c.put_body.new.bytes.items
    c.put_body.new.literals.items c.put_body.new.blocks.items c.in_ok-put_body.ensures.ok)
    c.in_err-put_bodies.ensures.large in
    search rules

written : (c : goal.In_ok-put_bodies)
    → TextWrote c.args.compiled.now c.put_bodies.new.bytes.items c.put_bodies.new.literals.items
    c.put_bodies.new.blocks.items
written c =
    rest_wrote c.args.compiled.now c.params_count.result c.temps_count.result c.code.result.now
    c.new-bytes.result.items c.new-literals.result.items c.new-blocks.result.items c.params_count.ensures
    c.temps_count.ensures c.code.ensures c.new-bytes.ensures.items c.new-literals.ensures.items
    c.new-blocks.ensures.items c.blocks-2.result.now c.blocks-2.ensures c.put_body.new.bytes.items
    c.put_body.new.literals.items c.put_body.new.blocks.items c.in_ok-put_body.ensures.ok
    c.put_bodies.new.bytes.items c.put_bodies.new.literals.items c.put_bodies.new.blocks.items
    c.in_ok-put_bodies.ensures.ok c.in_ok-put_bodies.ensures.small

checked_written : (c : goal.In_ok-checked)
    → TextWrote c.args.compiled.now c.put_bodies.new.bytes.items c.put_bodies.new.literals.items
    c.put_bodies.new.blocks.items
checked_written c =
    rest_wrote c.args.compiled.now c.params_count.result c.temps_count.result c.code.result.now
    c.new-bytes.result.items c.new-literals.result.items c.new-blocks.result.items c.params_count.ensures
    c.temps_count.ensures c.code.ensures c.new-bytes.ensures.items c.new-literals.ensures.items
    c.new-blocks.ensures.items c.blocks-2.result.now c.blocks-2.ensures c.put_body.new.bytes.items
    c.put_body.new.literals.items c.put_body.new.blocks.items c.in_ok-put_body.ensures.ok
    c.put_bodies.new.bytes.items c.put_bodies.new.literals.items c.put_bodies.new.blocks.items
    c.in_ok-put_bodies.ensures.ok c.in_ok-put_bodies.ensures.small

pub checked-requires-clause-checked : goal.checked-requires-clause-checked
checked-requires-clause-checked c =
    wrote_passes c.args.compiled.now c.put_bodies.new.bytes.items c.put_bodies.new.literals.items
    c.put_bodies.new.blocks.items (written c)

pub returns-clause-bytes : goal.returns-clause-bytes
returns-clause-bytes c = c.in_ok-checked.ensures.bytes ∙ (checked_written c).bytes_are

pub returns-clause-literals : goal.returns-clause-literals
returns-clause-literals c = c.in_ok-checked.ensures.literals ∙ (checked_written c).literals_are

pub returns-clause-blocks : goal.returns-clause-blocks
returns-clause-blocks c = c.in_ok-checked.ensures.blocks ∙ (checked_written c).blocks_are

pub returns-clause-fits : goal.returns-clause-fits
returns-clause-fits c = (checked_written c).fits
