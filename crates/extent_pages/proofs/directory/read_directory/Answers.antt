use Rattle.std.proofs.Common.{◌≡◌, length, sym, ap, ◌∙◌, arith}
use Rattle.extent_pages.specs.Pages.{Chain}
use Rattle.extent_pages.proofs.Payloads.{entries_are, entries_fill, nothing_left}
use Rattle.extent_pages.proofs.directory.read_directory.Goals as goal

pub returns-in-Ok-default-empty-clause-stored : goal.returns-in-Ok-default-empty-clause-stored
returns-in-Ok-default-empty-clause-stored c =
    let read = c.in-Ok-default-empty in
    entries_are c.deref-payload.result.now read.entries.items read.field-0-1.now c.are_bytes.ensures
    read.ensures

pub returns-in-Ok-default-empty-clause-long : goal.returns-in-Ok-default-empty-clause-long
returns-in-Ok-default-empty-clause-long c =
    let read = c.in-Ok-default-empty in
    let none : length read.field-0-1.now ≡ 0 = omega (arith, read.len_below) in
    ap length (sym (ap (λ (p : Chain). p.payload) c.chain.view_is) ∙ sym c.deref-payload.ensures.value) ∙ entries_fill c.deref-payload.result.now read.entries.items read.field-0-1.now c.are_bytes.ensures
    (nothing_left read.field-0-1.now none) read.ensures
