use Rattle.std.proofs.Common.{◌≡◌, length, sym, ap, ◌∙◌, arith}
use Rattle.extent_pages.specs.Pages.{Chain}
use Rattle.extent_pages.proofs.Payloads.{objects_are, objects_spelled, nothing_left}
use Rattle.extent_pages.proofs.leaf.read_leaf.Goals as goal

pub returns-in-Ok-default-empty-clause-stored : goal.returns-in-Ok-default-empty-clause-stored
returns-in-Ok-default-empty-clause-stored c =
    let read = c.in-Ok-default-empty in
    let none : length read.field-0-1.now ≡ 0 = omega (arith, read.len_below) in
    objects_are c.args.leaf c.deref-payload.result.now read.objects.items read.field-0-1.now
    c.are_bytes.ensures (nothing_left read.field-0-1.now none) read.ensures

pub returns-in-Ok-default-empty-clause-spelled : goal.returns-in-Ok-default-empty-clause-spelled
returns-in-Ok-default-empty-clause-spelled c =
    let read = c.in-Ok-default-empty in
    let none : length read.field-0-1.now ≡ 0 = omega (arith, read.len_below) in
    sym (ap (λ (p : Chain). p.payload) c.chain.view_is) ∙ sym c.deref-payload.ensures.value ∙ objects_spelled c.args.leaf c.deref-payload.result.now read.objects.items read.field-0-1.now
    c.are_bytes.ensures (nothing_left read.field-0-1.now none) read.ensures
