use Rattle.std.proofs.Common.{ℕ, List, Ok, Err, ap, sym, ◌∙◌}
use Rattle.std.proofs.lemmas.List.{length-drop}
use Rattle.body_codec.specs.Stored.{IsStored}
use Rattle.body_codec.specs.Spelled.{spelled_object}
use Rattle.body_codec.specs.ReadingBodies.{object_at}
use Rattle.body_codec.proofs.Readers.{object_reads}
use Rattle.body_codec.proofs.Answered.{read_of}
use Rattle.extent_pages.specs.declared.fault.PageRule.TheVariants as rule
use Rattle.extent_pages.specs.Contents.{with_rule}
use Rattle.extent_pages.proofs.leaf.read_body.Goals as goal

pub overflow_sub-result : goal.overflow_sub-result
overflow_sub-result c = (c.in-Err-Bad.ensures.fault c.in-Err-Bad.at c.in-Err-Bad.field-0-1
    (ap (λ f. Err f) c.in-Err-Bad.field-0-is)).0.inside

pub returns-in-Ok : goal.returns-in-Ok
returns-in-Ok c =
    let read = read_of (IsStored 0) spelled_object (object_at 0) (object_reads 0) c.args.bytes.now c.in-Ok.object c.in-Ok.size
    c.in-Ok.ensures.read in
    ap (with_rule rule.Object) read ∙ ap (λ (l : List ℕ). Ok (c.in-Ok.object, l)) (sym c.split_at.ensures.back)

pub returns-in-Err-Bad : goal.returns-in-Err-Bad
returns-in-Err-Bad c =
    let fault = (c.in-Err-Bad.ensures.fault c.in-Err-Bad.at c.in-Err-Bad.field-0-1 (ap (λ f. Err f) c.in-Err-Bad.field-0-is)).0 in
    ap (with_rule rule.Object) fault.fails
    ∙ ap (λ (n : ℕ). Err (n, rule.Object)) (length-drop c.in-Err-Bad.at c.args.bytes.now)
