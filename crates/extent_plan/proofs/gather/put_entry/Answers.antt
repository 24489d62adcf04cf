use Rattle.std.proofs.Common.{ℕ, List, ◌++◌, ap, ◌∙◌, append_assoc}
use Rattle.body_codec.specs.Spelled.{eight_bytes}
use Rattle.extent_plan.proofs.gather.put_entry.Goals as goal

pub returns : goal.returns
returns c =
    let old : List ℕ = c.args.items.now.items in
    let bytes : List ℕ = c.in_ok-bytes.bytes.items in
    c.in_ok-append.ensures.items ∙ ap (λ (l : List ℕ). l ++ bytes) (c.in_ok-put_eight.ensures)
    ∙ append_assoc old (eight_bytes c.number.result) bytes
    ∙ ap (λ (n : ℕ). old ++ (eight_bytes n ++ bytes)) c.number.ensures.number
    ∙ ap (λ (l : List ℕ). old ++ (eight_bytes c.args.oid ++ l)) c.in_ok-bytes.ensures
