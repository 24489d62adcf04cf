use Rattle.std.proofs.Common.{◌++◌, ap₂, ◌∙◌, codes}
use Rattle.std.proofs.lemmas.Result.{IfOk-weaker}
use Rattle.std.specs.Fmt.{decimal}
use Rattle.gem_object.specs.gem_value.Oid.{oid_text}
use Rattle.gem_replies.specs.Line.{kind_name}
use Rattle.gem_replies.proofs.Written.{eight_pieces}
use Rattle.gem_replies.proofs.report.denied_words.Goals as goal

pub returns : goal.returns
returns c =
    let named = ap₂ (λ k h. codes "denied " ++ (k ++ (codes " " ++ (oid_text c.args.oid ++ (codes " by session " ++ (decimal c.args.holder ++ (codes " " ++ h)))))))
    c.kind_name-kind.ensures c.kind_name-held.ensures in
    let pieces = eight_pieces (codes "denied ") (kind_name c.args.kind) (codes " ") (oid_text c.args.oid) (codes " by session ") (decimal c.args.holder) (codes " ") (kind_name c.args.held) in
    IfOk-weaker c.format.result _ _ (λ words is. is ∙ named ∙ pieces) c.format.ensures.ok
