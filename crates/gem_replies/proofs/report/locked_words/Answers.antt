use Rattle.std.proofs.Common.{◌++◌, ap₂, ◌∙◌, codes}
use Rattle.std.proofs.lemmas.Result.{IfOk-weaker}
use Rattle.gem_object.specs.gem_value.Oid.{oid_text}
use Rattle.gem_replies.specs.Line.{kind_name, state_name}
use Rattle.gem_replies.proofs.Written.{six_pieces}
use Rattle.gem_replies.proofs.report.locked_words.Goals as goal

pub returns : goal.returns
returns c =
    let named = ap₂ (λ k s. codes "locked " ++ (k ++ (codes " " ++ (oid_text c.args.oid ++ (codes " " ++ s))))) c.kind_name-kind.ensures c.state_name-state.ensures in
    let pieces = six_pieces (codes "locked ") (kind_name c.args.kind) (codes " ") (oid_text c.args.oid) (codes " ") (state_name c.args.clean) in
    IfOk-weaker c.format.result _ _ (λ words is. is ∙ named ∙ pieces) c.format.ensures.ok
