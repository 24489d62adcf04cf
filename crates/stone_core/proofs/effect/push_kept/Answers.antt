use Rattle.std.proofs.Common.{◌++◌, ap, ◌∙◌}
use Rattle.std.proofs.lemmas.Result.{on_ok_weaker}
use Rattle.stone_core.proofs.Kept.{kept_by_names}
use Rattle.stone_core.proofs.effect.push_kept.Goals as goal

pub returns : goal.returns
returns c = on_ok_weaker c.push_found.result
    (λ is. is ∙ ap (λ more. c.args.changed.now.items ++ more) (kept_by_names c.args.done.now _ _ _ _
    c.as_slice-2.ensures.in_order c.as_slice.ensures.entries c.as_slice-2.ensures.entries c.as_slice-3.ensures.entries
    (c.deref.ensures.value ∙ c.in_ok-names.ensures)))
    c.push_found.ensures
