use Rattle.std.proofs.Common.{◌≡◌, Ok, Err}
use Rattle.std.specs.Result.{IfOk, IsErrOf}
use Rattle.gem_object.specs.rc_dict.Dict.{merged}
use Rattle.gem_object.specs.rc_dict.declared.update.DictFault.TheVariants.{Key}
use Rattle.gem_object.specs.Order.{value_order}
use Rattle.gem_update.proofs.Order.{in_order}
use Rattle.gem_update.proofs.Answered.{dict_names, merged_says}
use Rattle.gem_update.proofs.merging.KeyDictValueValueMerging.merge.Goals as goal

pub returns : goal.returns
returns c =
    let view = c.args.at_view.now in
    let place = c.args.at_place.now in
    let updates = c.args.updates.now in
    merged_says dict_names c.merge.result (merged value_order value_order view place updates)
    (in_order (λ cmp. IfOk c.merge.result (λ dict. merged cmp cmp view place updates ≡ Ok dict)) c.merge.ensures.ok)
    (λ at. in_order (λ cmp. IsErrOf c.merge.result (Key at) → merged cmp cmp view place updates ≡ Err at) (c.merge.ensures.changed at).0)
