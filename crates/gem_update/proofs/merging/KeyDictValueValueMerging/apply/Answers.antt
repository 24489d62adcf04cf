use Rattle.std.proofs.Common.{◌≡◌, true, Some, None}
use Rattle.std.specs.Result.{OnOk, IsErrOf}
use Rattle.gem_object.specs.rc_dict.Dict.{updated, puts_new}
use Rattle.gem_object.specs.rc_dict.declared.update.DictFault.TheVariants.{Key, NoMemory}
use Rattle.gem_object.specs.Order.{value_order}
use Rattle.gem_update.proofs.Order.{in_order}
use Rattle.gem_update.proofs.Answered.{dict_names, updated_ok, updated_refused, updated_refuses, updated_memory}
use Rattle.gem_update.proofs.merging.KeyDictValueValueMerging.apply.Goals as goal

pub returns-clause-updated : goal.returns-clause-updated
returns-clause-updated c =
    let after = updated value_order c.args.update c.args.self.now in
    updated_ok dict_names c.apply.result after c.apply.new.self
    (in_order (λ cmp. OnOk c.apply.result (updated cmp c.args.update c.args.self.now ≡ Some c.apply.new.self)) c.apply.ensures.applied)

pub returns-clause-refused : goal.returns-clause-refused
returns-clause-refused c =
    let after = updated value_order c.args.update c.args.self.now in
    updated_refused dict_names c.apply.result after c.apply.ensures.index
    (in_order (λ cmp. IsErrOf c.apply.result (Key 0) → updated cmp c.args.update c.args.self.now ≡ None) c.apply.ensures.absent.0)

pub returns-clause-refuses : goal.returns-clause-refuses
returns-clause-refuses c =
    let after = updated value_order c.args.update c.args.self.now in
    updated_refuses dict_names c.apply.result after
    (in_order (λ cmp. updated cmp c.args.update c.args.self.now ≡ None → IsErrOf c.apply.result (Key 0)) c.apply.ensures.absent.1)

pub returns-clause-memory : goal.returns-clause-memory
returns-clause-memory c =
    updated_memory dict_names c.apply.result (puts_new value_order c.args.update c.args.self.now ≡ true)
    (in_order (λ cmp. IsErrOf c.apply.result NoMemory → puts_new cmp c.args.update c.args.self.now ≡ true) c.apply.ensures.memory)
