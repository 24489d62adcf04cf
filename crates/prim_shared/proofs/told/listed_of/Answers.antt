use Rattle.std.proofs.Common.{ap, ◌∙◌, ℕ, List, Some, map}
use Rattle.gem_object.specs.texts.Bytes.{Bytes as Text}
use Rattle.gem_object.specs.declared.value.Value.{Value}
use Rattle.gem_object.specs.declared.value.Value.TheVariants.{Sym}
use Rattle.prim_rules.specs.Bags.{items_of}
use Rattle.prim_shared.proofs.KindCases.{not_user, not_bag, not_shared, not_queue}
use Rattle.prim_shared.proofs.Tells.{listed_so, none_listed}
use Rattle.prim_shared.proofs.told.listed_of.Goals as goal

pub returns-in_ok-symbols_of-in-User : goal.returns-in_ok-symbols_of-in-User
returns-in_ok-symbols_of-in-User c = listed_so c.in-Groups.is c.in-User.is (ap Some
    (c.in_ok-symbols_of-in-User.ensures ∙ ap (λ (texts : List Text). map Sym texts) c.as_slice.ensures))

pub returns-in_default : goal.returns-in_default
returns-in_default c = none_listed c.args.body.now c.in-Groups.is (not_user c.args.body.now c.in_default.not-User)

pub returns-in_ok-items_of-in-Bag : goal.returns-in_ok-items_of-in-Bag
returns-in_ok-items_of-in-Bag c = listed_so c.in-Items.is c.in-Bag.is (ap Some
    (c.in_ok-items_of-in-Bag.ensures ∙ ap (λ (pairs : List (Value × ℕ)). items_of pairs) c.pairs.ensures.pairs))

pub returns-in_default-body : goal.returns-in_default-body
returns-in_default-body c = none_listed c.args.body.now c.in-Items.is (not_bag c.args.body.now c.in_default-body.not-Bag)

pub returns-in_ok-keys_of-in-RcDict : goal.returns-in_ok-keys_of-in-RcDict
returns-in_ok-keys_of-in-RcDict c = listed_so c.in-Keys.is c.in-RcDict.is (ap Some
    (c.in_ok-keys_of-in-RcDict.ensures
    ∙ ap (λ (pairs : List (Value × Value)). map (λ (pair : Value × Value). pair.0) pairs) c.pairs-in-RcDict.ensures.pairs))

pub returns-in_default-body-2 : goal.returns-in_default-body-2
returns-in_default-body-2 c =
    none_listed c.args.body.now c.in-Keys.is (not_shared c.args.body.now c.in_default-body-2.not-RcDict)

pub returns-in_ok-waiting_in-in-Queue : goal.returns-in_ok-waiting_in-in-Queue
returns-in_ok-waiting_in-in-Queue c = listed_so c.in-Waiting.is c.in-Queue.is (ap Some c.in_ok-waiting_in-in-Queue.ensures)

pub returns-in_default-body-3 : goal.returns-in_default-body-3
returns-in_default-body-3 c =
    none_listed c.args.body.now c.in-Waiting.is (not_queue c.args.body.now c.in_default-body-3.not-Queue)
