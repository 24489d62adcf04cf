use Rattle.std.proofs.Common.{refl}
use Rattle.prim_shared.proofs.KindCases.{of_kind, not_of_kind, not_plain, not_dictionary, not_segment, not_user, not_counter, not_bag, not_shared, not_queue}
use Rattle.prim_shared.proofs.receivers.is_of_kind.Goals as goal

pub returns-in-Plain-matches : goal.returns-in-Plain-matches
returns-in-Plain-matches c = of_kind c.in-Plain.is c.in-Plain-matches.is refl

pub returns-in_default : goal.returns-in_default
returns-in_default c = not_of_kind c.args.body.now c.in-Plain.is (not_plain c.args.body.now c.in_default.not-Plain)

pub returns-in-Dict : goal.returns-in-Dict
returns-in-Dict c = of_kind c.in-Dictionary.is c.in-Dict.is refl

pub returns-in_default-matches : goal.returns-in_default-matches
returns-in_default-matches c = not_of_kind c.args.body.now c.in-Dictionary.is (not_dictionary c.args.body.now c.in_default-matches.not-Dict)

pub returns-in-Segment-matches : goal.returns-in-Segment-matches
returns-in-Segment-matches c = of_kind c.in-Segment.is c.in-Segment-matches.is refl

pub returns-in_default-matches-2 : goal.returns-in_default-matches-2
returns-in_default-matches-2 c = not_of_kind c.args.body.now c.in-Segment.is (not_segment c.args.body.now c.in_default-matches-2.not-Segment)

pub returns-in-User-matches : goal.returns-in-User-matches
returns-in-User-matches c = of_kind c.in-User.is c.in-User-matches.is refl

pub returns-in_default-matches-3 : goal.returns-in_default-matches-3
returns-in_default-matches-3 c = not_of_kind c.args.body.now c.in-User.is (not_user c.args.body.now c.in_default-matches-3.not-User)

pub returns-in-Counter-matches : goal.returns-in-Counter-matches
returns-in-Counter-matches c = of_kind c.in-Counter.is c.in-Counter-matches.is refl

pub returns-in_default-matches-4 : goal.returns-in_default-matches-4
returns-in_default-matches-4 c = not_of_kind c.args.body.now c.in-Counter.is (not_counter c.args.body.now c.in_default-matches-4.not-Counter)

pub returns-in-Bag-matches : goal.returns-in-Bag-matches
returns-in-Bag-matches c = of_kind c.in-Bag.is c.in-Bag-matches.is refl

pub returns-in_default-matches-5 : goal.returns-in_default-matches-5
returns-in_default-matches-5 c = not_of_kind c.args.body.now c.in-Bag.is (not_bag c.args.body.now c.in_default-matches-5.not-Bag)

pub returns-in-RcDict : goal.returns-in-RcDict
returns-in-RcDict c = of_kind c.in-SharedDictionary.is c.in-RcDict.is refl

pub returns-in_default-matches-6 : goal.returns-in_default-matches-6
returns-in_default-matches-6 c = not_of_kind c.args.body.now c.in-SharedDictionary.is (not_shared c.args.body.now c.in_default-matches-6.not-RcDict)

pub returns-in-Queue-matches : goal.returns-in-Queue-matches
returns-in-Queue-matches c = of_kind c.in-Queue.is c.in-Queue-matches.is refl

pub returns-in_default-matches-7 : goal.returns-in_default-matches-7
returns-in_default-matches-7 c = not_of_kind c.args.body.now c.in-Queue.is (not_queue c.args.body.now c.in_default-matches-7.not-Queue)
