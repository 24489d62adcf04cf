use Rattle.body_growth.proofs.Changes.{unchanged, pair_not_put, pair_set, pair_new}
use Rattle.body_growth.proofs.edits.pair_put.Goals as goal

pub returns-in-Some : goal.returns-in-Some
returns-in-Some c = pair_set c.args.key.now c.args.body.now c.in-Some.old.now c.args.value.now c.stored_bytes.result
    c.stored_bytes-in-Some.result c.in-Some.ensures c.stored_bytes.ensures c.stored_bytes-in-Some.ensures

pub returns-in-None : goal.returns-in-None
returns-in-None c = pair_new c.args.key.now c.args.body.now c.in-Dict.field-0 c.in-Dict.is c.args.value.now c.pair_bytes.result
    c.in-None.ensures c.pair_bytes.ensures

pub returns-in_default : goal.returns-in_default
returns-in_default c = unchanged c.none.ensures (pair_not_put c.args.key.now c.args.body.now c.args.value.now c.in_default.not-Dict)
