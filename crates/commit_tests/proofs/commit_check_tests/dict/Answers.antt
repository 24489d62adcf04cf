use Rattle.commit_tests.proofs.Samples.{no_keys, one_key, two_keys}
use Rattle.commit_tests.proofs.commit_check_tests.dict.Goals as goal

pub dict_of-requires : goal.dict_of-requires
dict_of-requires c = no_keys c.new.result.items c.new.ensures.items

pub dict_of-requires-in-1 : goal.dict_of-requires-in-1
dict_of-requires-in-1 c = one_key c.in_ok-vec-in-1.field-0.items c.in_ok-vec-in-1.ensures.items

pub dict_of-requires-in_default : goal.dict_of-requires-in_default
dict_of-requires-in_default c = two_keys c.in_ok-vec-in_default.field-0.items c.in_ok-vec-in_default.ensures.items
