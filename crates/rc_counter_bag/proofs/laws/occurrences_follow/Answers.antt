use Rattle.std.proofs.Common.{sym, ap, ◌∙◌}
use Rattle.std.proofs.lemmas.Option.{same_Some}
use Rattle.rc_counter_bag.specs.Bag.{count}
use Rattle.rc_counter_bag.proofs.Counts.{count-with_one_more, count-with_one_less, count-refused, refused-from_count}
use Rattle.rc_counter_bag.proofs.Kept.{IsBag-updated}
use Rattle.rc_counter_bag.proofs.laws.occurrences_follow.Goals as goal

pub returns-clause-add : goal.returns-clause-add
returns-clause-add g c = λ pairs more added item bag e. ap (count g.T.Ord.cmp item) (sym (same_Some _ more e)) ∙ count-with_one_more g.T.Ord.cmp g.met.T.Ord.total item added pairs bag

pub returns-clause-removal : goal.returns-clause-removal
returns-clause-removal g c = λ pairs less removed item bag e. count-with_one_less g.T.Ord.cmp g.met.T.Ord.total item removed pairs less bag e

pub returns-clause-refusal : goal.returns-clause-refusal
returns-clause-refusal g c = λ pairs removed bag. (count-refused g.T.Ord.cmp removed pairs, refused-from_count g.T.Ord.cmp removed pairs bag)

pub returns-clause-bag : goal.returns-clause-bag
returns-clause-bag g c = IsBag-updated g.T.Ord.cmp g.met.T.Ord.total
