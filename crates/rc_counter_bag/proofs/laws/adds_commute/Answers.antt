use Rattle.std.proofs.Common.{Some, sym, ap, ◌∙◌}
use Rattle.std.proofs.lemmas.Option.{same_Some}
use Rattle.std.specs.Result.{is_ok}
use Rattle.rc_counter_bag.specs.Bag.{count}
use Rattle.rc_counter_bag.proofs.Commute.{added_twice, merges_commute, merged_twice-adds}
use Rattle.rc_counter_bag.proofs.Counts.{count-added_twice}
use Rattle.rc_counter_bag.proofs.Sums.{increments_commute, merges_commute as sums_commute}
use Rattle.rc_counter_bag.proofs.laws.adds_commute.Goals as goal

pub returns-clause-increments : goal.returns-clause-increments
returns-clause-increments g c = increments_commute

pub returns-clause-merged_increments : goal.returns-clause-merged_increments
returns-clause-merged_increments g c = sums_commute

pub returns-clause-adds : goal.returns-clause-adds
returns-clause-adds g c = λ pairs first second tells. ap Some (added_twice g.T.Ord.cmp g.met.T.Ord.total pairs first second tells)

pub returns-clause-occurrences : goal.returns-clause-occurrences
returns-clause-occurrences g c = λ pairs one other first second item bag e f.
    ap (count g.T.Ord.cmp item) (sym (same_Some _ one e)) ∙ count-added_twice g.T.Ord.cmp g.met.T.Ord.total item first second pairs bag ∙ ap (count g.T.Ord.cmp item) (same_Some _ other f)

pub returns-clause-merged_adds : goal.returns-clause-merged_adds
returns-clause-merged_adds g c = λ view place first second tells. merges_commute g.T.Ord.cmp g.met.T.Ord.total tells view place first second

pub returns-clause-never_refused : goal.returns-clause-never_refused
returns-clause-never_refused g c = λ view place first second. ap is_ok (merged_twice-adds g.T.Ord.cmp g.met.T.Ord.total view place first second)
