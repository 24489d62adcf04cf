use Rattle.std.proofs.Common.{Some, ap}
use Rattle.std.specs.Result.{is_ok}
use Rattle.rc_dict.proofs.Commute.{put_twice}
use Rattle.rc_dict.proofs.Merges.{merged_twice-apart, merges_commute}
use Rattle.rc_dict.proofs.laws.adds_commute.Goals as goal

pub returns-clause-puts : goal.returns-clause-puts
returns-clause-puts g c = λ pairs one other x y apart. ap Some (put_twice g.K.Ord.cmp g.met.K.Ord.total pairs one other x y apart)

pub returns-clause-merges : goal.returns-clause-merges
returns-clause-merges g c = λ view place first second tells dict apart ok other.
    merges_commute g.K.Ord.cmp g.met.K.Ord.total g.T.Ord.cmp view place dict tells first second apart ok other

pub returns-clause-merges_stand : goal.returns-clause-merges_stand
returns-clause-merges_stand g c = λ view place first second dict apart ok other.
    ap is_ok (merged_twice-apart g.K.Ord.cmp g.met.K.Ord.total g.T.Ord.cmp view place dict first second apart ok other)
