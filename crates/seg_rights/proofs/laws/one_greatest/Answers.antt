use Rattle.std.proofs.Common.{sym, subst}
use Rattle.seg_rights.specs.Rights.{IsGreatestRight}
use Rattle.seg_rights.proofs.Greatest.{one_greatest, greatest_right-is}
use Rattle.seg_rights.proofs.laws.one_greatest.Goals as goal

pub returns : goal.returns
returns g c rights user groups right =
    let eq = g.T.PartialEq.eq in
    (one_greatest eq rights user groups right, λ is. subst (IsGreatestRight eq rights user groups) (sym is) (greatest_right-is eq rights user groups))
