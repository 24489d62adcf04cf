use Rattle.std.proofs.Common.{◌≡◌, drop}
use Rattle.seg_rights.specs.WithGroups.{with_groups}
use Rattle.seg_rights.proofs.rights.with_groups.Given as goal

-- what is left takes the greatest so far to the greatest of all
abbrev pub invariant-loop-name : goal.invariant-loop-name
invariant-loop-name g l =
    with_groups g.T.PartialEq.eq l.groups (drop l.name-index l.given) l.greatest ≡ with_groups g.T.PartialEq.eq l.groups l.given l.fn.right
