use Rattle.seg_rights.proofs.WithGroups.{owner_greatest, other_greatest}
use Rattle.seg_rights.proofs.Greatest.{one_greatest}
use Rattle.seg_rights.proofs.rights.Rights.right_of.Goals as goal

pub returns-then-user-self-clause-greatest : goal.returns-then-user-self-clause-greatest
returns-then-user-self-clause-greatest g c = rw (c.greater.ensures, c.with_groups-right.ensures, c.as_slice.ensures) (owner_greatest g.T.PartialEq.eq c.args.self.now c.args.user c.args.groups.now c.if-user-self.true)

pub returns-then-user-self-clause-value : goal.returns-then-user-self-clause-value
returns-then-user-self-clause-value g c = one_greatest g.T.PartialEq.eq c.args.self.now c.args.user c.args.groups.now _ (returns-then-user-self-clause-greatest g c)

pub returns-else-user-self-clause-greatest : goal.returns-else-user-self-clause-greatest
returns-else-user-self-clause-greatest g c = rw (c.with_groups-right.ensures, c.as_slice.ensures) (other_greatest g.T.PartialEq.eq c.args.self.now c.args.user c.args.groups.now c.if-user-self.false)

pub returns-else-user-self-clause-value : goal.returns-else-user-self-clause-value
returns-else-user-self-clause-value g c = one_greatest g.T.PartialEq.eq c.args.self.now c.args.user c.args.groups.now _ (returns-else-user-self-clause-greatest g c)
