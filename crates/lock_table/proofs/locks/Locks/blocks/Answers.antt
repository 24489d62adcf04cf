use Rattle.std.proofs.Common.{sym}
use Rattle.lock_table.specs.declared.lock.LockKind.TheVariants.{Write}
use Rattle.lock_table.proofs.Denied.{lowest_is_value, none_held}
use Rattle.lock_table.proofs.Request.{denied_for-found}
use Rattle.lock_table.proofs.locks.Locks.blocks.Goals as goal

pub returns-clause-value : goal.returns-clause-value
returns-clause-value c =
    sym (denied_for-found c.self.inside.held.entries c.args.self.now c.self.view_is c.args.session c.args.oid Write c.first_in_the_way.ensures.ordered _ c.first_in_the_way.ensures.first)

pub returns-clause-lowest : goal.returns-clause-lowest
returns-clause-lowest c holder held = rw (returns-clause-value c) (lowest_is_value c.args.self.now c.args.session c.args.oid holder held)

pub returns-clause-none : goal.returns-clause-none
returns-clause-none c = rw (returns-clause-value c) (none_held c.args.self.now c.args.session c.args.oid)
