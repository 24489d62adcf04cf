use Rattle.std.proofs.Common.{refl, ap, ◌∙◌}
use Rattle.std.specs.FinMap.{from_entries}
use Rattle.lock_table.specs.Locks.{holding}
use Rattle.lock_table.proofs.Denied.{none_from_not_some}
use Rattle.lock_table.proofs.Held.{held-insert}
use Rattle.lock_table.proofs.Request.{denied_from_answers, kind_held-entries, granted_kind, granted_locks, denied_for-found}
use Rattle.lock_table.proofs.locks.Locks.request.Goals as goal

pub returns-in-Some-clause-answer : goal.returns-in-Some-clause-answer
returns-in-Some-clause-answer c = (
  denied_for-found c.self.inside.held.entries c.args.self.now c.self.view_is c.args.session c.args.oid c.args.kind c.first_in_the_way.ensures.ordered _ c.first_in_the_way.ensures.first ∙ c.in-Some.is,
  refl,
)

pub returns-in_default-insert-clause-answer : goal.returns-in_default-insert-clause-answer
returns-in_default-insert-clause-answer c = (
  denied_for-found c.self.inside.held.entries c.args.self.now c.self.view_is c.args.session c.args.oid c.args.kind c.first_in_the_way.ensures.ordered _ c.first_in_the_way.ensures.first ∙ none_from_not_some _ c.in_default.not-Some,
  kind_held-entries c.self.inside.held.entries c.args.self.now c.self.view_is c.args.session c.args.oid c.args.kind ∙ c.in_default-insert.ensures.absent,
  ap from_entries c.in_default-insert.ensures.err ∙ c.self.view_is,
)

pub returns-clause-answer : goal.returns-clause-answer
returns-clause-answer c = (
  denied_for-found c.self.inside.held.entries c.args.self.now c.self.view_is c.args.session c.args.oid c.args.kind c.first_in_the_way.ensures.ordered _ c.first_in_the_way.ensures.first ∙ none_from_not_some _ c.in_default.not-Some,
  granted_kind c.self.inside.held.entries c.args.self.now c.self.view_is c.args.session c.args.oid c.args.kind c.kind_granted-granted.result c.kind_granted-granted.ensures,
  granted_locks c.self.inside.held.entries c.args.self.now c.self.view_is c.args.session c.args.oid c.args.kind c.insert.new.self.entries c.kind_granted-granted.result c.kind_granted-granted.ensures
      (held-insert c.self.inside.held.entries c.insert.new.self.entries (holding c.args.session c.args.oid) c.kind_granted-granted.result c.in-Ok.ensures.updates.0),
)

pub returns-in-Some-clause-denied : goal.returns-in-Some-clause-denied
returns-in-Some-clause-denied c = denied_from_answers _ _ _ _ _ _ (returns-in-Some-clause-answer c)

pub returns-in_default-insert-clause-denied : goal.returns-in_default-insert-clause-denied
returns-in_default-insert-clause-denied c = denied_from_answers _ _ _ _ _ _ (returns-in_default-insert-clause-answer c)

pub returns-clause-denied : goal.returns-clause-denied
returns-clause-denied c = denied_from_answers _ _ _ _ _ _ (returns-clause-answer c)
