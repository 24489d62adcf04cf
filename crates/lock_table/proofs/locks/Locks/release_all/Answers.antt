use Rattle.std.proofs.Common.{◌==◌, not, ap, ◌∙◌}
use Rattle.std.specs.FinMap.{from_entries}
use Rattle.lock_table.specs.Locks.{after_left}
use Rattle.lock_table.specs.declared.lock.Holding.{Holding}
use Rattle.lock_table.proofs.Held.{held-retain, held_some}
use Rattle.lock_table.proofs.locks.Locks.release_all.Goals as goal

pub returns-clause-locks : goal.returns-clause-locks
returns-clause-locks c =
    ap from_entries c.remove_session.ensures
    ∙ held-retain (λ (holding : Holding). not (holding.session == c.args.session)) c.self.inside.held.entries
    ∙ ap (λ locks. after_left locks c.args.session) c.self.view_is

pub returns-clause-held : goal.returns-clause-held
returns-clause-held c =
    rw (c.holds_any-held.ensures, ← c.self.view_is) (held_some c.args.session c.self.inside.held.entries)
