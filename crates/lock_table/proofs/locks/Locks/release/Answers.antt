use Rattle.std.proofs.Common.{ap, sym, ◌∙◌}
use Rattle.std.specs.Option.{is_some}
use Rattle.lock_table.specs.Locks.{holding, after_dropped, kind_held}
use Rattle.lock_table.proofs.Held.{held-remove, get-held}
use Rattle.lock_table.proofs.locks.Locks.release.Goals as goal

pub returns-clause-locks : goal.returns-clause-locks
returns-clause-locks c =
    held-remove c.self.inside.held.entries c.remove.new.self.entries (holding c.args.session c.args.oid) c.remove.ensures.updates.0
    ∙ ap (λ locks. after_dropped locks c.args.session c.args.oid) c.self.view_is

pub returns-clause-held : goal.returns-clause-held
returns-clause-held c =
    let same = c.is_some.ensures ∙ ap is_some (c.remove.ensures.value ∙ sym (get-held c.self.inside.held.entries (holding c.args.session c.args.oid)) ∙ ap (λ locks. kind_held locks c.args.session c.args.oid) c.self.view_is) in
    (λ held. sym same ∙ held, λ held. same ∙ held)
