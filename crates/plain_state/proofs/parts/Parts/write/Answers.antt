use Rattle.std.proofs.Common.{◌∙◌, sym, ap}
use Rattle.std.proofs.lemmas.Result.{err_from_is_err_and}
use Rattle.gem_world.specs.Access.{a_write}
use Rattle.object_programs.specs.Atom.{Ask}
use Rattle.running_objects.proofs.Running.{acted_nothing}
use Rattle.plain_state.specs.Parts.{held}
use Rattle.plain_state.proofs.Touched.{keeps_touched, asked_same, same_by, write_yes, write_no, reached_by, acted_by}
use Rattle.plain_state.proofs.Replaced.{unchanged_same}
use Rattle.plain_state.proofs.parts.Parts.write.Goals as goal

pub returns-in_err-ask : goal.returns-in_err-ask
returns-in_err-ask c =
    let p = err_from_is_err_and c.from_residual.result c.from_residual.ensures.1 in
    rw (p.1, p.2) (acted_nothing (Ask a_write c.args.oid) c.args.self.now.seen c.ask.new.self.seen
    (keeps_touched c.args.self.now.seen c.ask.new.self.seen (unchanged_same c.in_err-ask.ensures.unchanged)))

pub returns-in_err-hold : goal.returns-in_err-hold
returns-in_err-hold c =
    let p = err_from_is_err_and c.from_residual-in_err-hold.result c.from_residual-in_err-hold.ensures.1 in
    rw (p.1, p.2) (acted_nothing (Ask a_write c.args.oid) c.args.self.now.seen c.hold.new.self.seen
    (keeps_touched c.args.self.now.seen c.hold.new.self.seen (same_by (asked_same c.args.self.now.seen c.args.oid)
    (c.in_err-hold.ensures.unchanged ∙ c.in_ok-ask.ensures.asked))))

pub returns-then-allowed : goal.returns-then-allowed
returns-then-allowed c = reached_by
    (write_yes c.args.self.now.seen c.args.oid (sym c.may_write-allowed.ensures ∙ c.if-allowed.true))
    (c.in_ok-hold.ensures.held ∙ ap (held c.args.oid) c.in_ok-ask.ensures.asked)

pub returns : goal.returns
returns c = acted_by (write_no c.args.self.now.seen c.args.oid (sym c.may_write-allowed.ensures ∙ c.if-allowed.false))
    c.in_ok-ask.ensures.asked
