use Rattle.std.proofs.Common.{◌∙◌, sym}
use Rattle.std.proofs.lemmas.Result.{err_from_is_err_and}
use Rattle.gem_world.specs.Access.{a_read}
use Rattle.object_programs.specs.Atom.{Ask}
use Rattle.running_objects.proofs.Running.{acted_nothing}
use Rattle.plain_state.proofs.Touched.{keeps_touched, read_yes, read_no, reached_by, acted_by}
use Rattle.plain_state.proofs.Replaced.{unchanged_same}
use Rattle.plain_state.proofs.parts.Parts.read.Goals as goal

pub returns-in_err-ask : goal.returns-in_err-ask
returns-in_err-ask c =
    let p = err_from_is_err_and c.from_residual.result c.from_residual.ensures.1 in
    rw (p.1, p.2) (acted_nothing (Ask a_read c.args.oid) c.args.self.now.seen c.ask.new.self.seen
    (keeps_touched c.args.self.now.seen c.ask.new.self.seen (unchanged_same c.in_err-ask.ensures.unchanged)))

pub returns-then-allowed : goal.returns-then-allowed
returns-then-allowed c = reached_by (read_yes c.args.self.now.seen c.args.oid (sym c.may_read-allowed.ensures ∙ c.if-allowed.true))
    c.in_ok-ask.ensures.asked

pub returns : goal.returns
returns c = acted_by (read_no c.args.self.now.seen c.args.oid (sym c.may_read-allowed.ensures ∙ c.if-allowed.false))
    c.in_ok-ask.ensures.asked
