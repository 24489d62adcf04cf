use Rattle.std.proofs.Common.{◌∙◌, ap, None, true, inl, inr}
use Rattle.std.proofs.lemmas.Result.{err_from_is_err_and}
use Rattle.plain_state.specs.Parts.{asked}
use Rattle.plain_state.specs.Writes.{changed_to, is_changeable, accepts_body}
use Rattle.session_view.specs.Calls.{size_due}
use Rattle.session_view.proofs.Ends.{write_refused, write_allowed, writable_there, size_refused, size_allowed}
use Rattle.session_view.proofs.view.View.change.Goals as goal

pub returns-in_err-reserve : goal.returns-in_err-reserve
returns-in_err-reserve c = record {
  ends = let p = err_from_is_err_and c.from_residual.result c.from_residual.ensures.1 in
      rw (p.1, p.2) (inl c.reserve.ensures.unchanged);
}

pub returns-then-not-may_write : goal.returns-then-not-may_write
returns-then-not-may_write c = record {
  ends = let x = c.args.self.now.state.seen in
      write_refused x c.reserve.new.self.seen c.reserve.ensures.unchanged c.args.oid c.may_write.result c.may_write.ensures
      (size_due c.args.body (asked c.args.oid x) None) c.ask.new.self.seen c.if-not-may_write.true c.ask.ensures.asked;
}

pub returns-then-not-is_small : goal.returns-then-not-is_small
returns-then-not-is_small c = record {
  ends = let x = c.args.self.now.state.seen in
      write_allowed x c.reserve.new.self.seen c.reserve.ensures.unchanged c.args.oid c.may_write.result c.may_write.ensures
      (size_due c.args.body (asked c.args.oid x) None) c.if-not-may_write.false
      ∙ size_refused c.args.body (asked c.args.oid x) c.ask-then-not-is_small.new.self.seen None c.is_small.result c.is_small.ensures
      c.if-not-is_small.true (c.ask-then-not-is_small.ensures.asked ∙ ap (asked c.args.oid) c.reserve.ensures.unchanged);
}

pub change_body-requires-clause-allowed : goal.change_body-requires-clause-allowed
change_body-requires-clause-allowed c =
    writable_there c.args.self.now.state.seen c.reserve.new.self.seen c.reserve.ensures.unchanged c.args.oid
    c.may_write.result c.may_write.ensures c.if-not-may_write.false

pub change_body-requires-clause-changeable : goal.change_body-requires-clause-changeable
change_body-requires-clause-changeable c =
    ap (is_changeable c.args.oid) c.reserve.ensures.unchanged ∙ c.requires.changeable

pub change_body-requires-clause-fits : goal.change_body-requires-clause-fits
change_body-requires-clause-fits c =
    ap (accepts_body c.args.oid c.args.body) c.reserve.ensures.unchanged ∙ c.requires.fits

pub returns-in_err-change_body : goal.returns-in_err-change_body
returns-in_err-change_body c = record {
  ends = let p = err_from_is_err_and c.from_residual-in_err-change_body.result c.from_residual-in_err-change_body.ensures.1 in
      rw (p.1, p.2) (inr (c.in_err-change_body.ensures.asked ∙ ap (asked c.args.oid) c.reserve.ensures.unchanged));
}

pub returns : goal.returns
returns c = record {
  ends = let x = c.args.self.now.state.seen in (
    write_allowed x c.reserve.new.self.seen c.reserve.ensures.unchanged c.args.oid c.may_write.result c.may_write.ensures
        (size_due c.args.body (asked c.args.oid x) None) c.if-not-may_write.false
        ∙ size_allowed c.args.body (asked c.args.oid x) None c.is_small.result c.is_small.ensures c.if-not-is_small.false,
    c.in_ok-change_body.ensures.changed ∙ ap (changed_to c.args.oid c.args.body) c.reserve.ensures.unchanged,
  );
}
