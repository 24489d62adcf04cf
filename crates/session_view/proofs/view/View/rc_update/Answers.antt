use Rattle.std.proofs.Common.{◌≡◌, ◌∙◌, ap, Some, None, inl, inr, rules}
use Rattle.std.proofs.lemmas.Result.{err_from_is_err_and}
use Rattle.plain_state.specs.Parts.{asked}
use Rattle.plain_state.specs.Writes.{body_after}
use Rattle.session_view.specs.Calls.{due_before, due_after}
use Rattle.session_view.proofs.Ends.{write_refused, write_allowed, large_refused, large_allowed, writable_there, size_refused, size_allowed, body_fits, due_here, updated_here}
use Rattle.session_view.proofs.view.View.rc_update.Goals as goal

pub returns-in_err-reserve : goal.returns-in_err-reserve
returns-in_err-reserve c = record {
  ends = let p = err_from_is_err_and c.from_residual.result c.from_residual.ensures.1 in
      rw (p.1, p.2) (inl c.reserve.ensures.unchanged);
}

pub returns-then-not-may_write : goal.returns-then-not-may_write
returns-then-not-may_write c = record {
  ends = let x = c.args.self.now.state.seen in
      write_refused x c.reserve.new.self.seen c.reserve.ensures.unchanged c.args.oid c.may_write.result c.may_write.ensures
      (due_before c.args.oid x (due_after c.args.oid (body_after c.args.oid c.args.update x) x)) c.ask.new.self.seen c.if-not-may_write.true c.ask.ensures.asked;
}

pub returns-then-is_large : goal.returns-then-is_large
returns-then-is_large c = record {
  ends = let x = c.args.self.now.state.seen in
      let y = c.reserve.new.self.seen in
      let after = (due_after c.args.oid (body_after c.args.oid c.args.update x) x) in
      write_allowed x y c.reserve.ensures.unchanged c.args.oid c.may_write.result c.may_write.ensures
      (due_before c.args.oid x after) c.if-not-may_write.false
      ∙ large_refused x y c.reserve.ensures.unchanged c.args.oid c.is_large.result c.is_large.ensures
      after c.ask-then-is_large.new.self.seen c.if-is_large.true c.ask-then-is_large.ensures.asked;
}

pub returns-in_err-body : goal.returns-in_err-body
returns-in_err-body c = record {
  ends = let p = err_from_is_err_and c.from_residual-in_err-body.result c.from_residual-in_err-body.ensures.1 in
      rw (p.1, p.2) (inl c.reserve.ensures.unchanged);
}

pub returns-then-not-is_small : goal.returns-then-not-is_small
returns-then-not-is_small c = record {
  ends = let is : Some c.in-Some.body ≡ body_after c.args.oid c.args.update c.reserve.new.self.seen = search rules in
      let x = c.args.self.now.state.seen in
      let y = c.reserve.new.self.seen in
      write_allowed x y c.reserve.ensures.unchanged c.args.oid c.may_write.result c.may_write.ensures
      (due_before c.args.oid x (due_after c.args.oid (body_after c.args.oid c.args.update x) x)) c.if-not-may_write.false
      ∙ large_allowed x y c.reserve.ensures.unchanged c.args.oid c.is_large.result c.is_large.ensures
      (due_after c.args.oid (body_after c.args.oid c.args.update x) x) c.if-is_large.false
      ∙ due_here x y c.reserve.ensures.unchanged c.args.oid c.args.update c.in-Some.body is
      ∙ size_refused c.in-Some.body (asked c.args.oid x) c.ask-then-not-is_small.new.self.seen None c.is_small.result c.is_small.ensures
      c.if-not-is_small.true (c.ask-then-not-is_small.ensures.asked ∙ ap (asked c.args.oid) c.reserve.ensures.unchanged);
}

pub change_by-requires-clause-allowed : goal.change_by-requires-clause-allowed
change_by-requires-clause-allowed c =
    writable_there c.args.self.now.state.seen c.reserve.new.self.seen c.reserve.ensures.unchanged c.args.oid
    c.may_write.result c.may_write.ensures c.if-not-may_write.false

pub change_by-requires-clause-fits : goal.change_by-requires-clause-fits
change_by-requires-clause-fits c =
    let is : Some c.in-Some.body ≡ body_after c.args.oid c.args.update c.reserve.new.self.seen = search rules in
    body_fits c.args.self.now.state.seen c.reserve.new.self.seen c.reserve.ensures.unchanged c.args.oid c.args.update
    c.in-Some.body is c.requires

pub returns-in_err-change_by : goal.returns-in_err-change_by
returns-in_err-change_by c = record {
  ends = let p = err_from_is_err_and c.from_residual-in_err-change_by.result c.from_residual-in_err-change_by.ensures.1 in
      rw (p.1, p.2) (inr (c.in_err-change_by.ensures.asked ∙ ap (asked c.args.oid) c.reserve.ensures.unchanged));
}

pub returns : goal.returns
returns c = record {
  ends = let is : Some c.in-Some.body ≡ body_after c.args.oid c.args.update c.reserve.new.self.seen = search rules in
      let x = c.args.self.now.state.seen in
      let y = c.reserve.new.self.seen in (
        write_allowed x y c.reserve.ensures.unchanged c.args.oid c.may_write.result c.may_write.ensures
            (due_before c.args.oid x (due_after c.args.oid (body_after c.args.oid c.args.update x) x)) c.if-not-may_write.false
            ∙ large_allowed x y c.reserve.ensures.unchanged c.args.oid c.is_large.result c.is_large.ensures
            (due_after c.args.oid (body_after c.args.oid c.args.update x) x) c.if-is_large.false
            ∙ due_here x y c.reserve.ensures.unchanged c.args.oid c.args.update c.in-Some.body is
            ∙ size_allowed c.in-Some.body (asked c.args.oid x) None c.is_small.result c.is_small.ensures c.if-not-is_small.false,
        updated_here x y c.reserve.ensures.unchanged c.args.oid c.args.update c.in-Some.body is
            c.change_by.new.self.seen c.in_ok-change_by.ensures.changed,
      );
}
