use Rattle.std.proofs.Common.{◌∙◌, ap, true, inl, inr}
use Rattle.std.proofs.lemmas.Result.{err_from_is_err_and}
use Rattle.object_programs.specs.Fixed.{fixed_by}
use Rattle.object_programs.specs.Guard.{is_segment_at}
use Rattle.running_objects.specs.Seen.{Seen}
use Rattle.plain_state.specs.Parts.{asked}
use Rattle.plain_state.specs.Writes.{moved_to, is_changeable}
use Rattle.session_view.specs.Calls.{segment_due}
use Rattle.session_view.proofs.Ends.{write_refused, write_allowed, writable_there, segment_refused, segment_allowed}
use Rattle.session_view.proofs.view.View.move_to.Goals as goal

pub returns-in_err-reserve : goal.returns-in_err-reserve
returns-in_err-reserve c = record {
  ends = let p = err_from_is_err_and c.from_residual.result c.from_residual.ensures.1 in
      rw (p.1, p.2) (inl c.reserve.ensures.unchanged);
}

pub returns-then-not-may_write : goal.returns-then-not-may_write
returns-then-not-may_write c = record {
  ends = let x = c.args.self.now.state.seen in
      write_refused x c.reserve.new.self.seen c.reserve.ensures.unchanged c.args.oid c.may_write.result c.may_write.ensures
      (segment_due c.args.oid c.args.segment x) c.ask.new.self.seen c.if-not-may_write.true c.ask.ensures.asked;
}

pub returns-then-not-may_write-2 : goal.returns-then-not-may_write-2
returns-then-not-may_write-2 c = record {
  ends = let x = c.args.self.now.state.seen in
      write_allowed x c.reserve.new.self.seen c.reserve.ensures.unchanged c.args.oid c.may_write.result c.may_write.ensures
      (segment_due c.args.oid c.args.segment x) c.if-not-may_write.false
      ∙ segment_refused x c.reserve.new.self.seen c.reserve.ensures.unchanged c.args.oid c.args.segment c.right_in.result
      c.right_in.ensures c.may_write-2.result c.may_write-2.ensures.value c.ask-then-not-may_write-2-2.new.self.seen c.if-not-may_write-2.true
      (c.ask-then-not-may_write-2-2.ensures.asked ∙ ap (asked c.args.segment) c.ask-then-not-may_write-2.ensures.asked);
}

pub change_segment-requires-clause-allowed : goal.change_segment-requires-clause-allowed
change_segment-requires-clause-allowed c =
    writable_there c.args.self.now.state.seen c.reserve.new.self.seen c.reserve.ensures.unchanged c.args.oid
    c.may_write.result c.may_write.ensures c.if-not-may_write.false

pub change_segment-requires-clause-changeable : goal.change_segment-requires-clause-changeable
change_segment-requires-clause-changeable c =
    ap (is_changeable c.args.oid) c.reserve.ensures.unchanged ∙ c.requires.changeable

pub change_segment-requires-clause-segment : goal.change_segment-requires-clause-segment
change_segment-requires-clause-segment c =
    ap (λ (s : Seen). is_segment_at (fixed_by s.setting s.world) c.args.segment) c.reserve.ensures.unchanged ∙ c.requires.segment

pub returns-in_err-change_segment : goal.returns-in_err-change_segment
returns-in_err-change_segment c = record {
  ends = let p = err_from_is_err_and c.from_residual-in_err-change_segment.result c.from_residual-in_err-change_segment.ensures.1 in
      rw (p.1, p.2) (inr (c.in_err-change_segment.ensures.asked
      ∙ ap (λ (s : Seen). asked c.args.segment (asked c.args.oid s)) c.reserve.ensures.unchanged));
}

pub returns : goal.returns
returns c = record {
  ends = let x = c.args.self.now.state.seen in (
    write_allowed x c.reserve.new.self.seen c.reserve.ensures.unchanged c.args.oid c.may_write.result c.may_write.ensures
        (segment_due c.args.oid c.args.segment x) c.if-not-may_write.false
        ∙ segment_allowed x c.reserve.new.self.seen c.reserve.ensures.unchanged c.args.oid c.args.segment c.right_in.result
        c.right_in.ensures c.may_write-2.result c.may_write-2.ensures.value c.if-not-may_write-2.false,
    c.in_ok-change_segment.ensures.changed ∙ ap (moved_to c.args.oid c.args.segment) c.reserve.ensures.unchanged,
  );
}
