use Rattle.std.proofs.Common.{◌∙◌, ◌≤◌, ◌<◌, length, sym, ap, arith}
use Rattle.sessions_tests.proofs.Arrived.{arrives_second, second_of}
use Rattle.sessions_tests.proofs.gate_tests.ends.Goals as goal

pub run_session-requires : goal.run_session-requires
run_session-requires g c =
    let same = c.sessions-sessions.ensures.sessions ∙ c.deref.ensures ∙ sym c.in_ok-clone.ensures.cases in
    let few = c.if-sessions-lt2.false in
    let size = ap length same in
    let some : 2 ≤ length c.in_ok-clone.field-0.value = omega (arith, few, size) in
    let there : 1 < length c.sessions-sessions.result.now = omega (arith, few) in
    record {
      arrives = arrives_second c.in_ok-stone.stone.told c.in_ok-clone.field-0.value c.index-sessions-1.result
          c.in_ok-stone.ensures.script c.in_ok-stone.ensures.serves c.in_ok-stone.ensures.base
          c.in_ok-stone.ensures.begun some
          (rw same at (second_of c.sessions-sessions.result.now c.index-sessions-1.result c.index-sessions-1.is there));
    }
