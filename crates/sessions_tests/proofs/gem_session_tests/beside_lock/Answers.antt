use Rattle.std.proofs.Common.{◌∙◌, ◌≤◌, ◌<◌, length, sym, ap, subst, arith}
use Rattle.gem_meaning.specs.Events.{Told}
use Rattle.gem_session.specs.Running.{Arrives}
use Rattle.sessions_tests.proofs.Beside.{is_served, globals_there, arrives, port_of, first_of}
use Rattle.sessions_tests.proofs.gem_session_tests.beside_lock.Goals as goal

pub lock-requires-clause-serves : goal.lock-requires-clause-serves
lock-requires-clause-serves g c =
    let few = c.if-sessions-lt2.false in
    let size = ap length (c.sessions-sessions.ensures.sessions ∙ c.deref.ensures ∙ sym c.in_ok-clone.ensures.cases
    ∙ sym c.in_ok-stone.ensures.script) in
    is_served c.in_ok-stone.stone.told.opened.script 2 (omega arith) (omega (arith, few, size))

pub lock-requires-clause-there : goal.lock-requires-clause-there
lock-requires-clause-there g c =
    globals_there c.in_ok-stone.stone.told c.from_parts.result c.in_ok-stone.ensures.image c.in_ok-stone.ensures.begun
    c.from_parts.ensures

pub run_session-requires : goal.run_session-requires
run_session-requires g c =
    let same = c.sessions-sessions.ensures.sessions ∙ c.deref.ensures ∙ sym c.in_ok-clone.ensures.cases in
    let few = c.if-sessions-lt2.false in
    let size = ap length same in
    let some : 2 ≤ length c.in_ok-clone.field-0.value = omega (arith, few, size) in
    let there : 0 < length c.sessions-sessions.result.now = omega (arith, few) in
    record {
      arrives = subst (λ (t : Told). Arrives (port_of t) 1 1 c.index-sessions-0.result) (sym c.lock.ensures.events)
          (arrives c.in_ok-stone.stone.told c.in_ok-clone.field-0.value c.index-sessions-0.result c.from_parts.result
          c.lock.result c.in_ok-stone.ensures.script c.in_ok-stone.ensures.serves c.in_ok-stone.ensures.base
          c.in_ok-stone.ensures.begun some
          (rw same at (first_of c.sessions-sessions.result.now c.index-sessions-0.result c.index-sessions-0.is there)));
    }
