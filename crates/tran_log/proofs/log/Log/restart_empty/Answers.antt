use Rattle.std.proofs.Common.{◌≡◌, ℕ, subst, arith}
use Rattle.tran_log.specs.Resting.{IsAtRest}
use Rattle.tran_log.proofs.Restarting.{nothing_done, reads_before, is_empty, gate_written, reads_gate, empty_again}
use Rattle.tran_log.proofs.log.Log.restart_empty.Goals as goal

pub returns-then-self-eq0-clause-any_moment : goal.returns-then-self-eq0-clause-any_moment
returns-then-self-eq0-clause-any_moment g c logged tells given =
    nothing_done (g.D.Disk.past c.args.disk.now) logged c.args.self.now given

pub returns-then-self-eq0-clause-reads : goal.returns-then-self-eq0-clause-reads
returns-then-self-eq0-clause-reads g c logged tells given =
    reads_before (g.D.Disk.past c.args.disk.now) logged c.args.self.now given

pub returns-then-self-eq0-clause-emptied : goal.returns-then-self-eq0-clause-emptied
returns-then-self-eq0-clause-emptied g c logged tells given =
    let zero : c.args.self.now ≡ 0 = omega (arith, c.self.view_is, c.if-self-eq0.true) in
    is_empty (g.D.Disk.past c.args.disk.now) logged c.args.self.now given zero

pub returns-in_err-write_through-clause-any_moment : goal.returns-in_err-write_through-clause-any_moment
returns-in_err-write_through-clause-any_moment g c logged tells given =
    let same : c.args.self.now ≡ c.self.inside.end = omega (arith, c.self.view_is) in
    let rest = subst (λ (n : ℕ). IsAtRest (g.D.Disk.past c.args.disk.now) logged n) same given in
    gate_written (g.D.Disk.past c.args.disk.now) logged c.self.inside.end rest c.if-self-eq0.false (g.D.Disk.past c.write_through.new.disk)
    (c.in_err-write_through.ensures.any_moment tells rest.durable)

pub returns-in_err-write_through-clause-reads : goal.returns-in_err-write_through-clause-reads
returns-in_err-write_through-clause-reads g c logged tells given =
    let same : c.args.self.now ≡ c.self.inside.end = omega (arith, c.self.view_is) in
    let rest = subst (λ (n : ℕ). IsAtRest (g.D.Disk.past c.args.disk.now) logged n) same given in
    reads_gate (g.D.Disk.past c.args.disk.now) logged c.self.inside.end rest c.if-self-eq0.false (g.D.Disk.past c.write_through.new.disk)
    (c.in_err-write_through.ensures.torn tells)

pub returns-clause-any_moment : goal.returns-clause-any_moment
returns-clause-any_moment g c logged tells given =
    let same : c.args.self.now ≡ c.self.inside.end = omega (arith, c.self.view_is) in
    let rest = subst (λ (n : ℕ). IsAtRest (g.D.Disk.past c.args.disk.now) logged n) same given in
    gate_written (g.D.Disk.past c.args.disk.now) logged c.self.inside.end rest c.if-self-eq0.false (g.D.Disk.past c.write_through.new.disk)
    (c.in_ok-write_through.ensures.any_moment tells rest.durable)

pub returns-clause-reads : goal.returns-clause-reads
returns-clause-reads g c logged tells given =
    let same : c.args.self.now ≡ c.self.inside.end = omega (arith, c.self.view_is) in
    let rest = subst (λ (n : ℕ). IsAtRest (g.D.Disk.past c.args.disk.now) logged n) same given in
    reads_gate (g.D.Disk.past c.args.disk.now) logged c.self.inside.end rest c.if-self-eq0.false (g.D.Disk.past c.write_through.new.disk)
    (c.in_ok-write_through.ensures.torn tells)

pub returns-clause-emptied : goal.returns-clause-emptied
returns-clause-emptied g c logged tells given =
    empty_again (g.D.Disk.past c.args.disk.now) logged c.args.self.now given (g.D.Disk.past c.write_through.new.disk)
    (c.in_ok-write_through.ensures.written tells)
