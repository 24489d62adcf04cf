use Rattle.std.proofs.Common.{◌≡◌, ◌+◌, ◌++◌, ℕ, length, subst, sym, arith}
use Rattle.gem_disk.specs.Runs.{LeavesOnly}
use Rattle.tran_log.specs.Resting.{IsAtRest, HoldsEither, ReadsEither, MayChain, added}
use Rattle.tran_log.proofs.Appending.{first_write, both_writes, rests_again, reads_first, reads_last}
use Rattle.tran_log.proofs.log.Log.append_chain.Goals as goal

pub returns-in_err-write_through-clause-any_moment : goal.returns-in_err-write_through-clause-any_moment
returns-in_err-write_through-clause-any_moment g c logged more tells given =
    let old = g.D.Disk.past c.args.disk.now in
    let new = g.D.Disk.past c.write_through.new.disk in
    let bytes = c.args.chain.now in
    let same : c.args.self.now ≡ c.self.inside.end = omega (arith, c.self.view_is) in
    subst (λ (n : ℕ). MayChain old n bytes logged more → LeavesOnly old new (HoldsEither old logged (added n more))) (sym same)
    (λ may. first_write old c.self.inside.end bytes logged more may new
    (c.in_err-write_through.ensures.any_moment tells may.at_rest.durable)) given

pub returns-in_err-write_through-clause-reads : goal.returns-in_err-write_through-clause-reads
returns-in_err-write_through-clause-reads g c logged more tells given =
    let old = g.D.Disk.past c.args.disk.now in
    let new = g.D.Disk.past c.write_through.new.disk in
    let bytes = c.args.chain.now in
    let same : c.args.self.now ≡ c.self.inside.end = omega (arith, c.self.view_is) in
    subst (λ (n : ℕ). MayChain old n bytes logged more → ReadsEither new logged (added n more)) (sym same)
    (λ may. reads_first old c.self.inside.end bytes logged more may new (c.in_err-write_through.ensures.torn tells)) given

pub returns-in_err-write_through-2-clause-any_moment : goal.returns-in_err-write_through-2-clause-any_moment
returns-in_err-write_through-2-clause-any_moment g c logged more tells given =
    let old = g.D.Disk.past c.args.disk.now in
    let mid = g.D.Disk.past c.write_through.new.disk in
    let new = g.D.Disk.past c.write_through-2.new.disk in
    let bytes = c.args.chain.now in
    let same : c.args.self.now ≡ c.self.inside.end = omega (arith, c.self.view_is) in
    let first = c.in_ok-write_through.ensures.written tells in
    subst (λ (n : ℕ). MayChain old n bytes logged more → LeavesOnly old new (HoldsEither old logged (added n more))) (sym same)
    (λ may. both_writes old c.self.inside.end bytes logged more may mid first new
    (c.in_ok-write_through.ensures.any_moment tells may.at_rest.durable)
    (c.in_err-write_through-2.ensures.any_moment tells first.durable)) given

pub returns-in_err-write_through-2-clause-reads : goal.returns-in_err-write_through-2-clause-reads
returns-in_err-write_through-2-clause-reads g c logged more tells given =
    let old = g.D.Disk.past c.args.disk.now in
    let mid = g.D.Disk.past c.write_through.new.disk in
    let new = g.D.Disk.past c.write_through-2.new.disk in
    let bytes = c.args.chain.now in
    let same : c.args.self.now ≡ c.self.inside.end = omega (arith, c.self.view_is) in
    let first = c.in_ok-write_through.ensures.written tells in
    subst (λ (n : ℕ). MayChain old n bytes logged more → ReadsEither new logged (added n more)) (sym same)
    (λ may. reads_last old c.self.inside.end bytes logged more may mid first new
    (c.in_err-write_through-2.ensures.torn tells)) given

pub returns-clause-any_moment : goal.returns-clause-any_moment
returns-clause-any_moment g c logged more tells given =
    let old = g.D.Disk.past c.args.disk.now in
    let mid = g.D.Disk.past c.write_through.new.disk in
    let new = g.D.Disk.past c.write_through-2.new.disk in
    let bytes = c.args.chain.now in
    let same : c.args.self.now ≡ c.self.inside.end = omega (arith, c.self.view_is) in
    let first = c.in_ok-write_through.ensures.written tells in
    subst (λ (n : ℕ). MayChain old n bytes logged more → LeavesOnly old new (HoldsEither old logged (added n more))) (sym same)
    (λ may. both_writes old c.self.inside.end bytes logged more may mid first new
    (c.in_ok-write_through.ensures.any_moment tells may.at_rest.durable)
    (c.in_ok-write_through-2.ensures.any_moment tells first.durable)) given

pub returns-clause-reads : goal.returns-clause-reads
returns-clause-reads g c logged more tells given =
    let old = g.D.Disk.past c.args.disk.now in
    let mid = g.D.Disk.past c.write_through.new.disk in
    let new = g.D.Disk.past c.write_through-2.new.disk in
    let bytes = c.args.chain.now in
    let same : c.args.self.now ≡ c.self.inside.end = omega (arith, c.self.view_is) in
    let first = c.in_ok-write_through.ensures.written tells in
    subst (λ (n : ℕ). MayChain old n bytes logged more → ReadsEither new logged (added n more)) (sym same)
    (λ may. reads_last old c.self.inside.end bytes logged more may mid first new
    (c.in_ok-write_through-2.ensures.torn tells)) given

pub returns-clause-acknowledged : goal.returns-clause-acknowledged
returns-clause-acknowledged g c logged more tells given =
    let old = g.D.Disk.past c.args.disk.now in
    let mid = g.D.Disk.past c.write_through.new.disk in
    let new = g.D.Disk.past c.write_through-2.new.disk in
    let bytes = c.args.chain.now in
    let same : c.args.self.now ≡ c.self.inside.end = omega (arith, c.self.view_is) in
    let first = c.in_ok-write_through.ensures.written tells in
    subst (λ (n : ℕ). MayChain old n bytes logged more → IsAtRest new (logged ++ added n more) (c.self.inside.end + length bytes)) (sym same)
    (λ may. rests_again old c.self.inside.end bytes logged more may mid first new
    (c.in_ok-write_through-2.ensures.written tells)) given
