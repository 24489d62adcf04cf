use Rattle.std.proofs.Common.{◌<◌, ◌≤◌, ◌++◌, length, take, arith, refl}
use Rattle.std.proofs.lemmas.Result.{err_from_is_err_and}
use Rattle.shell_words.specs.declared.limits.TheConstants.{SCRIPT_LIMIT}
use Rattle.gem_server.proofs.Devices.{read_piece}
use Rattle.gem_server.proofs.intake.read_text.Goals as goal

pub returns-then-count-len-clause-gave : goal.returns-then-count-len-clause-gave
returns-then-count-len-clause-gave g c =
    let read = read_piece _ c.pull.new.out c.in_ok-count.count c.loop-text.invariant c.in_ok-count.ensures.bytes.0 c.in_ok-count.ensures.bound.0 in
    let past : SCRIPT_LIMIT < length (c.loop-text.text.items ++ take c.in_ok-count.count c.pull.new.out) = omega (arith, read.1, c.loop-text.text.ok.0) in
    (_, read.0, ((λ _. past), λ _. refl), tt)

pub returns-in_err-extend_from_slice-clause-gave : goal.returns-in_err-extend_from_slice-clause-gave
returns-in_err-extend_from_slice-clause-gave g c =
    let read = read_piece _ c.pull.new.out c.in_ok-count.count c.loop-text.invariant c.in_ok-count.ensures.bytes.0 c.in_ok-count.ensures.bound.0 in
    let within : length (c.loop-text.text.items ++ take c.in_ok-count.count c.pull.new.out) ≤ SCRIPT_LIMIT = omega (arith, read.1, c.loop-text.text.ok.0) in
    let p = err_from_is_err_and c.from_residual-in_err-extend_from_slice.result c.from_residual-in_err-extend_from_slice.ensures.1 in
    rw (p.1, p.2) (_, read.0, ((λ e. cc), λ past. absurd (omega arith)), tt)
