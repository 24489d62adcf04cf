use Rattle.std.proofs.Common.{◌≡◌, ◌-◌, List, ℕ, length, slice_set, ap₂, arith}
use Rattle.tran_log.proofs.Bodies.{bodies_more}
use Rattle.tran_log.proofs.body.add_body.Goals as goal

pub returns-then-end-gt0-clause-further : goal.returns-then-end-gt0-clause-further
returns-then-end-gt0-clause-further c more mode effect are is =
    let end : c.len-end.result ≡ length c.args.chain.now.items = omega (arith, c.len-end.ensures, c.args.chain.now.ok.0) in
    bodies_more more mode effect c.args.chain.now.items c.args.body.now _ are is
    (ap₂ (λ (l : List ℕ) (n : ℕ). slice_set l (n - 1) 1) c.in_ok-extend_from_slice.ensures.items end)
