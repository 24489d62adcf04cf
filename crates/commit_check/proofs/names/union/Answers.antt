use Rattle.std.proofs.Common.{◌≤◌, ◌⊎◌, inl, inr, length, sym, subst, arith}
use Rattle.gem_record.specs.Names.{Ascend}
use Rattle.commit_check.proofs.Unions.{union_ends, union_ascends}
use Rattle.commit_check.proofs.names.union.Goals as goal
use Rattle.commit_check.proofs.names.union.Goals.{then-loop-i-test+else-j-right, else-loop-i-test}

pub returns-clause-names : goal.returns-clause-names
returns-clause-names c =
    let ended : (length c.args.left.now ≤ c.loop-i.i) ⊎ (length c.args.right.now ≤ c.loop-i.j)
    = elim c.loop-i-test.branch [ then-loop-i-test+else-j-right w ↦ inr (omega arith) | else-loop-i-test w ↦ inl (omega arith) ] in
    union_ends c.args.left.now c.args.right.now c.loop-i.i c.loop-i.j c.loop-i.names.items _ _ ended
    c.in_ok-extend_from_slice.ensures.items c.in_ok-extend_from_slice-2.ensures.items c.loop-i.invariant.2

pub returns-clause-in_order : goal.returns-clause-in_order
returns-clause-in_order c =
    let ended : (length c.args.left.now ≤ c.loop-i.i) ⊎ (length c.args.right.now ≤ c.loop-i.j)
    = elim c.loop-i-test.branch [ then-loop-i-test+else-j-right w ↦ inr (omega arith) | else-loop-i-test w ↦ inl (omega arith) ] in
    let is = union_ends c.args.left.now c.args.right.now c.loop-i.i c.loop-i.j c.loop-i.names.items _ _ ended
    c.in_ok-extend_from_slice.ensures.items c.in_ok-extend_from_slice-2.ensures.items c.loop-i.invariant.2 in
    subst Ascend (sym is) (union_ascends c.args.left.now c.args.right.now c.requires.left c.requires.right)
