use Rattle.std.proofs.Common.{◌≡◌, take}
use Rattle.st_tree.proofs.clones.+clone_expression.Given as goal

abbrev pub invariant-copy_exprs-loop-expr : goal.invariant-copy_exprs-loop-expr
invariant-copy_exprs-loop-expr l = l.copies.items ≡ take l.expr-index l.exprs.items

abbrev pub invariant-copy_messages-loop-message : goal.invariant-copy_messages-loop-message
invariant-copy_messages-loop-message l = l.copies.items ≡ take l.message-index l.messages.items

abbrev pub invariant-copy_stats-loop-stat : goal.invariant-copy_stats-loop-stat
invariant-copy_stats-loop-stat l = l.copies.items ≡ take l.stat-index l.stats.items
