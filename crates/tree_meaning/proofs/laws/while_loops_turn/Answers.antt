use Rattle.std.proofs.Common.{None}
use Rattle.tree_meaning.specs.Meaning.{closure_in_place}
use Rattle.tree_meaning.specs.Replies.{outside_of}
use Rattle.tree_meaning.proofs.Turns.{while_read}
use Rattle.tree_meaning.proofs.laws.while_loops_turn.Goals as goal

pub returns-clause-turns : goal.returns-clause-turns
returns-clause-turns c replies setting place frame state condition body when =
    while_read setting when (closure_in_place (outside_of replies) condition place None frame)
    (closure_in_place (outside_of replies) body place None frame) state
