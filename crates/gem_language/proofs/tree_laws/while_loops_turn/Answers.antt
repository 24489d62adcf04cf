use Rattle.std.proofs.Common.{None}
use Rattle.tree_meaning.specs.Meaning.{closure_in_place}
use Rattle.tree_meaning.proofs.Turns.{while_read}
use Rattle.gem_language.specs.Sends.{outside}
use Rattle.gem_language.proofs.tree_laws.while_loops_turn.Goals as goal

pub returns-clause-turns : goal.returns-clause-turns
returns-clause-turns c depth setting place frame state condition body when =
    while_read setting when (closure_in_place (outside depth) condition place None frame)
    (closure_in_place (outside depth) body place None frame) state
