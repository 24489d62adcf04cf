use Rattle.tree_meaning.specs.Replies.{outside_of}
use Rattle.tree_meaning.proofs.Cascades.{first_read, later_read}
use Rattle.tree_meaning.proofs.laws.cascades_have_one_receiver.Goals as goal

pub returns-clause-first : goal.returns-clause-first
returns-clause-first c replies setting place frame state head message next rest =
    first_read (outside_of replies) setting place frame head message next rest state

pub returns-clause-later : goal.returns-clause-later
returns-clause-later c replies setting place frame state head before first message next rest =
    later_read (outside_of replies) setting place frame head first message next before rest state
