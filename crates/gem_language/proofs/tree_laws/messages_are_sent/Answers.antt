use Rattle.gem_language.specs.Sends.{outside}
use Rattle.tree_meaning.proofs.Cascades.{first_read}
use Rattle.gem_language.proofs.Trees.{message_read}
use Rattle.gem_language.proofs.tree_laws.messages_are_sent.Goals as goal

pub returns-clause-message : goal.returns-clause-message
returns-clause-message c depth setting place frame state to_super receiver selector arguments =
    message_read depth setting place frame state to_super receiver selector arguments

pub returns-clause-cascade : goal.returns-clause-cascade
returns-clause-cascade c depth setting place frame state head message next rest =
    first_read (outside depth) setting place frame head message next rest state
