use Rattle.tree_meaning.specs.Replies.{outside_of}
use Rattle.tree_meaning.proofs.Deeds.{in_order_read}
use Rattle.std.proofs.Common.{[]}
use Rattle.tree_meaning.proofs.laws.messages_are_sent.Goals as goal

pub returns : goal.returns
returns c replies setting place frame state to_super receiver selector arguments =
    in_order_read (outside_of replies) setting place frame arguments []
    (λ values. (outside_of replies).send_message to_super selector frame receiver values) state
