use Rattle.st_commands.proofs.Replies.{method_read, method_not_read}
use Rattle.st_commands.proofs.Selectors.{method_answers}
use Rattle.st_commands.proofs.command.install_source.Goals as goal

pub returns-in-Ok : goal.returns-in-Ok
returns-in-Ok g c = method_read _ _ _ _ _ c.bytes-bytes.ensures c.in-Ok.ensures.tree c.install_read_method.ensures

pub returns-in-Err : goal.returns-in-Err
returns-in-Err g c = method_not_read _ _ _ _ _ _ c.bytes-bytes.ensures c.in-Err.ensures.fault c.reply_to_fault.ensures

pub install_read_method-requires : goal.install_read_method-requires
install_read_method-requires g c = method_answers _ _ _ c.bytes-bytes.ensures c.in-Ok.ensures.tree
