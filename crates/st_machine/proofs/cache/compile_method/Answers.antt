use Rattle.st_commands.proofs.Unread.{none_read}
use Rattle.st_machine.proofs.cache.compile_method.Goals as goal

pub returns-in-Err-Rule : goal.returns-in-Err-Rule
returns-in-Err-Rule c = none_read _ _ _ _ c.bytes-text.ensures (rw c.in-Err-Rule.field-0-is at c.in-Err-Rule.ensures.fault)
