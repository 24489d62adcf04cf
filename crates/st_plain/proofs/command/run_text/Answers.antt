use Rattle.st_commands.proofs.Replies.{chunk_read, chunk_not_read}
use Rattle.st_plain.proofs.command.run_text.Goals as goal

pub returns-in-Ok : goal.returns-in-Ok
returns-in-Ok g c = chunk_read _ _ _ _ c.bytes-bytes.ensures c.in-Ok.ensures.tree c.run_read_chunk.ensures

pub returns-in-Err : goal.returns-in-Err
returns-in-Err g c = chunk_not_read _ _ _ _ _ c.bytes-bytes.ensures c.in-Err.ensures.fault c.reply_to_fault.ensures
