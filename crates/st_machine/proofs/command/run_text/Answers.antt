use Rattle.std.proofs.Common.{◌≡◌, refl, List, None}
use Rattle.st_tree.specs.Trees.{Program}
use Rattle.gem_sound.specs.st_grammar.Grammar.{Word, Kept, ReadsProgram, a_chunk, chunk}
use Rattle.st_commands.proofs.Replies.{chunk_read, chunk_not_read}
use Rattle.st_machine.proofs.command.run_text.Goals as goal

unselected : {kept : Kept} {program : Program} {words : List Word} → ReadsProgram kept chunk program words
    → program.selector ≡ None
unselected (a_chunk temps body) = refl

pub returns-in-Ok : goal.returns-in-Ok
returns-in-Ok g c = chunk_read _ _ _ _ c.bytes-bytes.ensures c.in-Ok.ensures.tree c.run_read_chunk.ensures

pub returns-in-Err : goal.returns-in-Err
returns-in-Err g c = chunk_not_read _ _ _ _ _ c.bytes-bytes.ensures c.in-Err.ensures.fault c.reply_to_fault.ensures

pub run_read_chunk-requires-clause-chunk : goal.run_read_chunk-requires-clause-chunk
run_read_chunk-requires-clause-chunk g c = unselected c.in-Ok.ensures.tree.reads.2
