use Rattle.st_compiler.specs.Emitted.{instructions}
use Rattle.st_encoder.proofs.Writes.{on_ok_both, small_body}
use Rattle.st_encoder.proofs.writer.put_body.Goals as goal

pub returns-clause-small : goal.returns-clause-small
returns-clause-small c =
    on_ok_both c.put_code.result
    (small_body c.args.params c.args.temps (instructions c.args.code.now) c.args.bytes.now.items
    c.args.literals.now.items c.put_code.new.bytes.items c.put_code.new.literals.items)
    c.put_code.ensures.ok c.put_code.ensures.small
