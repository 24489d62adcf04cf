use Rattle.look_up_cache.specs.Table.{held_at}
use Rattle.st_compiler.specs.Emitted.{instruction_of}
use Rattle.st_machine.proofs.KnownAnswers.{quick_found}
use Rattle.st_machine.proofs.known.quick_at.Goals as goal

pub returns-in_ok-instr-in-Source : goal.returns-in_ok-instr-in-Source
returns-in_ok-instr-in-Source g c =
    quick_found (held_at (g.O.FindsMethods.founds c.args.objects.now) c.args.at) c.in_ok-found.found.now c.in-Source.field-0
    c.in_ok-code-in-Source.code.now (instruction_of c.in_ok-instr-in-Source.instr.now) c.in_ok-found.ensures c.in-Source.is
    c.in_ok-code-in-Source.ensures c.in_ok-instr-in-Source.ensures
