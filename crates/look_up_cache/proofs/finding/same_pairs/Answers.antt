use Rattle.std.specs.Int.{w16}
use Rattle.look_up_cache.proofs.Ends.{pairs, same_by_ends}
use Rattle.look_up_cache.proofs.finding.same_pairs.Goals as goal

pub returns-then-from_le_bytes : goal.returns-then-from_le_bytes
returns-then-from_le_bytes c = λ yes. same_by_ends 2 w16 pairs c.args.one.now c.args.other.now c.in-Some.front.now
    c.in-Some-first_chunk.other_front.now c.in-Some-last_chunk.back.now c.in-Some-last_chunk-2.other_back.now
    c.from_le_bytes.result c.from_le_bytes-2.result c.from_le_bytes-then-from_le_bytes.result
    c.from_le_bytes-then-from_le_bytes-2.result c.type_inv.one c.type_inv.other c.requires.length c.requires.short
    c.in-Some.ensures.cases c.in-Some-first_chunk.ensures.cases c.in-Some-last_chunk.ensures.cases.1
    c.in-Some-last_chunk-2.ensures.cases.1 c.from_le_bytes.ensures c.from_le_bytes-2.ensures c.if-from_le_bytes.true
    c.from_le_bytes-then-from_le_bytes.ensures c.from_le_bytes-then-from_le_bytes-2.ensures yes
