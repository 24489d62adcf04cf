use Rattle.prim_parts.proofs.Does.{does_compute, known_then}
use Rattle.prim_collections.proofs.Joined.{known_same, on_ok}
use Rattle.prim_collections.proofs.copies.indexed.Goals as goal

pub returns-clause-does : goal.returns-clause-does
returns-clause-does g c = known_then c.in_ok-know.ensures c.in-Some.ensures (does_compute _ c.check_indexed.ensures)

pub returns-clause-same : goal.returns-clause-same
returns-clause-same g c = on_ok c.check_indexed.result (known_same c.in_ok-know.ensures)
