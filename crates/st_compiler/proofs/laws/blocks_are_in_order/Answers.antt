use Rattle.st_compiler.proofs.InOrder.{method_gives, chunk_gives}
use Rattle.st_compiler.proofs.laws.blocks_are_in_order.Goals as goal

pub returns-clause-method : goal.returns-clause-method
returns-clause-method c tree = method_gives tree

pub returns-clause-chunk : goal.returns-clause-chunk
returns-clause-chunk c tree = chunk_gives tree
