use Rattle.kernel_image.proofs.Entries.{globals_distinct, users_distinct}
use Rattle.kernel_image.proofs.build.add_shared.Goals as goal

pub dictionary-requires-clause-distinct : goal.dictionary-requires-clause-distinct
dictionary-requires-clause-distinct c = globals_distinct _ c.in_ok-globals.ensures

pub dictionary-requires-2-clause-distinct : goal.dictionary-requires-2-clause-distinct
dictionary-requires-2-clause-distinct c = users_distinct _ c.in_ok-users.ensures
