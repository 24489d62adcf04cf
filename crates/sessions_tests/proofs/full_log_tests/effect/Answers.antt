use Rattle.sessions_tests.proofs.Alone.{alone_ascends}
use Rattle.sessions_tests.proofs.full_log_tests.effect.Goals as goal

pub of-requires-2 : goal.of-requires-2
of-requires-2 c = alone_ascends c.in_ok-objects.objects.items _ c.in_ok-objects.ensures.items
