use Rattle.std.proofs.Common.{refl}
use Rattle.gem_language.specs.Sends.{chunk_value}
use Rattle.gem_language.proofs.Readings.{send_comes, send_only}
use Rattle.gem_language.proofs.laws.reading_is_meaning.Goals as goal

pub returns-clause-comes : goal.returns-clause-comes
returns-clause-comes c depth setting message state = send_comes setting depth message state

pub returns-clause-only : goal.returns-clause-only
returns-clause-only c depth setting message state end after comes =
    send_only setting depth message state end after comes

pub returns-clause-chunk : goal.returns-clause-chunk
unfolding chunk_value
returns-clause-chunk c tree setting state = refl
