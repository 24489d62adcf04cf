use Rattle.session_laws.proofs.OneTranscript.{one_transcript}
use Rattle.session_laws.proofs.laws.one_transcript.Goals as goal

pub returns : goal.returns
returns c = one_transcript
