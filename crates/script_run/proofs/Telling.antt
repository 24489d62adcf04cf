-- Sessions' transcripts, by all that happened to the Stone.
use Rattle.std.proofs.Common.{◌≡◌, refl, sym, subst, ℕ, suc, ◌+◌, List, [], ◌∷◌, length, Some, Result, Ok, Err, IfOk, arith}
use Rattle.std.specs.List.{slice_get}
use Rattle.gem_clock.specs.Pairs.{Knows}
use Rattle.gem_clock.specs.Shown.{ClockId}
use Rattle.shell_words.specs.Script.{SessionCommands}
use Rattle.gem_replies.specs.declared.reply.Transcript.{Transcript}
use Rattle.gem_meaning.specs.Opened.{Opened}
use Rattle.gem_meaning.specs.Events.{Event, Told, events_of}
use Rattle.gem_meaning.specs.Legal.{IsTranscript, AreTranscripts}
use Rattle.gem_session.specs.Running.{IsTranscriptSince}
use Rattle.session_laws.proofs.Stays.{transcript_stays}
use Rattle.stone_shared.specs.Shared.{told_at}
use Rattle.script_run.specs.declared.session.SessionEnd.{SessionEnd}
use Rattle.script_run.specs.Workers.{Each, HasEndedAt, HasToldAt, told_all}

-- What a session said by what it had seen it said by all events.
pub told_among : (clock : ClockId) (o : Opened) (all : List Event) (sessions : List SessionCommands) (place : ℕ) (end : SessionEnd)
    → Knows end.stamp.author end.stamp.list all → HasEndedAt clock o sessions place end
    → IfOk end.transcript (HasToldAt (told_all o all) sessions place)
told_among clock o all sessions place end knows ended = go end.transcript (λ script is. (ended script is).says)
  where
    one : (script : SessionCommands) (transcript : Transcript) → slice_get sessions place ≡ Some script
        → IsTranscriptSince (told_at o end.stamp) (place + 1) 0 script transcript
        → IsTranscript (told_all o all) (place + 1) script transcript
    one script transcript is since =
        subst (λ es. IsTranscript (record { opened = o; events = es }) (place + 1) script transcript) (sym knows.front)
        (transcript_stays (told_at o end.stamp) knows.rest (place + 1) script transcript
        (subst (λ (n : ℕ). events_of n knows.rest ≡ []) (ended script is).author_is knows.own)
        (record { session_is = since.session_is; user_is = since.user_is; says = since.says }))

    go : {E : Type 0} (r : Result Transcript E)
        → ((script : SessionCommands) → slice_get sessions place ≡ Some script
        → IfOk r (λ transcript. IsTranscriptSince (told_at o end.stamp) (place + 1) 0 script transcript))
        → IfOk r (HasToldAt (told_all o all) sessions place)
    go (Ok transcript) says = λ script is. one script transcript is (says script is)
    go (Err e) says = tt

all_from : (t : Told) (first : ℕ) (sessions : List SessionCommands) (ts : List Transcript) → length ts ≡ length sessions
    → ((place : ℕ) (transcript : Transcript) (script : SessionCommands) → slice_get ts place ≡ Some transcript
    → slice_get sessions place ≡ Some script → IsTranscript t (place + first) script transcript)
    → AreTranscripts t first sessions ts
all_from t first [] [] count each = tt
all_from t first [] (u ∷ us) count each = absurd (omega (arith, count))
all_from t first (s ∷ ss) [] count each = absurd (omega (arith, count))
all_from t first (s ∷ ss) (u ∷ us) count each = (
  subst (λ (n : ℕ). IsTranscript t n s u) (omega arith) (each 0 u s refl refl),
  all_from t (first + 1) ss us (omega (arith, count))
      (λ place transcript script is at. subst (λ (n : ℕ). IsTranscript t n script transcript) (omega arith) (each (suc place) transcript script is at)),
)

-- A transcript for each session makes the transcripts of all.
pub all_told : (t : Told) (sessions : List SessionCommands) (ts : List Transcript) → length ts ≡ length sessions
    → Each (HasToldAt t sessions) ts → AreTranscripts t 1 sessions ts
all_told t sessions ts count each = all_from t 1 sessions ts count (λ place transcript script is at. each place transcript is script at)
