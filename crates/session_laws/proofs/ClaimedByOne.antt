-- In a legal run each event is claimed by one reply of its session's transcript.
use Rattle.std.proofs.Common.{◌≡◌, ◌∙◌, refl, subst, ℕ, zero, suc, ◌+◌, ◌-◌, ◌≤◌, ◌<◌, Some, List, [], ◌∷◌, ◌++◌, map, length, arith}
use Rattle.std.specs.List.{slice_get, AllByRecursion}
use Rattle.gem_meaning.specs.gem_replies.declared.reply.Transcript.{Transcript}
use Rattle.gem_meaning.specs.gem_replies.declared.reply.RunBook.{RunBook}
use Rattle.gem_meaning.specs.shell_words.Script.{SessionCommands}
use Rattle.gem_meaning.specs.declared.event.What.{What}
use Rattle.gem_meaning.specs.Events.{Event, Told, events_of}
use Rattle.gem_meaning.specs.Serial.{IsOfScript}
use Rattle.gem_meaning.specs.Session.{Says}
use Rattle.gem_meaning.specs.Legal.{IsLegal, AreTranscripts}
use Rattle.gem_meaning.specs.Claims.{claimed_by, claims_of}
use Rattle.session_laws.proofs.Claims.{says_claims}
use Rattle.session_laws.proofs.Printed.{transcript_of, of_script}

pub claimed_by_one : (t : Told) (book : RunBook) (session : ℕ) (transcript : Transcript)
    → IsLegal t book → slice_get book.transcripts (session - 1) ≡ Some transcript → 1 ≤ session
    → map claimed_by (events_of session t.events) ≡ claims_of transcript.replies
claimed_by_one t book session transcript legal here low =
    let there = transcript_of t 1 t.opened.script book.transcripts (session - 1) transcript
    legal.transcripts here in
    let number : 1 + (session - 1) ≡ session = omega (arith, low) in
    says_claims t session 0 there.0 transcript.replies
    (subst (λ (i : ℕ). Says t i 0 there.0 transcript.replies) number (there.2).says)

-- the script's session in a place has a transcript there
transcript_at : (t : Told) (first : ℕ) (scripts : List SessionCommands)
    (transcripts : List Transcript) (i : ℕ) → AreTranscripts t first scripts transcripts
    → i < length scripts
    → (transcript : Transcript) × (slice_get transcripts i ≡ Some transcript)
    × (transcript.session ≡ first + i)
transcript_at t first [] [] i are within = absurd (omega (arith, within))
transcript_at t first [] (u ∷ us) i are within = absurd are
transcript_at t first (s ∷ ss) [] i are within = absurd are
transcript_at t first (s ∷ ss) (u ∷ us) zero are within =
    let is = are.0.session_is in (u, refl, omega (arith, is))
transcript_at t first (s ∷ ss) (u ∷ us) (suc i) are within =
    let rest = transcript_at t (first + 1) ss us i are.1 (omega (arith, within)) in
    let is = rest.2 in (rest.0, rest.1, omega (arith, is))

pub has_transcript : (t : Told) (book : RunBook) (before more : List Event) (session : ℕ)
    (what : What) → IsLegal t book → t.events ≡ before ++ (session, what) ∷ more
    → (1 ≤ session) × (transcript : Transcript)
    × (slice_get book.transcripts (session - 1) ≡ Some transcript)
    × (transcript.session ≡ session)
has_transcript t book before more session what legal whole =
    let scripts = t.opened.script in
    let own : (1 ≤ session) × (session ≤ length scripts) =
    of_script scripts before more (session, what)
    (subst (AllByRecursion (IsOfScript scripts)) whole legal.consistent.sessions) in
    let low = own.0 in
    let high = own.1 in
    let there = transcript_at t 1 scripts book.transcripts (session - 1) legal.transcripts
    (omega (arith, low, high)) in
    let number : 1 + (session - 1) ≡ session = omega (arith, low) in
    (own.0, there.0, there.1, there.2 ∙ number)
