-- What a session says stays true when events of other sessions follow.
use Rattle.std.proofs.Common.{◌≡◌, ℕ, ◌+◌, ◌≤◌, ◌<◌, Option, Some, None, List, [], ◌∷◌, ◌++◌, length, take, drop, sym, ap, subst, ◌∙◌, arith, length-append}
use Rattle.std.proofs.lemmas.List.{take-append-le, drop-append-le}
use Rattle.gem_meaning.specs.shell_words.Script.{SessionCommands}
use Rattle.gem_meaning.specs.shell_words.declared.script.Command.{Command}
use Rattle.gem_meaning.specs.gem_replies.declared.reply.Reply.{Reply}
use Rattle.gem_meaning.specs.gem_replies.declared.reply.Transcript.{Transcript}
use Rattle.gem_meaning.specs.Names.{user_in}
use Rattle.gem_meaning.specs.Events.{Event, Told, told_more, after_events, events_of}
use Rattle.gem_meaning.specs.State.{SessionState, first_transaction}
use Rattle.gem_meaning.specs.Commits.{SeesNumber}
use Rattle.gem_meaning.specs.Session.{until_logout, CommandSays, CommandsSay, SaysOf, Says}
use Rattle.gem_meaning.specs.Legal.{IsTranscript, AreTranscripts}
use Rattle.history_laws.proofs.Turns.{none_of}

-- a point of a list is one of the longer list
within : (es more : List Event) (n : ℕ) → n ≤ length es → n ≤ length (es ++ more)
within es more n h = simp length-append (omega arith)

same_front : (es more : List Event) (n : ℕ) → n ≤ length es → take n es ≡ take n (es ++ more)
same_front es more n h = sym (take-append-le n es more h)

none_after : (session : ℕ) (es more : List Event) (n : ℕ) → n ≤ length es
    → events_of session more ≡ [] → events_of session (drop n es) ≡ []
    → events_of session (drop n (es ++ more)) ≡ []
none_after session es more n h none here =
    ap (events_of session) (drop-append-le n es more h)
    ∙ none_of session (drop n es) more here none

commands_stay : (t : Told) (more : List Event) (number p q : ℕ) (s : SessionState)
    (cs : List Command) (rs : List Reply) → p ≤ length t.events
    → CommandsSay t number p q s cs rs → CommandsSay (told_more t more) number p q s cs rs
commands_stay t more number p q s [] rs h says = says
commands_stay t more number p q s (c ∷ cs) rs h says = record {
  point = says.point;
  next = says.next;
  lines = says.lines;
  more = says.more;
  from = says.from;
  within = within t.events more says.point says.within;
  replies = says.replies;
  says =
      subst (λ (before : List Event). CommandSays (record {
        opened = t.opened;
        number = number;
        before = before;
        after = take says.point (t.events ++ more);
      }) s c says.lines says.next) (same_front t.events more p h)
      (subst (λ (after : List Event). CommandSays (record {
        opened = t.opened;
        number = number;
        before = take p t.events;
        after = after;
      }) s c says.lines says.next) (same_front t.events more says.point says.within) says.says);
  rest = commands_stay t more (number + 1) says.point q says.next cs says.more says.within
      says.rest;
}

of_stays : (t : Told) (more : List Event) (session : ℕ) (user : Option ℕ) (point view : ℕ)
    (cs : List Command) (rs : List Reply) → point ≤ length t.events → events_of session more ≡ []
    → SaysOf user t session point view cs rs
    → SaysOf user (told_more t more) session point view cs rs
of_stays t more session (Some user) point view cs rs h none says = record {
  replies = says.replies;
  end = says.end;
  login = says.login;
  within = within t.events more says.end says.within;
  says = commands_stay t more 1 point says.end (first_transaction session user view) cs
      says.replies h says.says;
  no_more = none_after session t.events more says.end says.within none says.no_more;
}
of_stays t more session None point view cs rs h none says = record {
  refused = says.refused;
  no_more = none_after session t.events more point h none says.no_more;
}

pub says_stay : (t : Told) (more : List Event) (session seen : ℕ) (script : SessionCommands)
    (rs : List Reply) → events_of session more ≡ [] → Says t session seen script rs
    → Says (told_more t more) session seen script rs
says_stay t more session seen script rs none says =
    let front = same_front t.events more says.point says.within in
    record {
      of_script = says.of_script;
      point = says.point;
      view = says.view;
      saw = says.saw;
      within = within t.events more says.point says.within;
      sees = subst (λ (after : List Event). SeesNumber t.opened session [] after says.view) front
          says.sees;
      says = subst (λ (seen : List Event).
          SaysOf (user_in (after_events t.opened seen).image script.user) (told_more t more) session
          says.point says.view (until_logout script.commands) rs) front
          (of_stays t more session
          (user_in (after_events t.opened (take says.point t.events)).image script.user)
          says.point says.view (until_logout script.commands) rs says.within none says.says);
    }

pub transcript_stays : (t : Told) (more : List Event) (session : ℕ) (script : SessionCommands)
    (transcript : Transcript) → events_of session more ≡ []
    → IsTranscript t session script transcript
    → IsTranscript (told_more t more) session script transcript
transcript_stays t more session script transcript none h = record {
  session_is = h.session_is;
  user_is = h.user_is;
  says = says_stay t more session 0 script transcript.replies none h.says;
}

-- the transcripts of sessions stay where none of these has a further event
pub transcripts_stay : (t : Told) (more : List Event) (first : ℕ) (scripts : List SessionCommands)
    (ts : List Transcript)
    → ((session : ℕ) → first ≤ session → session < first + length scripts
    → events_of session more ≡ [])
    → AreTranscripts t first scripts ts → AreTranscripts (told_more t more) first scripts ts
transcripts_stay t more first [] [] none h = tt
transcripts_stay t more first [] (u ∷ us) none h = h
transcripts_stay t more first (s ∷ ss) [] none h = h
transcripts_stay t more first (s ∷ ss) (u ∷ us) none h = (
  transcript_stays t more first s u (none first (omega arith) (omega arith)) h.0,
  transcripts_stay t more (first + 1) ss us
      (λ session low high. none session (omega (arith, low)) (omega (arith, high))) h.1,
)

-- what a session says that saw these events, it says also as one of which less is claimed
pub saw_less : (t : Told) (session seen less : ℕ) (script : SessionCommands) (rs : List Reply)
    → less ≤ seen → Says t session seen script rs → Says t session less script rs
saw_less t session seen less script rs few says = record {
  of_script = says.of_script;
  point = says.point;
  view = says.view;
  saw = let saw = says.saw in omega (arith, saw, few);
  within = says.within;
  sees = says.sees;
  says = says.says;
}

-- the transcript of one session more
pub one_transcript : (t : Told) (first : ℕ) (scripts : List SessionCommands) (ts : List Transcript)
    (script : SessionCommands) (transcript : Transcript) → AreTranscripts t first scripts ts
    → IsTranscript t (first + length scripts) script transcript
    → AreTranscripts t first (scripts ++ script ∷ []) (ts ++ transcript ∷ [])
one_transcript t first [] [] script transcript h here =
    (subst (λ (n : ℕ). IsTranscript t n script transcript) (omega arith) here, tt)
one_transcript t first [] (u ∷ us) script transcript h here = absurd h
one_transcript t first (s ∷ ss) [] script transcript h here = absurd h
one_transcript t first (s ∷ ss) (u ∷ us) script transcript h here = (
  h.0,
  one_transcript t (first + 1) ss us script transcript h.1
      (subst (λ (n : ℕ). IsTranscript t n script transcript) (omega arith) here),
)
