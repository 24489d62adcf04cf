-- A tally over what a load left prints it.
use Rattle.std.proofs.Common.{◌≡◌, ℕ, ◌+◌, ◌<◌, ◌≤◌, Bool, List, [], ◌∷◌, ◌++◌, ap, ap₂, subst, ◌∙◌, arith}
use Rattle.std.specs.List.{AllByRecursion, flat_map}
use Rattle.gem_meaning.specs.texts.Lines.{text_of_lines}
use Rattle.gem_meaning.specs.gem_image.Image.{Image}
use Rattle.gem_meaning.specs.gem_record.declared.record.Entry.{Entry}
use Rattle.gem_meaning.specs.gem_record.Stored.{Stored}
use Rattle.gem_meaning.specs.gem_replies.Report.{transcript_lines, commit_lines}
use Rattle.gem_meaning.specs.gem_replies.declared.reply.RunBook.{RunBook}
use Rattle.gem_meaning.specs.gem_replies.declared.reply.Transcript.{Transcript}
use Rattle.gem_meaning.specs.shell_words.ScriptGrammar.{ReadsScript}
use Rattle.gem_meaning.specs.Opened.{Opened}
use Rattle.gem_meaning.specs.Events.{Event, Told, entries_of}
use Rattle.gem_meaning.specs.Serial.{IsOfScript}
use Rattle.gem_meaning.specs.Legal.{AreTranscripts, IsLegal, WasServed, AlwaysServed}
use Rattle.shell_words.proofs.OneAnswer.{one_script}
use Rattle.load_maker.specs.Scripts.{tally_text}
use Rattle.gem_server.specs.AfterLoad.{HoldsLoad}
use Rattle.gem_server.specs.Tally.{IsTallied}
use Rattle.gem_server.proofs.SetupSays.{Own}
use Rattle.gem_server.proofs.SetupOnce.{one_session}
use Rattle.gem_server.proofs.TallyScript.{tally_script, tally_reads}
use Rattle.gem_server.proofs.TallySays.{tally_opened, says_tally}
use Rattle.gem_server.proofs.TallyReport.{tally_transcript, written}

all_own : (events : List Event) → AllByRecursion (IsOfScript tally_script) events → Own events
all_own [] all = tt
all_own (event ∷ events) all = (one_session event.0 all.0.0 all.0.1, all_own events all.1)

module _ (image : Image) (counter bag : ℕ) (holds : HoldsLoad counter bag image) (small : counter < 1000000)
    (few : bag ≤ 16000) (stored : Stored) (counts : Bool) (events : List Event) where
  abbrev t : Told
  t = record { opened = tally_opened image bag stored counts; events = events }

  -- the transcripts are the one, and no event happened
  record AreTally (transcripts : List Transcript) : Type 0 where
    one : transcripts ≡ tally_transcript counter bag ∷ []
    none : events ≡ []

  are_tally : (transcripts : List Transcript) → Own events → AreTranscripts t 1 tally_script transcripts
      → AllByRecursion (λ transcript. AllByRecursion WasServed transcript.replies) transcripts → AreTally transcripts
  are_tally [] own are served = absurd are
  are_tally (transcript ∷ another ∷ rest) own are served = absurd are.1
  are_tally (transcript ∷ []) own are served =
      let is = are.0 in
      let said = says_tally image counter bag holds small few stored counts events own 0 transcript.replies is.says
      served.0 in
      record {
        one = λ i. record { session = is.session_is i; user = is.user_is i; replies = said.replies i } ∷ [];
        none = said.events_are;
      }

  told : (book : RunBook) → IsLegal t book → AlwaysServed book → IsTallied counter bag t book
  told book legal served =
      let are = are_tally book.transcripts (all_own events legal.consistent.sessions) legal.transcripts served in
      let history : book.history ≡ [] = legal.history ∙ ap entries_of are.none in
      record {
        report = ap₂ (λ (transcripts : List Transcript) (entries : List Entry).
            text_of_lines (flat_map transcript_lines transcripts ++ commit_lines book.first entries)) are.one history
            ∙ written counter bag book.first (omega (arith, small)) (omega (arith, few));
        events = are.none;
      }

-- what the Stone was opened with
opened_is : (o : Opened) (bag : ℕ) → ReadsScript tally_text o.script → o.number ≡ bag + 1
    → o ≡ tally_opened o.image bag o.stored o.counts_pages
opened_is o bag reads number =
    let script = one_script tally_text o.script tally_script reads tally_reads in
    λ i. record {
      image = o.image;
      number = number i;
      script = script i;
      stored = o.stored;
      counts_pages = o.counts_pages;
    }

pub tally_told : (t : Told) (book : RunBook) (counter bag : ℕ) → IsLegal t book → AlwaysServed book
    → ReadsScript tally_text t.opened.script → HoldsLoad counter bag t.opened.image → t.opened.number ≡ bag + 1
    → counter < 1000000 → bag ≤ 16000 → IsTallied counter bag t book
tally_told t book counter bag legal served reads holds number small few =
    let o : Opened = t.opened in
    let done = told o.image counter bag holds small few o.stored o.counts_pages t.events book
    (subst (λ (opened : Opened). IsLegal (record { opened = opened; events = t.events }) book)
    (opened_is o bag reads number) legal) served in
    record { report = done.report; events = done.events }
