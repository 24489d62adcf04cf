-- The set-up commits once.
use Rattle.std.proofs.Common.{◌≡◌, ℕ, ◌≤◌, Bool, List, [], ◌∷◌, subst, arith}
use Rattle.std.specs.List.{AllByRecursion}
use Rattle.gem_meaning.specs.gem_record.declared.record.Entry.{Entry}
use Rattle.gem_meaning.specs.gem_record.Stored.{Stored}
use Rattle.gem_meaning.specs.gem_replies.declared.reply.RunBook.{RunBook}
use Rattle.gem_meaning.specs.gem_replies.declared.reply.Transcript.{Transcript}
use Rattle.gem_meaning.specs.shell_words.ScriptGrammar.{ReadsScript}
use Rattle.gem_meaning.specs.declared.event.What.TheVariants.{Placed}
use Rattle.gem_meaning.specs.Opened.{Opened}
use Rattle.gem_meaning.specs.Events.{Event, Told}
use Rattle.gem_meaning.specs.Serial.{IsOfScript}
use Rattle.gem_meaning.specs.Legal.{AreTranscripts, IsLegal, WasServed, AlwaysServed}
use Rattle.shell_words.proofs.OneAnswer.{one_script}
use Rattle.kernel_image.specs.Objects.{kernel_image}
use Rattle.load_maker.specs.Scripts.{setup_text}
use Rattle.gem_server.proofs.SetupScript.{setup_script, setup_reads}
use Rattle.gem_server.proofs.SetupSays.{Own, setup_opened, setup_entry, the_event, one_event}

pub one_session : (n : ℕ) → 1 ≤ n → n ≤ 1 → n ≡ 1
one_session n from to = omega (arith, from, to)

all_own : (events : List Event) → AllByRecursion (IsOfScript setup_script) events → Own events
all_own [] all = tt
all_own (event ∷ events) all = (one_session event.0 all.0.0 all.0.1, all_own events all.1)

module _ (stored : Stored) (counts : Bool) (begins : stored.log_length ≡ 1) (events : List Event) where
  abbrev t : Told
  t = record { opened = setup_opened stored counts; events = events }

  by_transcripts : (transcripts : List Transcript) → Own events → AreTranscripts t 1 setup_script transcripts
      → AllByRecursion (λ transcript. AllByRecursion WasServed transcript.replies) transcripts → events ≡ the_event ∷ []
  by_transcripts [] own are served = absurd are
  by_transcripts (transcript ∷ rest) own are served =
      one_event stored counts begins events own 0 transcript.replies are.0.says served.0

  pub once : (book : RunBook) → IsLegal t book → AlwaysServed book → events ≡ the_event ∷ []
  once book legal served = by_transcripts book.transcripts (all_own events legal.consistent.sessions) legal.transcripts served

-- what the Stone was opened with
pub opened_is : (o : Opened) → ReadsScript setup_text o.script → o.image ≡ kernel_image → o.number ≡ 0
    → o ≡ setup_opened o.stored o.counts_pages
opened_is o reads image number =
    let script = one_script setup_text o.script setup_script reads setup_reads in
    λ i. record { image = image i; number = number i; script = script i; stored = o.stored; counts_pages = o.counts_pages }

pub setup_once : (t : Told) (book : RunBook) → IsLegal t book → AlwaysServed book → ReadsScript setup_text t.opened.script
    → t.opened.image ≡ kernel_image → t.opened.number ≡ 0 → t.opened.stored.log_length ≡ 1
    → (entry : Entry) × (t.events ≡ (1, Placed entry) ∷ [])
setup_once t book legal served reads image number begins = (
  setup_entry,
  once t.opened.stored t.opened.counts_pages begins t.events book
      (subst (λ (o : Opened). IsLegal (record { opened = o; events = t.events }) book) (opened_is t.opened reads image number) legal) served,
)
