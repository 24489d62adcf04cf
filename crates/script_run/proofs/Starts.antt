-- What a run starts with, and what is left where there was none.
use Rattle.std.proofs.Common.{◌≡◌, ℕ, Bool, List, [], Option, None, Result, Ok, Err, IfOk, IsErr, refl, sym, ap, subst, ◌∙◌}
use Rattle.std.specs.Option.{option_to_list}
use Rattle.gem_record.specs.Stored.{Stored}
use Rattle.shell_words.specs.Script.{SessionCommands}
use Rattle.gem_keeper.specs.Found.{Found}
use Rattle.gem_meaning.specs.Opened.{Opened}
use Rattle.gem_meaning.specs.Events.{Event, Told, entries_of, halts_in}
use Rattle.gem_meaning.specs.Serial.{IsConsistent, IsSerial}
use Rattle.gem_meaning.specs.Legal.{AreTranscripts}
use Rattle.stone_core.specs.Kept.{IsKept}
use Rattle.stone_core.proofs.Keeps.{first_kept}
use Rattle.script_run.specs.declared.run.Start.{Start}
use Rattle.script_run.specs.declared.run.Ran.{Ran}
use Rattle.script_run.specs.Run.{opened_by, told_by, CanRun, HasRunOver}

no_events : (o : Opened) (events : List Event) → events ≡ [] → IsConsistent (record { opened = o; events = events })
unfolding IsSerial
no_events o events none = subst (λ (es : List Event). IsConsistent (record { opened = o; events = es })) (sym none)
    (record { sessions = tt; serial = tt })

none_ok : {X E : Type 0} (r : Result X E) (P : X → Type 0) → IsErr r → IfOk r P
none_ok (Ok x) P starved = absurd cc
none_ok (Err e) P starved = tt

module _ {K : Type 0} {stored : K → Stored} {ready : K → Bool} {faults : K → ℕ} {tells : Bool}
    {moment : K → ℕ} {stands : K → Option Found} {left_since : K → ℕ → Option Found → Type 0} where
  -- memory ran out before there was a Stone
  pub not_run_at_all : (counts_pages : Bool) (start : Start K) (script : List SessionCommands) (ran : Ran K)
      → CanRun counts_pages stored ready tells moment stands left_since start script
      → IsErr ran.transcripts → ran.closed.keeper ≡ start.keeper → ran.closed.history.items ≡ [] → ran.closed.events.items ≡ []
      → ran.closed.halted ≡ None
      → HasRunOver stored ready faults tells moment stands left_since (opened_by counts_pages stored start script) start.keeper ran
  not_run_at_all counts_pages start script ran can starved keeper history events halted =
      let o : Opened = opened_by counts_pages stored start script in
      let kept : IsKept stored ready faults tells moment stands left_since (record { opened = o; events = ran.closed.events.items }) start.keeper start.keeper =
      (first_kept o ran.closed.events.items start.keeper start.keeper refl refl can.is_ready can.stands_for events).kept in
      record {
        transcripts = none_ok ran.transcripts _ starved;
        history = history ∙ sym (ap entries_of events);
        halted = ap option_to_list halted ∙ sym (ap halts_in events);
        consistent = no_events o ran.closed.events.items events;
        kept = subst (λ (k : K). IsKept stored ready faults tells moment stands left_since (record { opened = o; events = ran.closed.events.items }) start.keeper k) (sym keeper) kept;
      }

  -- the sessions ran, and the Stone was closed, which had started with this keeper
  pub has_run : (o : Opened) (started first : K) (ran : Ran K) (t : Told) (last : K) → told_by o ran ≡ t
      → IfOk ran.transcripts (λ transcripts. AreTranscripts t 1 o.script transcripts.items)
      → ran.closed.history.items ≡ entries_of t.events → option_to_list ran.closed.halted ≡ halts_in t.events → IsConsistent t
      → IsKept stored ready faults tells moment stands left_since t first last → first ≡ started → ran.closed.keeper ≡ last
      → HasRunOver stored ready faults tells moment stands left_since o started ran
  has_run o started first ran t last is transcripts history halted consistent kept first_is last_is = record {
    transcripts = subst (λ (u : Told). IfOk ran.transcripts (λ transcripts. AreTranscripts u 1 o.script transcripts.items)) (sym is) transcripts;
    history = history ∙ sym (ap (λ (u : Told). entries_of u.events) is);
    halted = halted ∙ sym (ap (λ (u : Told). halts_in u.events) is);
    consistent = subst IsConsistent (sym is) consistent;
    kept = subst (λ (u : Told). IsKept stored ready faults tells moment stands left_since u started ran.closed.keeper) (sym is)
        (subst (λ (k : K). IsKept stored ready faults tells moment stands left_since t started k) (sym last_is)
        (subst (λ (k : K). IsKept stored ready faults tells moment stands left_since t k last) first_is kept));
  }
