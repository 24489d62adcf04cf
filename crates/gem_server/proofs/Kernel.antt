-- A Stone may be opened with the kernel's image; and where the count of the disk's faults is 0 none has
-- failed.
use Rattle.std.proofs.Common.{◌≡◌, ℕ, ◌≤◌, List, [], ◌∷◌, length, refl, Option, Some, None, IfSome, is_some, sym, ap, subst, ◌∙◌, arith, Bool, true, false, Result, Ok, IfOk}
use Rattle.std.specs.Ordering.{nat_cmp}
use Rattle.std.specs.FinMap.{find, get, entries, get-entries}
use Rattle.shell_words.specs.declared.limits.TheConstants.{SESSION_LIMIT}
use Rattle.gem_object.specs.gem_value.Oid.{serial_of}
use Rattle.gem_object.specs.declared.object.Object.{Object}
use Rattle.gem_image.specs.Image.{Image, IsImage}
use Rattle.gem_meaning.specs.gem_sound.Sound.{IsSoundImage}
use Rattle.kernel_image.specs.Objects.{kernel_image, kernel_objects}
use Rattle.kernel_image.proofs.Named.{kernel_has}
use Rattle.kernel_image.proofs.KernelSound.{kernel_is_sound, kernel_numbers}
use Rattle.kernel_image.proofs.Unchanged.{IsUnchanged, kernel_unchanged}
use Rattle.gem_meaning.specs.commit_check.Conflicts.{changed_of, last_change}
use Rattle.shell_words.specs.Script.{SessionCommands}
use Rattle.gem_meaning.specs.Opened.{Opened, largest_serial, base_serial}
use Rattle.gem_record.specs.Stored.{Stored}
use Rattle.gem_io.specs.Faults.{HasRisen}
use Rattle.gem_meaning.specs.Events.{Event, halts_in, IsRunning}
use Rattle.gem_meaning.specs.Serial.{CanServe}
use Rattle.stone_core.proofs.Largest.{at_most}
use Rattle.std.proofs.lemmas.Bool.{false≢true}
use Rattle.gem_keeper.specs.declared.memory.MemKeeper.{MemKeeper}
use Rattle.gem_keeper.specs.Memory.{stored_in}
use Rattle.gem_keeper.specs.Found.{Found}
use Rattle.gem_meaning.specs.Legal.{IsLegal, AreTranscripts}
use Rattle.script_run.specs.declared.run.Start.{Start}
use Rattle.script_run.specs.declared.run.Ran.{Ran}
use Rattle.script_run.specs.Run.{opened_by, told_by, CanRun, HasRunOver}
use Rattle.gem_replies.specs.declared.reply.RunBook.{RunBook}
use Rattle.gem_server.specs.Alone.{kernel_opening, IsKernelStart, IsRunOfScript}

first_serial : (name : ℕ) → name ≤ 35 → serial_of name ≤ 0
first_serial name few = omega (arith, few)

pub kernel_serial : largest_serial kernel_image ≤ 0
kernel_serial = at_most 0 0 (entries kernel_image) (omega arith) each
  where
    each : (name : ℕ) (object : Object) → find nat_cmp name (entries kernel_image) ≡ Some object → serial_of name ≤ 0
    each name object found =
        let there : kernel_objects name ≡ Some object =
        sym (kernel_has name) ∙ (get-entries kernel_image name ∙ found) in
        first_serial name ((kernel_numbers name).0 (ap is_some there)).1

unchanged : (found : Option Object) → IfSome found IsUnchanged → changed_of found ≤ 0
unchanged None none = omega arith
unchanged (Some object) is = omega (arith, is)

pub can_serve : (image : Image) (script : List SessionCommands) (stored : Stored) (counts_pages : Bool) → image ≡ kernel_image → IsImage image
    → length script ≤ SESSION_LIMIT
    → CanServe (record { image = image; number = 0; script = script; stored = stored; counts_pages = counts_pages })
unfolding base_serial
can_serve image script stored counts_pages is is_image few = record {
  image = is_image;
  sound = subst IsSoundImage (sym is) kernel_is_sound;
  number = omega arith;
  changed = λ oid. subst (λ (i : Image). last_change i oid ≤ 0) (sym is)
      (unchanged (get kernel_image oid) (kernel_unchanged oid));
  serials =
      let none : largest_serial image ≤ 0 = subst (λ (i : Image). largest_serial i ≤ 0) (sym is) kernel_serial in
      omega (arith, none, few);
}

none_risen : HasRisen 0 0 → ⊥
none_risen risen = omega (arith, risen)

no_member : (numbers : List ℕ) → ((numbers ≡ [] → ⊥) → ⊥) → numbers ≡ []
no_member [] not_some = refl
no_member (number ∷ numbers) not_some =
    absurd (not_some (λ none. omega (arith, ap length none)))

-- no disk, no failure
pub never_halted : (events : List Event) → ((IsRunning events → ⊥) → HasRisen 0 0) → IsRunning events
never_halted events cause = no_member (halts_in events) (λ halted. none_risen (cause halted))

-- ---- a run without a store

pub kernel_can_run : {ready : MemKeeper → Bool} {tells : Bool} {moment : MemKeeper → ℕ} {stands : MemKeeper → Option Found} {left_since : MemKeeper → ℕ → Option Found → Type 0}
    (start : Start MemKeeper) (script : List SessionCommands) → IsKernelStart start → length script ≤ SESSION_LIMIT
    → ready start.keeper ≡ true → tells ≡ false
    → CanRun false stored_in ready tells moment stands left_since start script
unfolding base_serial
kernel_can_run start script is few is_ready silent = record {
  serves = subst (λ (n : ℕ). CanServe (record { image = start.image; number = n; script = script; stored = stored_in start.keeper; counts_pages = false }))
      (sym is.number_is) (can_serve start.image script (stored_in start.keeper) false is.image_is is.named few);
  base_is = is.base_is;
  is_ready = is_ready;
  stands_for = λ told. absurd (false≢true (sym silent ∙ told));
}

opened_so : (start : Start MemKeeper) (script : List SessionCommands) → IsKernelStart start → opened_by false stored_in start script ≡ kernel_opening script
opened_so start script is = λ i. record {
  image = is.image_is i;
  number = is.number_is i;
  script = script;
  stored = is.stored_is i;
  counts_pages = false;
}

when_ok : {X E : Type 0} (P : X → Type 0) (r : Result X E) (x : X) → r ≡ Ok x → IfOk r P → P x
when_ok P r x is holds = subst (λ q. IfOk q P) is holds

pub kernel_run : {ready : MemKeeper → Bool} {faults : MemKeeper → ℕ} {tells : Bool} {moment : MemKeeper → ℕ} {stands : MemKeeper → Option Found}
    {left_since : MemKeeper → ℕ → Option Found → Type 0}
    (start : Start MemKeeper) (script : List SessionCommands) (ran : Ran MemKeeper) (transcripts : _)
    → IsKernelStart start
    → HasRunOver stored_in ready faults tells moment stands left_since (opened_by false stored_in start script) start.keeper ran
    → (HasRisen (faults start.keeper) (faults ran.closed.keeper) → HasRisen 0 0)
    → ran.transcripts ≡ Ok transcripts
    → IsRunOfScript script ran.closed.events.items (record {
      first = 0;
      base = start.base;
      transcripts = transcripts.items;
      history = ran.closed.history.items;
    })
unfolding base_serial
kernel_run start script ran transcripts is run none whole =
    let events = ran.closed.events.items in
    let same = opened_so start script is in
    let book : RunBook = record { first = 0; base = start.base; transcripts = transcripts.items; history = ran.closed.history.items } in
    record {
      legal = subst (λ (o : Opened). IsLegal (record { opened = o; events = events }) book) same (record {
        first = sym is.number_is;
        base = is.base_is;
        history = run.history;
        transcripts = when_ok (λ ts. AreTranscripts (told_by (opened_by false stored_in start script) ran) 1 script ts.items) ran.transcripts transcripts whole run.transcripts;
        consistent = run.consistent;
      });
      running = never_halted events (λ halted. none (run.kept.cause halted));
    }
