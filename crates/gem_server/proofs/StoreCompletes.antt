-- What keeps a script from its report over a store, and the line of a store from being written.
use Rattle.std.proofs.Common.{◌≡◌, ◌⊎◌, ℕ, ◌+◌, Bool, List, length, Option, Some, None, Result, Ok, Err, ◌++◌, refl, ap, sym, subst, ◌∙◌, inl, inr, arith, append-nil}
use Rattle.std.specs.Io.KnownBytes.{Consumes, IsAtEnd}
use Rattle.gem_object.specs.texts.Bytes.{Bytes}
use Rattle.gem_disk.specs.Disk.{Past}
use Rattle.gem_image.specs.Image.{Image}
use Rattle.shell_words.specs.Script.{SessionCommands}
use Rattle.shell_words.specs.ScriptGrammar.{ReadsScript}
use Rattle.shell_words.proofs.OneAnswer.{one_script}
use Rattle.stone_store.specs.declared.fault.StoreFlaw.{StoreFlaw}
use Rattle.stone_store.specs.declared.fault.StoreFlaw.TheVariants as flaw
use Rattle.stone_store.specs.Store.{Held, image_of, number_of}
use Rattle.stone_store.specs.Opening.{IsFlawed}
use Rattle.gem_meaning.specs.gem_sound.Sound.{IsSoundImage}
use Rattle.gem_meaning.specs.Opened.{largest_serial}
use Rattle.gem_meaning.specs.Events.{Event}
use Rattle.gem_replies.specs.declared.reply.RunBook.{RunBook}
use Rattle.gem_server.specs.declared.status.Status.{Status}
use Rattle.gem_server.specs.declared.status.Status.TheVariants.{Done, Usage, Script, NotStore, SerialsUsed, NotEmpty, ReadFault, DiskFault, WriteFault, NoMemory}
use Rattle.gem_server.specs.Devices.{Seen, HasFailed}
use Rattle.gem_server.specs.Server.{IsRead}
use Rattle.gem_server.specs.Serving.{HasNoRoom, IsWhyNot, HasRun}
use Rattle.gem_server.specs.Looking.{ChecksSo}
use Rattle.gem_server.specs.Completeness.{HeldSound, HeldRoom, ServingCompletes, LookingCompletes}
use Rattle.gem_server.proofs.Completes.{no_rule}
use Rattle.gem_server.proofs.DiskFaults.{faults_have_cause}

pub ok_is : {A E : Type 0} (x y : A) → ◌≡◌ {A = Result A E} (Ok x) (Ok y) → x ≡ y
ok_is x y e = cc

never : {G : Type 0} (x : Held) (why : StoreFlaw) → ◌≡◌ {A = Result Held StoreFlaw} (Ok x) (Err why) → G
never x why e = absurd cc

-- a sound image breaks no rule
pub no_flaw : (store : Result Held StoreFlaw) (held : Held) (why : StoreFlaw) → store ≡ Ok held → IsSoundImage (image_of held) → IsFlawed store why → ⊥
no_flaw store held (flaw.Extent at rule) is sound flawed = never held (flaw.Extent at rule) (sym is ∙ flawed)
no_flaw store held (flaw.Log at rule) is sound flawed = never held (flaw.Log at rule) (sym is ∙ flawed)
no_flaw store held (flaw.Image oid rule) is sound (other, other_is, breaks) =
    let same = ok_is held other (sym is ∙ other_is) in
    breaks.broken (subst (λ (h : Held). IsSoundImage (image_of h)) same sound _ _)

-- the text that was given is the source's whole
pub whole_text : (text given : Bytes) (left : Option Bytes) → Consumes (Some text) left given → IsAtEnd left → text ≡ given
whole_text text given None gave at_end = absurd gave
whole_text text given (Some rest) gave at_end = gave ∙ ap (λ r. given ++ r) at_end ∙ append-nil given

module _ (tells : Bool) (source : Seen (Option Bytes)) (disk : Seen Past) (text : Bytes) (script : List SessionCommands) (held : Held)
    (here : source.before ≡ Some text) (at_end : IsAtEnd source.after) (reads : ReadsScript text script) (sound : HeldSound tells disk held) (room : HeldRoom held script) where
  has_room : (base sessions : ℕ) → HasNoRoom tells source disk base sessions → ⊥
  has_room base sessions none =
      let found = none.found sound.told in
      let same = ok_is held found.held (sym sound.is ∙ found.store_is) in
      let given = whole_text text none.text source.after (subst (λ (b : Option Bytes). Consumes b source.after none.text) here none.given) at_end in
      let scripts = one_script text script none.script reads (subst (λ (t : Bytes). ReadsScript t none.script) (sym given) none.reads) in
      let number_is : none.opened.number ≡ number_of held = found.number_is ∙ ap number_of (sym same) in
      let base_is : base ≡ largest_serial (image_of held) + 1 =
      none.base_is ∙ ap (λ (i : Image). largest_serial i + 1) (found.image_is ∙ ap image_of (sym same)) in
      let sessions_is : sessions ≡ length script = none.sessions_are ∙ ap length (sym scripts) in
      let serials = room.serials in
      let numbers = room.number in
      elim none.why [
        | inl over ↦ omega (arith, over, base_is, sessions_is, serials)
        | inr over ↦ omega (arith, over, number_is, numbers)
      ]

module _ (tells : Bool) (source sink : Seen (Option Bytes)) (disk : Seen Past) (text : Bytes) (script : List SessionCommands) (held : Held)
    (here : source.before ≡ Some text) (reads : ReadsScript text script) (sound : HeldSound tells disk held) (room : HeldRoom held script)
    (no_read : HasFailed source → ⊥) (no_write : HasFailed sink → ⊥) (no_disk : HasFailed disk → ⊥) where
  unrun : (status : Status) → IsRead source status → IsWhyNot tells source disk status → (status ≡ Done) ⊎ (status ≡ NoMemory)
  unrun NoMemory read why = inr refl
  unrun (Script line rule) read why =
      absurd (no_rule text read.given source.after script line rule (subst (λ (b : Option Bytes). Consumes b source.after read.given) here read.gave) (read.whole tt) reads ((read.tells line rule).0 refl).1)
  unrun ReadFault read why = absurd (no_read (read.fault refl))
  unrun (NotStore flaw) read why = absurd (no_flaw _ held flaw sound.is sound.sound (why sound.told))
  unrun (SerialsUsed base sessions) read why = absurd (has_room tells source disk text script held here why.at_end reads sound room base sessions why)
  unrun DiskFault read why = absurd (no_disk why)
  unrun Done read why = absurd why
  unrun Usage read why = absurd why
  unrun (NotEmpty extent log) read why = absurd why
  unrun WriteFault read why = absurd why

  run : (status : Status) (events : List Event) (book : RunBook) → HasRun tells source sink disk status events book → (status ≡ Done) ⊎ (status ≡ NoMemory)
  run Done events book has = inl refl
  run NoMemory events book has = inr refl
  run WriteFault events book has = absurd (no_write has.ended.2)
  run DiskFault events book has = absurd (no_disk (has.kept.cause has.ended.1))
  run Usage events book has = absurd has.ended
  run (Script line rule) events book has = absurd has.ended
  run (NotStore flaw) events book has = absurd has.ended
  run (SerialsUsed base sessions) events book has = absurd has.ended
  run (NotEmpty extent log) events book has = absurd has.ended
  run ReadFault events book has = absurd has.ended

pub serving_completes : ServingCompletes
serving_completes tells source sink disk status events book text script held serves here reads sound room no_read no_write no_disk = (
  elim serves.course [
    | inl none ↦ unrun tells source sink disk text script held here reads sound room no_read no_write no_disk status serves.read none.why
    | inr has ↦ run tells source sink disk text script held here reads sound room no_read no_write no_disk status events book has
  ],
  λ told. no_disk (faults_have_cause tells source sink disk status events book serves told).1,
)

pub looking_completes : LookingCompletes
looking_completes tells sink disk status held looks sound no_write no_disk = so status looks.so
  where
    so : (status : Status) → ChecksSo tells sink disk status → (status ≡ Done) ⊎ (status ≡ NoMemory)
    so Done has = inl refl
    so NoMemory has = inr refl
    so WriteFault has = absurd (no_write has.2)
    so (NotStore flaw) has = absurd (no_flaw _ held flaw sound.is sound.sound (has.1 sound.told))
    so DiskFault has = absurd (no_disk has.1)
    so Usage has = absurd has
    so (Script line rule) has = absurd has
    so (SerialsUsed base sessions) has = absurd has
    so (NotEmpty extent log) has = absurd has
    so ReadFault has = absurd has
