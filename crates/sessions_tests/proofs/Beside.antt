-- The Stone of the tests can serve; and the first session may come to one on which the second one holds
-- a lock.
use Rattle.std.proofs.Common.{◌≡◌, ℕ, ◌-◌, ◌<◌, ◌≤◌, ◌&&◌, true, List, [], ◌∷◌, ◌++◌, length, get_or, Some, IsSome, refl, sym, ap, ap₂, subst, arith}
use Rattle.std.specs.FinMap.{get}
use Rattle.std.specs.List.{slice_get}
use Rattle.std.proofs.lemmas.Bool.{le-leb}
use Rattle.gem_record.specs.gem_image.Image.{Image}
use Rattle.kernel_image.specs.Objects.{kernel_image}
use Rattle.kernel_image.proofs.Named.{kernel_has}
use Rattle.kernel_image.proofs.KernelSound.{kernel_numbers}
use Rattle.shell_words.specs.Script.{SessionCommands}
use Rattle.gem_meaning.specs.Opened.{Opened, base_serial, largest_serial}
use Rattle.gem_meaning.specs.Events.{Event, Told, told_more, after_events, standing, events_of}
use Rattle.gem_meaning.specs.Serial.{CanServe}
use Rattle.stone_core.specs.declared.port.LockAnswer.{LockAnswer}
use Rattle.stone_core.specs.declared.port.LockAnswer.TheVariants.{Granted, Denied, NoMemory}
use Rattle.stone_core.specs.Port.{event_of_lock, PortState}
use Rattle.stone_core.specs.Stone.{is_session}
use Rattle.gem_session.specs.Running.{Arrives}
use Rattle.gem_server.proofs.Kernel.{kernel_serial}

-- ---- the Stone as it is opened

pub kernel_base : (o : Opened) → o.image ≡ kernel_image → base_serial o ≡ 1
unfolding base_serial
kernel_base o is =
    let none : largest_serial o.image ≤ 0 =
    subst (λ (i : Image). largest_serial i ≤ 0) (sym is) kernel_serial in
    omega (arith, none)

-- ---- the session beside a lock

pub is_served : (script : List SessionCommands) (session : ℕ) → 1 ≤ session → session ≤ length script
    → is_session script session ≡ true
is_served script session first last =
    ap₂ (λ a b. a && b) (le-leb 1 session first) (le-leb session (length script) last)

-- the dictionary Globals is there
pub globals_there : (t : Told) (oid : ℕ) → t.opened.image ≡ kernel_image → t.events ≡ [] → oid ≡ 27
    → IsSome (get (standing t).image oid)
unfolding after_events
globals_there t oid image none name =
    subst (λ (es : List Event). IsSome (get (after_events t.opened es).image oid)) (sym none)
    (subst (λ (i : Image). IsSome (get i oid)) (sym image)
    (subst (λ (n : ℕ). IsSome (get kernel_image n)) (sym name)
    (subst IsSome (sym (kernel_has 27)) ((kernel_numbers 27).1 (omega arith, omega arith)))))

none_of_first : (oid : ℕ) (answer : LockAnswer) → events_of 1 (event_of_lock 2 oid answer) ≡ []
none_of_first oid (Granted kind last) = refl
none_of_first oid (Denied holder held) = refl
none_of_first oid NoMemory = refl

abbrev pub port_of : Told → PortState
port_of t = record { told = t; serves = is_session t.opened.script; alone = true }

pub arrives : (t : Told) (script : List SessionCommands) (first : SessionCommands) (oid : ℕ) (answer : LockAnswer)
    → t.opened.script ≡ script → CanServe t.opened → base_serial t.opened ≡ 1 → t.events ≡ []
    → 2 ≤ length script → slice_get script 0 ≡ Some first
    → Arrives (port_of (told_more t (event_of_lock 2 oid answer))) 1 1 first
arrives t script first oid answer same serves base none some is =
    let size = ap length same in
    record {
      serves = is_served t.opened.script 1 (omega arith) (omega (arith, some, size));
      opened = serves;
      fresh = subst (λ (es : List Event). events_of 1 (es ++ event_of_lock 2 oid answer) ≡ []) (sym none)
          (none_of_first oid answer);
      range = (omega arith, omega (arith, some, size));
      serial_is = omega (arith, base);
      of_script = subst (λ (all : List SessionCommands). slice_get all 0 ≡ Some first) (sym same) is;
    }

pub first_of : {X : Type 0} (xs : List X) (x : X) → x ≡ get_or xs 0 x → 0 < length xs → slice_get xs 0 ≡ Some x
first_of [] x is some = absurd (omega (arith, some))
first_of (y ∷ ys) x is some = ap Some (sym is)
