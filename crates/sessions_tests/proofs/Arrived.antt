-- The second session of a script comes to a Stone of the tests to which nothing has happened.
use Rattle.std.proofs.Common.{◌≡◌, ℕ, ◌<◌, ◌≤◌, List, [], ◌∷◌, length, get_or, Some, refl, sym, ap, subst, arith}
use Rattle.std.specs.List.{slice_get}
use Rattle.shell_words.specs.Script.{SessionCommands}
use Rattle.gem_meaning.specs.Opened.{base_serial}
use Rattle.gem_meaning.specs.Events.{Told, events_of}
use Rattle.gem_meaning.specs.Serial.{CanServe}
use Rattle.gem_session.specs.Running.{Arrives}
use Rattle.sessions_tests.proofs.Beside.{is_served, port_of}

pub arrives_second : (t : Told) (script : List SessionCommands) (second : SessionCommands)
    → t.opened.script ≡ script → CanServe t.opened → base_serial t.opened ≡ 1 → t.events ≡ []
    → 2 ≤ length script → slice_get script 1 ≡ Some second
    → Arrives (port_of t) 2 2 second
arrives_second t script second same serves base none some is =
    let size = ap length same in
    record {
      serves = is_served t.opened.script 2 (omega arith) (omega (arith, some, size));
      opened = serves;
      fresh = ap (events_of 2) none;
      range = (omega arith, omega (arith, some, size));
      serial_is = omega (arith, base);
      of_script = subst (λ (all : List SessionCommands). slice_get all 1 ≡ Some second) (sym same) is;
    }

pub second_of : {X : Type 0} (xs : List X) (x : X) → x ≡ get_or xs 1 x → 1 < length xs → slice_get xs 1 ≡ Some x
second_of [] x is some = absurd (omega (arith, some))
second_of (y ∷ []) x is some = absurd (omega (arith, some))
second_of (y ∷ z ∷ zs) x is some = ap Some (sym is)
