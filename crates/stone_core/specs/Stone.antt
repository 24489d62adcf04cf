-- What holds of every Stone.
use Rattle.std.specs.Prelude.{◌≡◌, ◌≤◌, ◌<◌, ◌+◌, ◌^◌, ℕ, Bool, nat_le, ◌&&◌, List, length}
use Rattle.std.specs.FinMap.{len}
use Rattle.gem_image.specs.Image.{Image}
use Rattle.gem_record.specs.declared.record.Entry.{Entry}
use Rattle.lock_table.specs.Locks.{LockSet}
use Rattle.shell_words.specs.Script.{SessionCommands}
use Rattle.gem_meaning.specs.Events.{Told, standing, entries_of}
use Rattle.gem_meaning.specs.Serial.{IsConsistent, CanServe}

-- The Stone has this image, this number, these locks and this history: those that stand after its
-- events, which are consistent. There is room among them for an event that ends each lock. A number
-- of 2^63 or more couldn't be stored.
pub record IsStone (t : Told) (image : Image) (number : ℕ) (locks : LockSet) (history : List Entry)
    (room : ℕ) : Type 0 where
  pub image_is : image ≡ (standing t).image
  pub number_is : number ≡ (standing t).number
  pub small : number < 2 ^ 63
  pub locks_are : locks ≡ (standing t).locks
  pub history_is : history ≡ entries_of t.events
  pub opening : CanServe t.opened
  pub consistent : IsConsistent t
  pub enough : length t.events + len locks ≤ room

-- whether the script has a session of this number, which counts from 1
abbrev pub is_session : List SessionCommands → ℕ → Bool
is_session script session = nat_le 1 session && nat_le session (length script)
