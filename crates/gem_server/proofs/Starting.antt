-- Opening a store for a run.
use Rattle.std.proofs.Common.{◌≡◌, ℕ, ◌≤◌, Bool, true, IsTrue, List, Option, Some, None, is_some, refl, sym, subst, arith}
use Rattle.std.specs.FinMap.{get}
use Rattle.gem_object.specs.declared.object.Object.{Object}
use Rattle.gem_disk.specs.Disk.{Files, Past, as_read}
use Rattle.gem_disk.specs.Runs.{LeavesOnly}
use Rattle.gem_disk.proofs.Moments.{started as nothing_done}
use Rattle.gem_image.specs.Image.{IsImage}
use Rattle.shell_words.specs.Script.{SessionCommands}
use Rattle.gem_keeper.specs.Found.{StandsFor}
use Rattle.gem_keeper.specs.Crashes.{FitsNow}
use Rattle.stone_store.specs.declared.parts.FoundImage.{FoundImage}
use Rattle.stone_store.specs.declared.parts.Parts.{Parts}
use Rattle.stone_store.specs.declared.fault.StoreFault.{StoreFault}
use Rattle.stone_store.specs.declared.fault.StoreFault.TheVariants as fault
use Rattle.stone_store.specs.Store.{store_of}
use Rattle.stone_store.specs.Left.{FilesStandFor}
use Rattle.stone_store.specs.Opening.{IsFound, MayGoOn, OpensNot, ReadsSame}
use Rattle.stone_store.specs.Resting.{stored_by, IsStoredIn}
use Rattle.stone_store.specs.Whole.{StoreOf, StoresBy, store_moment, store_stands, store_left}
use Rattle.gem_meaning.specs.commit_check.Conflicts.{changed_of}
use Rattle.gem_meaning.specs.Opened.{base_serial}
use Rattle.gem_meaning.specs.Serial.{CanServe}
use Rattle.script_run.specs.Run.{opened_by}
use Rattle.gem_server.specs.declared.status.Status.{Status}
use Rattle.gem_server.specs.declared.status.Status.TheVariants.{SerialsUsed}
use Rattle.gem_server.specs.declared.opening.Refused.{Refused}
use Rattle.gem_server.specs.Devices.{Seen, seen, HasFailed}
use Rattle.gem_server.specs.Course.{Stays}
use Rattle.gem_server.specs.Serving.{status_of_store}
use Rattle.gem_server.specs.Starting.{HasRoom, IsFull, IsStarted, IsRefused, IsWhyRefused, kept_in}

-- a disk that wasn't used
pub stays_unused : (tells : Bool) (disk : Seen Past) → disk.after ≡ disk.before → Stays tells disk
stays_unused tells disk same = record {
  same = λ told. subst (ReadsSame disk.before) (sym same) (record { extent = refl; log = refl; bytes = λ long. refl; short = λ small. small });
  crash_since = λ image number told all. subst (λ (p : Past). LeavesOnly disk.before p (FilesStandFor image number)) (sym same)
      (nothing_done disk.before (FilesStandFor image number) all.each);
}

changed_in : (here : Option Object) (number : ℕ) → ((object : Object) → here ≡ Some object → object.changed ≤ number) → changed_of here ≤ number
changed_in None number all = omega arith
changed_in (Some object) number all = all object refl

stored_there : (files : Files) (parts : Option Parts) → is_some parts ≡ true → StoresBy files parts
    → IsStoredIn files (stored_by parts)
stored_there files None open_so stored = absurd cc
stored_there files (Some parts) open_so stored = stored

module _ {D : Type 0} (tells : Bool) (past : D → Past) (faults : D → ℕ) (disk : D) (script : List SessionCommands) where
  pub is_started : (found : FoundImage) (base : ℕ) (store : StoreOf D) → IsImage found.image → MayGoOn found
      → HasRoom found script base → is_some store.parts ≡ true
      → (IsTrue tells → IsFound (store_of (as_read (past disk))) found)
      → (IsTrue tells → FitsNow (store_moment past) (store_stands past) (store_left past) store (StandsFor found.image found.number))
      → (IsTrue tells → StoresBy (as_read (past disk)) store.parts)
      → Stays tells (seen past faults disk store.disk) → faults store.disk ≡ faults disk
      → IsStarted tells past faults disk script (record { image = found.image; number = found.number; base = base; keeper = store })
  unfolding base_serial
  is_started found base store named go room is_ready is stands stored stays quiet =
      let can_serve : CanServe (opened_by true kept_in (record { image = found.image; number = found.number; base = base; keeper = store }) script) = record {
        image = named;
        sound = go.sound;
        number = room.number;
        changed = λ oid. changed_in (get found.image oid) found.number (go.changed oid);
        serials = let base_is = room.base_is in let serials = room.serials in omega (arith, base_is, serials);
      } in
      record {
        can_run = record {
          serves = can_serve;
          base_is = room.base_is;
          is_ready = is_ready;
          stands_for = stands;
        };
        opened_on = record {
          counts = refl;
          can_serve = can_serve;
          found = is;
          stored = λ told. stored_there (as_read (past disk)) store.parts is_ready (stored told);
        };
        stays = stays;
        quiet = quiet;
      }

  why_refused : (why : StoreFault) (disk' : D) → (IsTrue tells → OpensNot (store_of (as_read (past disk))) why)
      → (why ≡ fault.Disk → HasFailed (seen past faults disk disk'))
      → IsWhyRefused tells past faults disk script (status_of_store why) 0 0 disk'
  why_refused (fault.NotStore flaw) disk' flawed failed = ((refl, refl), flawed)
  why_refused fault.Disk disk' flawed failed = ((refl, refl), failed refl)
  why_refused fault.NoMemory disk' flawed failed = (refl, refl)

  -- what is refused, by its parts
  refused_so : (refused : Refused D) (status : Status) (first base : ℕ) (disk' : D) → refused.status ≡ status → refused.first ≡ first
      → refused.base ≡ base → refused.disk ≡ disk' → IsWhyRefused tells past faults disk script status first base disk'
      → Stays tells (seen past faults disk disk')
      → IsRefused tells past faults disk script refused
  refused_so refused status first base disk' status_is first_is base_is disk_is why stays = record {
    why = subst (λ (s : Status). IsWhyRefused tells past faults disk script s refused.first refused.base refused.disk) (sym status_is)
        (subst (λ (n : ℕ). IsWhyRefused tells past faults disk script status n refused.base refused.disk) (sym first_is)
        (subst (λ (n : ℕ). IsWhyRefused tells past faults disk script status first n refused.disk) (sym base_is)
        (subst (λ (d : D). IsWhyRefused tells past faults disk script status first base d) (sym disk_is) why)));
    stays = subst (λ (d : D). Stays tells (seen past faults disk d)) (sym disk_is) stays;
  }

  pub is_refused : (why : StoreFault) (refused : Refused D) (disk' : D) → refused.status ≡ status_of_store why → refused.first ≡ 0
      → refused.base ≡ 0 → refused.disk ≡ disk'
      → (IsTrue tells → OpensNot (store_of (as_read (past disk))) why)
      → (why ≡ fault.Disk → HasFailed (seen past faults disk disk'))
      → Stays tells (seen past faults disk disk')
      → IsRefused tells past faults disk script refused
  is_refused why refused disk' status_is first_is base_is disk_is flawed failed stays =
      refused_so refused (status_of_store why) 0 0 disk' status_is first_is base_is disk_is (why_refused why disk' flawed failed) stays

  pub is_full : (found : FoundImage) (base sessions : ℕ) (refused : Refused D) (disk' : D) → IsFull found script base sessions
      → refused.status ≡ SerialsUsed base sessions → refused.first ≡ found.number → refused.base ≡ base → refused.disk ≡ disk'
      → (IsTrue tells → IsFound (store_of (as_read (past disk))) found)
      → Stays tells (seen past faults disk disk')
      → IsRefused tells past faults disk script refused
  is_full found base sessions refused disk' full status_is first_is base_is disk_is held stays =
      refused_so refused (SerialsUsed base sessions) found.number base disk' status_is first_is base_is disk_is
      (found, full, refl, refl, held) stays
