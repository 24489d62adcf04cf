-- What a write of a known object does, and what is known of an object once it was written.
use Rattle.std.proofs.Common.{◌≡◌, ◌∙◌, refl, sym, ap, subst, ℕ, Bool, true, false, Option, Some, None, is_some}
use Rattle.std.specs.FinMap.{get}
use Rattle.std.specs.Option.{option_or}
use Rattle.std.proofs.lemmas.Bool.{false≢true}
use Rattle.running_objects.proofs.radix_pages_lemmas.Tables.{get-insert_same}
use Rattle.gem_object.specs.Kinds.{is_shared}
use Rattle.running_objects.specs.gem_image.Image.{Contents}
use Rattle.running_objects.specs.gem_world.World.{Setting, World, shown, before_changes}
use Rattle.running_objects.specs.gem_world.Changes.{put}
use Rattle.running_objects.specs.gem_world.Access.{a_write, is_allowed, with_touches}
use Rattle.running_objects.specs.object_programs.Atom.{Done, Ask, done}
use Rattle.running_objects.specs.object_programs.Budget.{Budget}
use Rattle.running_objects.specs.object_programs.Laws.{answered}
use Rattle.running_objects.specs.object_programs.Run.{end_of}
use Rattle.running_objects.proofs.object_programs_lemmas.Exact.{write_done, write_shared_done}
use Rattle.running_objects.specs.Seen.{Seen, object_at}
use Rattle.running_objects.specs.Acted.{Reached}
use Rattle.running_objects.proofs.Running.{keeps_same}
use Rattle.running_objects.proofs.Puts.{put_same}
use Rattle.gem_language.specs.LookUp.{Start}
use Rattle.look_up_cache.specs.Lasting.{Lasting, lasting_of}
use Rattle.look_up_cache.specs.Calm.{Calm, Begins, Writable}
use Rattle.look_up_cache.specs.Remains.{Remains}
use Rattle.look_up_cache.specs.Memory.{start_at, IsMet}
use Rattle.look_up_cache.specs.declared.memory.Beginning.{Beginning}
use Rattle.look_up_cache.specs.declared.memory.Receiver.{Receiver}
use Rattle.look_up_cache.proofs.Calms.{Taken, taken, calm_touches}
use Rattle.look_up_cache.proofs.Stays.{allowed_stays}
use Rattle.look_up_cache.proofs.Told.{allowed_by}
use Rattle.look_up_cache.proofs.Atoms.{access_remains}
use Rattle.look_up_cache.proofs.Again.{where_true}

-- ---- a second write

-- what is seen of an object among the changes stands there
changed_is : (found old : Option Contents) (object : Contents) → is_some found ≡ true
    → option_or found old ≡ Some object → found ≡ Some object
changed_is None old object changed there = absurd (false≢true changed)
changed_is (Some one) old object changed there = there

module _ (name : ℕ) (part : Lasting) (setting : Setting) (world : World) (budget : Budget)
    (calm : Calm name part setting world) (writable : Writable name setting world) (object : Contents)
    (there : shown name setting world ≡ Some object) (is : lasting_of object ≡ part) where
  untouched : with_touches name setting world ≡ world
  untouched = calm_touches name part setting world calm object there is

  put_again : put name object world ≡ world
  put_again = put_same name object world
      (changed_is (get world.changes name) (before_changes name setting) object writable.changed there)

  again_by : (shared : Bool) → is_shared object.body ≡ shared
      → done (Ask a_write name) setting world budget ≡ answered object world budget
  again_by true shared = write_shared_done name setting world budget object writable.allowed there shared
      ∙ ap (λ (w : World). answered object w budget) untouched
  again_by false ordinary = write_done name setting world budget object writable.allowed there ordinary
      ∙ ap (λ (w : World). answered object w budget) (ap (λ (w : World). put name object w) untouched ∙ put_again)

  written_again : done (Ask a_write name) setting world budget ≡ answered object world budget
  written_again = again_by (is_shared object.body) refl

-- An object that is known, and that the user may write where it stands, is written without a change.
writable_reached : (name : ℕ) (start : Start) (seen : Seen) → Begins name start seen.setting seen.world
    → Writable name seen.setting seen.world → Reached a_write name seen seen
writable_reached name start seen begins writable =
    let found : Taken (object_at name seen) begins.part = taken (object_at name seen) begins.part begins.calm.there in
    record {
      object = found.object;
      there = found.there;
      acted = record {
        keeps = keeps_same seen;
        did = written_again name begins.part seen.setting seen.world seen.budget begins.calm writable found.object
            found.there found.is;
      };
      same = λ other. refl;
    }

pub written_reached : (name : ℕ) (receiver : Receiver) (seen : Seen) → receiver.name ≡ name → IsMet seen receiver
    → receiver.written ≡ true → Reached a_write name seen seen
written_reached name receiver seen same met written =
    subst (λ (n : ℕ). Reached a_write n seen seen) same
    (writable_reached receiver.name (start_at receiver.start) seen met.begins
    (where_true receiver.written (Writable receiver.name seen.setting seen.world) written met.writable))

-- ---- after a write

put_changes : (name : ℕ) (object : Contents) (world : World)
    → is_some (get (put name object world).changes name) ≡ true
unfolding put
put_changes name object world = ap is_some (get-insert_same world.changes name object name refl)

-- An ordinary object that was written can be written again from then on.
pub reached_writable : (name : ℕ) (before after : Seen) (reached : Reached a_write name before after)
    → is_shared reached.object.body ≡ false → Writable name after.setting after.world
reached_writable name before after reached ordinary =
    let object : Contents = reached.object in
    let there : object_at name before ≡ Some object = sym (reached.same name) ∙ reached.there in
    let allowed : is_allowed a_write name before.setting before.world ≡ true =
    allowed_by a_write name (is_allowed a_write name before.setting before.world) (object_at name before) object
    (ap (λ (did : Done Contents). end_of did.answer) reached.acted.did) in
    let left : put name object (with_touches name before.setting before.world) ≡ after.world =
    ap (λ (did : Done Contents). did.world)
    (sym (write_done name before.setting before.world before.budget object allowed there ordinary) ∙ reached.acted.did) in
    let remains : Remains before after = access_remains before after a_write name reached in
    subst (λ (setting : Setting). Writable name setting after.world) (sym remains.setting) (record {
      allowed = allowed_stays before.setting before.world after.world remains.still a_write name object there allowed;
      changed = subst (λ (world : World). is_some (get world.changes name) ≡ true) left
          (put_changes name object (with_touches name before.setting before.world));
    })

-- what is known of it then
pub written_met : (name : ℕ) (known : Receiver) (start : Beginning) (seen : Seen) → known.name ≡ name
    → IsMet seen known → start ≡ known.start → Writable name seen.setting seen.world
    → IsMet seen (record known { start = start; written = true })
written_met name known start seen same met copied writable =
    subst (λ (s : Beginning). IsMet seen (record known { start = s; written = true })) (sym copied) (record {
      begins = met.begins;
      writable = subst (λ (n : ℕ). Writable n seen.setting seen.world) (sym same) writable;
      reads = met.reads;
      puts = met.puts;
    })
