-- What a read of a known object does, and what is known of an object once it was read.
use Rattle.std.proofs.Common.{◌≡◌, ◌∙◌, refl, sym, ap, subst, ℕ, Bool, true, false, ◌&&◌, [], Option, Some, None, IfSome, is_some, Result, Ok, Err, is_ok}
use Rattle.std.proofs.lemmas.Bool.{false≢true}
use Rattle.std.proofs.lemmas.Option.{same_Some}
use Rattle.gem_object.specs.declared.body.MethodCode.{MethodCode}
use Rattle.running_objects.specs.gem_image.Image.{Contents}
use Rattle.running_objects.specs.gem_world.World.{Setting, World}
use Rattle.running_objects.specs.gem_world.Access.{Access, a_read}
use Rattle.running_objects.specs.object_programs.Atom.{Done}
use Rattle.running_objects.specs.object_programs.Laws.{answered}
use Rattle.running_objects.specs.object_programs.Local.{Local}
use Rattle.running_objects.specs.object_programs.Run.{outcome_of}
use Rattle.running_objects.proofs.object_programs_lemmas.Exact.{read_done}
use Rattle.running_objects.specs.Seen.{Seen, object_at, with_local}
use Rattle.running_objects.specs.Acted.{Reached, Accessed}
use Rattle.running_objects.specs.declared.stop.Stop.{Stop}
use Rattle.running_objects.proofs.Running.{keeps_same}
use Rattle.gem_language.specs.tree_meaning.Place.{MadeBlock}
use Rattle.gem_language.specs.LookUp.{Start, start_of_object}
use Rattle.look_up_cache.specs.Lasting.{lasting_of}
use Rattle.look_up_cache.specs.Calm.{Calm, Begins}
use Rattle.look_up_cache.specs.Table.{AllHeld}
use Rattle.look_up_cache.specs.Memory.{start_at, IsMet, IsFound, IsPlaced, IsCounted, IsCoded, Holds, Where, IsKnown}
use Rattle.look_up_cache.specs.Operators.{IsAnswered}
use Rattle.look_up_cache.specs.declared.memory.Beginning.{Beginning}
use Rattle.look_up_cache.specs.declared.memory.Memory.{Memory}
use Rattle.look_up_cache.proofs.Calms.{Taken, taken, start_lasts, calm_touches}
use Rattle.look_up_cache.proofs.Told.{read_calm}

-- An object of which it is known where look-ups for it begin is read without a change.
pub begun_reached : (name : ℕ) (start : Start) (seen : Seen) → Begins name start seen.setting seen.world
    → Reached a_read name seen seen
begun_reached name start seen begins =
    let found : Taken (object_at name seen) begins.part = taken (object_at name seen) begins.part begins.calm.there in
    record {
      object = found.object;
      there = found.there;
      acted = record {
        keeps = keeps_same seen;
        did = read_done name seen.setting seen.world seen.budget found.object begins.calm.allowed found.there
            ∙ ap (λ (world : World). answered found.object world seen.budget)
            (calm_touches name begins.part seen.setting seen.world begins.calm found.object found.there found.is);
      };
      same = λ other. refl;
    }

pub found_reached : (name : ℕ) (seen : Seen) (found : Option Beginning)
    → IfSome found (λ start. Begins name (start_at start) seen.setting seen.world) → is_some found ≡ true
    → Reached a_read name seen seen
found_reached name seen None begins is = absurd (false≢true is)
found_reached name seen (Some start) begins is = begun_reached name (start_at start) seen begins

-- An object that was read is calm from then on.
pub reached_calm : (name : ℕ) (before after : Seen) (reached : Reached a_read name before after)
    → Calm name (lasting_of reached.object) after.setting after.world
reached_calm name before after reached =
    let nowhere : Local MadeBlock = record { scopes = []; blocks = []; living = [] } in
    subst (λ (setting : Setting). Calm name (lasting_of reached.object) setting after.world)
    (sym reached.acted.keeps.setting)
    (read_calm before.setting name (with_local before nowhere) reached.object (with_local after nowhere)
    (ap (λ (did : Done Contents). outcome_of did nowhere) reached.acted.did))

pub reached_begins : (name : ℕ) (before after : Seen) → Reached a_read name before after
    → (object : Contents) → object_at name after ≡ Some object
    → Begins name (start_of_object name object.class object.body) after.setting after.world
reached_begins name before after reached object there =
    let same : reached.object ≡ object = same_Some reached.object object (sym reached.there ∙ there) in
    record {
      part = lasting_of object;
      calm = subst (λ (one : Contents). Calm name (lasting_of one) after.setting after.world) same
          (reached_calm name before after reached);
      at = start_lasts name object.class object.body;
    }

-- What is known stays known after an access, and what was read or written is known.
pub reached_known : {T : Type 0} (is_of : T → MethodCode → Type 0) (access : Access) (name : ℕ) (held : Bool)
    (middle memory : Memory T) (before after : Seen) (result : Result (Unit {0}) Stop)
    → Accessed access name before result after → (held ≡ true → result ≡ Ok tt)
    → IsKnown is_of held middle after
    → (Reached access name before after → Where held (Holds middle after) → Where held (Holds memory after))
    → memory.methods.items ≡ middle.methods.items → IsKnown is_of held memory after
reached_known {T} is_of access name false middle memory before after result accessed ok known learns same =
    record { holds = tt; coded = subst (λ methods. AllHeld (IsCoded is_of) methods) (sym same) known.coded }
reached_known {T} is_of access name true middle memory before after result accessed ok known learns same = record {
  holds = learns (subst (λ (ended : Result (Unit {0}) Stop). Accessed access name before ended after) (ok refl) accessed)
      known.holds;
  coded = subst (λ methods. AllHeld (IsCoded is_of) methods) (sym same) known.coded;
}

pub still_ok : (held now : Bool) (result : Result (Unit {0}) Stop) → now ≡ (held && is_ok result) → now ≡ true
    → result ≡ Ok tt
still_ok false now result is holds = absurd (false≢true (sym is ∙ holds))
still_ok true now (Ok nothing) is holds = refl
still_ok true now (Err ended) is holds = absurd (false≢true (sym is ∙ holds))

-- What comes into the table of receivers leaves the look-ups.
pub learned : {T : Type 0} (held : Bool) (old new : Memory T) (seen : Seen)
    → (AllHeld (IsMet seen) old.receivers.items → AllHeld (IsMet seen) new.receivers.items)
    → new.methods.items ≡ old.methods.items → new.variables.items ≡ old.variables.items
    → new.counts.items ≡ old.counts.items → new.operators.items ≡ old.operators.items
    → Where held (Holds old seen) → Where held (Holds new seen)
learned false old new seen learns same alike equal like holds = tt
learned true old new seen learns same alike equal like holds = record {
  receivers = learns holds.receivers;
  methods = subst (λ methods. AllHeld (IsFound seen) methods) (sym same) holds.methods;
  variables = subst (λ variables. AllHeld (IsPlaced seen) variables) (sym alike) holds.variables;
  counts = subst (λ counts. AllHeld (IsCounted seen) counts) (sym equal) holds.counts;
  operators = subst (λ operators. AllHeld (IsAnswered seen) operators) (sym like) holds.operators;
}
