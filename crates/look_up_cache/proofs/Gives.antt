-- What is remembered is what a look-up finds now, and it changes nothing.
use Rattle.std.proofs.Common.{◌≡◌, ◌∙◌, refl, sym, ap, subst, ℕ, suc, Bool, true, false, Option, Some, None, Ok}
use Rattle.std.proofs.lemmas.Option.{same_Some}
use Rattle.gem_object.specs.texts.Bytes.{Bytes as Text}
use Rattle.gem_object.specs.declared.body.MethodCode.{MethodCode}
use Rattle.gem_object.specs.declared.body.ClassBody.{ClassBody}
use Rattle.gem_object.specs.declared.value.Value.{Value}
use Rattle.gem_object.specs.declared.value.Value.TheVariants as value
use Rattle.running_objects.specs.gem_image.Image.{Contents}
use Rattle.running_objects.specs.gem_world.World.{Setting}
use Rattle.running_objects.specs.gem_sound.Parts.{class_of}
use Rattle.running_objects.specs.gem_sound.Kernel.{class_class}
use Rattle.running_objects.specs.object_programs.Guard.{chain_limit}
use Rattle.running_objects.specs.object_programs.Run.{give, gives, State, perform}
use Rattle.running_objects.specs.object_programs.Programs.{read}
use Rattle.gem_language.specs.tree_meaning.Place.{Frame, MadeBlock}
use Rattle.gem_language.specs.Comes.{Comes}
use Rattle.gem_language.specs.declared.found.Found.{Found}
use Rattle.gem_language.specs.LookUp.{FindingRun, methods_on, code_of, found_or, from_superclass, found_from, up_within, up_classes, past_last, Start, found_at, start_of_object, start_of_receiver, find_method}
use Rattle.gem_language.proofs.Ends.{then_comes}
use Rattle.running_objects.specs.Seen.{Seen, with_local}
use Rattle.running_objects.proofs.Running.{keeps_same}
use Rattle.prim_parts.specs.Does.{Does}
use Rattle.prim_parts.proofs.Does.{does_give, does_then}
use Rattle.look_up_cache.specs.Lasting.{Lasting, class_in}
use Rattle.look_up_cache.specs.Calm.{Calm, Begins, start_by}
use Rattle.look_up_cache.specs.Remembered.{Up, no_class, holds, last, above, IsNothing, Past, From, Finds}
use Rattle.look_up_cache.specs.Memory.{BeginsFor, FindsFor}
use Rattle.look_up_cache.proofs.Calms.{Reads, calm_read, class_taken, start_lasts}

module _ (class_side : Bool) (selector : Text) (past : FindingRun) (Gone : Option Found → Type 0) (setting : Setting)
    (state : State MadeBlock) where
  -- a class that is calm is read, and then comes what comes at it
  first_comes : (more name : ℕ) (part : Lasting) (class : Option ClassBody) → Calm name part setting state.world
      → class_in part ≡ class → perform (up_within (suc more) class_side selector past name) setting state
      ≡ perform (found_from class_side selector name class (up_within more class_side selector past) past) setting state
  first_comes more name part class calm is =
      let first : Reads name part setting state = calm_read name part setting state calm in
      then_comes setting (read name) (λ (object : Contents). found_from class_side selector name (class_of object.body)
      (up_within more class_side selector past) past) state first.object state first.comes
      ∙ ap (λ (held : Option ClassBody). perform (found_from class_side selector name held
      (up_within more class_side selector past) past) setting state)
      (class_taken first.object part class first.is is)

  code_comes : (more name : ℕ) (part : Lasting) (class : ClassBody) (code : Option MethodCode)
      → Calm name part setting state.world → class_in part ≡ Some class
      → code_of selector (methods_on class_side class) ≡ code
      → perform (up_within (suc more) class_side selector past name) setting state
      ≡ perform (found_or name class_side code (from_superclass class.superclass
      (up_within more class_side selector past) past)) setting state
  code_comes more name part class code calm is held = first_comes more name part (Some class) calm is
      ∙ ap (λ (held : Option MethodCode). perform (found_or name class_side held (from_superclass class.superclass
      (up_within more class_side selector past) past)) setting state) held

  over_comes : (more name : ℕ) (part : Lasting) (class : ClassBody) (superclass : Option ℕ)
      → Calm name part setting state.world → class_in part ≡ Some class
      → code_of selector (methods_on class_side class) ≡ None → class.superclass ≡ superclass
      → perform (up_within (suc more) class_side selector past name) setting state
      ≡ perform (from_superclass superclass (up_within more class_side selector past) past) setting state
  over_comes more name part class superclass calm is lacks over = code_comes more name part class None calm is lacks
      ∙ ap (λ (over : Option ℕ). perform (from_superclass over
      (up_within more class_side selector past) past) setting state) over

  pub up_comes : ((found : Option Found) → Gone found → Comes past setting state (gives found) state)
      → (more name : ℕ) (found : Option Found) → Up class_side selector Gone setting state.world more name found
      → Comes (up_within more class_side selector past name) setting state (gives found) state
  up_comes gone _ _ _ (no_class more name found part calm none rest) =
      first_comes more name part None calm none ∙ gone found rest
  up_comes gone _ _ _ (holds more name found part class code calm is held same) =
      code_comes more name part class (Some code) calm is held
      ∙ ap (λ (f : Option Found). record { end = gives f; state = state }) same
  up_comes gone _ _ _ (last more name found part class calm is lacks top rest) =
      over_comes more name part class None calm is lacks top ∙ gone found rest
  up_comes gone _ _ _ (above more name found part class superclass calm is lacks over rest) =
      over_comes more name part class (Some superclass) calm is lacks over ∙ up_comes gone more superclass found rest

-- all classes of a side
all_comes : (class_side : Bool) (selector : Text) (past : FindingRun) (Gone : Option Found → Type 0) (setting : Setting)
    (state : State MadeBlock) (name limit : ℕ) (found : Option Found) → suc chain_limit ≡ limit
    → ((found : Option Found) → Gone found → Comes past setting state (gives found) state)
    → Up class_side selector Gone setting state.world limit name found
    → Comes (up_classes class_side selector past name) setting state (gives found) state
unfolding up_classes
all_comes class_side selector past Gone setting state name limit found is gone up =
    ap (λ (limit : ℕ). perform (up_within limit class_side selector past name) setting state) is
    ∙ up_comes class_side selector past Gone setting state gone limit name found up

nothing_comes : (setting : Setting) (state : State MadeBlock) (found : Option Found) → IsNothing found
    → Comes (give None) setting state (gives found) state
nothing_comes setting state found none = ap (λ (f : Option Found). record { end = gives f; state = state }) (sym none)

pub past_comes : (class_side : Bool) (selector : Text) (setting : Setting) (state : State MadeBlock) (found : Option Found)
    → Past class_side selector setting state.world found
    → Comes (past_last class_side selector) setting state (gives found) state
past_comes false selector setting state found none = nothing_comes setting state found none
past_comes true selector setting state found up = all_comes false selector (give None) IsNothing setting state
    class_class (suc chain_limit) found refl (nothing_comes setting state) up

from_comes : (class : Option ℕ) (class_side : Bool) (selector : Text) (setting : Setting) (state : State MadeBlock)
    (found : Option Found) → From class class_side selector setting state.world found
    → Comes (from_superclass class (up_classes class_side selector (past_last class_side selector)) (past_last class_side selector))
    setting state (gives found) state
from_comes None class_side selector setting state found gone = past_comes class_side selector setting state found gone
from_comes (Some class) class_side selector setting state found up = all_comes class_side selector
    (past_last class_side selector) (Past class_side selector setting state.world) setting state class (suc chain_limit) found refl
    (past_comes class_side selector setting state) up

pub finds_does : (start : Start) (selector : Text) (found : Option Found) (seen : Seen)
    → Finds start selector found seen.setting seen.world → Does (found_at start selector) seen (Ok found) seen
finds_does start selector found seen finds = record {
  keeps = keeps_same seen;
  ends = λ local. from_comes start.class start.class_side selector seen.setting (with_local seen local) found finds.from;
}

-- where a look-up begins
begins_comes : (name : ℕ) (start : Start) (setting : Setting) (state : State MadeBlock)
    → Begins name start setting state.world → Comes (start_of_receiver (value.Ref name)) setting state (gives start) state
begins_comes name start setting state begins =
    let first : Reads name begins.part setting state = calm_read name begins.part setting state begins.calm in
    then_comes setting (read name) (λ (object : Contents). give (start_of_object name object.class object.body))
    state first.object state first.comes
    ∙ ap (λ (s : Start). record { end = gives s; state = state })
    (sym (start_lasts name first.object.class first.object.body)
    ∙ (ap (λ (part : Lasting). start_by name part.class part.body) first.is ∙ begins.at))

pub begins_does : (name : ℕ) (start : Start) (seen : Seen) → Begins name start seen.setting seen.world
    → Does (start_of_receiver (value.Ref name)) seen (Ok start) seen
begins_does name start seen begins = record {
  keeps = keeps_same seen;
  ends = λ local. begins_comes name start seen.setting (with_local seen local) begins;
}

-- ---- of a whole look-up

plain_does : (receiver : Value) (start : Start) (seen : Seen) → BeginsFor receiver start seen
    → Does (start_of_receiver receiver) seen (Ok start) seen
plain_does (value.Ref name) start seen begins = begins_does name start seen begins
plain_does receiver start seen begins = subst (λ (s : Start). Does (start_of_receiver receiver) seen (Ok s) seen)
    (same_Some _ start begins) (does_give _ seen)

pub known_does : (frame : Frame) (receiver : Value) (selector : Text) (found : Option Found) (seen : Seen)
    → FindsFor receiver selector found seen → Does (find_method false frame receiver selector) seen (Ok found) seen
unfolding find_method
known_does frame receiver selector found seen known = does_then (plain_does receiver known.start seen known.begins)
    (finds_does known.start selector found seen known.finds)
