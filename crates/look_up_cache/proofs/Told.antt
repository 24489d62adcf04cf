-- A look-up that found something leaves what is remembered of it.
use Rattle.std.proofs.Common.{◌≡◌, ◌∙◌, refl, sym, ap, subst, ℕ, zero, suc, Bool, true, false, Option, Some, None, [], Ok}
use Rattle.gem_object.specs.texts.Bytes.{Bytes as Text}
use Rattle.gem_object.specs.declared.value.Value.{Value}
use Rattle.gem_object.specs.declared.value.Value.TheVariants as value
use Rattle.gem_object.specs.declared.body.MethodCode.{MethodCode}
use Rattle.gem_object.specs.declared.body.ClassBody.{ClassBody}
use Rattle.running_objects.specs.gem_image.Image.{Contents}
use Rattle.running_objects.specs.gem_world.World.{Setting, World, shown}
use Rattle.running_objects.specs.gem_world.Access.{Access, a_read, is_allowed, with_touches, accessed}
use Rattle.running_objects.specs.gem_sound.Parts.{class_of}
use Rattle.running_objects.specs.gem_sound.Kernel.{class_class}
use Rattle.running_objects.specs.object_programs.declared.fault.Fault.TheVariants as fault
use Rattle.running_objects.specs.object_programs.Local.{Local}
use Rattle.running_objects.specs.object_programs.Guard.{chain_limit}
use Rattle.running_objects.specs.object_programs.Atom.{access_fault, access_answer}
use Rattle.running_objects.specs.object_programs.Run.{Run, give, and_then, Ending, gives, State, Outcome, end_of, perform}
use Rattle.running_objects.specs.object_programs.Programs.{read}
use Rattle.gem_language.specs.tree_meaning.Place.{Frame, MadeBlock}
use Rattle.gem_language.specs.prim_rules.Parts.{class_of_plain}
use Rattle.gem_language.specs.Comes.{Comes}
use Rattle.gem_language.specs.declared.found.Found.{Found}
use Rattle.gem_language.specs.LookUp.{FindingRun, methods_on, code_of, found_or, from_superclass, found_from, up_within, up_classes, past_last, Start, found_at, start_of_object, start_of_receiver, find_method}
use Rattle.gem_language.proofs.Ends.{Both, both, fails_gives, same_answer, read_gives}
use Rattle.running_objects.specs.Seen.{Seen, with_local}
use Rattle.prim_parts.specs.Does.{Does}
use Rattle.look_up_cache.specs.Lasting.{lasting_of, Still}
use Rattle.look_up_cache.specs.Calm.{Calm, Begins}
use Rattle.look_up_cache.specs.Remembered.{Up, no_class, holds, last, above, IsNothing, Past, From, Finds}
use Rattle.look_up_cache.specs.Remains.{Remains}
use Rattle.look_up_cache.specs.Memory.{BeginsFor, FindsFor}
use Rattle.look_up_cache.proofs.Calms.{class_lasts, start_lasts}
use Rattle.look_up_cache.proofs.Stays.{calm_stays, begins_stay}
use Rattle.look_up_cache.proofs.Steps.{still_same, still_along, asked_still, calm_now}

-- ---- what ends tell

abbrev came : {A : Type 0} → Ending A → State MadeBlock → Outcome MadeBlock A
came end state = record { end = end; state = state }

pub state_is : {A : Type 0} (end final : Ending A) (state after : State MadeBlock) → came end state ≡ came final after → state ≡ after
state_is {A} end final state after same = ap (λ (o : Outcome MadeBlock A). o.state) same

pub given : {A : Type 0} (one other : A) (state after : State MadeBlock) → came (gives one) state ≡ came (gives other) after
    → one ≡ other
given {A} one other state after same = same_answer one other (ap (λ (o : Outcome MadeBlock A). o.end) same)

-- an access that was answered was allowed
pub allowed_by : (access : Access) (name : ℕ) (allowed : Bool) (found : Option Contents) (object : Contents)
    → end_of (access_answer allowed access name found) ≡ gives object → allowed ≡ true
allowed_by access name true found object is = refl
allowed_by access name false found object is = absurd (fails_gives (access_fault access name) object is)

module _ (setting : Setting) where
  -- ---- a read

  read_allowed : (name : ℕ) (state : State MadeBlock) (object : Contents) (after : State MadeBlock)
      → Comes (read name) setting state (gives object) after → is_allowed a_read name setting state.world ≡ true
  read_allowed name state object after is = allowed_by a_read name (is_allowed a_read name setting state.world)
      (shown name setting state.world) object (ap (λ (o : Outcome MadeBlock Contents). o.end) is)

  read_leaves : (name : ℕ) (world : World) → is_allowed a_read name setting world ≡ true
      → accessed a_read name setting world ≡ with_touches name setting world
  unfolding accessed
  read_leaves name world allowed = rw allowed refl

  read_world : (name : ℕ) (state : State MadeBlock) (object : Contents) (after : State MadeBlock)
      → Comes (read name) setting state (gives object) after → with_touches name setting state.world ≡ after.world
  read_world name state object after is = sym (read_leaves name state.world (read_allowed name state object after is))
      ∙ ap (λ (o : Outcome MadeBlock Contents). o.state.world) is

  pub read_still : (name : ℕ) (state : State MadeBlock) (object : Contents) (after : State MadeBlock)
      → Comes (read name) setting state (gives object) after → Still setting state.world after.world
  read_still name state object after is = subst (λ (later : World). Still setting state.world later)
      (read_world name state object after is) (asked_still setting name state.world)

  pub read_calm : (name : ℕ) (state : State MadeBlock) (object : Contents) (after : State MadeBlock)
      → Comes (read name) setting state (gives object) after → Calm name (lasting_of object) setting after.world
  read_calm name state object after is = subst (λ (later : World). Calm name (lasting_of object) setting later)
      (read_world name state object after is)
      (calm_now setting name object state.world (read_gives setting name state object after is)
      (read_allowed name state object after is))

  -- ---- the classes of a side

  -- what a run that found something leaves
  record Left (state after : State MadeBlock) (Claim : World → Type 0) : Type 0 where
    still : Still setting state.world after.world
    claim : Claim after.world

  abbrev Leaves : FindingRun → (World → Option Found → Type 0) → Type 0
  Leaves program Claim = (state after : State MadeBlock) (found : Option Found)
      → Comes program setting state (gives found) after → Left state after (λ world. Claim world found)

  leaves_given : (answer : Option Found) (Claim : World → Option Found → Type 0)
      → ((world : World) → Claim world answer) → Leaves (give answer) Claim
  leaves_given answer Claim always state after found is =
      let same : state ≡ after = state_is (gives answer) (gives found) state after is in
      let answered : answer ≡ found = given answer found state after is in
      record {
        still = subst (λ (s : State MadeBlock). Still setting state.world s.world) same (still_same setting state.world);
        claim = subst (λ (f : Option Found). Claim after.world f) answered (always after.world);
      }

  leaves_more : (program : FindingRun) (Claim More : World → Option Found → Type 0) (between : State MadeBlock)
      → ((after : State MadeBlock) (found : Option Found) → Still setting between.world after.world
      → Claim after.world found → More after.world found) → Leaves program Claim → (after : State MadeBlock) (found : Option Found)
      → Comes program setting between (gives found) after → Left between after (λ world. More world found)
  leaves_more program Claim More between more leaves after found is =
      let left : Left between after (λ world. Claim world found) = leaves between after found is in
      record { still = left.still; claim = more after found left.still left.claim }

  module _ (class_side : Bool) (selector : Text) (past : FindingRun) (Gone : World → Option Found → Type 0)
      (gone : Leaves past Gone) where
    abbrev Higher : ℕ → ℕ → World → Option Found → Type 0
    Higher more name world found = Up class_side selector (Gone world) setting world more name found

    module _ (more name : ℕ) (between : State MadeBlock) (object : Contents)
        (calm : Calm name (lasting_of object) setting between.world)
        (higher : (superclass : ℕ) → Leaves (up_within more class_side selector past superclass) (Higher more superclass)) where
      over_told : (class : ClassBody) → class_of object.body ≡ Some class
          → code_of selector (methods_on class_side class) ≡ None → (over : Option ℕ) → class.superclass ≡ over
          → (after : State MadeBlock) (found : Option Found)
          → Comes (from_superclass over (up_within more class_side selector past) past) setting between (gives found) after
          → Left between after (λ world. Higher (suc more) name world found)
      over_told class is lacks None top after found comes = leaves_more past Gone (Higher (suc more) name) between
          (λ after found still rest. last more name found (lasting_of object) class
          (calm_stays setting between.world after.world still name (lasting_of object) calm)
          (class_lasts object.body ∙ is) lacks top rest) gone after found comes
      over_told class is lacks (Some superclass) over after found comes =
          leaves_more (up_within more class_side selector past superclass) (Higher more superclass)
          (Higher (suc more) name) between
          (λ after found still rest. above more name found (lasting_of object) class superclass
          (calm_stays setting between.world after.world still name (lasting_of object) calm)
          (class_lasts object.body ∙ is) lacks over rest) (higher superclass) after found comes

      code_told : (class : ClassBody) → class_of object.body ≡ Some class → (code : Option MethodCode)
          → code_of selector (methods_on class_side class) ≡ code → (after : State MadeBlock) (found : Option Found)
          → Comes (found_or name class_side code
          (from_superclass class.superclass (up_within more class_side selector past) past)) setting between (gives found) after
          → Left between after (λ world. Higher (suc more) name world found)
      code_told class is (Some code) held after found comes =
          let answer : Option Found = Some (record { code = code; holder = name; class_side = class_side }) in
          leaves_more (give answer) (λ world f. answer ≡ f) (Higher (suc more) name) between
          (λ after found still same. holds more name found (lasting_of object) class code
          (calm_stays setting between.world after.world still name (lasting_of object) calm)
          (class_lasts object.body ∙ is) held same)
          (leaves_given answer (λ world f. answer ≡ f) (λ world. refl)) after found comes
      code_told class is None lacks after found comes = over_told class is lacks class.superclass refl after found comes

      class_told : (class : Option ClassBody) → class_of object.body ≡ class → (after : State MadeBlock) (found : Option Found)
          → Comes (found_from class_side selector name class (up_within more class_side selector past) past)
          setting between (gives found) after → Left between after (λ world. Higher (suc more) name world found)
      class_told None none after found comes = leaves_more past Gone (Higher (suc more) name) between
          (λ after found still rest. no_class more name found (lasting_of object)
          (calm_stays setting between.world after.world still name (lasting_of object) calm)
          (class_lasts object.body ∙ none) rest) gone after found comes
      class_told (Some class) is after found comes = code_told class is
          (code_of selector (methods_on class_side class)) refl after found comes

    up_told : (more name : ℕ) → Leaves (up_within more class_side selector past name) (Higher more name)
    up_told zero name state after found is =
        absurd (fails_gives (fault.NotUnderstood selector) found (ap (λ (o : Outcome MadeBlock (Option Found)). o.end) is))
    up_told (suc more) name state after found is =
        let next : Contents → FindingRun = λ object. found_from class_side selector name (class_of object.body)
        (up_within more class_side selector past) past in
        let parts : Both (read name) next setting state found after = both setting (read name) next state found after is in
        let rest : Left parts.between after (λ world. Higher (suc more) name world found) =
        class_told more name parts.between parts.middle (read_calm name state parts.middle parts.between parts.before)
        (up_told more) (class_of parts.middle.body) refl after found parts.then in
        record {
          still = still_along setting state.world parts.between.world after.world
              (read_still name state parts.middle parts.between parts.before) rest.still;
          claim = rest.claim;
        }

  -- ---- from a class, or past the last one

  all_told : (class_side : Bool) (selector : Text) (past : FindingRun) (Gone : World → Option Found → Type 0)
      → Leaves past Gone → (name limit : ℕ) → suc chain_limit ≡ limit
      → Leaves (up_classes class_side selector past name)
      (λ world found. Up class_side selector (Gone world) setting world limit name found)
  unfolding up_classes
  all_told class_side selector past Gone gone name limit is state after found comes =
      up_told class_side selector past Gone gone limit name state after found
      (ap (λ (limit : ℕ). perform (up_within limit class_side selector past name) setting state) (sym is) ∙ comes)

  past_told : (class_side : Bool) (selector : Text) → Leaves (past_last class_side selector)
      (λ world found. Past class_side selector setting world found)
  past_told false selector = leaves_given None (λ world found. IsNothing found) (λ world. refl)
  past_told true selector = all_told false selector (give None) (λ world found. IsNothing found)
      (leaves_given None (λ world found. IsNothing found) (λ world. refl)) class_class (suc chain_limit) refl

  from_told : (class : Option ℕ) (class_side : Bool) (selector : Text)
      → Leaves (from_superclass class (up_classes class_side selector (past_last class_side selector))
      (past_last class_side selector)) (λ world found. From class class_side selector setting world found)
  from_told None class_side selector = past_told class_side selector
  from_told (Some class) class_side selector = all_told class_side selector (past_last class_side selector)
      (λ world found. Past class_side selector setting world found) (past_told class_side selector) class (suc chain_limit) refl

  -- ---- of a whole look-up

  begin_told : (name : ℕ) (state between : State MadeBlock) (start : Start)
      → Comes (start_of_receiver (value.Ref name)) setting state (gives start) between
      → Begins name start setting between.world
  begin_told name state between start comes =
      let next : Contents → Run MadeBlock Start = λ object. give (start_of_object name object.class object.body) in
      let parts : Both (read name) next setting state start between = both setting (read name) next state start between comes in
      let same : parts.between ≡ between = state_is (gives (start_of_object name parts.middle.class parts.middle.body))
      (gives start) parts.between between parts.then in
      record {
        part = lasting_of parts.middle;
        calm = subst (λ (s : State MadeBlock). Calm name (lasting_of parts.middle) setting s.world) same
            (read_calm name state parts.middle parts.between parts.before);
        at = start_lasts name parts.middle.class parts.middle.body
            ∙ given (start_of_object name parts.middle.class parts.middle.body) start parts.between between parts.then;
      }

  whole_told : (receiver : Value) (selector : Text) (state after : State MadeBlock) (found : Option Found)
      → Comes (and_then (start_of_receiver receiver) (λ start. found_at start selector)) setting state (gives found) after
      → (Q : Type 0) → ((start : Start) (between : State MadeBlock)
      → Comes (start_of_receiver receiver) setting state (gives start) between
      → Still setting between.world after.world → Finds start selector found setting after.world → Q) → Q
  whole_told receiver selector state after found comes Q then =
      let next : Start → FindingRun = λ start. found_at start selector in
      let parts : Both (start_of_receiver receiver) next setting state found after =
      both setting (start_of_receiver receiver) next state found after comes in
      let left : Left parts.between after (λ world. From parts.middle.class parts.middle.class_side selector setting world found) =
      from_told parts.middle.class parts.middle.class_side selector parts.between after found parts.then in
      then parts.middle parts.between parts.before left.still (record { from = left.claim })

pub nowhere : Local MadeBlock
nowhere = record { scopes = []; blocks = []; living = [] }

plain_begun : (receiver : Value) (setting : Setting) (state between : State MadeBlock) (start : Start) (seen : Seen)
    → start_of_receiver receiver ≡ give (record { class = class_of_plain receiver; class_side = false })
    → Comes (start_of_receiver receiver) setting state (gives start) between
    → (state ≡ between) × (record { class = class_of_plain receiver; class_side = false } ≡ start)
plain_begun receiver setting state between start seen is comes =
    let own : Start = record { class = class_of_plain receiver; class_side = false } in
    let same : came (gives own) state ≡ came (gives start) between =
    ap (λ (program : Run MadeBlock Start). perform program setting state) (sym is) ∙ comes in
    (state_is (gives own) (gives start) state between same, given own start state between same)

begun_told : (receiver : Value) (setting : Setting) (state between : State MadeBlock) (start : Start)
    → Comes (start_of_receiver receiver) setting state (gives start) between → (after : Seen) → after.setting ≡ setting
    → Still setting between.world after.world
    → (Still setting state.world between.world) × (BeginsFor receiver start after)
begun_told (value.Ref name) setting state between start comes after is still =
    let next : Contents → Run MadeBlock Start = λ object. give (start_of_object name object.class object.body) in
    let parts : Both (read name) next setting state start between = both setting (read name) next state start between comes in
    let same : parts.between ≡ between = state_is (gives (start_of_object name parts.middle.class parts.middle.body))
    (gives start) parts.between between parts.then in (
      subst (λ (s : State MadeBlock). Still setting state.world s.world) same
          (read_still setting name state parts.middle parts.between parts.before),
      subst (λ (other : Setting). Begins name start other after.world) (sym is)
          (begins_stay setting between.world after.world still name start
          (begin_told setting name state between start comes)),
    )
begun_told receiver setting state between start comes after is still =
    let own : Start = record { class = class_of_plain receiver; class_side = false } in
    let both = plain_begun receiver setting state between start after refl comes in (
      subst (λ (s : State MadeBlock). Still setting state.world s.world) both.0 (still_same setting state.world),
      ap (λ (s : Start). Some s) both.1,
    )

-- what is remembered of it afterwards, and that all else remains
pub method_told : (frame : Frame) (receiver : Value) (selector : Text) (found : Option Found) (before after : Seen)
    → Does (find_method false frame receiver selector) before (Ok found) after
    → Remains before after × FindsFor receiver selector found after
unfolding find_method
method_told frame receiver selector found before after does =
    let setting : Setting = before.setting in
    whole_told setting receiver selector (with_local before nowhere) (with_local after nowhere) found (does.ends nowhere)
    (Remains before after × FindsFor receiver selector found after) (λ start between comes still finds.
    let begun = begun_told receiver setting (with_local before nowhere) between start comes after does.keeps.setting still in (
      record {
        setting = does.keeps.setting;
        still = still_along setting before.world between.world after.world begun.0 still;
      },
      record {
        start = start;
        begins = begun.1;
        finds = subst (λ (other : Setting). Finds start selector found other after.world) (sym does.keeps.setting) finds;
      },
    ))
