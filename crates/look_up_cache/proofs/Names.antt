-- What is remembered of instance variables: it remains, it is what is found now, and it is left by what found it.
use Rattle.std.proofs.Common.{◌≡◌, ◌∙◌, refl, sym, ap, subst, ℕ, zero, suc, ◌++◌, List, [], Option, Some, None, Ok}
use Rattle.gem_object.specs.texts.Bytes.{Bytes as Text}
use Rattle.gem_object.specs.declared.body.ClassBody.{ClassBody}
use Rattle.running_objects.specs.gem_image.Image.{Contents}
use Rattle.running_objects.specs.gem_world.World.{Setting, World}
use Rattle.running_objects.specs.gem_sound.Parts.{class_of}
use Rattle.running_objects.specs.object_programs.declared.fault.Fault.TheVariants as fault
use Rattle.running_objects.specs.object_programs.Guard.{chain_limit}
use Rattle.running_objects.specs.object_programs.Run.{Run, give, and_then, gives, State, Outcome, perform}
use Rattle.running_objects.specs.object_programs.Programs.{read}
use Rattle.gem_language.specs.tree_meaning.Names.{index_of}
use Rattle.gem_language.specs.tree_meaning.Place.{MadeBlock}
use Rattle.gem_language.specs.Comes.{Comes}
use Rattle.gem_language.specs.OutOfScope.{inherited_names, names_of_class, names_within, instance_names}
use Rattle.gem_language.proofs.Ends.{Both, both, then_comes, fails_gives}
use Rattle.running_objects.specs.Seen.{Seen, with_local}
use Rattle.running_objects.proofs.Running.{keeps_same}
use Rattle.prim_parts.specs.Does.{Does}
use Rattle.prim_parts.proofs.Does.{does_give, does_then}
use Rattle.look_up_cache.specs.Lasting.{Lasting, lasting_of, class_in, Still}
use Rattle.look_up_cache.specs.Calm.{Calm}
use Rattle.look_up_cache.specs.Remains.{Remains}
use Rattle.look_up_cache.specs.Variables.{Named, no_class, last, above, Stands}
use Rattle.look_up_cache.proofs.Calms.{Reads, calm_read, class_taken, class_lasts}
use Rattle.look_up_cache.proofs.Stays.{calm_stays}
use Rattle.look_up_cache.proofs.Steps.{still_along}
use Rattle.look_up_cache.proofs.Told.{state_is, given, nowhere, read_still, read_calm}

-- ---- it remains

module _ (setting : Setting) (world later : World) (still : Still setting world later) where
  named_stays : (limit name : ℕ) (names : List Text) → Named setting world limit name names
      → Named setting later limit name names
  named_stays _ _ _ (no_class more name names part calm none same) =
      no_class more name names part (calm_stays setting world later still name part calm) none same
  named_stays _ _ _ (last more name names part class calm is top same) =
      last more name names part class (calm_stays setting world later still name part calm) is top same
  named_stays _ _ _ (above more name names part class superclass inherited calm is over rest same) =
      above more name names part class superclass inherited (calm_stays setting world later still name part calm) is over
      (named_stays more superclass inherited rest) same

  pub stands_stays : (holder : ℕ) (name : Text) (found : Option ℕ) → Stands holder name found setting world
      → Stands holder name found setting later
  stands_stays holder name found stands = record {
    names = stands.names;
    named = named_stays (suc chain_limit) holder stands.names stands.named;
    at = stands.at;
  }

-- ---- it is what is found now

module _ (setting : Setting) (state : State MadeBlock) where
  -- a class that is calm is read, and then comes what comes at it
  class_comes : (more name : ℕ) (part : Lasting) (class : Option ClassBody) → Calm name part setting state.world
      → class_in part ≡ class → perform (names_within (suc more) name) setting state
      ≡ perform (names_of_class class (names_within more)) setting state
  class_comes more name part class calm is =
      let first : Reads name part setting state = calm_read name part setting state calm in
      then_comes setting (read name) (λ (object : Contents). names_of_class (class_of object.body) (names_within more))
      state first.object state first.comes
      ∙ ap (λ (held : Option ClassBody). perform (names_of_class held (names_within more)) setting state)
      (class_taken first.object part class first.is is)

  over_comes : (more name : ℕ) (part : Lasting) (class : ClassBody) (superclass : Option ℕ)
      → Calm name part setting state.world → class_in part ≡ Some class → class.superclass ≡ superclass
      → perform (names_within (suc more) name) setting state
      ≡ perform (and_then (inherited_names superclass (names_within more)) (λ inherited. give (inherited ++ class.names)))
      setting state
  over_comes more name part class superclass calm is over = class_comes more name part (Some class) calm is
      ∙ ap (λ (held : Option ℕ). perform (and_then (inherited_names held (names_within more))
      (λ inherited. give (inherited ++ class.names))) setting state) over

  given_as : (one names : List Text) → one ≡ names → Comes (give one) setting state (gives names) state
  given_as one names same = ap (λ (n : List Text). record { end = gives n; state = state }) same

  names_come : (more name : ℕ) (names : List Text) → Named setting state.world more name names
      → Comes (names_within more name) setting state (gives names) state
  names_come _ _ _ (no_class more name names part calm none same) =
      class_comes more name part None calm none ∙ given_as [] names same
  names_come _ _ _ (last more name names part class calm is top same) =
      over_comes more name part class None calm is top ∙ given_as class.names names same
  names_come _ _ _ (above more name names part class superclass inherited calm is over rest same) =
      over_comes more name part class (Some superclass) calm is over
      ∙ (then_comes setting (names_within more superclass) (λ (found : List Text). give (found ++ class.names)) state inherited
      state (names_come more superclass inherited rest) ∙ given_as (inherited ++ class.names) names same)

  all_come : (class limit : ℕ) (names : List Text) → suc chain_limit ≡ limit → Named setting state.world limit class names
      → Comes (instance_names class) setting state (gives names) state
  unfolding instance_names
  all_come class limit names is named = ap (λ (limit : ℕ). perform (names_within limit class) setting state) is
      ∙ names_come limit class names named

pub stands_does : (holder : ℕ) (name : Text) (found : Option ℕ) (seen : Seen)
    → Stands holder name found seen.setting seen.world
    → Does (and_then (instance_names holder) (λ names. give (index_of name names))) seen (Ok found) seen
stands_does holder name found seen stands =
    let all : Does (instance_names holder) seen (Ok stands.names) seen = record {
      keeps = keeps_same seen;
      ends = λ local. all_come seen.setting (with_local seen local) holder (suc chain_limit) stands.names refl stands.named;
    } in
    does_then all (subst (λ (f : Option ℕ). Does (give (index_of name stands.names)) seen (Ok f) seen) stands.at
    (does_give (index_of name stands.names) seen))

-- ---- it is left by what found it

-- what a walk that found these names leaves
record Left (setting : Setting) (state after : State MadeBlock) (limit name : ℕ) (names : List Text) : Type 0 where
  still : Still setting state.world after.world
  named : Named setting after.world limit name names

module _ (setting : Setting) where
  module _ (more name : ℕ) (state between : State MadeBlock) (object : Contents)
      (still : Still setting state.world between.world) (calm : Calm name (lasting_of object) setting between.world)
      (higher : (superclass : ℕ) (after : State MadeBlock) (names : List Text)
      → Comes (names_within more superclass) setting between (gives names) after
      → Left setting between after more superclass names) where
    over_told : (class : ClassBody) → class_of object.body ≡ Some class → (over : Option ℕ) → class.superclass ≡ over
        → (after : State MadeBlock) (names : List Text) → Comes (and_then (inherited_names over (names_within more))
        (λ inherited. give (inherited ++ class.names))) setting between (gives names) after
        → Left setting state after (suc more) name names
    over_told class is None top after names comes =
        let same : between ≡ after = state_is (gives class.names) (gives names) between after comes in
        record {
          still = subst (λ (s : State MadeBlock). Still setting state.world s.world) same still;
          named = last more name names (lasting_of object) class
              (subst (λ (s : State MadeBlock). Calm name (lasting_of object) setting s.world) same calm)
              (class_lasts object.body ∙ is) top (given class.names names between after comes);
        }
    over_told class is (Some superclass) over after names comes =
        let next : List Text → Run MadeBlock (List Text) = λ (inherited : List Text). give (inherited ++ class.names) in
        let parts : Both (names_within more superclass) next setting between names after =
        both setting (names_within more superclass) next between names after comes in
        let inherited : List Text = parts.middle in
        let left : Left setting between parts.between more superclass inherited =
        higher superclass parts.between inherited parts.before in
        let whole : List Text = inherited ++ class.names in
        let same : parts.between ≡ after = state_is (gives whole) (gives names) parts.between after parts.then in
        record {
          still = subst (λ (s : State MadeBlock). Still setting state.world s.world) same
              (still_along setting state.world between.world parts.between.world still left.still);
          named = subst (λ (s : State MadeBlock). Named setting s.world (suc more) name names) same
              (above more name names (lasting_of object) class superclass inherited
              (calm_stays setting between.world parts.between.world left.still name (lasting_of object) calm)
              (class_lasts object.body ∙ is) over left.named (given whole names parts.between after parts.then));
        }

    class_told : (class : Option ClassBody) → class_of object.body ≡ class → (after : State MadeBlock) (names : List Text)
        → Comes (names_of_class class (names_within more)) setting between (gives names) after
        → Left setting state after (suc more) name names
    class_told None none after names comes =
        let same : between ≡ after = state_is (gives []) (gives names) between after comes in
        record {
          still = subst (λ (s : State MadeBlock). Still setting state.world s.world) same still;
          named = no_class more name names (lasting_of object)
              (subst (λ (s : State MadeBlock). Calm name (lasting_of object) setting s.world) same calm)
              (class_lasts object.body ∙ none) (given [] names between after comes);
        }
    class_told (Some class) is after names comes = over_told class is class.superclass refl after names comes

  names_told : (more name : ℕ) (state after : State MadeBlock) (names : List Text)
      → Comes (names_within more name) setting state (gives names) after → Left setting state after more name names
  names_told zero name state after names comes =
      absurd (fails_gives fault.ArgumentKind names (ap (λ (o : Outcome MadeBlock (List Text)). o.end) comes))
  names_told (suc more) name state after names comes =
      let next : Contents → Run MadeBlock (List Text) = λ (object : Contents).
      names_of_class (class_of object.body) (names_within more) in
      let parts : Both (read name) next setting state names after = both setting (read name) next state names after comes in
      class_told more name state parts.between parts.middle
      (read_still setting name state parts.middle parts.between parts.before)
      (read_calm setting name state parts.middle parts.between parts.before)
      (λ superclass later found rest. names_told more superclass parts.between later found rest)
      (class_of parts.middle.body) refl after names parts.then

  all_told : (class limit : ℕ) (state after : State MadeBlock) (names : List Text) → suc chain_limit ≡ limit
      → Comes (instance_names class) setting state (gives names) after → Left setting state after limit class names
  unfolding instance_names
  all_told class limit state after names is comes = names_told limit class state after names
      (ap (λ (limit : ℕ). perform (names_within limit class) setting state) (sym is) ∙ comes)

pub variable_told : (holder : ℕ) (name : Text) (found : Option ℕ) (before after : Seen)
    → Does (and_then (instance_names holder) (λ names. give (index_of name names))) before (Ok found) after
    → Remains before after × Stands holder name found after.setting after.world
variable_told holder name found before after does =
    let setting : Setting = before.setting in
    let next : List Text → Run MadeBlock (Option ℕ) = λ (names : List Text). give (index_of name names) in
    let state : State MadeBlock = with_local before nowhere in
    let final : State MadeBlock = with_local after nowhere in
    let parts : Both (instance_names holder) next setting state found final =
    both setting (instance_names holder) next state found final (does.ends nowhere) in
    let left : Left setting state parts.between (suc chain_limit) holder parts.middle =
    all_told setting holder (suc chain_limit) state parts.between parts.middle refl parts.before in
    let same : parts.between ≡ final =
    state_is (gives (index_of name parts.middle)) (gives found) parts.between final parts.then in (
      record {
        setting = does.keeps.setting;
        still = subst (λ (s : State MadeBlock). Still setting before.world s.world) same left.still;
      },
      record {
        names = parts.middle;
        named = subst (λ (other : Setting). Named other after.world (suc chain_limit) holder parts.middle)
            (sym does.keeps.setting) (subst (λ (s : State MadeBlock). Named setting s.world (suc chain_limit) holder parts.middle)
            same left.named);
        at = given (index_of name parts.middle) found parts.between final parts.then;
      },
    )
