-- The walk of a look-up over the classes of one side.
use Rattle.std.proofs.Common.{◌≡◌, refl, sym, ap, ◌∙◌, subst, ℕ, zero, suc, ◌-◌, ◌<◌, Bool, Option, Some, None, option_and_then, Result, Err, arith}
use Rattle.std.specs.Result.{IsErrAnd}
use Rattle.gem_object.specs.texts.Bytes.{Bytes as Text}
use Rattle.gem_object.specs.declared.body.MethodCode.{MethodCode}
use Rattle.gem_object.specs.declared.body.ClassBody.{ClassBody}
use Rattle.gem_sound.specs.gem_image.Image.{Contents}
use Rattle.object_programs.specs.gem_world.World.{Setting}
use Rattle.object_programs.specs.gem_world.Access.{Access, a_read}
use Rattle.gem_sound.specs.Parts.{class_of}
use Rattle.object_programs.specs.Guard.{chain_limit}
use Rattle.object_programs.specs.Atom.{Ask}
use Rattle.object_programs.specs.Run.{give, and_then, Ending, gives, returns, fails, State, Outcome, onward, perform}
use Rattle.object_programs.specs.Programs.{read}
use Rattle.object_programs.specs.declared.fault.Fault.TheVariants as fault
use Rattle.gem_language.specs.tree_meaning.Place.{MadeBlock}
use Rattle.running_objects.specs.Seen.{Seen, object_at, with_local}
use Rattle.running_objects.specs.Ran.{EndsSo}
use Rattle.running_objects.specs.Acted.{Acted, Reached}
use Rattle.running_objects.specs.declared.stop.Stop.{Stop}
use Rattle.running_objects.specs.declared.stop.Stop.TheVariants as stop
use Rattle.gem_language.specs.declared.found.Found.{Found}
use Rattle.gem_language.specs.LookUp.{FindingRun, methods_on, code_of, found_or, from_superclass, found_from, up_within, up_classes}
use Rattle.prim_parts.specs.Does.{Does}
use Rattle.prim_parts.proofs.Does.{does_atom, does_then, does_exit, does_fail}

-- ---- what was read

-- the class that was read
pub read_class : {access : Access} {name : ℕ} {before between : Seen} (reached : Reached access name before between)
    (found : Option ClassBody) → option_and_then (λ object. class_of object.body) (object_at name between) ≡ found
    → class_of reached.object.body ≡ found
read_class reached found is =
    sym (ap (option_and_then (λ (object : Contents). class_of object.body)) reached.there) ∙ is

-- ---- the loop

-- the walk, where at most so many classes are gone through
unfoldable pub going_up : (class_side : Bool) → Text → (limit name : ℕ) → FindingRun
going_up class_side selector limit name = up_within limit class_side selector (give None) name

-- it begins with all of them
pub goes_up : (class_side : Bool) (selector : Text) (class limit : ℕ) {before after : Seen} {result : Result (Option Found) Stop}
    → limit ≡ suc chain_limit → Does (going_up class_side selector limit class) before result after
    → Does (up_classes class_side selector (give None) class) before result after
unfolding going_up up_classes
goes_up class_side selector class limit {before} {after} {result} whole does =
    let At : ℕ → Type 0 = λ limit. Does (up_within limit class_side selector (give None) class) before result after in
    subst At whole does

module _ (class_side : Bool) (selector : Text) (limit name : ℕ) (some : 0 < limit) where
  -- the first class is read
  going_more : going_up class_side selector limit name ≡ and_then (read name) (λ object.
      found_from class_side selector name (class_of object.body) (going_up class_side selector (limit - 1)) (give None))
  unfolding going_up
  going_more =
      let counted : limit ≡ suc (limit - 1) = omega (arith, some) in
      ap (λ (limit : ℕ). up_within limit class_side selector (give None) name) counted

  pub up_exit : {ended : Stop} {before after : Seen} (result : Result (Option Found) Stop)
      → IsErrAnd result (λ given. given ≡ ended) → Acted (Ask a_read name) before (Err ended) after
      → Does (going_up class_side selector limit name) before result after
  up_exit {ended} {before} {after} result exit acted =
      let At : FindingRun → Type 0 = λ program. Does program before result after in
      subst At (sym going_more) (does_exit result exit (does_atom acted))

  module _ {before between after : Seen} {result : Result (Option Found) Stop} (reached : Reached a_read name before between) where
    up_read : (found : Option ClassBody)
        → option_and_then (λ object. class_of object.body) (object_at name between) ≡ found
        → Does (found_from class_side selector name found (going_up class_side selector (limit - 1)) (give None))
        between result after → Does (going_up class_side selector limit name) before result after
    up_read found is does =
        let At : FindingRun → Type 0 = λ program. Does program before result after in
        let Of : Option ClassBody → Type 0 = λ found. Does (found_from class_side selector name found
        (going_up class_side selector (limit - 1)) (give None)) between result after in
        subst At (sym going_more)
        (does_then (does_atom reached.acted) (subst Of (sym (read_class reached found is)) does))

    -- what isn't a class ends the walk
    pub up_none : option_and_then (λ object. class_of object.body) (object_at name between) ≡ None
        → Does (give None) between result after → Does (going_up class_side selector limit name) before result after
    up_none is does = up_read None is does

    module _ (class : ClassBody)
        (is : option_and_then (λ object. class_of object.body) (object_at name between) ≡ Some class) where
      up_code : (code : Option MethodCode) → code_of selector (methods_on class_side class) ≡ code
          → Does (found_or name class_side code (from_superclass class.superclass
          (going_up class_side selector (limit - 1)) (give None))) between result after
          → Does (going_up class_side selector limit name) before result after
      up_code code holds does =
          let Of : Option MethodCode → Type 0 = λ code. Does (found_or name class_side code
          (from_superclass class.superclass (going_up class_side selector (limit - 1)) (give None))) between result after in
          up_read (Some class) is (subst Of (sym holds) does)

      -- a class with such a method
      pub up_found : (code : MethodCode) → code_of selector (methods_on class_side class) ≡ Some code
          → Does (give (Some (record { code = code; holder = name; class_side = class_side }))) between result after
          → Does (going_up class_side selector limit name) before result after
      up_found code holds does = up_code (Some code) holds does

      -- the last class without such a method, and one below another
      pub up_last : code_of selector (methods_on class_side class) ≡ None → class.superclass ≡ None
          → Does (give None) between result after → Does (going_up class_side selector limit name) before result after
      up_last lacks last does =
          let Of : Option ℕ → Type 0 = λ over. Does (from_superclass over
          (going_up class_side selector (limit - 1)) (give None)) between result after in
          up_code None lacks (subst Of (sym last) does)

      pub up_above : code_of selector (methods_on class_side class) ≡ None
          → (superclass : ℕ) → class.superclass ≡ Some superclass
          → Does (going_up class_side selector (limit - 1) superclass) between result after
          → Does (going_up class_side selector limit name) before result after
      up_above lacks superclass over does =
          let Of : Option ℕ → Type 0 = λ over. Does (from_superclass over
          (going_up class_side selector (limit - 1)) (give None)) between result after in
          up_code None lacks (subst Of (sym over) does)

-- no class is left
pub up_end : (class_side : Bool) (selector given : Text) (limit class : ℕ) (seen : Seen) → given ≡ selector → limit ≡ 0
    → Does (going_up class_side selector limit class) seen (Err (stop.Fails (fault.NotUnderstood given))) seen
unfolding going_up
up_end class_side selector given limit class seen same is =
    let At : ℕ → Type 0 = λ limit. Does (up_within limit class_side selector (give None) class) seen
    (Err (stop.Fails (fault.NotUnderstood given))) seen in
    let Of : Text → Type 0 = λ selector. Does (up_within 0 class_side selector (give None) class) seen
    (Err (stop.Fails (fault.NotUnderstood given))) seen in
    subst At (sym is) (subst Of same (does_fail (fault.NotUnderstood given) seen))

-- ---- past the last class

-- what was found, and else what comes past the last class
abbrev pub or_past : FindingRun → Option Found → FindingRun
or_past past (Some found) = give (Some found)
or_past past None = past

module _ (class_side : Bool) (selector : Text) (past : FindingRun) (setting : Setting) where
  -- the one does what the other does, and then what comes past the last class
  abbrev Agree : FindingRun → FindingRun → Type 0
  Agree program other = (state : State MadeBlock) → perform program setting state ≡ perform (and_then other (or_past past)) setting state

  agree_over : (superclass : Option ℕ) (above other : ℕ → FindingRun) → ((name : ℕ) → Agree (above name) (other name))
      → Agree (from_superclass superclass above past) (from_superclass superclass other (give None))
  agree_over None above other each state = refl
  agree_over (Some name) above other each state = each name state

  agree_code : (holder : ℕ) (code : Option MethodCode) (further other : FindingRun) → Agree further other
      → Agree (found_or holder class_side code further) (found_or holder class_side code other)
  agree_code holder (Some code) further other rest state = refl
  agree_code holder None further other rest state = rest state

  agree_class : (name : ℕ) (found : Option ClassBody) (above other : ℕ → FindingRun) → ((name : ℕ) → Agree (above name) (other name))
      → Agree (found_from class_side selector name found above past) (found_from class_side selector name found other (give None))
  agree_class name None above other each state = refl
  agree_class name (Some class) above other each state = agree_code name (code_of selector (methods_on class_side class))
      (from_superclass class.superclass above past) (from_superclass class.superclass other (give None))
      (agree_over class.superclass above other each) state

  agree_read : (end : Ending Contents) (left : State MadeBlock) (program other : Contents → FindingRun)
      → ((object : Contents) → Agree (program object) (other object))
      → onward end left (λ object after. perform (program object) setting after)
      ≡ (let middle = onward end left (λ object after. perform (other object) setting after) in
      onward middle.end middle.state (λ found after. perform (or_past past found) setting after))
  agree_read (gives object) left program other each = each object left
  agree_read (returns value home) left program other each = refl
  agree_read (fails fault) left program other each = refl

  agree_up : (limit name : ℕ) → Agree (up_within limit class_side selector past name)
      (up_within limit class_side selector (give None) name)
  agree_up zero name state = refl
  agree_up (suc more) name state =
      let outcome = perform (read name) setting state in
      agree_read outcome.end outcome.state
      (λ object. found_from class_side selector name (class_of object.body) (up_within more class_side selector past) past)
      (λ object. found_from class_side selector name (class_of object.body)
      (up_within more class_side selector (give None)) (give None))
      (λ object. agree_class name (class_of object.body) (up_within more class_side selector past)
      (up_within more class_side selector (give None)) (agree_up more))

does_past : (class_side : Bool) (selector : Text) (past : FindingRun) (limit class : ℕ) {before after : Seen}
    {result : Result (Option Found) Stop}
    → Does (and_then (up_within limit class_side selector (give None) class) (or_past past)) before result after
    → Does (up_within limit class_side selector past class) before result after
does_past class_side selector past limit class {before} {after} {result} does = record {
  keeps = does.keeps;
  ends = λ local.
      let At : Outcome MadeBlock (Option Found) → Type 0 = λ outcome. EndsSo outcome result (with_local after local) in
      subst At (sym (agree_up class_side selector past before.setting limit class (with_local before local))) (does.ends local);
}

-- a side whose walk went past the last class goes on with what comes there
pub goes_past : (class_side : Bool) (selector : Text) (past : FindingRun) (class : ℕ) {before after : Seen}
    {result : Result (Option Found) Stop}
    → Does (and_then (up_classes class_side selector (give None) class) (or_past past)) before result after
    → Does (up_classes class_side selector past class) before result after
unfolding up_classes
goes_past class_side selector past class does = does_past class_side selector past (suc chain_limit) class does
