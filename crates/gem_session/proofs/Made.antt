-- Objects that a transaction made, and those that were there before it.
use Rattle.std.proofs.Common.{◌≡◌, ◌∙◌, refl, sym, ap, ℕ, ◌-◌, ◌≤◌, ◌^◌, Bool, true, false, not, ◌&&◌, true≢false, ⊎_elim, Option, Some, None, is_some, List, arith}
use Rattle.std.specs.Ordering.{nat_cmp}
use Rattle.std.specs.Option.{option_or}
use Rattle.std.specs.FinMap.{get, get-empty}
use Rattle.std.proofs.lemmas.Bool.{false≢true, and_parts, leb-true, ltb-true}
use Rattle.gem_object.specs.gem_value.Oid.{oid_number}
use Rattle.gem_image.specs.Image.{Contents}
use Rattle.gem_world.specs.World.{Setting, World, untouched, name_of, shown, before_changes, is_drawn, is_made}
use Rattle.gem_meaning.specs.gem_language.Commands.{Command}
use Rattle.gem_meaning.specs.gem_language.Transaction.{transaction}
use Rattle.gem_meaning.proofs.gem_language_lemmas.Lists.{listed}
use Rattle.running_objects.specs.object_programs.Laws.{AreSound, IsInReach}
use Rattle.running_objects.proofs.object_programs_lemmas.Objects.{StaysSound, soundness_stays}
use Rattle.running_objects.proofs.object_programs_lemmas.Reach.{StaysInReach, reach_stays}

pub reach_first : (setting : Setting) → IsInReach setting (untouched setting.first)
reach_first setting = record {
  begun = omega arith;
  own = λ name some. absurd (false≢true (sym (ap is_some (get-empty nat_cmp name)) ∙ some));
}

module _ (setting : Setting) (world : World) (sound : AreSound setting (untouched setting.first)) (reach : IsInReach setting world)
    (bound : world.next ≤ 2 ^ 24) (name : ℕ) where
  -- a name that was drawn was free before
  drawn_free : is_drawn name setting world ≡ true → before_changes name setting ≡ None
  drawn_free drawn =
      let parts = and_parts _ _ drawn in
      let from = leb-true (name_of setting setting.first) name parts.0 in
      let below = ltb-true name (name_of setting world.next) parts.1 in
      let counter : ℕ = name - oid_number setting.serial 0 in
      let is : name ≡ name_of setting counter = omega (arith, from) in
      let free = sound.free counter (omega (arith, from)) (omega (arith, from, below, bound)) in
      ap (λ n. before_changes n setting) is ∙ sym (ap (λ x. option_or x (before_changes (name_of setting counter) setting)) (get-empty nat_cmp (name_of setting counter))) ∙ free

  -- what is seen and wasn't made was there
  made_or_there : (changed drawn before : Bool) → is_some (get world.changes name) ≡ changed → is_drawn name setting world ≡ drawn
      → is_some (before_changes name setting) ≡ before → is_some (shown name setting world) ≡ true → (drawn && changed) ≡ not before
  made_or_there changed true true is drawn before seen = absurd (true≢false (sym before ∙ ap is_some (drawn_free drawn)))
  made_or_there true true false is drawn before seen = refl
  made_or_there false true false is drawn before seen = absurd (false≢true (sym (seen_before (get world.changes name) is ∙ before) ∙ seen))
    where
      seen_before : (found : Option Contents) → is_some found ≡ false → is_some (option_or found (before_changes name setting)) ≡ is_some (before_changes name setting)
      seen_before None none = refl
      seen_before (Some object) none = absurd (true≢false none)
  made_or_there changed false true is drawn before seen = refl
  made_or_there true false false is drawn before seen = ⊎_elim (λ d. absurd (true≢false (sym d ∙ drawn))) (λ b. absurd (true≢false (sym b ∙ before))) (reach.own name is)
  made_or_there false false false is drawn before seen = absurd (false≢true (sym (seen_before (get world.changes name) is ∙ before) ∙ seen))
    where
      seen_before : (found : Option Contents) → is_some found ≡ false → is_some (option_or found (before_changes name setting)) ≡ is_some (before_changes name setting)
      seen_before None none = refl
      seen_before (Some object) none = absurd (true≢false none)

  made_is : is_some (shown name setting world) ≡ true → is_made name setting world ≡ not (is_some (before_changes name setting))
  unfolding is_made
  made_is seen = made_or_there (is_some (get world.changes name)) (is_drawn name setting world) (is_some (before_changes name setting)) refl refl refl seen

pub uncommitted_is_made : (commands : List Command) (setting : Setting) (name : ℕ) → AreSound setting (untouched setting.first)
    → let world = (transaction commands setting (untouched setting.first)).world in
    is_some (shown name setting world) ≡ true → is_made name setting world ≡ not (is_some (before_changes name setting))
uncommitted_is_made commands setting name sound seen =
    let world = (transaction commands setting (untouched setting.first)).world in
    let after = listed setting (StaysSound setting) (soundness_stays setting) commands (untouched setting.first) sound in
    let reach = listed setting (StaysInReach setting) (reach_stays setting) commands (untouched setting.first) (reach_first setting) in
    made_is setting world sound reach after.next_bound name seen
