-- What a look-up tells of a primitive that it found.
use Rattle.std.proofs.Common.{◌≡◌, subst, ℕ, Option, Some, None, option_map}
use Rattle.std.proofs.lemmas.Option.{none-some, same_Some}
use Rattle.gem_object.specs.texts.Bytes.{Bytes as Text}
use Rattle.gem_object.specs.declared.value.Value.{Value}
use Rattle.gem_object.specs.declared.body.MethodCode.TheVariants.{Primitive}
use Rattle.running_objects.specs.Seen.{Seen}
use Rattle.gem_language.specs.declared.found.Found.{Found}
use Rattle.gem_language.specs.LookUp.{Start}
use Rattle.look_up_cache.specs.Remembered.{Finds}
use Rattle.look_up_cache.specs.Answering.{FindsPrimitive, AnswersBy}
use Rattle.look_up_cache.specs.Budgets.{with_budget}
use Rattle.look_up_cache.specs.Memory.{start_at, IsFound, BeginsFor}
use Rattle.look_up_cache.specs.declared.memory.Entry.{Entry}
use Rattle.look_up_cache.proofs.Gives.{known_does}
use Rattle.look_up_cache.proofs.Meets.{known_with}

module _ (start : Start) (selector : Text) (number : ℕ) (seen : Seen) where
  -- a look-up that found the primitive
  primitive_by : (found : Option Found) → option_map (λ (f : Found). f.code) found ≡ Some (Primitive number)
      → Finds start selector found seen.setting seen.world
      → FindsPrimitive start selector number seen.setting seen.world
  primitive_by None code finds = absurd (none-some (Primitive number) code)
  primitive_by (Some found) code finds =
      record { found = found; finds = finds; code = same_Some found.code (Primitive number) code }

  -- where it is remembered
  pub primitive_in : {T : Type 0} (entry : Entry T) → start_at entry.start ≡ start → entry.selector ≡ selector
      → option_map (λ (f : Found). f.code) entry.found ≡ Some (Primitive number) → IsFound seen entry
      → FindsPrimitive start selector number seen.setting seen.world
  primitive_in {T} entry same alike code finds = primitive_by entry.found code
      (subst (λ (text : Text). Finds start text entry.found seen.setting seen.world) alike
      (subst (λ (s : Start). Finds s entry.selector entry.found seen.setting seen.world) same finds))

  -- what is remembered of the primitive is what a look-up finds now, and nothing changes
  pub primitive_answers : (receiver : Value) → BeginsFor receiver start seen
      → FindsPrimitive start selector number seen.setting seen.world → AnswersBy number receiver selector seen
  primitive_answers receiver begins finds = (
    finds.found,
    finds.code,
    (λ frame budget. known_does frame receiver selector (Some finds.found) (with_budget budget seen)
        (known_with receiver selector (Some finds.found) seen budget
        (record { start = start; begins = begins; finds = finds.finds }))),
  )
