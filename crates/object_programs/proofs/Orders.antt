-- The checks of a make, in their order.
use Rattle.std.proofs.Common.{◌≡◌, ◌∙◌, refl, ap, ℕ, ◌+◌, Bool, true, false, List, length, cond, nat_le, ◌<◌, ◌≤◌}
use Rattle.std.specs.List.{list_all}
use Rattle.std.proofs.lemmas.Bool.{le-leb, lt-leb}
use Rattle.gem_world.specs.gem_image.Image.{Contents}
use Rattle.gem_world.specs.World.{Setting, World, name_of}
use Rattle.object_programs.specs.declared.limits.TheConstants.{COUNTER_LIMIT}
use Rattle.object_programs.specs.declared.fault.Fault.TheVariants as fault
use Rattle.object_programs.specs.Budget.{Budget, is_within_limits}
use Rattle.object_programs.specs.Guard.{may_make}
use Rattle.object_programs.specs.Atom.{Make, done, refused, MakeCheck, too_large, no_name, no_space, no_fault, make_check, objects_cost, made_where, made_by}

module _ (objects_at : ℕ → List Contents) (setting : Setting) (world : World) (budget : Budget) where
  abbrev pub objects : List Contents
  objects = objects_at (name_of setting world.next)

  by_check : (found : MakeCheck) → make_check objects world budget ≡ found
      → done (Make objects_at) setting world budget ≡ made_by found objects setting world budget
  by_check found is = ap (λ some. made_by some objects setting world budget) is

  tests : (large name space : Bool) → list_all is_within_limits objects ≡ large
      → nat_le (world.next + length objects) COUNTER_LIMIT ≡ name
      → nat_le (objects_cost objects) budget.slots ≡ space
      → make_check objects world budget ≡ cond large (cond name (cond space no_fault no_space) no_name) too_large
  tests large name space first second third = rw (first, second, third) refl

  pub large : list_all is_within_limits objects ≡ false
      → done (Make objects_at) setting world budget ≡ refused fault.ObjectTooLarge world budget
  large first = by_check too_large (tests false _ _ first refl refl)

  pub used_up : list_all is_within_limits objects ≡ true → COUNTER_LIMIT < world.next + length objects
      → done (Make objects_at) setting world budget ≡ refused fault.NamesUsedUp world budget
  used_up first second =
      by_check no_name (tests true false _ first (lt-leb (world.next + length objects) COUNTER_LIMIT second) refl)

  pub too_little : list_all is_within_limits objects ≡ true → world.next + length objects ≤ COUNTER_LIMIT
      → budget.slots < objects_cost objects
      → done (Make objects_at) setting world budget ≡ refused fault.Space world budget
  too_little first second third = by_check no_space (tests true true false first
      (le-leb (world.next + length objects) COUNTER_LIMIT second)
      (lt-leb (objects_cost objects) budget.slots third))

  pub made : (may : Bool) → may_make objects setting world ≡ may → list_all is_within_limits objects ≡ true
      → world.next + length objects ≤ COUNTER_LIMIT → objects_cost objects ≤ budget.slots
      → done (Make objects_at) setting world budget ≡ made_where may objects setting world budget
  made may is first second third = by_check no_fault (tests true true true first
      (le-leb (world.next + length objects) COUNTER_LIMIT second)
      (le-leb (objects_cost objects) budget.slots third))
      ∙ ap (λ some. made_where some objects setting world budget) is
