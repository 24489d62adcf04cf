-- An object that is made where there is room for it, and that may stand where it is made.
use Rattle.std.proofs.Common.{◌≡◌, ℕ, ◌-◌, Bool, true, ◌&&◌, List, [], ◌∷◌, sym, ap, ◌∙◌}
use Rattle.gem_meaning.specs.gem_image.Image.{Contents}
use Rattle.gem_meaning.specs.object_programs.Atom.{Make, MakeCheck, no_fault, objects_cost}
use Rattle.gem_meaning.specs.object_programs.Guard.{Parts, all_fit}
use Rattle.gem_meaning.specs.object_programs.Run.{atom, gives, end_of}
use Rattle.gem_server.proofs.NotedUpdates.{MayStand, may_stand}
use Rattle.gem_server.proofs.PlainWorlds.{PlainSetting, PlainState, PlainOutcome, plain_name_of, plain_make_check, plain_may_make, plain_with_new, PlainDone, plain_made_where, plain_made_by}
use Rattle.gem_server.proofs.RunSteps.{Stack, finish, popped, resume, popped_is}

-- one object may be made
pub may_make_one : (parts : Parts) (name : ℕ) (object : Contents) → MayStand parts name object
    → all_fit parts name (object ∷ []) ≡ true
may_make_one parts name object may = ap (λ (b : Bool). b && true) (may_stand parts name object may)

module _ {B : Type 0} (setting : PlainSetting) where
  -- the objects are made, and take their space
  abbrev pub with_made : List Contents → PlainState B → PlainState B
  with_made objects state = record {
    world = plain_with_new objects setting state.world;
    budget = record {
      units = state.budget.units;
      slots = state.budget.slots - objects_cost objects;
      text = state.budget.text;
    };
    local = state.local;
  }

  pub made_is : {A : Type 0} (objects_at : ℕ → List Contents) (stack : Stack B A ℕ) (state : PlainState B)
      → plain_make_check (objects_at (plain_name_of setting state.world.next)) state.world state.budget ≡ no_fault
      → plain_may_make (objects_at (plain_name_of setting state.world.next)) setting state.world ≡ true
      → finish setting (record { Answer = ℕ; program = atom (Make objects_at); stack = stack; state = state })
      ≡ finish setting (popped setting stack (gives (plain_name_of setting state.world.next))
      (with_made (objects_at (plain_name_of setting state.world.next)) state))
  made_is {A} objects_at stack state checked may =
      let name : ℕ = plain_name_of setting state.world.next in
      let objects : List Contents = objects_at name in
      let after : PlainDone ℕ → PlainOutcome B A = λ (done : PlainDone ℕ). resume setting stack (end_of done.answer)
      (record { world = done.world; budget = done.budget; local = state.local }) in
      ap (λ (check : MakeCheck). after (plain_made_by check objects setting state.world state.budget)) checked
      ∙ ap (λ (fits : Bool). after (plain_made_where fits objects setting state.world state.budget)) may
      ∙ sym (popped_is setting stack (gives name) (with_made objects state))
