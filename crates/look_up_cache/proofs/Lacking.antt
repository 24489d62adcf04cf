-- For want of what a unit and a put into a slot may end.
use Rattle.std.proofs.Common.{◌≡◌, ap, subst, ℕ, zero, suc, Bool, true, false, is_some, nat_le, Result, Ok, Err, arith}
use Rattle.std.proofs.lemmas.Bool.{false≢true, le-leb}
use Rattle.gem_object.specs.declared.body.Body.{Body}
use Rattle.running_objects.specs.gem_image.Image.{Contents}
use Rattle.running_objects.specs.gem_world.World.{Setting, World}
use Rattle.running_objects.specs.gem_world.Changes.{with_body}
use Rattle.running_objects.specs.object_programs.Atom.{Answer, says, refuses, Done, Room, Put, Tick, ticked, spent_where}
use Rattle.running_objects.specs.object_programs.Budget.{Budget, is_within_limits}
use Rattle.running_objects.specs.object_programs.Run.{atom, and_then, Ending, gives, returns, fails, State, Outcome, outcome_of, onward, perform}
use Rattle.running_objects.specs.object_programs.Programs.{check, replace_body}
use Rattle.running_objects.specs.object_programs.declared.fault.Fault.TheVariants as fault
use Rattle.running_objects.specs.Acted.{Acted}
use Rattle.running_objects.specs.Seen.{Seen, object_at, with_local}
use Rattle.running_objects.specs.declared.stop.Stop.{Stop}
use Rattle.running_objects.specs.declared.stop.Stop.TheVariants as stop
use Rattle.gem_language.specs.tree_meaning.Place.{MadeBlock}
use Rattle.prim_parts.specs.Does.{Does}
use Rattle.prim_parts.specs.Edits.{Replaces}
use Rattle.look_up_cache.specs.Lacking.{IsLack, LacksAtMost}
use Rattle.look_up_cache.proofs.Keeps.{some_by}
use Rattle.look_up_cache.proofs.Told.{nowhere}

abbrev answer_lacks : Answer (Unit {0}) → Type 0
answer_lacks (says answer) = Unit {0}
answer_lacks (refuses fault) = IsLack (stop.Fails fault)

abbrev end_lacks : Ending (Unit {0}) → Type 0
end_lacks (gives answer) = Unit {0}
end_lacks (returns value home) = ⊥
end_lacks (fails fault) = IsLack (stop.Fails fault)

ticked_lacks : (units : ℕ) (world : World) (budget : Budget) → answer_lacks (ticked units world budget).answer
ticked_lacks zero world budget = tt
ticked_lacks (suc units) world budget = tt

pub unit_lacks : (before after : Seen) (result : Result (Unit {0}) Stop) → Acted Tick before result after
    → LacksAtMost result
unit_lacks before after (Ok tt) acted = tt
unit_lacks before after (Err (stop.Fails fault)) acted =
    subst answer_lacks (ap (λ (d : Done (Unit {0})). d.answer) acted.did)
    (ticked_lacks before.budget.units before.world before.budget)
unit_lacks before after (Err (stop.Returns value home)) acted = absurd acted.did
unit_lacks before after (Err stop.NoMemory) acted = tt

after_room : (enough : Bool) (name : ℕ) (body : Body) (setting : Setting) (state : State MadeBlock) → enough ≡ true
    → let room = outcome_of (spent_where enough 0 state.world state.budget) state.local in
    end_lacks (onward room.end room.state (λ (answer : Unit {0}) after. perform (atom (Put name body)) setting after)).end
after_room true name body setting state same = tt
after_room false name body setting state same = absurd (false≢true same)

replacing_lacks : (small : Bool) (name : ℕ) (body : Body) (setting : Setting) (state : State MadeBlock)
    → end_lacks (perform (and_then (check fault.ObjectTooLarge small) (λ (fits : Unit {0}). and_then (atom (Room 0))
    (λ (room : Unit {0}). atom (Put name body)))) setting state).end
replacing_lacks true name body setting state = after_room (nat_le 0 state.budget.slots) name body setting state
    (le-leb 0 state.budget.slots (omega arith))
replacing_lacks false name body setting state = tt

replaced_ends : (name : ℕ) (object : Contents) (body : Body) (before after : Seen) (result : Result (Unit {0}) Stop)
    → Does (replace_body 0 name object body) before result after → LacksAtMost result
unfolding replace_body
replaced_ends name object body before after (Ok tt) does = tt
replaced_ends name object body before after (Err (stop.Fails fault)) does =
    subst end_lacks (ap (λ (o : Outcome MadeBlock (Unit {0})). o.end) (does.ends nowhere))
    (replacing_lacks (is_within_limits (with_body body object)) name body before.setting (with_local before nowhere))
replaced_ends name object body before after (Err (stop.Returns value home)) does =
    subst end_lacks (ap (λ (o : Outcome MadeBlock (Unit {0})). o.end) (does.ends nowhere))
    (replacing_lacks (is_within_limits (with_body body object)) name body before.setting (with_local before nowhere))
replaced_ends name object body before after (Err stop.NoMemory) does = tt

-- a put into a slot of an object that is there
pub put_lacks : (name : ℕ) (edit : Body → Body) (before after : Seen) (result : Result (Unit {0}) Stop)
    → is_some (object_at name before) ≡ true → Replaces (λ (body : Body). 0) name edit before result after
    → LacksAtMost result
put_lacks name edit before after result there replaces =
    some_by (object_at name before) (LacksAtMost result) there (λ object here.
    replaced_ends name object (edit object.body) before after result (replaces object here))
