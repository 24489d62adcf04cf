-- That a body that is put in place of another one leaves what look-ups depend on.
use Rattle.std.proofs.Common.{◌≡◌, ◌∙◌, refl, sym, ap, subst, ℕ, Bool, true, false, nat_le, Some, Ok}
use Rattle.std.proofs.lemmas.Option.{same_Some}
use Rattle.gem_object.specs.declared.body.Body.{Body}
use Rattle.running_objects.specs.gem_image.Image.{Contents}
use Rattle.running_objects.specs.gem_world.World.{Setting, World, shown}
use Rattle.running_objects.specs.gem_world.Changes.{with_body}
use Rattle.running_objects.specs.object_programs.Atom.{Room, Put, spent_where}
use Rattle.running_objects.specs.object_programs.Budget.{Budget, is_within_limits}
use Rattle.running_objects.specs.object_programs.Run.{Run, atom, and_then, gives, State, Outcome}
use Rattle.running_objects.specs.object_programs.Programs.{check, replace_body}
use Rattle.running_objects.specs.object_programs.declared.fault.Fault.{Fault}
use Rattle.running_objects.specs.object_programs.declared.fault.Fault.TheVariants as fault
use Rattle.running_objects.proofs.object_programs_lemmas.Worlds.{changed_shown}
use Rattle.running_objects.specs.Seen.{Seen, object_at, with_local}
use Rattle.gem_language.specs.tree_meaning.Place.{MadeBlock}
use Rattle.gem_language.specs.Comes.{Comes}
use Rattle.gem_language.proofs.Ends.{Both, both, fails_gives}
use Rattle.prim_parts.specs.Does.{Does}
use Rattle.look_up_cache.specs.Lasting.{lasting_body, Still}
use Rattle.look_up_cache.specs.Remains.{Remains}
use Rattle.look_up_cache.proofs.Atoms.{edited_still}
use Rattle.look_up_cache.proofs.Told.{nowhere}

spent_leaves : (enough : Bool) (slots : ℕ) (world : World) (budget : Budget)
    → (spent_where enough slots world budget).world ≡ world
spent_leaves true slots world budget = refl
spent_leaves false slots world budget = refl

module _ (setting : Setting) where
  checked : (fault : Fault) (holds : Bool) (state between : State MadeBlock) (answer : Unit {0})
      → Comes (check fault holds) setting state (gives answer) between → state ≡ between
  checked fault true state between answer is = ap (λ (o : Outcome MadeBlock (Unit {0})). o.state) is
  checked fault false state between answer is =
      absurd (fails_gives fault answer (ap (λ (o : Outcome MadeBlock (Unit {0})). o.end) is))

  roomed : (slots : ℕ) (state between : State MadeBlock) (answer : Unit {0})
      → Comes (atom (Room slots)) setting state (gives answer) between → state.world ≡ between.world
  roomed slots state between answer is =
      sym (spent_leaves (nat_le slots state.budget.slots) slots state.world state.budget)
      ∙ ap (λ (o : Outcome MadeBlock (Unit {0})). o.state.world) is

pub replace_remains : (before after : Seen) (name : ℕ) (edit : Body → Body) (object : Contents)
    → object_at name before ≡ Some object → ((body : Body) → lasting_body (edit body) ≡ lasting_body body)
    → Does (replace_body 0 name object (edit object.body)) before (Ok tt) after → Remains before after
unfolding replace_body
replace_remains before after name edit object there keeps does =
    let setting : Setting = before.setting in
    let body : Body = edit object.body in
    let small : Bool = is_within_limits (with_body body object) in
    let last : Unit {0} → Run MadeBlock (Unit {0}) = λ (room : Unit {0}). atom (Put name body) in
    let more : Unit {0} → Run MadeBlock (Unit {0}) = λ (fits : Unit {0}). and_then (atom (Room 0)) last in
    let first : Both (check fault.ObjectTooLarge small) more setting (with_local before nowhere) tt (with_local after nowhere) =
    both setting (check fault.ObjectTooLarge small) more (with_local before nowhere) tt (with_local after nowhere)
    (does.ends nowhere) in
    let second : Both (atom (Room 0)) last setting first.between tt (with_local after nowhere) =
    both setting (atom (Room 0)) last first.between tt (with_local after nowhere) first.then in
    let middle : World = second.between.world in
    let same : before.world ≡ middle = ap (λ (s : State MadeBlock). s.world)
    (checked setting fault.ObjectTooLarge small (with_local before nowhere) first.between first.middle first.before)
    ∙ roomed setting 0 first.between second.between second.middle second.before in
    let held : shown name setting middle ≡ Some object =
    subst (λ (world : World). shown name setting world ≡ Some object) same there in
    let still : Still setting middle after.world = subst (λ (world : World). Still setting middle world)
    (ap (λ (o : Outcome MadeBlock (Unit {0})). o.state.world) second.then)
    (edited_still setting name body middle (λ old is alike. keeps object.body
    ∙ ap (λ (one : Contents). lasting_body one.body)
    (same_Some object old (sym held ∙ changed_shown setting name old middle is)))) in
    record {
      setting = does.keeps.setting;
      still = subst (λ (world : World). Still setting world after.world) (sym same) still;
    }
