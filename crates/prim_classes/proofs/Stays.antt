-- What is seen after programs have run: objects are still there, and reads change none.
use Rattle.std.proofs.Common.{◌≡◌, refl, sym, ap, ◌∙◌, subst, ℕ, Bool, true, false, cond, [], Option, Some, None, is_some, option_map, Ok}
use Rattle.gem_object.specs.declared.body.UserBody.{UserBody}
use Rattle.gem_image.specs.Image.{Contents}
use Rattle.object_programs.specs.gem_world.World.{Setting, World, shown}
use Rattle.object_programs.specs.gem_world.Access.{a_read, is_allowed, with_touches, accessed}
use Rattle.object_programs.proofs.Worlds.{shown_asked}
use Rattle.prim_parts.specs.tree_meaning.Place.{MadeBlock}
use Rattle.object_programs.specs.Local.{Local}
use Rattle.object_programs.specs.Fixed.{Fixed, fixed_of, fixed_by}
use Rattle.object_programs.specs.Laws.{KeepsParts}
use Rattle.object_programs.specs.Atom.{access_answer}
use Rattle.object_programs.specs.Run.{Run, give, and_then, Ending, gives, returns, fails, end_of, State, Outcome, onward, perform}
use Rattle.object_programs.specs.Programs.{need}
use Rattle.object_programs.specs.declared.fault.Fault.TheVariants as fault
use Rattle.object_programs.proofs.Kept.{kept}
use Rattle.object_programs.proofs.Objects.{parts_stay}
use Rattle.running_objects.specs.Seen.{Seen, object_at, with_local, IsSoundState}
use Rattle.prim_rules.specs.Parts.{user_in, default_segment}
use Rattle.prim_parts.specs.Does.{Does, IsThere}

nowhere : Local MadeBlock
nowhere = record { scopes = []; blocks = []; living = [] }

there_by : (found later : Option Contents)
    → ((fixed : Fixed) → option_map fixed_of found ≡ Some fixed → option_map fixed_of later ≡ Some fixed)
    → is_some found ≡ true → is_some later ≡ true
there_by None later keeps there = absurd (cc)
there_by (Some object) None keeps there = absurd (none_some (keeps (fixed_of object) refl))
  where
    none_some : {fixed : Fixed} → None ≡ Some fixed → ⊥
    none_some same = cc
there_by (Some object) (Some other) keeps there = refl

-- an object that was there is there after a program that gave an answer
pub still_there : {A : Type 0} {program : Run MadeBlock A} {before after : Seen} {answer : A} (name : ℕ)
    → IsSoundState before → Does program before (Ok answer) after → IsThere name before → IsThere name after
still_there {A} {program} {before} {after} {answer} name sound does there =
    let run : Outcome MadeBlock A = perform program before.setting (with_local before nowhere) in
    let At : World → Type 0 = λ world. KeepsParts (fixed_by before.setting before.world) (fixed_by before.setting world) in
    let whole : KeepsParts (fixed_by before.setting before.world) (fixed_by before.setting run.state.world) =
    (kept before.setting _ (parts_stay before.setting) program (with_local before nowhere) sound.free).1 in
    let left : run.state.world ≡ after.world = ap (λ (outcome : Outcome MadeBlock A). outcome.state.world) (does.ends nowhere) in
    let keeps : KeepsParts (fixed_by before.setting before.world) (fixed_by before.setting after.world) = subst At left whole in
    let Of : Setting → Type 0 = λ setting. is_some (shown name setting after.world) ≡ true in
    subst Of (sym does.keeps.setting) (there_by (object_at name before) (shown name before.setting after.world) (keeps name) there)

-- what comes after the profile is read changes nothing
profile_only : (end : Ending Contents) (setting : Setting) (state : State MadeBlock) (user : ℕ)
    → (onward end state (λ profile after. perform
    (and_then (need {B = MadeBlock} (fault.NoReadRight user) (user_in profile.body)) (λ found. give found.default_segment))
    setting after)).state ≡ state
profile_only (gives profile) setting state user = by (user_in profile.body)
  where
    by : (found : Option UserBody) → (perform (and_then (need {B = MadeBlock} (fault.NoReadRight user) found)
        (λ one. give one.default_segment)) setting state).state ≡ state
    by None = refl
    by (Some one) = refl
profile_only (returns value home) setting state user = refl
profile_only (fails other) setting state user = refl

-- a read leaves what is seen
read_by : (allowed : Bool) (name : ℕ) (setting : Setting) (touched world : World)
    → shown name setting touched ≡ shown name setting world
    → shown name setting (cond allowed touched touched) ≡ shown name setting world
read_by true name setting touched world same = same
read_by false name setting touched world same = same

read_shows : (asked name : ℕ) (setting : Setting) (world : World)
    → shown name setting (accessed a_read asked setting world) ≡ shown name setting world
unfolding accessed
read_shows asked name setting world = read_by (is_allowed a_read asked setting world) name setting
    (with_touches asked setting world) world (shown_asked setting setting asked name world)

-- the default segment is read and no object changes
pub segment_shows : {before after : Seen} {segment : ℕ} (name : ℕ) → Does default_segment before (Ok segment) after
    → object_at name after ≡ object_at name before
unfolding default_segment
segment_shows {before} {after} {segment} name does =
    let setting : Setting = before.setting in
    let user : ℕ = setting.user in
    let state : State MadeBlock = record {
      world = accessed a_read user setting before.world;
      budget = before.budget;
      local = nowhere;
    } in
    let end : Ending Contents = end_of (access_answer (is_allowed a_read user setting before.world) a_read user
    (shown user setting before.world)) in
    let left : accessed a_read user setting before.world ≡ after.world =
    ap (λ (one : State MadeBlock). one.world) (sym (profile_only end setting state user))
    ∙ ap (λ (outcome : Outcome MadeBlock ℕ). outcome.state.world) (does.ends nowhere) in
    let At : Setting → Type 0 = λ other. shown name other after.world ≡ shown name setting before.world in
    let Of : World → Type 0 = λ world. shown name setting world ≡ shown name setting before.world in
    subst At (sym does.keeps.setting) (subst Of left (read_shows user name setting before.world))
