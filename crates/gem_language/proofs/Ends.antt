-- What is told of the parts of a program by what the whole answers.
use Rattle.std.proofs.Common.{◌≡◌, ◌∙◌, refl, sym, ap, ℕ, Bool, true, false, cond, Option, Some, None}
use Rattle.gem_object.specs.declared.value.Value.{Value}
use Rattle.object_programs.specs.gem_image.Image.{Contents}
use Rattle.object_programs.specs.gem_world.World.{Setting, World, shown, touch}
use Rattle.object_programs.specs.gem_world.Access.{a_read, is_allowed, touches_of, with_touches, after_allowed, accessed}
use Rattle.object_programs.specs.declared.fault.Fault.{Fault}
use Rattle.object_programs.specs.Atom.{access_answer}
use Rattle.object_programs.specs.Run.{Run, and_then, Ending, gives, returns, fails, State, Outcome, end_of, onward, perform}
use Rattle.object_programs.specs.Programs.{read}
use Rattle.tree_meaning.specs.Place.{MadeBlock}
use Rattle.gem_language.specs.Comes.{Comes, OnlyTouched}

pub fails_gives : {A : Type 0} (fault : Fault) (answer : A) → fails fault ≡ gives answer → ⊥
fails_gives fault answer is = cc

pub returns_gives : {A : Type 0} (value : Value) (home : ℕ) (answer : A) → returns value home ≡ gives answer → ⊥
returns_gives value home answer is = cc

answer_or : {A : Type 0} → A → Ending A → A
answer_or other (gives answer) = answer
answer_or other (returns value home) = other
answer_or other (fails fault) = other

pub same_answer : {A : Type 0} (one other : A) → gives one ≡ gives other → one ≡ other
unfolding answer_or
same_answer one other is = ap (answer_or one) is

-- where a program and another one after it give an answer, the first one gives one
pub record Both {A C : Type 0} (first : Run MadeBlock C) (second : C → Run MadeBlock A) (setting : Setting)
    (state : State MadeBlock) (answer : A) (after : State MadeBlock) : Type 0 where
  pub middle : C
  pub between : State MadeBlock
  pub before : Comes first setting state (gives middle) between
  pub then : Comes (second middle) setting between (gives answer) after

module _ (setting : Setting) where
  both_by : {A C : Type 0} (first : Run MadeBlock C) (second : C → Run MadeBlock A) (state : State MadeBlock)
      (end : Ending C) (between : State MadeBlock) (answer : A) (after : State MadeBlock)
      → Comes first setting state end between
      → onward end between (λ answer after. perform (second answer) setting after)
      ≡ record { end = gives answer; state = after }
      → Both first second setting state answer after
  both_by first second state (gives middle) between answer after here is =
      record { middle = middle; between = between; before = here; then = is }
  both_by first second state (returns value home) between answer after here is =
      absurd (returns_gives value home answer (ap (λ (o : Outcome MadeBlock _). o.end) is))
  both_by first second state (fails fault) between answer after here is =
      absurd (fails_gives fault answer (ap (λ (o : Outcome MadeBlock _). o.end) is))

  pub both : {A C : Type 0} (first : Run MadeBlock C) (second : C → Run MadeBlock A) (state : State MadeBlock)
      (answer : A) (after : State MadeBlock) → Comes (and_then first second) setting state (gives answer) after
      → Both first second setting state answer after
  both first second state answer after is =
      let before = perform first setting state in
      both_by first second state before.end before.state answer after refl is

  -- a program whose first part gives an answer goes on with the second
  pub then_comes : {A C : Type 0} (first : Run MadeBlock C) (second : C → Run MadeBlock A) (state : State MadeBlock)
      (middle : C) (between : State MadeBlock) → Comes first setting state (gives middle) between
      → perform (and_then first second) setting state ≡ perform (second middle) setting between
  then_comes first second state middle between is = ap (λ (o : Outcome MadeBlock _).
      onward o.end o.state (λ answer after. perform (second answer) setting after)) is

  -- a read that gives something gives what is seen
  pub read_gives : (name : ℕ) (state : State MadeBlock) (object : Contents) (after : State MadeBlock)
      → Comes (read name) setting state (gives object) after → shown name setting state.world ≡ Some object
  read_gives name state object after is = gives_by (is_allowed a_read name setting state.world)
      (shown name setting state.world) (ap (λ (o : Outcome MadeBlock _). o.end) is)
    where
      gives_by : (allowed : Bool) (found : Option Contents)
          → end_of (access_answer allowed a_read name found) ≡ gives object → found ≡ Some object
      gives_by true (Some other) is = ap (λ (o : Contents). Some o) (same_answer other object is)
      gives_by true None is = absurd (fails_gives _ object is)
      gives_by false found is = absurd (fails_gives _ object is)

  touched_by : (allowed : Bool) (name : ℕ) (found seen : Option Contents) (world : World)
      → cond allowed (after_allowed a_read name seen (touches_of name found setting world))
      (touches_of name found setting world)
      ≡ record world { touched = (touches_of name found setting world).touched }
  unfolding touch
  touched_by true name None seen world = refl
  touched_by true name (Some object) seen world = refl
  touched_by false name None seen world = refl
  touched_by false name (Some object) seen world = refl

  pub read_world : (name : ℕ) (world : World) → accessed a_read name setting world
      ≡ record world { touched = (with_touches name setting world).touched }
  unfolding accessed with_touches
  read_world name world = touched_by (is_allowed a_read name setting world) name (shown name setting world)
      (shown name setting world) world

  -- and it changes nothing but touches
  pub read_touches : (name : ℕ) (state : State MadeBlock) (object : Contents) (after : State MadeBlock)
      → Comes (read name) setting state (gives object) after → OnlyTouched state after
  read_touches name state object after is = record {
    touched = (with_touches name setting state.world).touched;
    same = sym (ap (λ (o : Outcome MadeBlock _). o.state) is)
        ∙ ap (λ (world : World). record state { world = world }) (read_world name state.world);
  }

  pub touched_along : (state between after : State MadeBlock) → OnlyTouched state between
      → OnlyTouched between after → OnlyTouched state after
  touched_along state between after first second = record {
    touched = second.touched;
    same = second.same
        ∙ ap (λ (s : State MadeBlock). record s { world = record s.world { touched = second.touched } }) first.same;
  }
