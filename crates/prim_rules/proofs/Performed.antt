-- What a program does whose first step is known: an access that is allowed or refused, and the
-- fixed part of an object that is there.
use Rattle.std.specs.Prelude.{◌≡◌, ℕ, Bool, true, false, cond, is_some, Option, Some}
use Rattle.std.proofs.Common.{ap, ap₂, ◌∙◌}
use Rattle.std.proofs.Math.Nat.{sub-zero}
use Rattle.std.proofs.Math.Dec.{leb-zero}
use Rattle.gem_object.specs.declared.body.Body.{Body}
use Rattle.object_programs.specs.gem_world.Changes.{with_body}
use Rattle.object_programs.specs.Budget.{is_within_limits}
use Rattle.object_programs.specs.Programs.{need, check, read, replace_body}
use Rattle.object_programs.specs.declared.fault.Fault.TheVariants as fault
use Rattle.object_programs.specs.gem_image.Image.{Contents}
use Rattle.object_programs.specs.gem_world.World.{Setting, shown, with_name}
use Rattle.object_programs.specs.gem_world.Access.{Access, a_read, is_allowed, accessed}
use Rattle.object_programs.specs.Fixed.{Fixed, fixed_by}
use Rattle.object_programs.specs.Atom.{Ask, Kind, Put, Room, access_answer, access_fault, touch_missing, spent_where, edited}
use Rattle.object_programs.specs.Run.{Run, give, atom, and_then, gives, fails, State, Outcome, end_of, outcome_of, onward, perform}
use Rattle.object_programs.specs.declared.fault.Fault.{Fault}
use Rattle.gem_object.specs.declared.value.Value.{Value}
use Rattle.prim_rules.specs.declared.answer.PrimitiveAnswer.TheVariants.{Gives}
use Rattle.prim_rules.specs.Parts.{user_in, default_segment, answers}

module _ {B : Type 0} where
  -- a program with an answer goes on with it, and one with an error ends there
  pub goes_on : {A C : Type 0} (first : Run B C) (second : C → Run B A) (setting : Setting)
      (state after : State B) (answer : C)
      → perform first setting state ≡ record { end = gives answer; state = after }
      → perform (and_then first second) setting state ≡ perform (second answer) setting after
  goes_on {A} {C} first second setting state after answer done =
      ap (λ (out : Outcome B C). onward out.end out.state
      (λ found next. perform (second found) setting next)) done

  pub ends_there : {A C : Type 0} (first : Run B C) (second : C → Run B A) (setting : Setting)
      (state after : State B) (fault : Fault)
      → perform first setting state ≡ record { end = fails fault; state = after }
      → perform (and_then first second) setting state ≡ record { end = fails fault; state = after }
  ends_there {A} {C} first second setting state after fault done =
      ap (λ (out : Outcome B C). onward out.end out.state
      (λ found next. perform (second found) setting next)) done

  -- an access that is allowed gives the object, and a refused one ends in its error
  pub access_gives : (access : Access) (name : ℕ) (object : Contents) (setting : Setting)
      (state : State B) → is_allowed access name setting state.world ≡ true
      → shown name setting state.world ≡ Some object
      → perform (atom (Ask access name)) setting state ≡ record {
        end = gives object;
        state = record state { world = accessed access name setting state.world };
      }
  access_gives access name object setting state allowed there =
      ap₂ (λ (may : Bool) (found : Option Contents). record {
        end = end_of (access_answer may access name found);
        state = record state { world = accessed access name setting state.world };
      }) allowed there

  pub access_fails : (access : Access) (name : ℕ) (setting : Setting)
      (state : State B) → is_allowed access name setting state.world ≡ false
      → perform (atom (Ask access name)) setting state ≡ record {
        end = fails (access_fault access name);
        state = record state { world = accessed access name setting state.world };
      }
  access_fails access name setting state refused =
      ap (λ (may : Bool). record {
        end = end_of (access_answer may access name (shown name setting state.world));
        state = record state { world = accessed access name setting state.world };
      }) refused

  -- the fixed part of an object that is there is given, and nothing changes
  pub kind_given : (name : ℕ) (fixed : Fixed) (setting : Setting) (state : State B)
      → fixed_by setting state.world name ≡ Some fixed
      → perform (atom (Kind name)) setting state
      ≡ record { end = gives (Some fixed); state = state }
  unfolding touch_missing
  kind_given name fixed setting state known =
      ap (λ (found : Option Fixed). record {
        end = gives found;
        state = record state {
          world = record state.world {
            touched = cond (is_some found) state.world.touched
                (with_name state.world.touched name);
          };
        };
      }) known

  -- no space is always to be had
  room_of_none : (setting : Setting) (state : State B)
      → perform (atom (Room 0)) setting state ≡ record { end = gives tt; state = state }
  room_of_none setting state =
      ap (λ (fits : Bool). outcome_of (spent_where fits 0 state.world state.budget) state.local)
      (leb-zero state.budget.slots)
      ∙ ap (λ (left : ℕ). record {
        end = gives tt;
        state = record state {
          budget = record state.budget { slots = left };
        };
      }) (sub-zero state.budget.slots)

  -- a body within the limits is put that doesn't grow
  pub body_put : (name : ℕ) (object : Contents) (body : Body) (setting : Setting)
      (state : State B) → is_within_limits (with_body body object) ≡ true
      → perform (replace_body 0 name object body) setting state ≡ record {
        end = gives tt;
        state = record state { world = edited name (with_body body) setting state.world };
      }
  unfolding replace_body
  body_put name object body setting state small =
      goes_on (check fault.ObjectTooLarge (is_within_limits (with_body body object)))
      (λ fits. and_then (atom (Room 0)) (λ room. atom (Put name body))) setting state state tt
      (ap (λ (fits : Bool). perform (check fault.ObjectTooLarge fits) setting state) small)
      ∙ goes_on (atom (Room 0)) (λ room. atom (Put name body)) setting state state tt
      (room_of_none setting state)

  -- there is no default segment where the profile can't be read
  pub no_segment : (setting : Setting) (state : State B)
      → is_allowed a_read setting.user setting state.world ≡ false
      → perform default_segment setting state ≡ record {
        end = fails (fault.NoReadRight setting.user);
        state = record state { world = accessed a_read setting.user setting state.world };
      }
  unfolding default_segment
  no_segment setting state refused =
      ends_there (read setting.user) (λ profile.
      and_then (need (fault.NoReadRight setting.user) (user_in profile.body)) (λ found.
      give found.default_segment)) setting state
      (record state { world = accessed a_read setting.user setting state.world })
      (fault.NoReadRight setting.user) (access_fails a_read setting.user setting state refused)

  -- what a rule gives is the answer of its primitive, and so is its error
  pub answers_give : (rule : Run B Value) (setting : Setting) (state after : State B)
      (value : Value) → perform rule setting state ≡ record { end = gives value; state = after }
      → perform (answers rule) setting state ≡ record { end = gives (Gives value); state = after }
  answers_give rule setting state after value done =
      goes_on rule (λ found. give (Gives found)) setting state after value done

  pub answers_fail : (rule : Run B Value) (setting : Setting) (state after : State B)
      (fault : Fault) → perform rule setting state ≡ record { end = fails fault; state = after }
      → perform (answers rule) setting state ≡ record { end = fails fault; state = after }
  answers_fail rule setting state after fault done =
      ends_there rule (λ found. give (Gives found)) setting state after fault done

  -- two rules that do the same answer the same
  pub answers_same : (rule other : Run B Value) (setting : Setting) (state after : State B)
      → perform rule setting state ≡ perform other setting after
      → perform (answers rule) setting state ≡ perform (answers other) setting after
  answers_same rule other setting state after same =
      ap (λ (out : Outcome B Value). onward out.end out.state
      (λ found next. perform (give (Gives found)) setting next)) same
