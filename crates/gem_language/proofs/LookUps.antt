-- A look-up finds what the relation says.
use Rattle.std.proofs.Common.{◌≡◌, ◌∙◌, refl, sym, ap, subst, ℕ, zero, suc, Bool, true, false, Option, Some, None, option_and_then, option_map}
use Rattle.gem_object.specs.texts.Bytes.{Bytes as Text}
use Rattle.gem_object.specs.declared.value.Value.{Value}
use Rattle.gem_object.specs.declared.value.Value.TheVariants as value
use Rattle.gem_object.specs.declared.body.MethodCode.{MethodCode}
use Rattle.gem_object.specs.declared.body.ClassBody.{ClassBody}
use Rattle.gem_object.specs.declared.body.Body.{Body}
use Rattle.gem_object.specs.declared.body.Body.TheVariants as body
use Rattle.object_programs.specs.gem_image.Image.{Contents, Objects}
use Rattle.object_programs.specs.gem_sound.Kernel.{class_class}
use Rattle.object_programs.specs.gem_sound.Parts.{class_of, class_at}
use Rattle.object_programs.specs.gem_world.World.{Setting, shown_objects}
use Rattle.object_programs.specs.Fixed.{fixed_of}
use Rattle.object_programs.specs.Guard.{chain_limit}
use Rattle.object_programs.specs.Atom.{touch_missing}
use Rattle.object_programs.specs.Run.{Run, give, gives, State, Outcome}
use Rattle.object_programs.specs.Programs.{read}
use Rattle.tree_meaning.specs.Place.{Frame, MadeBlock}
use Rattle.gem_language.specs.declared.found.Found.{Found}
use Rattle.gem_language.specs.LookUp.{FindingRun, methods_on, code_of, found_or, from_superclass, found_from, up_within, up_classes, past_last, Start, found_at, start_of_object, start_of_receiver, superclass_of, start_above, start_of, find_method}
use Rattle.gem_language.specs.Comes.{Comes, OnlyTouched}
use Rattle.gem_language.specs.Finds.{Finds, in_class, above, no_class, past_class_sides, past_all, superclass_at, BeginsAt, at_class_side, at_class, at_kernel_class, at_superclass, FindsFor}
use Rattle.gem_language.proofs.Ends.{fails_gives, same_answer, both, read_gives, read_touches, touched_along}

module _ (setting : Setting) where
  -- what is seen in a state
  abbrev Seen : State MadeBlock → Objects
  Seen state = shown_objects setting state.world

  stays : (state : State MadeBlock) → OnlyTouched state state
  stays state = record { touched = state.world.touched; same = refl }

  module _ (selector : Text) where
    -- what a program finds that looks from this class on
    abbrev Told : (class_side : Bool) → Option ℕ → FindingRun → Type 0
    Told class_side class program = (state : State MadeBlock) (found : Option Found) (after : State MadeBlock)
        → Comes program setting state (gives found) after
        → Finds (Seen state) selector class_side class found × OnlyTouched state after

    give_told : (class_side : Bool) (class : Option ℕ) (given : Option Found)
        → ((state : State MadeBlock) → Finds (Seen state) selector class_side class given)
        → Told class_side class (give given)
    give_told class_side class given finds state found after is = (
      subst (λ other. Finds (Seen state) selector class_side class other)
          (same_answer given found (ap (λ (o : Outcome MadeBlock (Option Found)). o.end) is)) (finds state),
      subst (λ other. OnlyTouched state other) (ap (λ (o : Outcome MadeBlock (Option Found)). o.state) is)
          (stays state),
    )

    -- what is found later is found from the first state on
    carried : (state between : State MadeBlock) (class_side : Bool) (class : Option ℕ) (found : Option Found)
        → OnlyTouched state between → Finds (Seen between) selector class_side class found
        → Finds (Seen state) selector class_side class found
    carried state between class_side class found only finds =
        subst (λ (s : State MadeBlock). Finds (Seen s) selector class_side class found) only.same finds

    module _ (class_side : Bool) (past : FindingRun) (past_told : Told class_side None past) where
      super_told : (superclass : Option ℕ) (higher : ℕ → FindingRun)
          → ((name : ℕ) → Told class_side (Some name) (higher name))
          → Told class_side superclass (from_superclass superclass higher past)
      super_told None higher up = past_told
      super_told (Some name) higher up = up name

      code_told : (name : ℕ) (class : ClassBody) (code : Option MethodCode) (higher : ℕ → FindingRun)
          → ((name : ℕ) → Told class_side (Some name) (higher name)) → (state : State MadeBlock)
          → class_at (Seen state) name ≡ Some class → code_of selector (methods_on class_side class) ≡ code
          → (found : Option Found) (after : State MadeBlock)
          → Comes (found_or name class_side code (from_superclass class.superclass higher past)) setting state
          (gives found) after
          → Finds (Seen state) selector class_side (Some name) found × OnlyTouched state after
      code_told name class (Some code) higher up state there has found after is = (
        subst (λ other. Finds (Seen state) selector class_side (Some name) other)
            (same_answer _ found (ap (λ (o : Outcome MadeBlock (Option Found)). o.end) is))
            (in_class class_side name class code there has),
        subst (λ other. OnlyTouched state other) (ap (λ (o : Outcome MadeBlock (Option Found)). o.state) is)
            (stays state),
      )
      code_told name class None higher up state there has found after is =
          let told = super_told class.superclass higher up state found after is in
          (above class_side name class found there has told.0, told.1)

      from_told : (name : ℕ) (class : Option ClassBody) (higher : ℕ → FindingRun)
          → ((name : ℕ) → Told class_side (Some name) (higher name)) → (state : State MadeBlock)
          → class_at (Seen state) name ≡ class → (found : Option Found) (after : State MadeBlock)
          → Comes (found_from class_side selector name class higher past) setting state (gives found) after
          → Finds (Seen state) selector class_side (Some name) found × OnlyTouched state after
      from_told name None higher up state there found after is =
          let told = past_told state found after is in
          (no_class class_side name found there told.0, told.1)
      from_told name (Some class) higher up state there found after is =
          code_told name class (code_of selector (methods_on class_side class)) higher up state there refl found after is

      up_told : (more : ℕ) (name : ℕ)
          → Told class_side (Some name) (up_within more class_side selector past name)
      up_told zero name state found after is =
          absurd (fails_gives _ found (ap (λ (o : Outcome MadeBlock (Option Found)). o.end) is))
      up_told (suc more) name state found after is =
          let parts = both setting (read name)
          (λ object. found_from class_side selector name (class_of object.body)
          (up_within more class_side selector past) past) state found after is in
          let only = read_touches setting name state parts.middle parts.between parts.before in
          let there : class_at (Seen state) name ≡ class_of parts.middle.body =
          ap (λ (o : Option Contents). option_and_then (λ (object : Contents). class_of object.body) o)
          (read_gives setting name state parts.middle parts.between parts.before) in
          let there_now : class_at (Seen parts.between) name ≡ class_of parts.middle.body =
          subst (λ (s : State MadeBlock). class_at (Seen s) name ≡ class_of parts.middle.body) (sym only.same) there in
          let told = from_told name (class_of parts.middle.body) (up_within more class_side selector past)
          (up_told more) parts.between there_now found after parts.then in (
            carried state parts.between class_side (Some name) found only told.0,
            touched_along setting state parts.between after only told.1,
          )

      classes_told : (name : ℕ) → Told class_side (Some name) (up_classes class_side selector past name)
      unfolding up_classes
      classes_told name = up_told (suc chain_limit) name

    last_told : (class_side : Bool) → Told class_side None (past_last class_side selector)
    last_told false state found after is = give_told false None None (λ state. past_all) state found after is
    last_told true state found after is =
        let told = classes_told false (give None) (give_told false None None (λ state. past_all)) class_class
        state found after is in
        (past_class_sides found told.0, told.1)

    at_told : (start : Start) → Told start.class_side start.class (found_at start selector)
    at_told start = super_told start.class_side (past_last start.class_side selector) (last_told start.class_side)
        start.class (up_classes start.class_side selector (past_last start.class_side selector))
        (classes_told start.class_side (past_last start.class_side selector) (last_told start.class_side))

  module _ (frame : Frame) where
    -- where a program says that a look-up begins
    abbrev Begun : (to_super : Bool) → Value → Run MadeBlock Start → Type 0
    Begun to_super receiver program = (state : State MadeBlock) (start : Start) (after : State MadeBlock)
        → Comes program setting state (gives start) after
        → BeginsAt (Seen state) frame to_super receiver start.class_side start.class × OnlyTouched state after

    give_begun : (to_super : Bool) (receiver : Value) (given : Start)
        → ((state : State MadeBlock) → BeginsAt (Seen state) frame to_super receiver given.class_side given.class)
        → Begun to_super receiver (give given)
    give_begun to_super receiver given begins state start after is = (
      subst (λ (other : Start). BeginsAt (Seen state) frame to_super receiver other.class_side other.class)
          (same_answer given start (ap (λ (o : Outcome MadeBlock Start). o.end) is)) (begins state),
      subst (λ other. OnlyTouched state other) (ap (λ (o : Outcome MadeBlock Start). o.state) is) (stays state),
    )

    class_there : (objects : Objects) (name class segment : ℕ) (held : Body)
        → objects name ≡ Some (record { class = class; segment = segment; body = held })
        → class_at objects name ≡ class_of held
    class_there objects name class segment held there =
        ap (λ (o : Option Contents). option_and_then (λ (object : Contents). class_of object.body) o) there

    begins_at : (objects : Objects) (name class segment : ℕ) (held : Body)
        → objects name ≡ Some (record { class = class; segment = segment; body = held })
        → BeginsAt objects frame false (value.Ref name) (start_of_object name class held).class_side
        (start_of_object name class held).class
    begins_at objects name class segment (body.Class here) there =
        at_class_side name here (class_there objects name class segment (body.Class here) there)
    begins_at objects name class segment held there = at_class name
        (record { class = class; segment = segment; body = held }) there
        (class_there objects name class segment held there)

    own_begun : (receiver : Value) → Begun false receiver (start_of_receiver receiver)
    own_begun (value.Ref name) state start after is =
        let parts = both setting (read name)
        (λ object. give (start_of_object name object.class object.body)) state start after is in
        let only = read_touches setting name state parts.middle parts.between parts.before in
        let there = read_gives setting name state parts.middle parts.between parts.before in
        let same = same_answer (start_of_object name parts.middle.class parts.middle.body) start
        (ap (λ (o : Outcome MadeBlock Start). o.end) parts.then) in (
          subst (λ (other : Start). BeginsAt (Seen state) frame false (value.Ref name) other.class_side other.class)
              same (begins_at (Seen state) name parts.middle.class parts.middle.segment parts.middle.body there),
          subst (λ other. OnlyTouched state other) (ap (λ (o : Outcome MadeBlock Start). o.state) parts.then) only,
        )
    own_begun value.Nil state start after is =
        give_begun false value.Nil _ (λ state. at_kernel_class value.Nil 3 refl) state start after is
    own_begun value.False state start after is =
        give_begun false value.False _ (λ state. at_kernel_class value.False 6 refl) state start after is
    own_begun value.True state start after is =
        give_begun false value.True _ (λ state. at_kernel_class value.True 5 refl) state start after is
    own_begun (value.Int n) state start after is =
        give_begun false (value.Int n) _ (λ state. at_kernel_class (value.Int n) 9 refl) state start after is
    own_begun (value.Char n) state start after is =
        give_begun false (value.Char n) _ (λ state. at_kernel_class (value.Char n) 8 refl) state start after is
    own_begun (value.Sym n) state start after is =
        give_begun false (value.Sym n) _ (λ state. at_kernel_class (value.Sym n) 16 refl) state start after is
    own_begun (value.Block n) state start after is =
        give_begun false (value.Block n) _ (λ state. at_kernel_class (value.Block n) 10 refl) state start after is

    body_super : (held : Body) (class segment : ℕ)
        → superclass_of (Some (fixed_of (record { class = class; segment = segment; body = held })))
        ≡ option_and_then (λ (class : ClassBody). class.superclass) (class_of held)
    body_super (body.Class here) class segment = refl
    body_super held class segment = refl

    super_is : (found : Option Contents) → superclass_of (option_map fixed_of found)
        ≡ option_and_then (λ (class : ClassBody). class.superclass)
        (option_and_then (λ (object : Contents). class_of object.body) found)
    super_is None = refl
    super_is (Some object) = body_super object.body object.class object.segment

    above_begun : (receiver : Value) → Begun true receiver (start_above frame)
    unfolding touch_missing
    above_begun receiver state start after is =
        let now = Seen state in
        let same : start ≡ record {
          class = superclass_at now frame.holder;
          class_side = frame.class_side;
        } = sym (same_answer _ start (ap (λ (o : Outcome MadeBlock Start). o.end) is))
        ∙ ap (λ (class : Option ℕ). record { class = class; class_side = frame.class_side })
        (super_is (now frame.holder)) in (
          subst (λ (other : Start). BeginsAt now frame true receiver other.class_side other.class) (sym same)
              (at_superclass receiver),
          record { touched = _; same = sym (ap (λ (o : Outcome MadeBlock Start). o.state) is) },
        )

    begun : (to_super : Bool) (receiver : Value) → Begun to_super receiver (start_of to_super frame receiver)
    begun false receiver state start after is = own_begun receiver state start after is
    begun true receiver state start after is =
        let parts = both setting (start_of_receiver receiver) (λ own. start_above frame) state start after is in
        let first = own_begun receiver state parts.middle parts.between parts.before in
        let next = above_begun receiver parts.between start after parts.then in (
          subst (λ (s : State MadeBlock). BeginsAt (Seen s) frame true receiver start.class_side start.class)
              first.1.same next.0,
          touched_along setting state parts.between after first.1 next.1,
        )

    pub found_for : (to_super : Bool) (receiver : Value) (selector : Text) (state : State MadeBlock)
        (found : Option Found) (after : State MadeBlock)
        → Comes (find_method to_super frame receiver selector) setting state (gives found) after
        → FindsFor (Seen state) frame to_super receiver selector found × OnlyTouched state after
    unfolding find_method
    found_for to_super receiver selector state found after is =
        let parts = both setting (start_of to_super frame receiver) (λ start. found_at start selector)
        state found after is in
        let first = begun to_super receiver state parts.middle parts.between parts.before in
        let next = at_told selector parts.middle parts.between found after parts.then in (
          record {
            class_side = parts.middle.class_side;
            class = parts.middle.class;
            begins = first.0;
            finds = carried selector state parts.between parts.middle.class_side parts.middle.class found first.1 next.0;
          },
          touched_along setting state parts.between after first.1 next.1,
        )
