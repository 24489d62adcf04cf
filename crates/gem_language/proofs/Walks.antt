-- Where objects are sound, no walk up the superclasses is too long.
use Rattle.std.proofs.Common.{◌≡◌, ◌∙◌, refl, sym, ap, subst, ℕ, zero, suc, Bool, true, false, ◌&&◌, nat_lt, Option, Some, None, option_map, List, [], ◌∷◌, ◌++◌, fold}
use Rattle.std.proofs.lemmas.Bool.{false≢true, and_parts}
use Rattle.gem_object.specs.texts.Bytes.{Bytes as Text}
use Rattle.gem_object.specs.declared.value.Value.{Value}
use Rattle.gem_object.specs.declared.value.Value.TheVariants as value
use Rattle.gem_object.specs.declared.body.MethodCode.{MethodCode}
use Rattle.gem_object.specs.declared.body.ClassBody.{ClassBody}
use Rattle.gem_object.specs.declared.body.Body.{Body}
use Rattle.gem_object.specs.declared.body.Body.TheVariants as body
use Rattle.object_programs.specs.gem_image.Image.{Contents}
use Rattle.object_programs.specs.gem_sound.Kernel.{class_class}
use Rattle.object_programs.specs.gem_sound.Parts.{class_of}
use Rattle.object_programs.specs.gem_sound.Sound.{names_in}
use Rattle.object_programs.specs.gem_world.World.{Setting, World, shown}
use Rattle.object_programs.specs.gem_world.Access.{a_read, is_allowed, with_touches, accessed}
use Rattle.object_programs.specs.declared.fault.Fault.TheVariants as fault
use Rattle.object_programs.specs.Fixed.{Fixed, ClassPart, class_part, fixed_of, fixed_by}
use Rattle.object_programs.specs.Guard.{Parts, chain_limit, names_above, names_of_class, names_of_part, names_within, names_at, holds_of, are_few, is_known, is_segment_at, accepts, named_fit, kernel_fits, place_fits, fits}
use Rattle.object_programs.specs.Methods.{methods_fit}
use Rattle.object_programs.specs.Spelled.{is_spelled}
use Rattle.std.specs.List.{list_all}
use Rattle.object_programs.specs.Atom.{access_answer, with_missing, touch_missing}
use Rattle.object_programs.specs.Run.{Run, give, and_then, Ending, gives, fails, State, end_of, onward, perform}
use Rattle.object_programs.specs.Programs.{read}
use Rattle.object_programs.specs.Laws.{AreSound}
use Rattle.tree_meaning.specs.Place.{Frame, MadeBlock}
use Rattle.gem_language.specs.declared.found.Found.{Found}
use Rattle.gem_language.specs.LookUp.{FindingRun, methods_on, code_of, found_or, from_superclass, found_from, up_within, up_classes, past_last, Start, found_at, start_of_object, start_of_receiver, start_above, start_of, find_method}
use Rattle.gem_language.specs.OutOfScope.{inherited_names, names_of_class as read_names_of_class, names_within as read_names_within, instance_names}
use Rattle.gem_language.specs.Comes.{IsAnswered, with_answer, not_readable}
use Rattle.gem_language.proofs.Ends.{read_world}
use Rattle.gem_language.proofs.NameReadings.{same_some}

-- a class's fixed part
abbrev part_of : ClassBody → ClassPart
part_of held = record { superclass = held.superclass; kind = held.kind; names = held.names }

part_is : (stored : Body) (held : ClassBody) → class_of stored ≡ Some held → class_part stored ≡ Some (part_of held)
part_is (body.Class here) held is = ap (λ (c : ClassBody). Some (part_of c)) (same_some here held is)
part_is (body.Plain v) held is = cc
part_is (body.Bytes v) held is = cc
part_is (body.Dict v) held is = cc
part_is (body.Segment v) held is = cc
part_is (body.User v) held is = cc
part_is (body.Counter v) held is = cc
part_is (body.Bag v) held is = cc
part_is (body.RcDict v) held is = cc
part_is (body.Queue v) held is = cc

-- what a class's superclasses have in names
names_of_some : (inherited : List Text → List Text) (found : Option (List Text)) (names : List Text)
    → option_map inherited found ≡ Some names → (above : List Text) × (found ≡ Some above)
names_of_some inherited None names is = cc
names_of_some inherited (Some above) names is = (above, refl)

module _ (setting : Setting) (first : World) (sound : AreSound setting first) where
  abbrev parts : Parts
  parts = fixed_by setting first

  -- the world with other touches
  abbrev Same : World → Type 0
  Same world = (touched : List ℕ) × (world ≡ record first { touched = touched })

  same_read : (name : ℕ) (world : World) → Same world → Same (accessed a_read name setting world)
  same_read name world same = (
    (with_touches name setting world).touched,
    read_world setting name world
        ∙ ap (λ (w : World). record w { touched = (with_touches name setting world).touched }) same.1,
  )

  seen_same : (name : ℕ) (world : World) → Same world → shown name setting world ≡ shown name setting first
  seen_same name world same = ap (λ (w : World). shown name setting w) same.1

  abbrev Ends : {A : Type 0} → Run MadeBlock A → Type 0
  Ends program = (state : State MadeBlock) → Same state.world → IsAnswered (perform program setting state).end

  module _ {A : Type 0} (name : ℕ) (second : Contents → Run MadeBlock A) (state : State MadeBlock)
      (goes : (object : Contents) → shown name setting state.world ≡ Some object
      → IsAnswered (perform (second object) setting (record state { world = accessed a_read name setting state.world })).end)
    where
      read_by : (allowed : Bool) (found : Option Contents) → shown name setting state.world ≡ found
          → IsAnswered (onward (end_of (access_answer allowed a_read name found))
          (record state { world = accessed a_read name setting state.world })
          (λ object after. perform (second object) setting after)).end
      read_by true (Some object) there = goes object there
      read_by true None there = not_readable name
      read_by false found there = not_readable name

      read_ends : IsAnswered (perform (and_then (read name) second) setting state).end
      read_ends = read_by (is_allowed a_read name setting state.world) (shown name setting state.world) refl

  -- the superclasses of a class that is there
  module _ (more name : ℕ) (names : List Text)
      (chain : names_of_part name (parts name) (names_within parts more) ≡ Some names) where
    super_chain : (object : Contents) (held : ClassBody) (superclass : ℕ) → shown name setting first ≡ Some object
        → class_of object.body ≡ Some held → held.superclass ≡ Some superclass
        → (above : List Text) × (names_within parts more superclass ≡ Some above)
    super_chain object held superclass there is some =
        let fixed : parts name ≡ Some (fixed_of object) =
        ap (λ (found : Option Contents). option_map fixed_of found) there in
        let of_part : names_of_class name (class_part object.body) (names_within parts more) ≡ Some names =
        subst (λ (found : Option Fixed). names_of_part name found (names_within parts more) ≡ Some names) fixed chain in
        let of_class : names_of_class name (Some (part_of held)) (names_within parts more) ≡ Some names =
        subst (λ (part : Option ClassPart). names_of_class name part (names_within parts more) ≡ Some names)
        (part_is object.body held is) of_part in
        names_of_some (λ inherited. inherited ++ held.names) (names_within parts more superclass) names
        (subst (λ (above : Option ℕ). option_map (λ inherited. inherited ++ held.names)
        (names_above name above (names_within parts more)) ≡ Some names) some of_class)

    module _ (class_side : Bool) (selector : Text) (past : FindingRun) (past_ends : Ends past)
        (higher : (superclass : ℕ) (above : List Text) → names_within parts more superclass ≡ Some above
        → Ends (up_within more class_side selector past superclass)) where
      super_ends : (object : Contents) (held : ClassBody) (superclass : Option ℕ)
          → shown name setting first ≡ Some object → class_of object.body ≡ Some held
          → held.superclass ≡ superclass
          → Ends (from_superclass superclass (up_within more class_side selector past) past)
      super_ends object held None there is none = past_ends
      super_ends object held (Some superclass) there is some =
          let above = super_chain object held superclass there is some in
          higher superclass above.0 above.1

      code_ends : (code : Option MethodCode) (further : FindingRun) → Ends further
          → Ends (found_or name class_side code further)
      code_ends (Some code) further ends state same = with_answer _
      code_ends None further ends state same = ends state same

      class_ends : (object : Contents) (held : Option ClassBody) → shown name setting first ≡ Some object
          → class_of object.body ≡ held
          → Ends (found_from class_side selector name held (up_within more class_side selector past) past)
      class_ends object None there is = past_ends
      class_ends object (Some held) there is = code_ends (code_of selector (methods_on class_side held))
          (from_superclass held.superclass (up_within more class_side selector past) past)
          (super_ends object held held.superclass there is refl)

      step_ends : Ends (up_within (suc more) class_side selector past name)
      step_ends state same = read_ends name (λ object. found_from class_side selector name (class_of object.body)
          (up_within more class_side selector past) past) state (λ object there.
          class_ends object (class_of object.body) (sym (seen_same name state.world same) ∙ there) refl
          (record state { world = accessed a_read name setting state.world }) (same_read name state.world same))

    -- the names of instance variables
    module _ (higher : (superclass : ℕ) (above : List Text) → names_within parts more superclass ≡ Some above
        → Ends (read_names_within more superclass)) where
      inherited_ends : (object : Contents) (held : ClassBody) (superclass : Option ℕ)
          → shown name setting first ≡ Some object → class_of object.body ≡ Some held
          → held.superclass ≡ superclass → Ends (inherited_names superclass (read_names_within more))
      inherited_ends object held None there is none state same = with_answer _
      inherited_ends object held (Some superclass) there is some state same =
          let above = super_chain object held superclass there is some in
          higher superclass above.0 above.1 state same

      given_ends : (held : ClassBody) (end : Ending (List Text)) (after : State MadeBlock) → IsAnswered end
          → IsAnswered (onward end after (λ inherited later. perform (give (inherited ++ held.names)) setting later)).end
      given_ends held _ after (with_answer answer) = with_answer _
      given_ends held _ after (not_readable name) = not_readable name

      named_ends : (object : Contents) (held : Option ClassBody) → shown name setting first ≡ Some object
          → class_of object.body ≡ held → Ends (read_names_of_class held (read_names_within more))
      named_ends object None there is state same = with_answer _
      named_ends object (Some held) there is state same =
          let inherits = perform (inherited_names held.superclass (read_names_within more)) setting state in
          given_ends held inherits.end inherits.state
          (inherited_ends object held held.superclass there is refl state same)

      names_step : Ends (read_names_within (suc more) name)
      names_step state same = read_ends name (λ object. read_names_of_class (class_of object.body) (read_names_within more))
          state (λ object there.
          named_ends object (class_of object.body) (sym (seen_same name state.world same) ∙ there) refl
          (record state { world = accessed a_read name setting state.world }) (same_read name state.world same))

  walk_ends : (class_side : Bool) (selector : Text) (past : FindingRun) → Ends past → (more name : ℕ)
      (names : List Text) → names_within parts more name ≡ Some names
      → Ends (up_within more class_side selector past name)
  walk_ends class_side selector past past_ends zero name names chain = cc
  walk_ends class_side selector past past_ends (suc more) name names chain =
      step_ends more name names chain class_side selector past past_ends
      (λ superclass above is. walk_ends class_side selector past past_ends more superclass above is)

  names_walk : (more name : ℕ) (names : List Text) → names_within parts more name ≡ Some names
      → Ends (read_names_within more name)
  names_walk zero name names chain = cc
  names_walk (suc more) name names chain = names_step more name names chain
      (λ superclass above is. names_walk more superclass above is)

  -- what the guard's test says of the class that is there
  place_fit : (name : ℕ) (object : Contents) → fits parts name object ≡ true
      → place_fits parts name (class_part object.body) ≡ true
  unfolding fits
  place_fit name object holds =
      let spelled = methods_fit name object.body && is_spelled object.body in
      let placed = place_fits parts name (class_part object.body) && spelled in
      let kernel = kernel_fits name object.body && placed in
      let named = named_fit parts object.body && kernel in
      let accepted = accepts parts object.class object.body && named in
      let segment = is_segment_at parts object.segment && accepted in
      let known = list_all (is_known parts) (names_in object) && segment in
      let one = and_parts (nat_lt 0 name) known holds in
      let two = and_parts (list_all (is_known parts) (names_in object)) segment one.1 in
      let three = and_parts (is_segment_at parts object.segment) accepted two.1 in
      let four = and_parts (accepts parts object.class object.body) named three.1 in
      let five = and_parts (named_fit parts object.body) kernel four.1 in
      let six = and_parts (kernel_fits name object.body) placed five.1 in
      (and_parts (place_fits parts name (class_part object.body)) spelled six.1).0

  few_some : (found : Option (List Text)) → holds_of are_few found ≡ true
      → (names : List Text) × (found ≡ Some names)
  few_some None holds = absurd (false≢true holds)
  few_some (Some names) holds = (names, refl)

  class_chain : (name : ℕ) (object : Contents) (held : ClassBody) → shown name setting first ≡ Some object
      → class_of object.body ≡ Some held
      → (names : List Text) × (names_of_part name (parts name) (names_within parts chain_limit) ≡ Some names)
  unfolding names_at
  class_chain name object held there is =
      let placed = place_fit name object (sound.each name object there) in
      let held_place : place_fits parts name (Some (part_of held)) ≡ true =
      subst (λ (part : Option ClassPart). place_fits parts name part ≡ true) (part_is object.body held is) placed in
      let found = few_some (names_of_class name (Some (part_of held)) (names_within parts chain_limit))
      (and_parts (holds_of are_few (names_of_class name (Some (part_of held)) (names_within parts chain_limit)))
      _ held_place).0 in
      let fixed : parts name ≡ Some (fixed_of object) =
      ap (λ (o : Option Contents). option_map fixed_of o) there in (
        found.0,
        subst (λ (f : Option Fixed). names_of_part name f (names_within parts chain_limit) ≡ Some found.0) (sym fixed)
            (subst (λ (part : Option ClassPart). names_of_class name part (names_within parts chain_limit)
            ≡ Some found.0) (sym (part_is object.body held is)) found.1),
      )

  -- any class from which a look-up goes up
  module _ (class_side : Bool) (selector : Text) (past : FindingRun) (past_ends : Ends past) where
    abbrev Chains : ℕ → Type 0
    Chains more = (name : ℕ) (object : Contents) (held : ClassBody) → shown name setting first ≡ Some object
        → class_of object.body ≡ Some held
        → (names : List Text) × (names_of_part name (parts name) (names_within parts more) ≡ Some names)

    by_class : (more : ℕ) → Chains more → (name : ℕ) (object : Contents) (held : Option ClassBody)
        → shown name setting first ≡ Some object → class_of object.body ≡ held
        → Ends (found_from class_side selector name held (up_within more class_side selector past) past)
    by_class more chains name object None there is = past_ends
    by_class more chains name object (Some held) there is =
        let chain = chains name object held there is in
        class_ends more name chain.0 chain.1 class_side selector past past_ends
        (λ superclass above is. walk_ends class_side selector past past_ends more superclass above is)
        object (Some held) there is

    any_walk : (more : ℕ) → Chains more → (name : ℕ) → Ends (up_within (suc more) class_side selector past name)
    any_walk more chains name state same = read_ends name (λ object. found_from class_side selector name
        (class_of object.body) (up_within more class_side selector past) past) state (λ object there.
        by_class more chains name object (class_of object.body) (sym (seen_same name state.world same) ∙ there) refl
        (record state { world = accessed a_read name setting state.world }) (same_read name state.world same))

    classes_end : (name : ℕ) → Ends (up_classes class_side selector past name)
    unfolding up_classes
    classes_end name = any_walk chain_limit class_chain name

  nothing_ends : Ends {A = Option Found} (give None)
  nothing_ends state same = with_answer None

  last_ends : (class_side : Bool) (selector : Text) → Ends (past_last class_side selector)
  last_ends false selector state same = with_answer None
  last_ends true selector state same =
      classes_end false selector (give None) nothing_ends class_class state same

  from_ends : (class_side : Bool) (selector : Text) (class : Option ℕ) → Ends (from_superclass class
      (up_classes class_side selector (past_last class_side selector)) (past_last class_side selector))
  from_ends class_side selector None state same = last_ends class_side selector state same
  from_ends class_side selector (Some name) state same =
      classes_end class_side selector (past_last class_side selector) (last_ends class_side selector) name state same

  -- where a look-up begins
  data Started : Ending Start → World → Type 0 where
    begins : (start : Start) (world : World) → Same world → Started (gives start) world
    stops : (name : ℕ) (world : World) → Started (fails (fault.NoReadRight name)) world

  goes_up : (selector : Text) (end : Ending Start) (after : State MadeBlock) → Started end after.world
      → IsAnswered (onward end after (λ start later. perform (found_at start selector) setting later)).end
  goes_up selector _ after (begins start world same) =
      from_ends start.class_side selector start.class after same
  goes_up selector _ after (stops name world) = not_readable name

  module _ (state : State MadeBlock) (same : Same state.world) where
    read_starts : (name : ℕ) (allowed : Bool) (found : Option Contents)
        → let o = onward (end_of (access_answer allowed a_read name found))
        (record state { world = accessed a_read name setting state.world })
        (λ object after. perform (give (start_of_object name object.class object.body)) setting after) in
        Started o.end o.state.world
    read_starts name true (Some object) = begins _ _ (same_read name state.world same)
    read_starts name true None = stops name _
    read_starts name false found = stops name _

    own_starts : (receiver : Value) → let o = perform (start_of_receiver receiver) setting state in
        Started o.end o.state.world
    own_starts (value.Ref name) =
        read_starts name (is_allowed a_read name setting state.world) (shown name setting state.world)
    own_starts value.Nil = begins _ _ same
    own_starts value.False = begins _ _ same
    own_starts value.True = begins _ _ same
    own_starts (value.Int n) = begins _ _ same
    own_starts (value.Char n) = begins _ _ same
    own_starts (value.Sym n) = begins _ _ same
    own_starts (value.Block n) = begins _ _ same

  above_starts : (frame : Frame) (state : State MadeBlock) → Same state.world
      → let o = perform (start_above frame) setting state in Started o.end o.state.world
  unfolding touch_missing
  above_starts frame state same =
      let touched = fold (with_missing (fixed_by setting state.world)) state.world.touched (frame.holder ∷ []) in
      begins _ _ (touched, ap (λ (w : World). record w { touched = touched }) same.1)

  then_above : (frame : Frame) (end : Ending Start) (after : State MadeBlock) → Started end after.world
      → let o = onward end after (λ own later. perform (start_above frame) setting later) in
      Started o.end o.state.world
  then_above frame _ after (begins start world same) = above_starts frame after same
  then_above frame _ after (stops name world) = stops name world

  starts : (to_super : Bool) (frame : Frame) (receiver : Value) (state : State MadeBlock) → Same state.world
      → let o = perform (start_of to_super frame receiver) setting state in Started o.end o.state.world
  starts false frame receiver state same = own_starts state same receiver
  starts true frame receiver state same =
      let own = perform (start_of_receiver receiver) setting state in
      then_above frame own.end own.state (own_starts state same receiver)

  pub look_up_ends : (to_super : Bool) (frame : Frame) (receiver : Value) (selector : Text)
      → Ends (find_method to_super frame receiver selector)
  unfolding find_method
  look_up_ends to_super frame receiver selector state same =
      let begun = perform (start_of to_super frame receiver) setting state in
      goes_up selector begun.end begun.state (starts to_super frame receiver state same)

  by_names : (more : ℕ) → ((name : ℕ) (object : Contents) (held : ClassBody) → shown name setting first ≡ Some object
      → class_of object.body ≡ Some held
      → (names : List Text) × (names_of_part name (parts name) (names_within parts more) ≡ Some names))
      → (class : ℕ) (object : Contents) (held : Option ClassBody) → shown class setting first ≡ Some object
      → class_of object.body ≡ held → Ends (read_names_of_class held (read_names_within more))
  by_names more chains class object None there is state same = with_answer []
  by_names more chains class object (Some held) there is state same =
      let chain = chains class object held there is in
      named_ends more class chain.0 chain.1
      (λ superclass above is. names_walk more superclass above is) object (Some held) there is state same

  any_names : (more : ℕ) → ((name : ℕ) (object : Contents) (held : ClassBody) → shown name setting first ≡ Some object
      → class_of object.body ≡ Some held
      → (names : List Text) × (names_of_part name (parts name) (names_within parts more) ≡ Some names))
      → (class : ℕ) → Ends (read_names_within (suc more) class)
  any_names more chains class state same = read_ends class (λ object.
      read_names_of_class (class_of object.body) (read_names_within more)) state (λ object there.
      by_names more chains class object (class_of object.body) (sym (seen_same class state.world same) ∙ there) refl
      (record state { world = accessed a_read class setting state.world }) (same_read class state.world same))

  pub names_end : (class : ℕ) → Ends (instance_names class)
  unfolding instance_names
  names_end class = any_names chain_limit class_chain class
