-- Names that are no variables in scope stand for what the relations say.
use Rattle.std.proofs.Common.{◌≡◌, ◌∙◌, refl, sym, ap, subst, ℕ, zero, suc, Bool, true, false, not, nat_lt, Option, Some, None, List, [], ◌++◌}
use Rattle.gem_object.specs.texts.Bytes.{Bytes as Text}
use Rattle.gem_object.specs.Edits.{plain_slots, slot_at, with_slot}
use Rattle.gem_object.specs.References.{reference_of}
use Rattle.gem_object.specs.declared.value.Value.{Value}
use Rattle.gem_object.specs.declared.value.Value.TheVariants as value
use Rattle.gem_object.specs.declared.value.BlockRef.{BlockRef}
use Rattle.gem_object.specs.declared.body.ClassBody.{ClassBody}
use Rattle.object_programs.specs.gem_image.Image.{Contents}
use Rattle.object_programs.specs.gem_sound.Parts.{class_of}
use Rattle.object_programs.specs.gem_world.World.{Setting, shown}
use Rattle.object_programs.specs.gem_world.Access.{Access, a_read, a_write, is_allowed, accessed}
use Rattle.object_programs.specs.declared.fault.Fault.{Fault}
use Rattle.object_programs.specs.declared.fault.Fault.TheVariants as fault
use Rattle.object_programs.specs.Guard.{chain_limit}
use Rattle.object_programs.specs.Atom.{Ask, access_answer}
use Rattle.object_programs.specs.Run.{Run, give, atom, and_then, gives, fails, State, Outcome, end_of, perform}
use Rattle.object_programs.specs.Programs.{need, check, read, write, replace_body}
use Rattle.tree_meaning.specs.Place.{Frame, MadeBlock}
use Rattle.tree_meaning.specs.Names.{index_of}
use Rattle.prim_rules.specs.Parts.{is_block}
use Rattle.gem_language.specs.KernelNames.{globals}
use Rattle.gem_language.specs.OutOfScope.{inherited_names, names_of_class, names_within, instance_names, slot_of, global_in, global_at, own_global, or_in_globals, find_global, global_value, instance_value, put_in_slot, set_instance_value, value_of_name, read_out_of_scope, assign_name, write_out_of_scope}
use Rattle.gem_language.specs.Comes.{Comes}
use Rattle.gem_language.specs.ReadingNames.{Accesses, Reads, Writes, HasInstanceNames, at_the_end, under, no_class, with_profile, own_dictionary, HasGlobal, own, shared, no_profile, HasValue, of_instance, of_global, of_class_side, Assigns}
use Rattle.gem_language.proofs.Ends.{fails_gives, same_answer, both, then_comes}

some_of : {A : Type 0} → A → Option A → A
some_of other None = other
some_of other (Some a) = a

pub same_some : {A : Type 0} (one other : A) → Some one ≡ Some other → one ≡ other
unfolding some_of
same_some one other is = ap (some_of one) is

module _ (setting : Setting) where
  -- what is given, and where, in place of what is the same
  pub given : {A : Type 0} (R : A → State MadeBlock → Type 0) (one : A) (state : State MadeBlock) (other : A)
      (after : State MadeBlock) → R one state → Comes (give one) setting state (gives other) after → R other after
  given R one state other after here is =
      subst (λ (s : State MadeBlock). R other s) (ap (λ (o : Outcome MadeBlock _). o.state) is)
      (subst (λ a. R a state) (same_answer one other (ap (λ (o : Outcome MadeBlock _). o.end) is)) here)

  -- what is needed is there
  needed : {A : Type 0} (fault : Fault) (found : Option A) (state : State MadeBlock) (answer : A)
      (after : State MadeBlock) → Comes (need fault found) setting state (gives answer) after
      → (found ≡ Some answer) × (state ≡ after)
  needed fault None state answer after is =
      absurd (fails_gives fault answer (ap (λ (o : Outcome MadeBlock _). o.end) is))
  needed fault (Some one) state answer after is = (
    ap (λ a. Some a) (same_answer one answer (ap (λ (o : Outcome MadeBlock _). o.end) is)),
    ap (λ (o : Outcome MadeBlock _). o.state) is,
  )

  checked : (fault : Fault) (holds : Bool) (state : State MadeBlock) (answer : Unit {0}) (after : State MadeBlock)
      → Comes (check fault holds) setting state (gives answer) after → (holds ≡ true) × (state ≡ after)
  checked fault false state answer after is =
      absurd (fails_gives fault answer (ap (λ (o : Outcome MadeBlock _). o.end) is))
  checked fault true state answer after is = (refl, ap (λ (o : Outcome MadeBlock _). o.state) is)

  access_by : (allowed : Bool) (access : Access) (name : ℕ) (found : Option Contents) (object : Contents)
      → end_of (access_answer allowed access name found) ≡ gives object → (allowed ≡ true) × (found ≡ Some object)
  access_by true access name (Some other) object is =
      (refl, ap (λ (o : Contents). Some o) (same_answer other object is))
  access_by true access name None object is = absurd (fails_gives _ object is)
  access_by false access name found object is = absurd (fails_gives _ object is)

  pub access_gives : (access : Access) (name : ℕ) (state : State MadeBlock) (object : Contents)
      (after : State MadeBlock) → Comes (atom (Ask access name)) setting state (gives object) after
      → Accesses access setting name state object after
  access_gives access name state object after is =
      let found = access_by (is_allowed access name setting state.world) access name (shown name setting state.world)
      object (ap (λ (o : Outcome MadeBlock Contents). o.end) is) in
      record {
        allowed = found.0;
        there = found.1;
        noted = sym (ap (λ (o : Outcome MadeBlock Contents). o.state) is);
      }

  pub access_comes : (access : Access) (name : ℕ) (state : State MadeBlock) (object : Contents)
      (after : State MadeBlock) → Accesses access setting name state object after
      → Comes (atom (Ask access name)) setting state (gives object) after
  access_comes access name state object after found =
      let now : State MadeBlock = record state { world = accessed access name setting state.world } in
      ap (λ (allowed : Bool). record {
        end = end_of (access_answer allowed access name (shown name setting state.world));
        state = now;
      }) found.allowed
      ∙ ap (λ (there : Option Contents). record {
        end = end_of (access_answer true access name there);
        state = now;
      }) found.there
      ∙ ap (λ (s : State MadeBlock). record { end = gives object; state = s }) (sym found.noted)

  module _ (class : ℕ) (above : ℕ → Run MadeBlock (List Text))
      (higher : (class : ℕ) (state : State MadeBlock) (names : List Text) (after : State MadeBlock)
      → Comes (above class) setting state (gives names) after → HasInstanceNames setting class state names after)
      (state between : State MadeBlock) (object : Contents) (reads : Reads setting class state object between)
      (names : List Text) (after : State MadeBlock) where
    super_named : (held : ClassBody) (superclass : Option ℕ) → class_of object.body ≡ Some held
        → held.superclass ≡ superclass
        → Comes (and_then (inherited_names superclass above) (λ inherited. give (inherited ++ held.names))) setting
        between (gives names) after → HasInstanceNames setting class state names after
    super_named held None is none comes =
        given (HasInstanceNames setting class state) held.names between names after
        (at_the_end class state between object held reads is none) comes
    super_named held (Some superclass) is some comes =
        let parts = both setting (above superclass) (λ inherited. give (inherited ++ held.names)) between names after
        comes in
        given (HasInstanceNames setting class state) (parts.middle ++ held.names) parts.between names after
        (under class superclass state between parts.between object held parts.middle reads is some
        (higher superclass between parts.middle parts.between parts.before)) parts.then

    class_named : (held : Option ClassBody) → class_of object.body ≡ held
        → Comes (names_of_class held above) setting between (gives names) after
        → HasInstanceNames setting class state names after
    class_named None is comes = given (HasInstanceNames setting class state) [] between names after
        (no_class class state between object reads is) comes
    class_named (Some held) is comes = super_named held held.superclass is refl comes

  within_named : (more class : ℕ) (state : State MadeBlock) (names : List Text) (after : State MadeBlock)
      → Comes (names_within more class) setting state (gives names) after
      → HasInstanceNames setting class state names after
  within_named zero class state names after is =
      absurd (fails_gives _ names (ap (λ (o : Outcome MadeBlock (List Text)). o.end) is))
  within_named (suc more) class state names after is =
      let parts = both setting (read class) (λ object. names_of_class (class_of object.body) (names_within more))
      state names after is in
      class_named class (names_within more) (within_named more) state parts.between parts.middle
      (access_gives a_read class state parts.middle parts.between parts.before) names after
      (class_of parts.middle.body) refl parts.then

  named : (class : ℕ) (state : State MadeBlock) (names : List Text) (after : State MadeBlock)
      → Comes (instance_names class) setting state (gives names) after
      → HasInstanceNames setting class state names after
  unfolding instance_names
  named class state names after is = within_named (suc chain_limit) class state names after is

  module _ (name : Text) where
    at_comes : (dictionary : ℕ) (state : State MadeBlock) (object : Contents) (after : State MadeBlock)
        → Reads setting dictionary state object after
        → Comes (global_at name dictionary) setting state (gives (global_in name object)) after
    at_comes dictionary state object after reads = then_comes setting (read dictionary)
        (λ object. give (global_in name object)) state object after
        (access_comes a_read dictionary state object after reads)

    module _ (state : State MadeBlock) (found : Option Value) (after : State MadeBlock) where
      abbrev after_own : Option ℕ → Run MadeBlock (Option Value)
      after_own dictionary = and_then (own_global name dictionary) (λ found. or_in_globals name found)

      or_global : (dictionary : ℕ) (object : Contents) (between : State MadeBlock) (answer : Option Value)
          → own_dictionary setting state ≡ Some dictionary
          → Reads setting dictionary (with_profile setting state) object between → global_in name object ≡ answer
          → Comes (or_in_globals name answer) setting between (gives found) after
          → HasGlobal setting name state found after
      or_global dictionary object between (Some answer) is reads has comes =
          given (HasGlobal setting name state) (Some answer) between found after
          (own dictionary object answer between is reads has) comes
      or_global dictionary object between None is reads has comes =
          let parts = both setting (read globals) (λ object. give (global_in name object)) between found after comes in
          given (HasGlobal setting name state) (global_in name parts.middle) parts.between found after
          (shared dictionary object parts.middle between parts.between is reads has
          (access_gives a_read globals between parts.middle parts.between parts.before)) parts.then

      by_own : (dictionary : Option ℕ) → own_dictionary setting state ≡ dictionary
          → Comes (after_own dictionary) setting (with_profile setting state) (gives found) after
          → HasGlobal setting name state found after
      by_own None is comes =
          let parts = both setting (read globals) (λ object. give (global_in name object)) (with_profile setting state)
          found after comes in
          given (HasGlobal setting name state) (global_in name parts.middle) parts.between found after
          (no_profile parts.middle parts.between is
          (access_gives a_read globals (with_profile setting state) parts.middle parts.between parts.before)) parts.then
      by_own (Some dictionary) is comes =
          let whole = both setting (global_at name dictionary) (λ found. or_in_globals name found)
          (with_profile setting state) found after comes in
          let parts = both setting (read dictionary) (λ object. give (global_in name object))
          (with_profile setting state) whole.middle whole.between whole.before in
          given (λ (answer : Option Value) (s : State MadeBlock).
          Comes (or_in_globals name answer) setting s (gives found) after → HasGlobal setting name state found after)
          (global_in name parts.middle) parts.between whole.middle whole.between
          (or_global dictionary parts.middle parts.between (global_in name parts.middle) is
          (access_gives a_read dictionary (with_profile setting state) parts.middle parts.between parts.before) refl)
          parts.then whole.then

      pub has_global : Comes (find_global name) setting state (gives found) after
          → HasGlobal setting name state found after
      unfolding find_global
      has_global comes = by_own (own_dictionary setting state) refl comes

    at_own : (state : State MadeBlock) (dictionary : Option ℕ) → own_dictionary setting state ≡ dictionary
        → perform (find_global name) setting state
        ≡ perform (and_then (own_global name dictionary) (λ found. or_in_globals name found)) setting
        (with_profile setting state)
    unfolding find_global
    at_own state dictionary is = ap (λ (d : Option ℕ). perform
        (and_then (own_global name d) (λ found. or_in_globals name found)) setting (with_profile setting state)) is

    pub only_global : (state : State MadeBlock) (found : Option Value) (after : State MadeBlock)
        → HasGlobal setting name state found after → Comes (find_global name) setting state (gives found) after
    only_global state _ _ (own dictionary object answer after is reads has) =
        at_own state (Some dictionary) is
        ∙ then_comes setting (global_at name dictionary) (λ found. or_in_globals name found) (with_profile setting state)
        (global_in name object) after (at_comes dictionary (with_profile setting state) object after reads)
        ∙ ap (λ (answer : Option Value). perform (or_in_globals name answer) setting after) has
    only_global state _ _ (shared dictionary object common between after is reads has later) =
        at_own state (Some dictionary) is
        ∙ then_comes setting (global_at name dictionary) (λ found. or_in_globals name found) (with_profile setting state)
        (global_in name object) between (at_comes dictionary (with_profile setting state) object between reads)
        ∙ ap (λ (answer : Option Value). perform (or_in_globals name answer) setting between) has
        ∙ at_comes globals between common after later
    only_global state _ _ (no_profile common after is reads) =
        at_own state None is ∙ at_comes globals (with_profile setting state) common after reads

    reference_is : (receiver : Value) (object : ℕ) → reference_of receiver ≡ Some object
        → receiver ≡ value.Ref object
    reference_is (value.Ref one) object is = ap (λ (n : ℕ). value.Ref n) (same_some one object is)
    reference_is value.Nil object is = cc
    reference_is value.False object is = cc
    reference_is value.True object is = cc
    reference_is (value.Int n) object is = cc
    reference_is (value.Char n) object is = cc
    reference_is (value.Sym n) object is = cc
    reference_is (value.Block n) object is = cc

    module _ (frame : Frame) where
      module _ (state : State MadeBlock) (answer : Value) (after : State MadeBlock) (names : List Text)
          (between : State MadeBlock) (has : HasInstanceNames setting frame.holder state names between) where
        slot_valued : (slot : ℕ) → frame.class_side ≡ false → index_of name names ≡ Some slot
            → Comes (instance_value frame.receiver slot) setting between (gives answer) after
            → HasValue setting name frame state answer after
        slot_valued slot side is comes =
            let whole = both setting (need fault.ArgumentKind (reference_of frame.receiver))
            (λ object. and_then (read object) (λ held. need fault.Index (slot_at slot held.body))) between answer after
            comes in
            let refers = needed fault.ArgumentKind (reference_of frame.receiver) between whole.middle whole.between
            whole.before in
            let parts = both setting (read whole.middle) (λ held. need fault.Index (slot_at slot held.body))
            whole.between answer after whole.then in
            let last = needed fault.Index (slot_at slot parts.middle.body) parts.between answer after parts.then in
            let reads = access_gives a_read whole.middle whole.between parts.middle parts.between parts.before in
            subst (λ (s : State MadeBlock). HasValue setting name frame state answer s) last.1
            (of_instance names slot whole.middle parts.middle answer between parts.between has side is
            (reference_is frame.receiver whole.middle refers.0)
            (subst (λ (s : State MadeBlock). Reads setting whole.middle s parts.middle parts.between) (sym refers.1) reads)
            last.0)

        abbrev Global : Type 0
        Global = HasGlobal setting name between (Some answer) after

        global_valued : Comes (global_value name) setting between (gives answer) after → Global
        unfolding global_value
        global_valued comes =
            let parts = both setting (find_global name) (λ found. need (fault.UndefinedVariable name) found) between
            answer after comes in
            let last = needed (fault.UndefinedVariable name) parts.middle parts.between answer after parts.then in
            subst (λ (s : State MadeBlock). HasGlobal setting name between (Some answer) s) last.1
            (subst (λ (found : Option Value). HasGlobal setting name between found parts.between) last.0
            (has_global between parts.middle parts.between parts.before))

        side_valued : (side : Bool) (slot : Option ℕ) → frame.class_side ≡ side → slot_of side name names ≡ slot
            → Comes (value_of_name name frame slot) setting between (gives answer) after
            → HasValue setting name frame state answer after
        side_valued false (Some slot) side is comes = slot_valued slot side is comes
        side_valued false None side is comes =
            of_global names answer between after has side is (global_valued comes)
        side_valued true (Some slot) side is comes = cc
        side_valued true None side is comes = of_class_side names answer between after has side (global_valued comes)

      pub has_value : (state : State MadeBlock) (answer : Value) (after : State MadeBlock)
          → Comes (read_out_of_scope name frame) setting state (gives answer) after
          → HasValue setting name frame state answer after
      unfolding read_out_of_scope
      has_value state answer after comes =
          let parts = both setting (instance_names frame.holder)
          (λ names. value_of_name name frame (slot_of frame.class_side name names)) state answer after comes in
          side_valued state answer after parts.middle parts.between
          (named frame.holder state parts.middle parts.between parts.before) frame.class_side
          (slot_of frame.class_side name parts.middle) refl refl parts.then

      pub unknown : (names : List Text) (state between after : State MadeBlock)
          → Comes (instance_names frame.holder) setting state (gives names) between
          → slot_of frame.class_side name names ≡ None → HasGlobal setting name between None after
          → Comes (read_out_of_scope name frame) setting state (fails (fault.UndefinedVariable name)) after
      unfolding read_out_of_scope global_value
      unknown names state between after comes none has =
          then_comes setting (instance_names frame.holder)
          (λ names. value_of_name name frame (slot_of frame.class_side name names)) state names between comes
          ∙ ap (λ (slot : Option ℕ). perform (value_of_name name frame slot) setting between) none
          ∙ then_comes setting (find_global name) (λ found. need (fault.UndefinedVariable name) found) between None after
          (only_global between None after has)

      not_block : (value : Bool) → not value ≡ true → value ≡ false
      not_block true is = cc
      not_block false is = refl

      abbrev Put : (receiver : ℕ) → Contents → (slot : ℕ) → Value → (state after : State MadeBlock) → Type 0
      Put receiver object slot answer state after = Comes
          (replace_body 0 receiver object (with_slot slot answer object.body)) setting state (gives tt) after

      replaced_in : (receiver : ℕ) (object : Contents) (slot : ℕ) (answer other : Value) (state after : State MadeBlock)
          → Comes (and_then (replace_body 0 receiver object (with_slot slot answer object.body)) (λ replaced.
          give answer)) setting state (gives other) after
          → Put receiver object slot answer state after × (other ≡ answer)
      replaced_in receiver object slot answer other state after comes =
          let last = both setting (replace_body 0 receiver object (with_slot slot answer object.body))
          (λ replaced. give answer) state other after comes in (
            subst (λ (s : State MadeBlock). Put receiver object slot answer state s)
                (ap (λ (o : Outcome MadeBlock Value). o.state) last.then) last.before,
            sym (same_answer answer other (ap (λ (o : Outcome MadeBlock Value). o.end) last.then)),
          )

      there_in : (there : Bool) (receiver : ℕ) (object : Contents) (slot : ℕ) (answer other : Value)
          (state after : State MadeBlock)
          → Comes (and_then (check fault.Index there) (λ there.
          and_then (replace_body 0 receiver object (with_slot slot answer object.body)) (λ replaced.
          give answer))) setting state (gives other) after
          → Put receiver object slot answer state after × (other ≡ answer)
      there_in true receiver object slot answer other state after comes =
          replaced_in receiver object slot answer other state after comes
      there_in false receiver object slot answer other state after comes =
          absurd (fails_gives _ other (ap (λ (o : Outcome MadeBlock Value). o.end) comes))

      stored_in : (storable : Bool) (receiver : ℕ) (object : Contents) (slot : ℕ) (answer other : Value)
          (state after : State MadeBlock)
          → Comes (and_then (check fault.BlockStored storable) (λ storable.
          and_then (check fault.Index (nat_lt slot (plain_slots object.body))) (λ there.
          and_then (replace_body 0 receiver object (with_slot slot answer object.body)) (λ replaced.
          give answer)))) setting state (gives other) after
          → (storable ≡ true) × Put receiver object slot answer state after × (other ≡ answer)
      stored_in true receiver object slot answer other state after comes =
          let put = there_in (nat_lt slot (plain_slots object.body)) receiver object slot answer other state after comes in
          (refl, put.0, put.1)
      stored_in false receiver object slot answer other state after comes =
          absurd (fails_gives _ other (ap (λ (o : Outcome MadeBlock Value). o.end) comes))

      module _ (answer other : Value) (state after : State MadeBlock) (names : List Text) (between : State MadeBlock)
          (has : HasInstanceNames setting frame.holder state names between) where
        put_assigned : (slot receiver : ℕ) (object : Contents) (written : State MadeBlock) → frame.class_side ≡ false
            → index_of name names ≡ Some slot → frame.receiver ≡ value.Ref receiver
            → Writes setting receiver between object written
            → Comes (put_in_slot receiver object slot answer) setting written (gives other) after
            → Assigns setting name frame answer state after × (other ≡ answer)
        put_assigned slot receiver object written side is refers writes comes =
            let put = stored_in (not (is_block answer)) receiver object slot answer other written after comes in (
              record {
                names = names;
                slot = slot;
                receiver = receiver;
                object = object;
                between = between;
                written = written;
                has_names = has;
                instance_side = side;
                has_slot = is;
                refers = refers;
                writes = writes;
                storable = not_block (is_block answer) put.0;
                replaces = put.1;
              },
              put.2,
            )

        slot_assigned : (slot : ℕ) → frame.class_side ≡ false → index_of name names ≡ Some slot
            → Comes (set_instance_value frame.receiver slot answer) setting between (gives other) after
            → Assigns setting name frame answer state after × (other ≡ answer)
        slot_assigned slot side is comes =
            let whole = both setting (need fault.ArgumentKind (reference_of frame.receiver))
            (λ receiver. and_then (write receiver) (λ object. put_in_slot receiver object slot answer)) between other
            after comes in
            let refers = needed fault.ArgumentKind (reference_of frame.receiver) between whole.middle whole.between
            whole.before in
            let parts = both setting (write whole.middle)
            (λ object. put_in_slot whole.middle object slot answer) whole.between other after whole.then in
            let writes = access_gives a_write whole.middle whole.between parts.middle parts.between parts.before in
            put_assigned slot whole.middle parts.middle parts.between side is
            (reference_is frame.receiver whole.middle refers.0)
            (subst (λ (s : State MadeBlock). Writes setting whole.middle s parts.middle parts.between) (sym refers.1)
            writes) parts.then

        side_assigned : (side : Bool) (slot : Option ℕ) → frame.class_side ≡ side → slot_of side name names ≡ slot
            → Comes (assign_name name frame slot answer) setting between (gives other) after
            → Assigns setting name frame answer state after × (other ≡ answer)
        side_assigned false (Some slot) side is comes = slot_assigned slot side is comes
        side_assigned true (Some slot) side is comes = cc
        side_assigned side None same is comes =
            absurd (fails_gives _ other (ap (λ (o : Outcome MadeBlock Value). o.end) comes))

      pub assigned : (answer other : Value) (state after : State MadeBlock)
          → Comes (write_out_of_scope name frame answer) setting state (gives other) after
          → Assigns setting name frame answer state after × (other ≡ answer)
      unfolding write_out_of_scope
      assigned answer other state after comes =
          let parts = both setting (instance_names frame.holder)
          (λ names. assign_name name frame (slot_of frame.class_side name names) answer) state other after comes in
          side_assigned answer other state after parts.middle parts.between
          (named frame.holder state parts.middle parts.between parts.before) frame.class_side
          (slot_of frame.class_side name parts.middle) refl refl parts.then

      at_slot : (answer : Value) (names : List Text) (slot : Option ℕ) (state between : State MadeBlock)
          → Comes (instance_names frame.holder) setting state (gives names) between
          → slot_of frame.class_side name names ≡ slot
          → perform (write_out_of_scope name frame answer) setting state
          ≡ perform (assign_name name frame slot answer) setting between
      unfolding write_out_of_scope
      at_slot answer names slot state between comes is =
          then_comes setting (instance_names frame.holder)
          (λ names. assign_name name frame (slot_of frame.class_side name names) answer) state names between comes
          ∙ ap (λ (s : Option ℕ). perform (assign_name name frame s answer) setting between) is

      pub not_assigned : (answer : Value) (names : List Text) (state between : State MadeBlock)
          → Comes (instance_names frame.holder) setting state (gives names) between
          → slot_of frame.class_side name names ≡ None
          → Comes (write_out_of_scope name frame answer) setting state (fails (fault.UndefinedVariable name)) between
      not_assigned answer names state between comes none = at_slot answer names None state between comes none

      pub block_assigned : (block : BlockRef) (names : List Text) (slot receiver : ℕ) (object : Contents)
          (state between after : State MadeBlock)
          → Comes (instance_names frame.holder) setting state (gives names) between
          → slot_of frame.class_side name names ≡ Some slot → frame.receiver ≡ value.Ref receiver
          → Writes setting receiver between object after
          → Comes (write_out_of_scope name frame (value.Block block)) setting state (fails fault.BlockStored) after
      block_assigned block names slot receiver object state between after comes some refers writes =
          at_slot (value.Block block) names (Some slot) state between comes some
          ∙ ap (λ (v : Value). perform (set_instance_value v slot (value.Block block)) setting between) refers
          ∙ then_comes setting (write receiver) (λ object. put_in_slot receiver object slot (value.Block block)) between
          object after (access_comes a_write receiver between object after writes)
