-- What a look-up asks of a frame: the receiver, and the class that holds the method. Scopes and the
-- home don't matter.
use Rattle.std.proofs.Common.{◌≡◌, ◌∙◌, refl, ap, subst, ℕ, Bool, true, false, List, [], ◌∷◌, reverse, Option, None, Some, Result, Ok, IfSome}
use Rattle.std.proofs.Math.Path.{fun_ext}
use Rattle.gem_object.specs.texts.Bytes.{Bytes as Text}
use Rattle.gem_object.specs.declared.value.Value.{Value}
use Rattle.tree_meaning.specs.object_programs.Local.{Local}
use Rattle.tree_meaning.specs.object_programs.Atom.{Kind}
use Rattle.tree_meaning.specs.object_programs.Run.{give, atom, and_then}
use Rattle.st_tree.specs.Trees.{Closure, Program}
use Rattle.tree_meaning.specs.Place.{Place, Frame, MadeBlock}
use Rattle.tree_meaning.specs.Operands.{ValueRun}
use Rattle.tree_meaning.specs.Scopes.{mark, with_scope}
use Rattle.tree_meaning.specs.Meaning.{Outside}
use Rattle.tree_meaning.specs.Bodies.{method_body, chunk_body, block_body}
use Rattle.tree_meaning.specs.Calls.{method_frame}
use Rattle.tree_meaning.specs.declared.place.Mark.{Mark}
use Rattle.gem_language.specs.LookUp.{FindingRun, found_at, start_of_receiver, superclass_of, find_method}
use Rattle.gem_language.specs.OutOfScope.{instance_names, slot_of, instance_value, set_instance_value, value_of_name, read_out_of_scope, assign_name, write_out_of_scope}
use Rattle.gem_language.specs.declared.found.Found.{Found}
use Rattle.running_objects.specs.Seen.{Seen}
use Rattle.running_objects.specs.Ran.{Ran}
use Rattle.running_objects.specs.declared.stop.Stop.{Stop}
use Rattle.prim_parts.specs.Does.{Does}
use Rattle.prim_parts.proofs.Does.{does_ran}
use Rattle.st_machine.specs.AtOnce.{StandsFor, assigning}
use Rattle.look_up_cache.specs.Variables.{bare_frame}
use Rattle.st_machine.specs.declared.lack.Lack.{Lack}
use Rattle.st_machine.specs.Parts.{framed, piece_of, text_run_by, part_run}
use Rattle.st_machine.specs.declared.shared_code.Part.TheVariants.{Whole, Block}

module _ (first second : Frame) (same_receiver : first.receiver ≡ second.receiver)
    (same_holder : first.holder ≡ second.holder) (same_side : first.class_side ≡ second.class_side) where
  -- the look-up of a message to `super`, by the class that holds the method
  abbrev above : Value → Text → (holder : ℕ) → (class_side : Bool) → FindingRun
  above receiver selector holder class_side =
      and_then (and_then (start_of_receiver receiver) (λ own. and_then (atom (Kind holder)) (λ found.
      give (record { class = superclass_of found; class_side = class_side }))))
      (λ start. found_at start selector)

  pub found_ran : (to_super : Bool) (receiver : Value) (selector : Text) {before after : Seen}
      {local later : Local MadeBlock} {result : Result (Option Found) Stop}
      → Ran (find_method to_super first receiver selector) before local result after later
      → Ran (find_method to_super second receiver selector) before local result after later
  unfolding find_method
  found_ran false receiver selector ran = ran
  found_ran true receiver selector {before} {after} {local} {later} {result} ran =
      let ByHolder : ℕ → Type 0 = λ holder.
      Ran (above receiver selector holder first.class_side) before local result after later in
      let BySide : Bool → Type 0 = λ class_side.
      Ran (above receiver selector second.holder class_side) before local result after later in
      subst BySide same_side (subst ByHolder same_holder ran)

  same_value : (name : Text) (slot : Option ℕ) → value_of_name name first slot ≡ value_of_name name second slot
  same_value name None = refl
  same_value name (Some slot) = ap (λ (receiver : Value). instance_value receiver slot) same_receiver

  same_assignment : (name : Text) (value : Value) (slot : Option ℕ)
      → assign_name name first slot value ≡ assign_name name second slot value
  same_assignment name value None = refl
  same_assignment name value (Some slot) = ap (λ (receiver : Value). set_instance_value receiver slot value) same_receiver

  -- a program by the names of the class that holds the method
  abbrev by_names : (holder : ℕ) → (class_side : Bool) → Text → (Option ℕ → ValueRun) → ValueRun
  by_names holder class_side name program =
      and_then (instance_names holder) (λ names. program (slot_of class_side name names))

  named_ran : (name : Text) (program other : Option ℕ → ValueRun)
      → ((slot : Option ℕ) → program slot ≡ other slot) → {before after : Seen} {local later : Local MadeBlock}
      {result : Result Value Stop}
      → Ran (by_names first.holder first.class_side name program) before local result after later
      → Ran (by_names second.holder second.class_side name other) before local result after later
  named_ran name program other same {before} {after} {local} {later} {result} ran =
      let ByHolder : ℕ → Type 0 = λ holder.
      Ran (by_names holder first.class_side name program) before local result after later in
      let BySide : Bool → Type 0 = λ class_side.
      Ran (by_names second.holder class_side name program) before local result after later in
      let ByProgram : (Option ℕ → ValueRun) → Type 0 = λ one.
      Ran (by_names second.holder second.class_side name one) before local result after later in
      subst ByProgram (fun_ext same) (subst BySide same_side (subst ByHolder same_holder ran))

  pub read_ran : (name : Text) {before after : Seen} {local later : Local MadeBlock} {result : Result Value Stop}
      → Ran (read_out_of_scope name first) before local result after later
      → Ran (read_out_of_scope name second) before local result after later
  unfolding read_out_of_scope
  read_ran name ran = named_ran name (value_of_name name first) (value_of_name name second) (same_value name) ran

  pub write_ran : (name : Text) (value : Value) {before after : Seen} {local later : Local MadeBlock}
      {result : Result Value Stop} → Ran (write_out_of_scope name first value) before local result after later
      → Ran (write_out_of_scope name second value) before local result after later
  unfolding write_out_of_scope
  write_ran name value ran =
      named_ran name (λ slot. assign_name name first slot value) (λ slot. assign_name name second slot value)
      (same_assignment name value) ran

-- A name that is known in a frame with what it asks of one, and an assignment to it.
module _ (receiver : Value) (holder : ℕ) (class_side : Bool) (frame : Frame) (same_receiver : receiver ≡ frame.receiver)
    (same_holder : holder ≡ frame.holder) (same_side : class_side ≡ frame.class_side) (name : Text) where
  pub known_ran : {seen : Seen} {local : Local MadeBlock} (value : Value)
      → StandsFor name (bare_frame receiver holder class_side) seen value
      → Ran (read_out_of_scope name frame) seen local (Ok value) seen local
  known_ran {seen} {local} value stands =
      read_ran (bare_frame receiver holder class_side) frame same_receiver same_holder same_side name
      (does_ran (stands seen.budget) local)

  assigned_ran : {before after : Seen} {local : Local MadeBlock} (value : Value) (ended : Result Value Stop)
      → Does (write_out_of_scope name (bare_frame receiver holder class_side) value) before ended after
      → Ran (write_out_of_scope name frame value) before local ended after local
  assigned_ran {before} {after} {local} value ended does =
      write_ran (bare_frame receiver holder class_side) frame same_receiver same_holder same_side name value
      (does_ran does local)

  pub assigned_by : (before after : Seen) (local : Local MadeBlock) (value : Value)
      (known : Option (Result (Unit {0}) Lack))
      → IfSome known (λ ended. Does (write_out_of_scope name (bare_frame receiver holder class_side) value) before
      (assigning value ended) after)
      → IfSome known (λ ended. Ran (write_out_of_scope name frame value) before local (assigning value ended) after local)
  assigned_by before after local value None does = tt
  assigned_by before after local value (Some ended) does = assigned_ran value (assigning value ended) does

-- The frame of a method that begins, by its outline.
pub method_framed : (outline : Frame) (here : Mark) (receiver : Value) (holder : ℕ) (class_side : Bool)
    (local : Local MadeBlock) → here ≡ mark local
    → outline ≡ record { scopes = []; receiver = receiver; home = here.living; holder = holder; class_side = class_side }
    → framed (here ∷ []) outline ≡ method_frame holder class_side receiver local
method_framed outline here receiver holder class_side local is_here is =
    ap (λ (one : Frame). framed (here ∷ []) one) is
    ∙ ap (λ (one : Mark). record {
      scopes = one ∷ [];
      receiver = receiver;
      home = one.living;
      holder = holder;
      class_side = class_side;
    }) is_here

-- That of a block, inside the scopes in which it was made.
pub block_framed : (outline frame : Frame) (here : Mark) (marks : List Mark)
    → framed frame.scopes outline ≡ frame → reverse marks ≡ frame.scopes
    → framed (here ∷ reverse marks) outline ≡ with_scope here frame
block_framed outline frame here marks is are =
    ap (λ (scopes : List Mark). framed (here ∷ scopes) outline) are ∙ ap (λ (one : Frame). with_scope here one) is

-- A method's code is that of the whole text, and a block's that of a part of it.
pub method_ran_by : (outside : Outside) (tree : Program) (selector : Text) (frame : Frame) → tree.selector ≡ Some selector
    → {before after : Seen} {local later : Local MadeBlock} {result : Result Value Stop}
    → Ran (part_run outside tree Whole frame) before local result after later
    → Ran (method_body outside tree frame) before local result after later
method_ran_by outside tree selector frame is {before} {after} {local} {later} {result} ran =
    let At : Option Text → Type 0 = λ one. Ran (text_run_by one outside tree frame) before local result after later in
    subst At is ran

pub chunk_ran_by : (outside : Outside) (tree : Program) (frame : Frame) → tree.selector ≡ None
    → {before after : Seen} {local later : Local MadeBlock} {result : Result Value Stop}
    → Ran (part_run outside tree Whole frame) before local result after later
    → Ran (chunk_body outside tree frame) before local result after later
chunk_ran_by outside tree frame is {before} {after} {local} {later} {result} ran =
    let At : Option Text → Type 0 = λ one. Ran (text_run_by one outside tree frame) before local result after later in
    subst At is ran

pub block_ran_by : (outside : Outside) (tree : Program) (number : ℕ) (frame : Frame) (made : MadeBlock)
    → (piece_of tree number).tree ≡ made.tree → (piece_of tree number).place ≡ made.place
    → {before after : Seen} {local later : Local MadeBlock} {result : Result Value Stop}
    → Ran (part_run outside tree (Block number) frame) before local result after later
    → Ran (block_body outside made.tree made.place frame) before local result after later
block_ran_by outside tree number frame made same_tree same_place {before} {after} {local} {later} {result} ran =
    let ByTree : Closure → Type 0 = λ one.
    Ran (block_body outside one (piece_of tree number).place frame) before local result after later in
    let ByPlace : Place → Type 0 = λ one. Ran (block_body outside made.tree one frame) before local result after later in
    subst ByPlace same_place (subst ByTree same_tree ran)
