-- What a command comes to, by cases.
use Rattle.std.specs.Prelude.{◌≡◌, ◌<◌, ◌≤◌, ℕ, Bool, true, false, length, Option, None, Some, Ok, Err}
use Rattle.gem_object.specs.texts.Bytes.{Bytes as Text}
use Rattle.gem_object.specs.texts.declared.limits.TheConstants.{SYMBOL_LIMIT}
use Rattle.object_programs.specs.st_tree.Trees.{Program}
use Rattle.object_programs.specs.st_grammar.Grammar.{chunk, method}
use Rattle.object_programs.specs.st_grammar_laws.TreeOf.{TextFault, tree_of}
use Rattle.gem_object.specs.References.{reference_of}
use Rattle.gem_object.specs.declared.value.Value.{Value}
use Rattle.gem_object.specs.declared.value.Value.TheVariants.{Ref}
use Rattle.gem_object.specs.declared.body.MethodCode.TheVariants.{Source}
use Rattle.gem_object.specs.declared.body.ClassBody.{ClassBody}
use Rattle.gem_object.specs.declared.body.Body.TheVariants as body
use Rattle.object_programs.specs.gem_image.Image.{Contents}
use Rattle.object_programs.specs.gem_sound.Parts.{class_of}
use Rattle.object_programs.specs.gem_world.World.{Setting, World, shown}
use Rattle.object_programs.specs.gem_world.Access.{a_read, a_write, is_allowed, accessed}
use Rattle.object_programs.specs.Budget.{bytes_cost}
use Rattle.object_programs.specs.Run.{Ending, gives, returns, fails, State}
use Rattle.object_programs.specs.Programs.{replace_body}
use Rattle.object_programs.specs.declared.fault.Fault.{Fault}
use Rattle.object_programs.specs.declared.fault.Fault.TheVariants as fault
use Rattle.tree_meaning.specs.Place.{MadeBlock}
use Rattle.prim_rules.specs.Printing.{print_text}
use Rattle.gem_language.specs.OutOfScope.{find_global}
use Rattle.gem_language.specs.Sends.{chunk_value}
use Rattle.gem_language.specs.Install.{class_with, install}
use Rattle.gem_language.specs.Commands.{Command, run_chunk, install_method, Reply, not_read, ran, printed, installed, selector_of}
use Rattle.gem_language.specs.Transaction.{begin_command}
use Rattle.gem_language.specs.Comes.{Comes}
use Rattle.gem_language.specs.ReadingNames.{Reads, Writes, HasGlobal}

-- an end without an answer, as the end of a command
abbrev pub stop_of_command : {A : Type 0} → Ending A → Option (Ending Reply)
stop_of_command (gives answer) = None
stop_of_command (returns answer home) = Some (returns answer home)
stop_of_command (fails fault) = Some (fails fault)

-- A command ends so, on these objects.
pub data CommandComes (setting : Setting) (world : World) : Command → Ending Reply
    → (after : State MadeBlock) → Type 0 where
  -- its text has no tree: nothing is done
  chunk_not_read : (prints : Bool) (text : Text) (wrong : TextFault)
      → tree_of chunk text ≡ Err wrong
      → CommandComes setting world (run_chunk prints text) (gives (not_read wrong))
      (begin_command world)
  method_not_read : (class_side : Bool) (class source : Text) (wrong : TextFault)
      → tree_of method source ≡ Err wrong
      → CommandComes setting world (install_method class_side class source)
      (gives (not_read wrong)) (begin_command world)
  -- a chunk ends without an answer, or with one that isn't printed
  chunk_stops : (prints : Bool) (text : Text) (tree : Program) (end : Ending Value)
      (stop : Ending Reply) (after : State MadeBlock) → tree_of chunk text ≡ Ok tree
      → Comes (chunk_value tree) setting (begin_command world) end after
      → stop_of_command end ≡ Some stop
      → CommandComes setting world (run_chunk prints text) stop after
  chunk_ran : (text : Text) (tree : Program) (answer : Value) (after : State MadeBlock)
      → tree_of chunk text ≡ Ok tree
      → Comes (chunk_value tree) setting (begin_command world) (gives answer) after
      → CommandComes setting world (run_chunk false text) (gives ran) after
  -- the answer is printed in the state that the chunk leaves
  print_stops : (text : Text) (tree : Program) (answer : Value) (end : Ending Text)
      (stop : Ending Reply) (between after : State MadeBlock) → tree_of chunk text ≡ Ok tree
      → Comes (chunk_value tree) setting (begin_command world) (gives answer) between
      → Comes (print_text answer) setting between end after → stop_of_command end ≡ Some stop
      → CommandComes setting world (run_chunk true text) stop after
  chunk_printed : (text : Text) (tree : Program) (answer : Value) (print : Text)
      (between after : State MadeBlock) → tree_of chunk text ≡ Ok tree
      → Comes (chunk_value tree) setting (begin_command world) (gives answer) between
      → Comes (print_text answer) setting between (gives print) after
      → CommandComes setting world (run_chunk true text) (gives (printed print)) after
  -- a method's source is put into a class, or isn't
  install_stops : (class_side : Bool) (class source : Text) (tree : Program)
      (end : Ending (Unit {0})) (stop : Ending Reply) (after : State MadeBlock)
      → tree_of method source ≡ Ok tree
      → Comes (install class_side class (selector_of tree) source) setting (begin_command world)
      end after → stop_of_command end ≡ Some stop
      → CommandComes setting world (install_method class_side class source) stop after
  method_installed : (class_side : Bool) (class source : Text) (tree : Program)
      (after : State MadeBlock) → tree_of method source ≡ Ok tree
      → Comes (install class_side class (selector_of tree) source) setting (begin_command world)
      (gives tt) after
      → CommandComes setting world (install_method class_side class source)
      (gives (installed (selector_of tree))) after

-- The source of a method with this selector, for the class that a global names.
pub record MethodSource : Type 0 where
  pub class_side : Bool
  pub class : Text
  pub selector : Text
  pub source : Text

-- the class with this method
abbrev pub with_source : MethodSource → ClassBody → ClassBody
with_source wanted held = class_with wanted.class_side
    (record { selector = wanted.selector; code = Source wanted.source }) held

-- The source is put into its class, or isn't, in the order of the checks.
pub data InstallComes (setting : Setting) (method : MethodSource) (state : State MadeBlock)
    : Ending (Unit {0}) → (after : State MadeBlock) → Type 0 where
  -- E10: the user may not read a dictionary in which the global is looked for
  not_looked_up : (wrong : Fault) (after : State MadeBlock)
      → Comes (find_global method.class) setting state (fails wrong) after
      → InstallComes setting method state (fails wrong) after
  -- E2: there is no such global
  unknown_class : (after : State MadeBlock) → HasGlobal setting method.class state None after
      → InstallComes setting method state (fails (fault.UndefinedVariable method.class)) after
  -- E5: it refers to no object, or to one that is no class
  no_reference : (answer : Value) (after : State MadeBlock)
      → HasGlobal setting method.class state (Some answer) after → reference_of answer ≡ None
      → InstallComes setting method state (fails fault.ArgumentKind) after
  not_a_class : (name : ℕ) (object : Contents) (after : State MadeBlock)
      → HasGlobal setting method.class state (Some (Ref name)) after
      → shown name setting after.world ≡ Some object → class_of object.body ≡ None
      → InstallComes setting method state (fails fault.ArgumentKind) after
  -- E10: the user may not read the class
  not_readable : (name : ℕ) (object : Contents) (held : ClassBody) (found : State MadeBlock)
      → HasGlobal setting method.class state (Some (Ref name)) found
      → shown name setting found.world ≡ Some object → class_of object.body ≡ Some held
      → is_allowed a_read name setting found.world ≡ false
      → InstallComes setting method state (fails (fault.NoReadRight name))
      (record found { world = accessed a_read name setting found.world })
  -- E11: the user may read it, and not write it
  not_writable : (name : ℕ) (object : Contents) (held : ClassBody) (found read : State MadeBlock)
      → HasGlobal setting method.class state (Some (Ref name)) found
      → class_of object.body ≡ Some held → Reads setting name found object read
      → is_allowed a_write name setting read.world ≡ false
      → InstallComes setting method state (fails (fault.NoWriteRight name))
      (record read { world = accessed a_write name setting read.world })
  -- E17: the selector is too long for a symbol
  long_selector : (name : ℕ) (object written : Contents) (held : ClassBody)
      (found read after : State MadeBlock)
      → HasGlobal setting method.class state (Some (Ref name)) found
      → class_of object.body ≡ Some held → Reads setting name found object read
      → Writes setting name read written after → class_of written.body ≡ Some held
      → SYMBOL_LIMIT < length method.selector
      → InstallComes setting method state (fails fault.ObjectTooLarge) after
  -- the class gets the method; E17 where it would be too large, E15 where there is no space for the
  -- source
  puts : (name : ℕ) (object written : Contents) (held : ClassBody)
      (found read between after : State MadeBlock) (end : Ending (Unit {0}))
      → HasGlobal setting method.class state (Some (Ref name)) found
      → class_of object.body ≡ Some held → Reads setting name found object read
      → Writes setting name read written between → class_of written.body ≡ Some held
      → length method.selector ≤ SYMBOL_LIMIT
      → Comes (replace_body (bytes_cost (length method.source)) name written
      (body.Class (with_source method held))) setting between end after
      → InstallComes setting method state end after
