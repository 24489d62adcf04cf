-- What trees mean with the language's own outside.
use Rattle.std.proofs.Common.{◌≡◌, ◌∙◌, sym, ap, ℕ, Bool, List, [], Option, None, reverse}
use Rattle.std.proofs.Math.Path.{fun_ext}
use Rattle.std.proofs.lemmas.List.{reverse-reverse}
use Rattle.gem_object.specs.texts.Bytes.{Bytes as Text}
use Rattle.object_programs.specs.st_tree.Trees.{name, constant, Constant, Expressions, send}
use Rattle.gem_object.specs.declared.value.Value.{Value}
use Rattle.object_programs.specs.gem_world.World.{Setting}
use Rattle.object_programs.specs.Run.{State, perform}
use Rattle.tree_meaning.specs.Place.{Place, Frame, MadeBlock}
use Rattle.tree_meaning.specs.Names.{where_is}
use Rattle.tree_meaning.specs.Meaning.{plain_constant, constant_run, read_where, write_where, head_value}
use Rattle.tree_meaning.specs.Reading.{Deed, deed, in_order, sent}
use Rattle.tree_meaning.specs.declared.name.Where.{Where}
use Rattle.tree_meaning.specs.declared.name.Where.TheVariants.{OutOfScope}
use Rattle.tree_meaning.proofs.Deeds.{in_order_read}
use Rattle.gem_language.specs.OutOfScope.{read_out_of_scope, write_out_of_scope}
use Rattle.gem_language.specs.Literals.{literal_value}
use Rattle.gem_language.specs.Sends.{outside}
use Rattle.gem_language.specs.Reading.{send_program}

module _ (depth : ℕ) (setting : Setting) (place : Place) (frame : Frame) (state : State MadeBlock) where
  pub message_read : (to_super : Bool) (receiver : Value) (selector : Text) (arguments : Expressions)
      → sent (outside depth) setting place frame to_super receiver (send selector arguments) state
      ≡ in_order (outside depth) setting place frame arguments [] (λ values.
      deed setting (send_program depth (record {
        to_super = to_super;
        selector = selector;
        frame = frame;
        receiver = receiver;
        arguments = reverse values;
      }))) state
  message_read to_super receiver selector arguments =
      let sends : List Value → Deed = λ values later.
      perform ((outside depth).send_message to_super selector frame receiver values) setting later in
      in_order_read (outside depth) setting place frame arguments []
      (λ values. (outside depth).send_message to_super selector frame receiver values) state
      ∙ ap (λ (next : List Value → Deed). in_order (outside depth) setting place frame arguments [] next state)
      (fun_ext (λ (values : List Value). fun_ext (λ (later : State MadeBlock).
      ap (λ (all : List Value). sends all later) (sym (reverse-reverse values)))))

  pub name_read : (text : Text) → where_is text place.names ≡ OutOfScope
      → perform (head_value (outside depth) (name text) place frame) setting state
      ≡ perform (read_out_of_scope text frame) setting state
  unfolding outside
  name_read text is = ap (λ (w : Where). perform (read_where (outside depth) w text frame) setting state) is

  pub assignment_read : (text : Text) (answer : Value) → where_is text place.names ≡ OutOfScope
      → perform (write_where (outside depth) (where_is text place.names) text frame answer) setting state
      ≡ perform (write_out_of_scope text frame answer) setting state
  unfolding outside
  assignment_read text answer is =
      ap (λ (w : Where). perform (write_where (outside depth) w text frame answer) setting state) is

  pub literal_read : (tree : Constant) → plain_constant tree ≡ None
      → perform (head_value (outside depth) (constant tree) place frame) setting state
      ≡ perform (literal_value tree) setting state
  unfolding outside
  literal_read tree is =
      ap (λ (plain : Option Value). perform (constant_run (outside depth) plain tree) setting state) is
