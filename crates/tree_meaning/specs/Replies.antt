-- What may stand outside a tree, for laws: whatever is answered to sends, names and literals by
-- what is left and what is local. Laws over it say nothing of what touches objects, but their
-- lemmas hold of anything that stands outside.
use Rattle.std.specs.Prelude.{Bool, List}
use Rattle.object_programs.specs.texts.Bytes.{Bytes as Text}
use Rattle.object_programs.specs.st_tree.Trees.{Constant}
use Rattle.object_programs.specs.gem_object.declared.value.Value.{Value}
use Rattle.object_programs.specs.Atom.{Tick}
use Rattle.object_programs.specs.Budget.{Budget}
use Rattle.object_programs.specs.Local.{Local}
use Rattle.object_programs.specs.Run.{atom, seeing, become, and_then, Ending}
use Rattle.tree_meaning.specs.Place.{Frame, MadeBlock}
use Rattle.tree_meaning.specs.Operands.{ValueRun}
use Rattle.tree_meaning.specs.Scopes.{same_ending}
use Rattle.tree_meaning.specs.Meaning.{Outside}
use Rattle.tree_meaning.specs.Calls.{make_block}

-- How something outside ends, and the variables, blocks and activations that it leaves.
pub record Reply : Type 0 where
  pub end : Ending Value
  pub local : Local MadeBlock

-- by what is left and what is local
abbrev pub ByState : Type 0
ByState = Budget → Local MadeBlock → Reply

pub record Replies : Type 0 where
  pub to_send : (to_super : Bool) → Text → Frame → Value → List Value → ByState
  pub to_name : Text → Frame → ByState
  pub to_assignment : Text → Frame → Value → ByState
  pub to_literal : Constant → ByState

-- the program of a reply
abbrev pub replying : ByState → ValueRun
replying reply = seeing (λ budget local.
    and_then (become (reply budget local).local) (λ done. same_ending (reply budget local).end))

-- what stands outside, with these replies; a send begins with its unit
abbrev pub outside_of : Replies → Outside
outside_of replies = record {
  send_message = λ to_super selector frame receiver arguments.
      and_then (atom Tick) (λ ticked.
      replying (replies.to_send to_super selector frame receiver arguments));
  read_name = λ text frame. replying (replies.to_name text frame);
  write_name = λ text frame answer. replying (replies.to_assignment text frame answer);
  literal_value = λ tree. replying (replies.to_literal tree);
  make_block = make_block;
}
