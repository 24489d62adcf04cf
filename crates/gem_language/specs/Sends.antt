-- Sends, and with them all that stands outside a tree: what the whole language means.
use Rattle.std.specs.Prelude.{ℕ, zero, suc, Bool, false, List, [], length, reverse, Option, None, Some, Result, Ok, Err, ◌-◌}
use Rattle.gem_object.specs.texts.Bytes.{Bytes as Text}
use Rattle.object_programs.specs.st_tree.Trees.{Program}
use Rattle.object_programs.specs.st_grammar.Grammar.{method}
use Rattle.object_programs.specs.st_grammar_laws.TreeOf.{TextFault, tree_of}
use Rattle.gem_object.specs.declared.value.Value.{Value}
use Rattle.gem_object.specs.declared.value.Value.TheVariants.{Nil}
use Rattle.gem_object.specs.declared.body.MethodCode.{MethodCode}
use Rattle.gem_object.specs.declared.body.MethodCode.TheVariants.{Source, Primitive}
use Rattle.object_programs.specs.Atom.{Tick}
use Rattle.object_programs.specs.Run.{give, fail, atom, and_then}
use Rattle.object_programs.specs.declared.limits.TheConstants.{ACTIVATION_LIMIT}
use Rattle.object_programs.specs.declared.fault.Fault.TheVariants as fault
use Rattle.tree_meaning.specs.Place.{Frame, MadeBlock}
use Rattle.tree_meaning.specs.Operands.{ValueRun}
use Rattle.tree_meaning.specs.Meaning.{Outside}
use Rattle.tree_meaning.specs.Bodies.{method_body, block_body, chunk_body, temps_count}
use Rattle.tree_meaning.specs.Calls.{activation, evaluation, call_block_at, make_block}
use Rattle.prim_rules.specs.declared.answer.PrimitiveAnswer.{PrimitiveAnswer}
use Rattle.prim_rules.specs.declared.answer.PrimitiveAnswer.TheVariants.{Gives, Evaluates}
use Rattle.gem_language.specs.LookUp.{find_method}
use Rattle.gem_language.specs.OutOfScope.{read_out_of_scope, write_out_of_scope}
use Rattle.gem_language.specs.Literals.{literal_value}
use Rattle.prim_rules.specs.Rules.{rule_of}
use Rattle.gem_language.specs.declared.found.Found.{Found}
use Rattle.object_programs.specs.gem_sound.declared.names.TheConstants.{UNDEFINED_OBJECT_CLASS}

-- What a send may come to beside a primitive: a method with a tree, by the class that holds it and
-- the side on which it stands there; and a made block. Arguments stand here the first one first.
pub record Callee : Type 1 where
  pub method : Program → (holder : ℕ) → (class_side : Bool) → (receiver : Value)
      → (arguments : List Value) → ValueRun
  pub block : MadeBlock → (arguments : List Value) → ValueRun

-- what a primitive's answer comes to: its value, or that of the block which it evaluates
abbrev pub primitive_value : Callee → PrimitiveAnswer → ValueRun
primitive_value callee (Gives answer) = give answer
primitive_value callee (Evaluates block arguments) =
    call_block_at callee.block block.number arguments

-- A method with source is run by its tree. In a sound image every source has one; one without is as
-- if there were no method, E1.
abbrev pub call_source : Callee → (selector : Text) → Found → Result Program TextFault
    → (receiver : Value) → (arguments : List Value) → ValueRun
call_source callee selector found (Ok tree) receiver arguments =
    callee.method tree found.holder found.class_side receiver arguments
call_source callee selector found (Err wrong) receiver arguments =
    fail (fault.NotUnderstood selector)

-- what a method does: its primitive, or its source
abbrev pub call_code : Callee → (selector : Text) → Found → MethodCode → (receiver : Value)
    → (arguments : List Value) → ValueRun
call_code callee selector found (Primitive number) receiver arguments =
    and_then (rule_of number receiver arguments) (λ answer. primitive_value callee answer)
call_code callee selector found (Source source) receiver arguments =
    call_source callee selector found (tree_of method source) receiver arguments

-- a method that was found is called; E1 where none was
abbrev pub call_found : Callee → (selector : Text) → Option Found → (receiver : Value)
    → (arguments : List Value) → ValueRun
call_found callee selector None receiver arguments = fail (fault.NotUnderstood selector)
call_found callee selector (Some found) receiver arguments =
    call_code callee selector found found.code receiver arguments

-- A send, with its arguments the last one first: a unit, the look-up, and the method.
unfoldable pub send_by : Callee → (to_super : Bool) → (selector : Text) → Frame
    → (receiver : Value) → (arguments : List Value) → ValueRun
send_by callee to_super selector frame receiver arguments =
    and_then (atom Tick) (λ ticked.
    and_then (find_method to_super frame receiver selector) (λ found.
    call_found callee selector found receiver (reverse arguments)))

-- what stands outside a tree, where calls go to this callee
abbrev pub outside_by : Callee → Outside
outside_by callee = record {
  send_message = λ to_super selector frame receiver arguments.
      send_by callee to_super selector frame receiver arguments;
  read_name = λ name frame. read_out_of_scope name frame;
  write_name = λ name frame answer. write_out_of_scope name frame answer;
  literal_value = λ tree. literal_value tree;
  make_block = λ tree place frame. make_block tree place frame;
}

-- What is called where so many activations may still begin: a method with source and a made block
-- are one each while they run. Where none may begin, a call is E14.
abbrev pub callee : ℕ → Callee
callee zero = record {
  method = λ tree holder class_side receiver arguments. fail fault.Depth;
  block = λ made arguments. fail fault.Depth;
}
callee (suc depth) = record {
  method = λ tree holder class_side receiver arguments.
      activation (method_body (outside_by (callee depth)) tree) (length tree.temps) holder
      class_side receiver arguments;
  block = λ made arguments.
      evaluation (block_body (outside_by (callee depth)) made.tree made.place)
      (temps_count made.tree) made.frame arguments;
}

-- what stands outside a tree in an activation in which so many more may begin
unfoldable pub outside : (depth : ℕ) → Outside
outside depth = outside_by (callee depth)

-- At most 2,000 activations live at once, and the chunk is the first of them.
abbrev pub calls_of_chunk : ℕ
calls_of_chunk = ACTIVATION_LIMIT - 1

-- The value of a chunk: it is a method of the class of nil, with nil as its receiver.
unfoldable pub chunk_value : Program → ValueRun
chunk_value tree = activation (chunk_body (outside calls_of_chunk) tree) (length tree.temps)
    UNDEFINED_OBJECT_CLASS false Nil []
