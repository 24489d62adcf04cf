-- What answers a message, and what it comes to.
use Rattle.std.specs.Prelude.{◌≡◌, ◌∷◌, ℕ, false, reverse, get_or, Option, None, Some, List, Result, Ok, Err}
use Rattle.gem_object.specs.texts.Bytes.{Bytes as Text}
use Rattle.st_tree.specs.Trees.{Program}
use Rattle.gem_sound.specs.st_grammar.Grammar.{method}
use Rattle.gem_sound.specs.st_grammar_laws.TreeOf.{TextFault, tree_of}
use Rattle.gem_object.specs.declared.value.Value.{Value}
use Rattle.gem_object.specs.declared.body.MethodCode.{MethodCode}
use Rattle.gem_object.specs.declared.body.MethodCode.TheVariants.{Source, Primitive as by_primitive}
use Rattle.gem_object.specs.declared.value.Value.TheVariants.{Nil}
use Rattle.tree_meaning.specs.object_programs.Atom.{Tick}
use Rattle.tree_meaning.specs.object_programs.Budget.{Budget}
use Rattle.tree_meaning.specs.object_programs.Local.{Local}
use Rattle.tree_meaning.specs.object_programs.Run.{Run, fail, and_then}
use Rattle.tree_meaning.specs.object_programs.declared.fault.Fault.TheVariants as fault
use Rattle.tree_meaning.specs.Place.{Frame, MadeBlock}
use Rattle.tree_meaning.specs.Operands.{ValueRun}
use Rattle.gem_language.specs.prim_rules.Rules.{rule_of}
use Rattle.gem_language.specs.declared.found.Found.{Found}
use Rattle.gem_language.specs.Commands.{selector_of}
use Rattle.gem_language.specs.LookUp.{find_method}
use Rattle.gem_language.specs.Sends.{Callee, primitive_value, call_found}
use Rattle.running_objects.specs.Acted.{Acted}
use Rattle.running_objects.specs.Seen.{Seen}
use Rattle.running_objects.specs.Ran.{Ran}
use Rattle.running_objects.specs.declared.stop.Stop.{Stop}
use Rattle.running_objects.specs.declared.stop.Stop.TheVariants as stop
use Rattle.look_up_cache.specs.Memory.{with_budget}
use Rattle.look_up_cache.specs.Table.{held_at}
use Rattle.st_compiler.specs.Instruction.{Instruction, Send}
use Rattle.st_machine.specs.declared.target.Target.{Target}
use Rattle.st_machine.specs.declared.target.Target.TheVariants.{Nothing, Primitive, Method}

-- what answers by the method that was found: nothing where its source has no tree
abbrev pub target_by_tree : Found → Result Program TextFault → Target
target_by_tree found (Ok tree) = Method tree found.holder found.class_side
target_by_tree found (Err wrong) = Nothing

abbrev pub target_by : Found → MethodCode → Target
target_by found (by_primitive number) = Primitive number
target_by found (Source source) = target_by_tree found (tree_of method source)

abbrev pub target_for : Option Found → Target
target_for None = Nothing
target_for (Some found) = target_by found found.code

-- what its call comes to
abbrev pub call_of : Callee → (selector : Text) → Target → (receiver : Value)
    → (arguments : List Value) → ValueRun
call_of callee selector Nothing receiver arguments = fail (fault.NotUnderstood selector)
call_of callee selector (Primitive number) receiver arguments =
    and_then (rule_of number receiver arguments) (λ answer. primitive_value callee answer)
call_of callee selector (Method tree holder class_side) receiver arguments =
    callee.method tree holder class_side receiver arguments

-- a method that answers has a selector
abbrev pub IsCallable : Target → Type 0
IsCallable (Method tree holder class_side) = tree.selector ≡ Some (selector_of tree)
IsCallable target = Unit {0}

-- nothing answers the message, or no memory was found to say so
abbrev pub IsNotUnderstood : (selector : Text) → Stop → Type 0
IsNotUnderstood selector (stop.Fails (fault.NotUnderstood name)) = name ≡ selector
IsNotUnderstood selector stop.NoMemory = Unit {0}
IsNotUnderstood selector other = ⊥

-- The look-up ran, and leads to what answers by what it found.
abbrev pub LeadsTo : Run MadeBlock (Option Found) → Seen → Local MadeBlock → Result Target Stop
    → Seen → Type 0
LeadsTo program before local (Ok target) after =
    (found : Option Found) × (Ran program before local (Ok found) after local)
    × (target_for found ≡ target)
LeadsTo program before local (Err ended) after = Ran program before local (Err ended) after local

-- A message, with its arguments the last one first, after its unit: the look-up, and the method.
abbrev pub found_by : Callee → (selector : Text) → Frame → (receiver : Value)
    → (arguments : List Value) → ValueRun
found_by callee selector frame receiver arguments =
    and_then (find_method false frame receiver selector) (λ found.
    call_found callee selector found receiver (reverse arguments))

-- What answers the message of this instruction stands at this place: whatever the budget is, the
-- look-up finds what stands there, and changes nothing.
abbrev pub StandsAt : Instruction → (stack : List Value) → Frame → Seen → Local MadeBlock
    → (founds : List (Option Found)) → (place : ℕ) → Type 0
StandsAt (Send selector count) stack frame seen local founds place = (budget : Budget) → Ran
    (find_method false frame (get_or stack count Nil) selector) (with_budget budget seen) local
    (Ok (held_at founds place)) (with_budget budget seen) local
StandsAt other stack frame seen local founds place = ⊥

-- the same of a place that may be known
abbrev pub AnswersAt : Instruction → (stack : List Value) → Frame → Seen → Local MadeBlock
    → (founds : List (Option Found)) → (place : Option ℕ) → Type 0
AnswersAt one stack frame seen local founds None = Unit {0}
AnswersAt one stack frame seen local founds (Some place) =
    StandsAt one stack frame seen local founds place

-- A unit was taken, and this is what answers; or none was.
abbrev pub UnitThen : (answers : Target) → Seen → Result Target Stop → Seen → Type 0
UnitThen answers before (Ok target) after = Acted Tick before (Ok tt) after × (target ≡ answers)
UnitThen answers before (Err ended) after = Acted Tick before (Err ended) after

-- A program gives an answer and changes nothing; the answer stands above these values.
pub record Answered (program : ValueRun) (seen : Seen) (local : Local MadeBlock)
    (below left : List Value) : Type 0 where
  pub answer : Value
  pub ran : Ran program seen local (Ok answer) seen local
  pub stands : left ≡ answer ∷ below
