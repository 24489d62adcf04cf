use Rattle.std.proofs.Common.{ap, ◌∙◌, pos, codes, false, Some, None}
use Rattle.object_programs.specs.gem_object.declared.value.Value.{Value}
use Rattle.object_programs.specs.gem_object.declared.value.Value.TheVariants.{Int}
use Rattle.object_programs.specs.Atom.{Tick}
use Rattle.object_programs.specs.Run.{atom, and_then, perform}
use Rattle.tree_meaning.specs.Operands.{int_pair}
use Rattle.tree_meaning.specs.Loops.{count_between}
use Rattle.tree_meaning.specs.Meaning.{message, arguments_of, expression_value, closure_in_place}
use Rattle.tree_meaning.specs.Replies.{outside_of}
use Rattle.tree_meaning.specs.Reading.{a_block, one_argument, two_arguments, deed, unit_then}
use Rattle.tree_meaning.proofs.Deeds.{onward_same, unit_first}
use Rattle.tree_meaning.proofs.SpecialForms.{counts, repeats}
use Rattle.tree_meaning.proofs.Turns.{count_read}
use Rattle.tree_meaning.proofs.laws.counting_loops_turn.Goals as goal

pub returns-clause-begins : goal.returns-clause-begins
returns-clause-begins c replies setting place frame state receiver limit body is =
    let outside = outside_of replies in
    let arguments = arguments_of outside (two_arguments limit (a_block body)) in
    let one = perform (expression_value outside limit place frame) setting state in
    let loop = λ (last : Value). count_between (int_pair receiver last)
    (λ (number : Value). closure_in_place outside body place (Some number) frame) receiver in
    ap (λ form. perform (message outside form (codes "to:do:") arguments false receiver place frame) setting
    state) (counts limit body is)
    ∙ onward_same one.end one.state
    (λ last later. perform (and_then (atom Tick) (λ done. loop last)) setting later)
    (λ last. unit_then (deed setting (loop last)))
    (λ last. unit_first setting (loop last) one.state)

pub returns-clause-repeats : goal.returns-clause-repeats
returns-clause-repeats c replies setting place frame state receiver body is =
    let outside = outside_of replies in
    let arguments = arguments_of outside (one_argument (a_block body)) in
    let loop = count_between (int_pair (Int (pos 1)) receiver)
    (λ (number : Value). closure_in_place outside body place None frame) receiver in
    ap (λ form. perform (message outside form (codes "timesRepeat:") arguments false receiver place frame)
    setting state) (repeats body is)
    ∙ unit_first setting loop state

pub returns-clause-turns : goal.returns-clause-turns
returns-clause-turns c replies setting place frame state number limit body receiver =
    count_read setting limit
    (λ each. closure_in_place (outside_of replies) body place (Some each) frame) receiver number state
