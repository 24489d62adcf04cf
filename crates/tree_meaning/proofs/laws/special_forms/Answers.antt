use Rattle.std.proofs.Common.{refl}
use Rattle.object_programs.specs.st_tree.Trees.{send}
use Rattle.tree_meaning.specs.Forms.{form_of}
use Rattle.tree_meaning.proofs.SpecialForms.{if_true, if_false, and_form, or_form, true_first, false_first, counts, repeats, while_true, while_false}
use Rattle.tree_meaning.proofs.laws.special_forms.Goals as goal

pub returns-clause-if_true : goal.returns-clause-if_true
returns-clause-if_true c = if_true

pub returns-clause-if_false : goal.returns-clause-if_false
returns-clause-if_false c = if_false

pub returns-clause-both : goal.returns-clause-both
returns-clause-both c = and_form

pub returns-clause-either : goal.returns-clause-either
returns-clause-either c = or_form

pub returns-clause-true_first : goal.returns-clause-true_first
returns-clause-true_first c = true_first

pub returns-clause-false_first : goal.returns-clause-false_first
returns-clause-false_first c = false_first

pub returns-clause-counting : goal.returns-clause-counting
returns-clause-counting c = counts

pub returns-clause-repeating : goal.returns-clause-repeating
returns-clause-repeating c = repeats

pub returns-clause-parentheses : goal.returns-clause-parentheses
unfolding form_of
returns-clause-parentheses c selector inner = refl

pub returns-clause-while_true : goal.returns-clause-while_true
returns-clause-while_true c = while_true

pub returns-clause-while_false : goal.returns-clause-while_false
returns-clause-while_false c = while_false

pub returns-clause-to_super : goal.returns-clause-to_super
returns-clause-to_super c replies setting place frame state receiver (send selector arguments) = refl
