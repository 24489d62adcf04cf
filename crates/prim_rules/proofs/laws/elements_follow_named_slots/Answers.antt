use Rattle.std.specs.Prelude.{pos, length, [], ◌∷◌}
use Rattle.std.proofs.Common.{refl, ap, ◌∙◌}
use Rattle.gem_object.specs.declared.value.Value.TheVariants.{Nil, True, False, Int, Char, Block}
use Rattle.object_programs.specs.gem_world.Access.{a_read, a_write}
use Rattle.object_programs.specs.Run.{give, Outcome}
use Rattle.object_programs.specs.declared.fault.Fault.TheVariants as fault
use Rattle.prim_rules.specs.declared.answer.PrimitiveAnswer.{PrimitiveAnswer}
use Rattle.gem_object.specs.declared.body.Body.TheVariants.{Plain}
use Rattle.prim_rules.specs.Parts.{new_object}
use Rattle.prim_rules.specs.Sequences.{read_sequence, without_first, without_last, size_rule, element_rule, at_rule, put_rule, at_put_rule, without_rule, remove_rule, part_rule, copy_part_rule}
use Rattle.prim_rules.specs.Worked.{NoBlocks, int, after}
use Rattle.prim_rules.proofs.Performed.{goes_on, answers_give, answers_fail, answers_same}
use Rattle.prim_rules.proofs.Pairs.{the_pair, with_slots, pair_read, pair_written, pair_put, pair_copied, pair_made}
use Rattle.prim_rules.proofs.laws.elements_follow_named_slots.Goals as goal

pub returns-clause-size : goal.returns-clause-size
returns-clause-size c = λ name segment class setting state has.
    ap (λ (out : Outcome NoBlocks PrimitiveAnswer). out.end)
    (answers_give (size_rule name) setting state (after a_read name setting state) (int 2)
    (goes_on (read_sequence name) (λ sequence. give (Int (pos (length sequence.elements))))
    setting state (after a_read name setting state) the_pair
    (pair_read name segment class setting state has)))

pub returns-clause-at : goal.returns-clause-at
returns-clause-at c = λ name segment class setting state has.
    ap (λ (out : Outcome NoBlocks PrimitiveAnswer). out.end)
    (answers_give (at_rule name (int 2)) setting state (after a_read name setting state) False
    (goes_on (read_sequence name) (element_rule (int 2))
    setting state (after a_read name setting state) the_pair
    (pair_read name segment class setting state has)))

pub returns-clause-past : goal.returns-clause-past
returns-clause-past c = λ name segment class setting state has.
    ap (λ (out : Outcome NoBlocks PrimitiveAnswer). out.end)
    (answers_fail (at_rule name (int 3)) setting state (after a_read name setting state) fault.Index
    (goes_on (read_sequence name) (element_rule (int 3))
    setting state (after a_read name setting state) the_pair
    (pair_read name segment class setting state has)))

pub returns-clause-put_past : goal.returns-clause-put_past
returns-clause-put_past c = λ name segment class setting state has.
    answers_fail (at_put_rule name (int 3) Nil) setting state (after a_write name setting state)
    fault.Index (pair_written (put_rule name (int 3) Nil) name segment class setting state has)

pub returns-clause-first : goal.returns-clause-first
returns-clause-first c = λ name segment class setting state has.
    answers_give (remove_rule without_first name) setting state
    (with_slots name (Nil ∷ False ∷ []) setting state) True
    (pair_written (without_rule without_first name) name segment class setting state has
    ∙ pair_put name segment class (False ∷ []) True setting state refl)

pub returns-clause-last : goal.returns-clause-last
returns-clause-last c = λ name segment class setting state has.
    answers_give (remove_rule without_last name) setting state
    (with_slots name (Nil ∷ True ∷ []) setting state) False
    (pair_written (without_rule without_last name) name segment class setting state has
    ∙ pair_put name segment class (True ∷ []) False setting state refl)

pub returns-clause-put : goal.returns-clause-put
returns-clause-put c = λ name segment class setting state has.
    answers_give (at_put_rule name (int 1) (Char 97)) setting state
    (with_slots name (Nil ∷ Char 97 ∷ False ∷ []) setting state) (Char 97)
    (pair_written (put_rule name (int 1) (Char 97)) name segment class setting state has
    ∙ pair_put name segment class (Char 97 ∷ False ∷ []) (Char 97) setting state refl)

pub returns-clause-put_block : goal.returns-clause-put_block
returns-clause-put_block c = λ name segment class setting state has.
    ap (λ (out : Outcome NoBlocks PrimitiveAnswer). out.end)
    (answers_fail (at_put_rule name (int 3) (Block (record { number = 0; params = 0 }))) setting state
    (after a_write name setting state) fault.BlockStored
    (pair_written (put_rule name (int 3) (Block (record { number = 0; params = 0 }))) name segment
    class setting state has))

pub returns-clause-put_nowhere : goal.returns-clause-put_nowhere
returns-clause-put_nowhere c = λ name segment class setting state has.
    ap (λ (out : Outcome NoBlocks PrimitiveAnswer). out.end)
    (answers_fail (at_put_rule name Nil (Block (record { number = 0; params = 0 }))) setting state
    (after a_write name setting state) fault.ArgumentKind
    (pair_written (put_rule name Nil (Block (record { number = 0; params = 0 }))) name segment
    class setting state has))

pub returns-clause-copied : goal.returns-clause-copied
returns-clause-copied c = λ name segment class setting state has.
    answers_same (copy_part_rule name (int 2) (int 2))
    (new_object class (Plain (Nil ∷ False ∷ []))) setting state (after a_read name setting state)
    (pair_copied (λ of. part_rule of (int 2) (int 2)) name segment class setting state has
    ∙ pair_made name segment class (False ∷ []) setting state has)

pub returns-clause-copied_past : goal.returns-clause-copied_past
returns-clause-copied_past c = λ name segment class setting state has.
    ap (λ (out : Outcome NoBlocks PrimitiveAnswer). out.end)
    (answers_fail (copy_part_rule name (int 2) (int 3)) setting state
    (after a_read name setting state) fault.Index
    (pair_copied (λ of. part_rule of (int 2) (int 3)) name segment class setting state has))
