use Rattle.std.specs.Prelude.{[], ◌∷◌, codes}
use Rattle.std.specs.Fmt.{digits}
use Rattle.std.proofs.Common.{refl, ap}
use Rattle.gem_object.specs.texts.Bytes.{Bytes as Text}
use Rattle.gem_object.specs.declared.value.Value.TheVariants.{Nil, Char, Sym, Ref}
use Rattle.object_programs.specs.gem_world.Access.{a_read}
use Rattle.object_programs.specs.Run.{Outcome}
use Rattle.prim_rules.specs.Texts.{is_symbol_token}
use Rattle.prim_rules.specs.Worked.{NoBlocks, after, minus, string_in, array_in}
use Rattle.prim_rules.proofs.Printed.{object_printed, not_printed, array_in_array}
use Rattle.prim_rules.proofs.laws.objects_are_read.Goals as goal
use Rattle.object_programs.specs.gem_sound.declared.names.TheConstants.{ARRAY_CLASS}

pub returns-clause-text : goal.returns-clause-text
returns-clause-text c = λ name segment setting state may.
    ap (λ (out : Outcome NoBlocks Text). out.end)
    (object_printed name (string_in segment (codes "it's")) (codes "'it''s'") setting state
    (after a_read name setting state) may
    refl)

pub returns-clause-array : goal.returns-clause-array
unfolding is_symbol_token digits
returns-clause-array c = λ name segment setting state may.
    ap (λ (out : Outcome NoBlocks Text). out.end)
    (object_printed name
    (array_in segment (minus 1 ∷ Char 97 ∷ Sym (codes "at:") ∷ Nil ∷ []))
    (codes "#(-1 $a #at: nil)") setting state
    (after a_read name setting state) may refl)

pub returns-clause-empty : goal.returns-clause-empty
returns-clause-empty c = λ name segment setting state may.
    ap (λ (out : Outcome NoBlocks Text). out.end)
    (object_printed name (array_in segment []) (codes "#()") setting state
    (after a_read name setting state) may refl)

pub returns-clause-unreadable : goal.returns-clause-unreadable
returns-clause-unreadable c = λ name setting state refused.
    ap (λ (out : Outcome NoBlocks Text). out.end) (not_printed name setting state refused)

pub returns-clause-nested : goal.returns-clause-nested
returns-clause-nested c = λ name inner segment setting state may known class.
    object_printed name (array_in segment (Ref inner ∷ [])) (codes "#(an Array)") setting state
    (after a_read ARRAY_CLASS setting
    (after a_read inner setting (after a_read name setting state))) may
    (array_in_array inner segment setting (after a_read name setting state) known class)
