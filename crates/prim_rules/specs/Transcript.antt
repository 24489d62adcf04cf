-- The rules of the transcript.
use Rattle.std.specs.Prelude.{List, [], ◌∷◌}
use Rattle.gem_object.specs.declared.value.Value.{Value}
use Rattle.object_programs.specs.Atom.{Show}
use Rattle.object_programs.specs.Run.{Run, atom, and_then}
use Rattle.object_programs.specs.Programs.{need}
use Rattle.object_programs.specs.declared.fault.Fault.TheVariants as fault
use Rattle.prim_rules.specs.Parts.{slots_in, one_of, no_arguments}
use Rattle.prim_rules.specs.Texts.{text_of_argument}
use Rattle.prim_rules.specs.Receivers.{read_receiver, answer}
use Rattle.prim_rules.specs.declared.answer.PrimitiveAnswer.{PrimitiveAnswer}

module _ {B : Type 0} where
  -- 81 `show:`, which answers the receiver
  abbrev pub row_81 : Value → List Value → Run B PrimitiveAnswer
  row_81 receiver arguments =
      and_then (read_receiver slots_in receiver) (λ transcript.
      and_then (need fault.ArgumentKind (one_of arguments)) (λ value.
      and_then (text_of_argument value) (λ text.
      and_then (atom (Show text)) (λ shown.
      answer receiver))))

  -- 82 `cr`: an LF, which has the code 10; it answers the receiver
  abbrev pub row_82 : Value → List Value → Run B PrimitiveAnswer
  row_82 receiver arguments =
      and_then (read_receiver slots_in receiver) (λ transcript.
      and_then (no_arguments arguments) (λ none.
      and_then (atom (Show (10 ∷ []))) (λ shown.
      answer receiver)))
