-- How rules end that change a receiver, as programs over the object as it is then.
use Rattle.std.specs.Prelude.{ℕ}
use Rattle.prim_parts.specs.tree_meaning.Place.{MadeBlock}
use Rattle.gem_object.specs.Edits.{with_value_at}
use Rattle.gem_object.specs.declared.value.Value.{Value}
use Rattle.gem_sound.specs.gem_image.Image.{Contents}
use Rattle.object_programs.specs.Run.{Run, and_then}
use Rattle.object_programs.specs.Programs.{replace_body}
use Rattle.prim_rules.specs.Receivers.{answer}
use Rattle.prim_rules.specs.Dictionaries.{pair_growth}
use Rattle.prim_rules.specs.declared.answer.PrimitiveAnswer.{PrimitiveAnswer}

-- a value is put at a key, and is the answer
abbrev pub pair_put : (name : ℕ) → (key value : Value) → Contents → Run MadeBlock PrimitiveAnswer
pair_put name key value object =
    and_then (replace_body (pair_growth key object.body) name object
    (with_value_at key value object.body)) (λ replaced. answer value)
