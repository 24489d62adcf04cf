-- The rules for two texts, where the first one is known.
use Rattle.std.specs.Prelude.{◌++◌}
use Rattle.gem_object.specs.texts.Bytes.{Bytes as Text}
use Rattle.prim_parts.specs.tree_meaning.Place.{MadeBlock}
use Rattle.gem_object.specs.declared.value.Value.{Value}
use Rattle.object_programs.specs.Run.{Run, give, and_then}
use Rattle.prim_rules.specs.Parts.{truth}
use Rattle.prim_rules.specs.Texts.{text_of_argument, new_string}
use Rattle.prim_rules.specs.Strings.{is_before}

-- `,`
abbrev pub join_rule : Text → Value → Run MadeBlock Value
join_rule text argument =
    and_then (text_of_argument argument) (λ other. new_string (text ++ other))

-- `<`
abbrev pub before_rule : Text → Value → Run MadeBlock Value
before_rule text argument =
    and_then (text_of_argument argument) (λ other. give (truth (is_before text other)))
