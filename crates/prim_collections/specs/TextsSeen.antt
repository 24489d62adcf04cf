-- The texts of Strings and Symbols that are looked at where they lie.
use Rattle.std.specs.Prelude.{Option, None, Some, option_and_then, Result, Ok, Err}
use Rattle.gem_object.specs.texts.Bytes.{Bytes as Text}
use Rattle.gem_object.specs.declared.value.Value.{Value}
use Rattle.gem_object.specs.declared.value.Value.TheVariants.{Sym, Ref}
use Rattle.object_programs.specs.Run.{Run}
use Rattle.object_programs.specs.declared.fault.Fault.TheVariants as fault
use Rattle.prim_parts.specs.tree_meaning.Place.{MadeBlock}
use Rattle.prim_rules.specs.Parts.{bytes_in}
use Rattle.running_objects.specs.Seen.{Seen, object_at}
use Rattle.running_objects.specs.declared.stop.Stop.{Stop}
use Rattle.running_objects.specs.declared.stop.Stop.TheVariants as stop
use Rattle.prim_parts.specs.Does.{Does}
use Rattle.prim_collections.specs.Joins.{Shows}

-- the text that is seen of a value: that of a Symbol, and the bytes of an object that has some
abbrev pub text_seen : Value → Seen → Option Text
text_seen (Sym name) seen = Some name
text_seen (Ref name) seen = option_and_then (λ object. bytes_in object.body) (object_at name seen)
text_seen other seen = None

-- the text, or E5 where there is none
abbrev pub text_or_fault : Option Text → Result Text Stop
text_or_fault None = Err (stop.Fails fault.ArgumentKind)
text_or_fault (Some text) = Ok text

-- All was done that the program does which gives the text of this value: its text is the one that
-- is seen afterwards. Or the program ended before that.
abbrev pub Reads : Run MadeBlock Text → Value → Seen → Result (Unit {0}) Stop → Seen → Type 0
Reads program value before (Ok done) after =
    Does program before (text_or_fault (text_seen value after)) after × Shows before after
Reads program value before (Err ended) after = Does program before (Err ended) after
