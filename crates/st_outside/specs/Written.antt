-- A class that was written gets a method.
use Rattle.std.specs.Prelude.{ℕ, Bool, nat_le, length}
use Rattle.gem_object.specs.texts.Bytes.{Bytes as Text}
use Rattle.gem_object.specs.texts.declared.limits.TheConstants.{SYMBOL_LIMIT}
use Rattle.gem_object.specs.declared.body.Method.{Method}
use Rattle.gem_object.specs.declared.body.Body.TheVariants as body
use Rattle.gem_sound.specs.gem_image.Image.{Contents}
use Rattle.object_programs.specs.Budget.{bytes_cost}
use Rattle.object_programs.specs.Run.{Run, and_then}
use Rattle.object_programs.specs.Programs.{need, check, replace_body}
use Rattle.object_programs.specs.declared.fault.Fault.TheVariants as fault
use Rattle.gem_language.specs.tree_meaning.Place.{MadeBlock}
use Rattle.gem_sound.specs.Parts.{class_of}
use Rattle.gem_language.specs.Install.{class_with}

-- what the language does to a class once it was read and written
abbrev pub put_in_class : (class_side : Bool) → Method → (source : Text) → (name : ℕ) → Contents
    → Run MadeBlock (Unit {0})
put_in_class class_side new source name object =
    and_then (need fault.ArgumentKind (class_of object.body)) (λ class.
    and_then (check fault.ObjectTooLarge (nat_le (length new.selector) SYMBOL_LIMIT)) (λ short.
    replace_body (bytes_cost (length source)) name object
    (body.Class (class_with class_side new class))))
