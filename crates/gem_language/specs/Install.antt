-- The source of a method is put into a class.
use Rattle.std.specs.Prelude.{ℕ, Bool, true, false, nat_le, length, List, [], ◌∷◌, is_some}
use Rattle.std.specs.Ordering.{nat_cmp, match_ordering}
use Rattle.std.specs.Cmp.Lexicographic.{slice_cmp}
use Rattle.gem_object.specs.texts.Bytes.{Bytes as Text}
use Rattle.gem_object.specs.texts.declared.limits.TheConstants.{SYMBOL_LIMIT}
use Rattle.gem_object.specs.References.{reference_of}
use Rattle.gem_object.specs.declared.value.Value.{Value}
use Rattle.gem_object.specs.declared.body.MethodCode.TheVariants.{Source}
use Rattle.gem_object.specs.declared.body.Method.{Method}
use Rattle.gem_object.specs.declared.body.ClassBody.{ClassBody}
use Rattle.gem_object.specs.declared.body.Body.TheVariants as body
use Rattle.object_programs.specs.Budget.{bytes_cost}
use Rattle.object_programs.specs.Run.{Run, give, and_then}
use Rattle.object_programs.specs.Programs.{need, check, read, write, known, replace_body}
use Rattle.object_programs.specs.declared.fault.Fault.TheVariants as fault
use Rattle.tree_meaning.specs.Place.{MadeBlock}
use Rattle.object_programs.specs.gem_sound.Parts.{class_of}
use Rattle.gem_language.specs.OutOfScope.{global_value}

-- The methods of a class, which ascend by selector, with this one: it takes the place of one with
-- its selector, or comes between those around it.
abbrev pub with_method : Method → List Method → List Method
with_method new [] = new ∷ []
with_method new (first ∷ rest) = match_ordering (slice_cmp nat_cmp new.selector first.selector)
    (new ∷ first ∷ rest)
    (new ∷ rest)
    (first ∷ with_method new rest)

-- the class with this method on this side
abbrev pub class_with : (class_side : Bool) → Method → ClassBody → ClassBody
class_with false new class = record class { methods = with_method new class.methods }
class_with true new class = record class { class_methods = with_method new class.class_methods }

-- The class object to which a value refers, by its name; E5 for any other value. Nothing that is
-- there is touched.
abbrev pub class_named : Value → Run MadeBlock ℕ
class_named value =
    and_then (need fault.ArgumentKind (reference_of value)) (λ name.
    and_then (known fault.ArgumentKind name) (λ fixed.
    and_then (check fault.ArgumentKind (is_some fixed.as_class)) (λ is_class.
    give name)))

-- A class gets a method: it is read (E10) and written (E11), the selector is a symbol's and the
-- class within the limits (E17), and the source takes a slot for each 8 bytes begun (E15).
abbrev pub put_method : (class_side : Bool) → Method → (source : Text) → (class : ℕ)
    → Run MadeBlock (Unit {0})
put_method class_side new source name =
    and_then (read name) (λ seen.
    and_then (write name) (λ object.
    and_then (need fault.ArgumentKind (class_of object.body)) (λ class.
    and_then (check fault.ObjectTooLarge (nat_le (length new.selector) SYMBOL_LIMIT)) (λ short.
    replace_body (bytes_cost (length source)) name object
    (body.Class (class_with class_side new class))))))

-- The source of a method with this selector is put into the class that a global names; E2 where
-- there is no such global.
unfoldable pub install : (class_side : Bool) → (class selector source : Text)
    → Run MadeBlock (Unit {0})
install class_side class selector source =
    and_then (global_value class) (λ value.
    and_then (class_named value) (λ name.
    put_method class_side (record { selector = selector; code = Source source }) source name))
