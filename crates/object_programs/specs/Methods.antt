-- Which methods a class may have, as a test: I2 of sound images.
use Rattle.std.specs.Prelude.{ℕ, ◌^◌, Bool, true, false, ◌&&◌, nat_lt, bytes_eq, length, Option, None, Some, Result, Ok, Err}
use Rattle.std.specs.List.{list_all}
use Rattle.gem_object.specs.texts.Bytes.{Bytes as Text}
use Rattle.gem_sound.specs.st_tree.Trees.{Program}
use Rattle.gem_sound.specs.Grammar.{method}
use Rattle.gem_sound.specs.TreeOf.{tree_of}
use Rattle.gem_object.specs.declared.body.MethodCode.{MethodCode}
use Rattle.gem_object.specs.declared.body.MethodCode.TheVariants.{Source, Primitive}
use Rattle.gem_object.specs.declared.body.Method.{Method}
use Rattle.gem_object.specs.declared.body.Body.{Body}
use Rattle.gem_object.specs.declared.body.Body.TheVariants.{Class}
use Rattle.gem_sound.specs.Kernel.{may_stand}

-- whether a method's tree has this selector
abbrev pub has_selector : Text → Option Text → Bool
has_selector selector None = false
has_selector selector (Some other) = bytes_eq other selector

abbrev pub answers_to : {F : Type 0} → Text → Result Program F → Bool
answers_to selector (Ok program) = has_selector selector program.selector
answers_to selector (Err fault) = false

-- whether a source is the text of a method with this selector, of fewer than 2^24 bytes
unfoldable pub is_source_of : (selector source : Text) → Bool
is_source_of selector source =
    nat_lt (length source) (2 ^ 24) && answers_to selector (tree_of method source)

-- whether a method may stand in the class of this name, on this side
abbrev pub code_fits : (class : ℕ) (class_side : Bool) → (selector : Text) → MethodCode → Bool
code_fits class class_side selector (Source source) = is_source_of selector source
code_fits class class_side selector (Primitive number) =
    may_stand class class_side selector number

abbrev pub method_fits : (class : ℕ) (class_side : Bool) → Method → Bool
method_fits class class_side entry = code_fits class class_side entry.selector entry.code

-- whether all methods of a class may stand there, on both sides
abbrev pub methods_fit : (name : ℕ) → Body → Bool
methods_fit name (Class class) = list_all (method_fits name false) class.methods
    && list_all (method_fits name true) class.class_methods
methods_fit name _ = true
