-- What the rows of the table say.
use Rattle.std.specs.Prelude.{ℕ, List, map}
use Rattle.gem_object.specs.declared.body.Method.{Method}
use Rattle.gem_object.specs.declared.object.Object.{Object}
use Rattle.gem_object.specs.declared.value.Value.{Value}
use Rattle.gem_sound.specs.Kernel.{KernelClass}
use Rattle.kernel_image.specs.declared.table.CodeRow.{CodeRow}
use Rattle.kernel_image.specs.declared.table.CodeRow.TheVariants.{Source, Primitive}
use Rattle.kernel_image.specs.declared.table.MethodRow.{MethodRow}
use Rattle.kernel_image.specs.declared.table.ClassRow.{ClassRow}
use Rattle.kernel_image.specs.Methods.{source, primitive}
use Rattle.kernel_image.specs.declared.build.GlobalRow.{GlobalRow}
use Rattle.kernel_image.specs.Objects.{class_object, entry}

-- the method of a row
abbrev method_with : List ℕ → CodeRow → Method
method_with selector (Source text) = source selector text.now
method_with selector (Primitive number) = primitive selector number

abbrev pub method_of_row : MethodRow → Method
method_of_row row = method_with row.selector.now row.code

-- the methods of rows
abbrev pub methods_of_rows : List MethodRow → List Method
methods_of_rows rows = map method_of_row rows

-- the superclass and the kind of a row
abbrev pub kernel_class_of : ClassRow → KernelClass
kernel_class_of row = record { superclass = row.superclass; kind = row.kind }

-- the class of a row
abbrev pub class_of_row : ClassRow → Object
class_of_row row = class_object row.name.now
    (kernel_class_of row)
    (record {
      methods = methods_of_rows row.methods.now;
      class_methods = methods_of_rows row.class_methods.now;
    })

abbrev pub names_of_rows : List ClassRow → List (List ℕ)
names_of_rows rows = map (λ row. row.name.now) rows

-- the entry of a row
abbrev pub entry_of_row : GlobalRow → Value × Value
entry_of_row row = entry row.name.now row.counter
