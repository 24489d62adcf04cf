-- What the tables of the kernel's objects say.
use Rattle.gem_sound.specs.Kernel.{KernelClass, KernelBody, a_class, a_dictionary, a_segment, a_user, no_slots}
use Rattle.image_check.specs.declared.kernel.KernelClass.{KernelClass as ClassRow}
use Rattle.image_check.specs.declared.kernel.KernelBody.{KernelBody as BodyRow}
use Rattle.image_check.specs.declared.kernel.KernelBody.TheVariants.{Class, Dictionary, Segment, User, NoSlots}

-- the class of a row
abbrev pub class_of : ClassRow → KernelClass
class_of row = record { superclass = row.superclass; kind = row.kind }

-- the body that is meant
abbrev pub body_of : BodyRow → KernelBody
body_of Class = a_class
body_of Dictionary = a_dictionary
body_of Segment = a_segment
body_of User = a_user
body_of NoSlots = no_slots
