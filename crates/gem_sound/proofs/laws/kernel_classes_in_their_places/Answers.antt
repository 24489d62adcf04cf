use Rattle.std.proofs.Common.{refl}
use Rattle.gem_sound.specs.Kernel.{kernel_classes, class_numbers, subclasses, of_kind}
use Rattle.gem_sound.proofs.laws.kernel_classes_in_their_places.Goals as goal

pub returns-clause-object : goal.returns-clause-object
unfolding subclasses class_numbers kernel_classes
returns-clause-object c = refl

pub returns-clause-boolean : goal.returns-clause-boolean
unfolding subclasses class_numbers kernel_classes
returns-clause-boolean c = refl

pub returns-clause-magnitude : goal.returns-clause-magnitude
unfolding subclasses class_numbers kernel_classes
returns-clause-magnitude c = refl

pub returns-clause-collection : goal.returns-clause-collection
unfolding subclasses class_numbers kernel_classes
returns-clause-collection c = refl

pub returns-clause-sequenceable : goal.returns-clause-sequenceable
unfolding subclasses class_numbers kernel_classes
returns-clause-sequenceable c = refl

pub returns-clause-dictionary : goal.returns-clause-dictionary
unfolding subclasses class_numbers kernel_classes
returns-clause-dictionary c = refl

pub returns-clause-plain : goal.returns-clause-plain
unfolding of_kind class_numbers kernel_classes
returns-clause-plain c = refl

pub returns-clause-indexed : goal.returns-clause-indexed
unfolding of_kind class_numbers kernel_classes
returns-clause-indexed c = refl

pub returns-clause-bytes : goal.returns-clause-bytes
unfolding of_kind class_numbers kernel_classes
returns-clause-bytes c = refl

pub returns-clause-dict : goal.returns-clause-dict
unfolding of_kind class_numbers kernel_classes
returns-clause-dict c = refl

pub returns-clause-shared : goal.returns-clause-shared
unfolding of_kind class_numbers kernel_classes
returns-clause-shared c = refl

pub returns-clause-segment : goal.returns-clause-segment
unfolding of_kind class_numbers kernel_classes
returns-clause-segment c = refl
