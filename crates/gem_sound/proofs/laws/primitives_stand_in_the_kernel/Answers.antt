use Rattle.std.proofs.Common.{refl}
use Rattle.op_table.specs.declared.prims.Kind.TheVariants as receiver
use Rattle.gem_sound.specs.Kernel.{kernel_classes}
use Rattle.gem_sound.proofs.laws.primitives_stand_in_the_kernel.Goals as goal

pub returns-clause-classes : goal.returns-clause-classes
unfolding kernel_classes
returns-clause-classes c receiver.Any = refl
returns-clause-classes c receiver.Integer = refl
returns-clause-classes c receiver.Character = refl
returns-clause-classes c receiver.Block = refl
returns-clause-classes c receiver.Sequence = refl
returns-clause-classes c receiver.Ordered = refl
returns-clause-classes c receiver.Chars = refl
returns-clause-classes c receiver.Str = refl
returns-clause-classes c receiver.Class = refl
returns-clause-classes c receiver.Dictionary = refl
returns-clause-classes c receiver.Segment = refl
returns-clause-classes c receiver.User = refl
returns-clause-classes c receiver.UserClass = refl
returns-clause-classes c receiver.SystemClass = refl
returns-clause-classes c receiver.Transcript = refl
returns-clause-classes c receiver.Counter = refl
returns-clause-classes c receiver.Bag = refl
returns-clause-classes c receiver.RcDict = refl
returns-clause-classes c receiver.Queue = refl
