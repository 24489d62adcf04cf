-- The kinds of classes and of bodies.
use Rattle.std.specs.Prelude.{ℕ, Bool, true, false}
use Rattle.gem_object.specs.declared.kind.Kind.{Kind}
use Rattle.gem_object.specs.declared.kind.Kind.TheVariants as kind
use Rattle.gem_object.specs.declared.body.Body.{Body}
use Rattle.gem_object.specs.declared.body.Body.TheVariants as body

-- the number of a kind
abbrev pub kind_number : Kind → ℕ
kind_number kind.None = 0
kind_number kind.Plain = 1
kind_number kind.Indexed = 2
kind_number kind.Bytes = 3
kind_number kind.Dict = 4
kind_number kind.Segment = 5
kind_number kind.User = 6
kind_number kind.Counter = 7
kind_number kind.Bag = 8
kind_number kind.RcDict = 9
kind_number kind.Queue = 10

-- Whether instances of a class of this kind have such a body. Classes and the transcript are not
-- told by the kind of their classes, which is None.
abbrev pub fits : Kind → Body → Bool
fits kind.Plain (body.Plain _) = true
fits kind.Indexed (body.Plain _) = true
fits kind.Bytes (body.Bytes _) = true
fits kind.Dict (body.Dict _) = true
fits kind.Segment (body.Segment _) = true
fits kind.User (body.User _) = true
fits kind.Counter (body.Counter _) = true
fits kind.Bag (body.Bag _) = true
fits kind.RcDict (body.RcDict _) = true
fits kind.Queue (body.Queue _) = true
fits _ _ = false

-- whether an object of this body is a reduced-conflict one: its updates are merged
abbrev pub is_shared : Body → Bool
is_shared (body.Counter _) = true
is_shared (body.Bag _) = true
is_shared (body.RcDict _) = true
is_shared (body.Queue _) = true
is_shared _ = false
