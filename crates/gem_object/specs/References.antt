-- What a value, a body and an object refer to.
use Rattle.std.specs.Prelude.{ℕ, List, [], ◌∷◌, Option, Some, None}
use Rattle.std.specs.List.{filter_map, flat_map}
use Rattle.std.specs.Option.{option_to_list}
use Rattle.gem_object.specs.declared.value.Value.{Value}
use Rattle.gem_object.specs.declared.value.Value.TheVariants.{Ref}
use Rattle.gem_object.specs.declared.body.Body.{Body}
use Rattle.gem_object.specs.declared.body.Body.TheVariants.{Plain, Bytes, Dict, Class, Segment, User, Counter, Bag, RcDict, Queue}
use Rattle.gem_object.specs.declared.object.Object.{Object}

-- the name of the object that a value refers to
abbrev pub reference_of : Value → Option ℕ
reference_of (Ref oid) = Some oid
reference_of _ = None

-- the names that values refer to, in their order
abbrev pub names_in : List Value → List ℕ
names_in values = filter_map reference_of values

-- the names that pairs refer to: of each that of its key before that of its value
abbrev pub names_in_pairs : List (Value × Value) → List ℕ
names_in_pairs pairs = flat_map (λ pair. names_in (pair.0 ∷ pair.1 ∷ [])) pairs

-- the names that the items of a bag refer to
abbrev pub names_in_items : List (Value × ℕ) → List ℕ
names_in_items pairs = filter_map (λ pair. reference_of pair.0) pairs

-- the names that a body refers to: those in its values, the superclass of a class, the owner of a
-- segment, the segment and the globals of a user
abbrev pub names_in_body : Body → List ℕ
names_in_body (Plain values) = names_in values
names_in_body (Bytes _) = []
names_in_body (Dict pairs) = names_in_pairs pairs
names_in_body (Class c) = option_to_list c.superclass
names_in_body (Segment rights) = rights.owner ∷ []
names_in_body (User user) = user.default_segment ∷ user.globals ∷ []
names_in_body (Counter _) = []
names_in_body (Bag pairs) = names_in_items pairs
names_in_body (RcDict pairs) = names_in_pairs pairs
names_in_body (Queue queue) = names_in queue.items

-- the names that an object refers to: its class, its segment, and those in its body
abbrev pub references_of : Object → List ℕ
references_of object = object.class ∷ object.segment ∷ names_in_body object.body
