-- What the rules without arguments say of their receivers, and which of them says it.
use Rattle.std.specs.Prelude.{Bool, nat_le, length, List, map}
use Rattle.gem_object.specs.declared.value.Value.{Value}
use Rattle.gem_object.specs.declared.value.Value.TheVariants.{Sym, Int, Ref}
use Rattle.object_programs.specs.declared.limits.TheConstants.{SLOTS_LIMIT}
use Rattle.prim_rules.specs.Segments.{right_symbol}
use Rattle.prim_rules.specs.Bags.{items_of}
use Rattle.prim_shared.specs.declared.receivers.ReceiverKind.{ReceiverKind}
use Rattle.prim_shared.specs.declared.receivers.ReceiverKind.TheVariants as kind
use Rattle.prim_shared.specs.declared.told.Fact.{Fact}
use Rattle.prim_shared.specs.declared.told.Fact.TheVariants as fact
use Rattle.prim_shared.specs.declared.told.Listing.{Listing}
use Rattle.prim_shared.specs.declared.told.Listing.TheVariants as listing
use Rattle.prim_shared.specs.Kinds.{HeldBy}

-- the kind of the receivers of which a fact is told
abbrev pub kind_told : Fact → ReceiverKind
kind_told fact.Owner = kind.Segment
kind_told fact.OwnerRight = kind.Segment
kind_told fact.WorldRight = kind.Segment
kind_told fact.UserName = kind.User
kind_told fact.DefaultSegment = kind.User
kind_told fact.Count = kind.Counter

-- the fact
abbrev pub said_by : (one : Fact) → HeldBy (kind_told one) → Value
said_by fact.Owner = λ rights. Ref rights.owner
said_by fact.OwnerRight = λ rights. right_symbol rights.owner_right
said_by fact.WorldRight = λ rights. right_symbol rights.world_right
said_by fact.UserName = λ user. Sym user.name
said_by fact.DefaultSegment = λ user. Ref user.default_segment
said_by fact.Count = Int

-- the kind of the receivers that are listed
abbrev pub kind_listed : Listing → ReceiverKind
kind_listed listing.Groups = kind.User
kind_listed listing.Items = kind.Bag
kind_listed listing.Keys = kind.SharedDictionary
kind_listed listing.Waiting = kind.Queue

-- the list
abbrev pub listed_by : (one : Listing) → HeldBy (kind_listed one) → List Value
listed_by listing.Groups = λ user. map Sym user.groups
listed_by listing.Items = items_of
listed_by listing.Keys = map (λ pair. pair.0)
listed_by listing.Waiting = λ queue. queue.items

-- whether an Array has slots enough for so many values
abbrev pub fits_array : List Value → Bool
fits_array values = nat_le (length values) SLOTS_LIMIT
