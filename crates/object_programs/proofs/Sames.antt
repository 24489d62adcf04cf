-- What the tests of fixed parts tell.
use Rattle.std.proofs.Common.{◌≡◌, refl, sym, ap, ℕ, true, ◌&&◌, nat_eq, bytes_eq, Option, Some, None, List}
use Rattle.std.specs.Cmp.Lexicographic.{pointwise}
use Rattle.std.proofs.lemmas.Bool.{false≢true, and_parts, eqb-true}
use Rattle.std.proofs.lemmas.Slice.Eq.{bytes_eq-Decides, slice_eq-Decides}
use Rattle.gem_object.specs.texts.Bytes.{Bytes as Text}
use Rattle.gem_object.specs.declared.kind.Kind.{Kind}
use Rattle.gem_object.specs.declared.kind.Kind.TheVariants as kind
use Rattle.object_programs.specs.Fixed.{BodyKind, PlainKind, BytesKind, DictKind, ClassKind, SegmentKind, UserKind, CounterKind, BagKind, RcDictKind, QueueKind, ClassPart, Fixed, same_body_kind, same_kind, same_number, same_part, same_fixed}

body_kind_is : (one other : BodyKind) → same_body_kind one other ≡ true → one ≡ other
body_kind_is PlainKind PlainKind holds = refl
body_kind_is BytesKind BytesKind holds = refl
body_kind_is DictKind DictKind holds = refl
body_kind_is ClassKind ClassKind holds = refl
body_kind_is SegmentKind SegmentKind holds = refl
body_kind_is UserKind UserKind holds = refl
body_kind_is CounterKind CounterKind holds = refl
body_kind_is BagKind BagKind holds = refl
body_kind_is RcDictKind RcDictKind holds = refl
body_kind_is QueueKind QueueKind holds = refl
body_kind_is _ _ holds = absurd (false≢true holds)

pub kind_is : (one other : Kind) → same_kind one other ≡ true → one ≡ other
kind_is kind.None kind.None holds = refl
kind_is kind.Plain kind.Plain holds = refl
kind_is kind.Indexed kind.Indexed holds = refl
kind_is kind.Bytes kind.Bytes holds = refl
kind_is kind.Dict kind.Dict holds = refl
kind_is kind.Segment kind.Segment holds = refl
kind_is kind.User kind.User holds = refl
kind_is kind.Counter kind.Counter holds = refl
kind_is kind.Bag kind.Bag holds = refl
kind_is kind.RcDict kind.RcDict holds = refl
kind_is kind.Queue kind.Queue holds = refl
kind_is _ _ holds = absurd (false≢true holds)

pub number_is : (one other : Option ℕ) → same_number one other ≡ true → one ≡ other
number_is None None holds = refl
number_is None (Some other) holds = absurd (false≢true holds)
number_is (Some one) None holds = absurd (false≢true holds)
number_is (Some one) (Some other) holds = ap Some (eqb-true one other holds)

names_are : (one other : List Text) → pointwise bytes_eq one other ≡ true → one ≡ other
names_are one other holds = (slice_eq-Decides bytes_eq-Decides one other true (sym holds)).0 refl

part_is : (one other : Option ClassPart) → same_part one other ≡ true → one ≡ other
part_is None None holds = refl
part_is None (Some other) holds = absurd (false≢true holds)
part_is (Some one) None holds = absurd (false≢true holds)
part_is (Some one) (Some other) holds =
    let all = and_parts (same_number one.superclass other.superclass && same_kind one.kind other.kind)
    (pointwise bytes_eq one.names other.names) holds in
    let first = and_parts (same_number one.superclass other.superclass) (same_kind one.kind other.kind) all.0 in
    let above = number_is one.superclass other.superclass first.0 in
    let kind = kind_is one.kind other.kind first.1 in
    let names = names_are one.names other.names all.1 in
    λ i. Some (record { superclass = above i; kind = kind i; names = names i })

pub fixed_is : (one other : Fixed) → same_fixed one other ≡ true → one ≡ other
unfolding same_fixed
fixed_is one other holds =
    let all = and_parts (nat_eq one.class other.class && same_body_kind one.kind other.kind)
    (same_part one.as_class other.as_class) holds in
    let first = and_parts (nat_eq one.class other.class) (same_body_kind one.kind other.kind) all.0 in
    let class = eqb-true one.class other.class first.0 in
    let body = body_kind_is one.kind other.kind first.1 in
    let part = part_is one.as_class other.as_class all.1 in
    λ i. record { class = class i; kind = body i; as_class = part i }
