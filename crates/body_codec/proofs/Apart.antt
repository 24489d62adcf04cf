-- Objects and effects that are spelled in front of the same bytes are the same.
use Rattle.std.proofs.Common.{◌≡◌, ℕ, ℤ, ◌^◌, ◌<◌, List, [], ◌∷◌, ◌++◌, Option, Some, None, length, refl, sym, ap, ap₂, ◌∙◌, arith}
use Rattle.std.specs.Option.{IfSome}
use Rattle.gem_object.specs.texts.Bytes.{Bytes as Text}
use Rattle.gem_object.specs.seg_rights.declared.right.Right.{Right}
use Rattle.gem_object.specs.seg_rights.declared.right.Right.TheVariants as right
use Rattle.gem_object.specs.seg_rights.declared.rights.Rights.{Rights}
use Rattle.gem_object.specs.seg_rights.Right.{rank_of}
use Rattle.gem_object.specs.rc_queue.Contents.{Contents}
use Rattle.gem_object.specs.Order.{tag_of}
use Rattle.gem_object.specs.Kinds.{kind_number}
use Rattle.gem_object.specs.declared.kind.Kind.{Kind}
use Rattle.gem_object.specs.declared.kind.Kind.TheVariants as kind
use Rattle.gem_object.specs.Spelling.{IsOid, IsText, IsStorable, AreStorable, IsStorablePair, IsCode, IsMethod, AreMethods, IsClass, IsSegment, IsUser, IsItems, IsSpelledBody}
use Rattle.gem_object.specs.declared.value.Value.{Value}
use Rattle.gem_object.specs.declared.value.Value.TheVariants.{Nil, False, True, Int, Char, Sym, Ref, Block}
use Rattle.gem_object.specs.declared.body.MethodCode.{MethodCode}
use Rattle.gem_object.specs.declared.body.MethodCode.TheVariants.{Source, Primitive}
use Rattle.gem_object.specs.declared.body.Method.{Method}
use Rattle.gem_object.specs.declared.body.ClassBody.{ClassBody}
use Rattle.gem_object.specs.declared.body.UserBody.{UserBody}
use Rattle.gem_object.specs.declared.body.Body.{Body}
use Rattle.gem_object.specs.declared.body.Body.TheVariants.{Plain, Bytes, Dict, Class, Segment, User, Counter, Bag, RcDict, Queue}
use Rattle.gem_object.specs.declared.object.Object.{Object}
use Rattle.gem_object.specs.rc_counter_bag.declared.counter.Counter.{Counter as CounterOf}
use Rattle.gem_record.specs.declared.effect.Effect.{Effect}
use Rattle.body_codec.specs.Spelled.{two_bytes, four_bytes, eight_bytes, spelled_text, spelled_content, spelled_value, spelled_pair, spelled_occurrences, spelled_grant, spelled_code, spelled_method, short_list, long_list, spelled_superclass, spelled_members, spelled_class, spelled_segment, spelled_user, body_tag, spelled_fields, spelled_body, spelled_object, spelled_changed, spelled_effect}
use Rattle.body_codec.specs.Stored.{TellsApart, IsStored, IsStoredAt, IsStoredEffect}
use Rattle.body_codec.proofs.Fields.{heads, first_part, IsBelow, two_apart, four_apart, eight_apart, integer_apart, counted, AreShort, AreLong, short_apart, long_apart}

name_apart : TellsApart IsOid eight_bytes
name_apart m n rest more p q e = eight_apart m n rest more (omega (arith, p)) (omega (arith, q)) e

text_apart : TellsApart IsText spelled_text
text_apart a b rest more p q e = counted (2 ^ 16) two_bytes two_apart a b rest more
    (omega (arith, p.short)) (omega (arith, q.short)) e

-- bytes behind their number, fewer than 2^32
bytes_apart : TellsApart (λ (bytes : List ℕ). length bytes < 2 ^ 32)
    (λ (bytes : List ℕ). four_bytes (length bytes) ++ bytes)
bytes_apart a b rest more p q e = counted (2 ^ 32) four_bytes four_apart a b rest more p q e

pub tagged : (value : Value) (rest : List ℕ) → IsStorable value
    → spelled_value value ++ rest ≡ tag_of value ∷ (spelled_content value ++ rest)
tagged Nil rest stored = refl
tagged False rest stored = refl
tagged True rest stored = refl
tagged (Int number) rest stored = refl
tagged (Char code) rest stored = refl
tagged (Sym name) rest stored = refl
tagged (Ref oid) rest stored = refl
tagged (Block block) rest stored = absurd stored

contents_apart : (x y : Value) (rest more : List ℕ) → IsStorable x → IsStorable y
    → tag_of x ≡ tag_of y → spelled_content x ++ rest ≡ spelled_content y ++ more
    → (x ≡ y) × (rest ≡ more)
contents_apart Nil Nil rest more p q tag e = (refl, e)
contents_apart False False rest more p q tag e = (refl, e)
contents_apart True True rest more p q tag e = (refl, e)
contents_apart (Int m) (Int n) rest more p q tag e =
    let parts = integer_apart m n rest more p q e in
    (ap Int parts.0, parts.1)
contents_apart (Char m) (Char n) rest more p q tag e =
    let parts = heads e in
    (ap Char parts.0, parts.1)
contents_apart (Sym a) (Sym b) rest more p q tag e =
    let parts = text_apart a b rest more p q e in
    (ap Sym parts.0, parts.1)
contents_apart (Ref m) (Ref n) rest more p q tag e =
    let parts = name_apart m n rest more p q e in
    (ap Ref parts.0, parts.1)
contents_apart (Block a) (Block b) rest more p q tag e = absurd p
contents_apart _ _ rest more p q tag e = absurd (omega (arith, tag))

value_apart : TellsApart IsStorable spelled_value
value_apart x y rest more p q e =
    let parts = heads (sym (tagged x rest p) ∙ e ∙ tagged y more q) in
    contents_apart x y rest more p q parts.0 parts.1

pair_apart : TellsApart IsStorablePair spelled_pair
pair_apart x y rest more p q e =
    let keys = first_part IsStorable spelled_value value_apart x.0 y.0
    (spelled_value x.1) (spelled_value y.1) rest more p.0 q.0 e in
    let values = value_apart x.1 y.1 rest more p.1 q.1 keys.1 in
    (ap₂ (λ (k v : Value). (k, v)) keys.0 values.0, values.1)

record IsOccurring (pair : Value × ℕ) : Type 0 where
  pub value : IsStorable pair.0
  pub below : pair.1 < 2 ^ 64

occurrences_apart : TellsApart IsOccurring spelled_occurrences
occurrences_apart x y rest more p q e =
    let keys = first_part IsStorable spelled_value value_apart x.0 y.0
    (eight_bytes x.1) (eight_bytes y.1) rest more p.value q.value e in
    let counts = eight_apart x.1 y.1 rest more p.below q.below keys.1 in
    (ap₂ (λ (v : Value) (n : ℕ). (v, n)) keys.0 counts.0, counts.1)

right_is : (r s : Right) → rank_of r ≡ rank_of s → r ≡ s
right_is right.None right.None e = refl
right_is right.Read right.Read e = refl
right_is right.Write right.Write e = refl
right_is _ _ e = absurd (omega (arith, e))

grant_apart : TellsApart (λ (grant : Text × Right). IsText grant.0) spelled_grant
grant_apart x y rest more p q e =
    let names = first_part IsText spelled_text text_apart x.0 y.0
    (rank_of x.1 ∷ []) (rank_of y.1 ∷ []) rest more p q e in
    let rights = heads names.1 in
    (ap₂ (λ (t : Text) (r : Right). (t, r)) names.0 (right_is x.1 y.1 rights.0), rights.1)

code_apart : TellsApart IsCode spelled_code
code_apart (Source a) (Source b) rest more p q e =
    let parts = bytes_apart a b rest more p.count q.count (heads e).1 in
    (ap Source parts.0, parts.1)
code_apart (Primitive m) (Primitive n) rest more p q e =
    let parts = heads (heads e).1 in
    (ap Primitive parts.0, parts.1)
code_apart (Source a) (Primitive n) rest more p q e = absurd (omega (arith, (heads e).0))
code_apart (Primitive m) (Source b) rest more p q e = absurd (omega (arith, (heads e).0))

method_apart : TellsApart IsMethod spelled_method
method_apart x y rest more p q e =
    let selectors = first_part IsText spelled_text text_apart x.selector y.selector
    (spelled_code x.code) (spelled_code y.code) rest more p.0 q.0 e in
    let codes = code_apart x.code y.code rest more p.1 q.1 selectors.1 in
    (ap₂ (λ (t : Text) (c : MethodCode). record { selector = t; code = c }) selectors.0 codes.0, codes.1)

methods_apart : TellsApart AreMethods (short_list spelled_method)
methods_apart x y rest more p q e = short_apart IsMethod spelled_method method_apart x y rest more
    (record { count = p.count; each = p.each }) (record { count = q.count; each = q.each }) e

kind_is : (k l : Kind) → kind_number k ≡ kind_number l → k ≡ l
kind_is kind.None kind.None e = refl
kind_is kind.Plain kind.Plain e = refl
kind_is kind.Indexed kind.Indexed e = refl
kind_is kind.Bytes kind.Bytes e = refl
kind_is kind.Dict kind.Dict e = refl
kind_is kind.Segment kind.Segment e = refl
kind_is kind.User kind.User e = refl
kind_is kind.Counter kind.Counter e = refl
kind_is kind.Bag kind.Bag e = refl
kind_is kind.RcDict kind.RcDict e = refl
kind_is kind.Queue kind.Queue e = refl
kind_is _ _ e = absurd (omega (arith, e))

abbrev IsSuperclass : Option ℕ → Type 0
IsSuperclass superclass = IfSome superclass (λ number. (0 < number) × IsOid number)

superclass_apart : TellsApart IsSuperclass spelled_superclass
superclass_apart None None rest more p q e =
    (refl, (name_apart 0 0 rest more (omega arith) (omega arith) e).1)
superclass_apart (Some m) (Some n) rest more p q e =
    let parts = name_apart m n rest more p.1 q.1 e in
    (ap (λ (k : ℕ). Some k) parts.0, parts.1)
superclass_apart None (Some n) rest more p q e =
    let parts = name_apart 0 n rest more (omega arith) q.1 e in
    absurd (omega (arith, parts.0, q.0))
superclass_apart (Some m) None rest more p q e =
    let parts = name_apart m 0 rest more p.1 (omega arith) e in
    absurd (omega (arith, parts.0, p.0))

both : {A B : Type 0} {a c : A} {b d : B} → a ≡ c → b ≡ d
    → ◌≡◌ {A = A × B} (a, b) (c, d)
both first second = ap₂ (λ x y. (x, y)) first second

-- the three lists of a class
record SameMembers (x y : ClassBody) (rest more : List ℕ) : Type 0 where
  pub names : x.names ≡ y.names
  pub methods : x.methods ≡ y.methods
  pub class_methods : x.class_methods ≡ y.class_methods
  pub behind : rest ≡ more

members_apart : (x y : ClassBody) (rest more : List ℕ) → IsClass x → IsClass y
    → spelled_members x ++ rest ≡ spelled_members y ++ more → SameMembers x y rest more
members_apart x y rest more p q e =
    let names = first_part (AreShort IsText spelled_text text_apart) (short_list spelled_text)
    (short_apart IsText spelled_text text_apart) x.names y.names
    (short_list spelled_method x.methods ++ short_list spelled_method x.class_methods)
    (short_list spelled_method y.methods ++ short_list spelled_method y.class_methods) rest more
    (record { count = p.names_count; each = p.names }) (record { count = q.names_count; each = q.names }) e in
    let methods = first_part AreMethods (short_list spelled_method) methods_apart x.methods y.methods
    (short_list spelled_method x.class_methods) (short_list spelled_method y.class_methods) rest more
    p.methods q.methods names.1 in
    let own = methods_apart x.class_methods y.class_methods rest more p.class_methods q.class_methods methods.1 in
    record { names = names.0; methods = methods.0; class_methods = own.0; behind = own.1 }

class_is : (x y : ClassBody) → x.name ≡ y.name → x.superclass ≡ y.superclass → x.kind ≡ y.kind
    → x.names ≡ y.names → x.methods ≡ y.methods → x.class_methods ≡ y.class_methods → x ≡ y
class_is x y name superclass kind names methods own =
    ap (λ (p : (Text × Option ℕ) × ((Kind × List Text) × (List Method × List Method))). record {
      name = p.0.0;
      superclass = p.0.1;
      kind = p.1.0.0;
      names = p.1.0.1;
      methods = p.1.1.0;
      class_methods = p.1.1.1;
    }) (both (both name superclass) (both (both kind names) (both methods own)))

class_apart : TellsApart IsClass spelled_class
class_apart x y rest more p q e =
    let name = first_part IsText spelled_text text_apart x.name y.name
    (spelled_superclass x.superclass ++ (kind_number x.kind ∷ spelled_members x))
    (spelled_superclass y.superclass ++ (kind_number y.kind ∷ spelled_members y)) rest more
    p.name q.name e in
    let superclass = first_part IsSuperclass spelled_superclass superclass_apart x.superclass y.superclass
    (kind_number x.kind ∷ spelled_members x) (kind_number y.kind ∷ spelled_members y) rest more
    p.superclass q.superclass name.1 in
    let kinds = heads superclass.1 in
    let members = members_apart x y rest more p q kinds.1 in (
      class_is x y name.0 superclass.0 (kind_is x.kind y.kind kinds.0) members.names members.methods members.class_methods,
      members.behind,
    )

rights_is : (x y : Rights Text) → x.owner ≡ y.owner → x.owner_right ≡ y.owner_right
    → x.groups ≡ y.groups → x.world_right ≡ y.world_right → x ≡ y
rights_is x y owner owner_right groups world_right =
    ap (λ (p : (ℕ × Right) × (List (Text × Right) × Right)). record {
      owner = p.0.0;
      owner_right = p.0.1;
      groups = p.1.0;
      world_right = p.1.1;
    }) (both (both owner owner_right) (both groups world_right))

segment_apart : TellsApart IsSegment spelled_segment
segment_apart x y rest more p q e =
    let owner = first_part IsOid eight_bytes name_apart x.owner y.owner
    (rank_of x.owner_right ∷ (short_list spelled_grant x.groups ++ (rank_of x.world_right ∷ [])))
    (rank_of y.owner_right ∷ (short_list spelled_grant y.groups ++ (rank_of y.world_right ∷ []))) rest more
    p.owner q.owner e in
    let owner_right = heads owner.1 in
    let groups = first_part (AreShort (λ (grant : Text × Right). IsText grant.0) spelled_grant grant_apart)
    (short_list spelled_grant) (short_apart (λ (grant : Text × Right). IsText grant.0) spelled_grant grant_apart)
    x.groups y.groups (rank_of x.world_right ∷ []) (rank_of y.world_right ∷ []) rest more
    (record { count = p.count; each = p.names }) (record { count = q.count; each = q.names }) owner_right.1 in
    let world = heads groups.1 in (
      rights_is x y owner.0 (right_is x.owner_right y.owner_right owner_right.0) groups.0
          (right_is x.world_right y.world_right world.0),
      world.1,
    )

user_is : (x y : UserBody) → x.name ≡ y.name → x.groups ≡ y.groups
    → x.default_segment ≡ y.default_segment → x.globals ≡ y.globals → x ≡ y
user_is x y name groups default_segment globals =
    ap (λ (p : (Text × List Text) × (ℕ × ℕ)). record {
      name = p.0.0;
      groups = p.0.1;
      default_segment = p.1.0;
      globals = p.1.1;
    }) (both (both name groups) (both default_segment globals))

user_apart : TellsApart IsUser spelled_user
user_apart x y rest more p q e =
    let name = first_part IsText spelled_text text_apart x.name y.name
    (short_list spelled_text x.groups ++ (eight_bytes x.default_segment ++ eight_bytes x.globals))
    (short_list spelled_text y.groups ++ (eight_bytes y.default_segment ++ eight_bytes y.globals)) rest more
    p.name q.name e in
    let groups = first_part (AreShort IsText spelled_text text_apart) (short_list spelled_text)
    (short_apart IsText spelled_text text_apart) x.groups y.groups
    (eight_bytes x.default_segment ++ eight_bytes x.globals)
    (eight_bytes y.default_segment ++ eight_bytes y.globals) rest more
    (record { count = p.count; each = p.groups }) (record { count = q.count; each = q.groups }) name.1 in
    let segment = first_part IsOid eight_bytes name_apart x.default_segment y.default_segment
    (eight_bytes x.globals) (eight_bytes y.globals) rest more p.default_segment q.default_segment groups.1 in
    let globals = name_apart x.globals y.globals rest more p.globals q.globals segment.1 in
    (user_is x y name.0 groups.0 segment.0 globals.0, globals.1)

values_apart : TellsApart AreStorable (long_list spelled_value)
values_apart x y rest more p q e = long_apart IsStorable spelled_value value_apart x y rest more
    (record { count = p.count; each = p.each }) (record { count = q.count; each = q.each }) e

pairs_apart : TellsApart (AreLong IsStorablePair spelled_pair pair_apart) (long_list spelled_pair)
pairs_apart = long_apart IsStorablePair spelled_pair pair_apart

items_apart : TellsApart IsItems (long_list spelled_occurrences)
items_apart x y rest more p q e = long_apart IsOccurring spelled_occurrences occurrences_apart x y rest more
    (record { count = p.count; each = λ k d below. record { value = p.each k d below; below = (p.occur k d below).1 } })
    (record { count = q.count; each = λ k d below. record { value = q.each k d below; below = (q.occur k d below).1 } }) e

queue_is : (x y : Contents Value) → x.removed ≡ y.removed → x.items ≡ y.items → x ≡ y
queue_is x y removed items =
    ap₂ (λ (n : ℕ) (l : List Value). record { removed = n; items = l }) removed items

counter_is : (x y : CounterOf) → x.value ≡ y.value → x ≡ y
counter_is x y value = ap (λ (z : ℤ). record { value = z }) value

fields_apart : (x y : Body) (rest more : List ℕ) → IsSpelledBody x → IsSpelledBody y
    → body_tag x ≡ body_tag y → spelled_fields x ++ rest ≡ spelled_fields y ++ more
    → (x ≡ y) × (rest ≡ more)
fields_apart (Plain a) (Plain b) rest more p q tag e =
    let parts = values_apart a b rest more p q e in
    (ap Plain parts.0, parts.1)
fields_apart (Bytes a) (Bytes b) rest more p q tag e =
    let parts = bytes_apart a b rest more p.0 q.0 e in
    (ap Bytes parts.0, parts.1)
fields_apart (Dict a) (Dict b) rest more p q tag e =
    let parts = pairs_apart a b rest more (record { count = p.count; each = p.each })
    (record { count = q.count; each = q.each }) e in
    (ap Dict parts.0, parts.1)
fields_apart (Class a) (Class b) rest more p q tag e =
    let parts = class_apart a b rest more p q e in
    (ap Class parts.0, parts.1)
fields_apart (Segment a) (Segment b) rest more p q tag e =
    let parts = segment_apart a b rest more p q e in
    (ap Segment parts.0, parts.1)
fields_apart (User a) (User b) rest more p q tag e =
    let parts = user_apart a b rest more p q e in
    (ap User parts.0, parts.1)
fields_apart (Counter a) (Counter b) rest more p q tag e =
    let parts = integer_apart a.value b.value rest more p q e in
    (ap Counter (counter_is a b parts.0), parts.1)
fields_apart (Bag a) (Bag b) rest more p q tag e =
    let parts = items_apart a b rest more p q e in
    (ap Bag parts.0, parts.1)
fields_apart (RcDict a) (RcDict b) rest more p q tag e =
    let parts = pairs_apart a b rest more (record { count = p.count; each = p.each })
    (record { count = q.count; each = q.each }) e in
    (ap RcDict parts.0, parts.1)
fields_apart (Queue a) (Queue b) rest more p q tag e =
    let removed = first_part (IsBelow (2 ^ 64)) eight_bytes eight_apart a.removed b.removed
    (long_list spelled_value a.items) (long_list spelled_value b.items) rest more p.0 q.0 e in
    let items = values_apart a.items b.items rest more p.1 q.1 removed.1 in
    (ap Queue (queue_is a b removed.0 items.0), items.1)
fields_apart _ _ rest more p q tag e = absurd (omega (arith, tag))

object_is : (x y : Object) → x.class ≡ y.class → x.segment ≡ y.segment → x.changed ≡ y.changed
    → x.body ≡ y.body → x ≡ y
object_is x y class segment changed body =
    ap (λ (p : (ℕ × ℕ) × (ℕ × Body)). record {
      class = p.0.0;
      segment = p.0.1;
      changed = p.1.0;
      body = p.1.1;
    }) (both (both class segment) (both changed body))

pub object_apart : (number : ℕ) → TellsApart (IsStored number) spelled_object
object_apart number x y rest more p q e =
    let class = first_part IsOid eight_bytes name_apart x.class y.class
    (eight_bytes x.segment ++ spelled_body x.body) (eight_bytes y.segment ++ spelled_body y.body) rest more
    p.spelled.class_name q.spelled.class_name e in
    let segment = first_part IsOid eight_bytes name_apart x.segment y.segment
    (spelled_body x.body) (spelled_body y.body) rest more
    p.spelled.segment_name q.spelled.segment_name class.1 in
    let tag = heads segment.1 in
    let body = fields_apart x.body y.body rest more p.spelled.body q.spelled.body tag.0 tag.1 in
    (object_is x y class.0 segment.0 (p.changed ∙ sym q.changed) body.0, body.1)

changed_apart : (number : ℕ) → TellsApart (IsStoredAt number) spelled_changed
changed_apart number x y rest more p q e =
    let names = first_part IsOid eight_bytes name_apart x.0 y.0
    (spelled_object x.1) (spelled_object y.1) rest more p.name q.name e in
    let objects = object_apart number x.1 y.1 rest more p.object q.object names.1 in
    (ap₂ (λ (n : ℕ) (o : Object). (n, o)) names.0 objects.0, objects.1)

effect_is : (x y : Effect) → x.number ≡ y.number → x.objects ≡ y.objects → x ≡ y
effect_is x y number objects =
    ap₂ (λ (n : ℕ) (l : List (ℕ × Object)). record { number = n; objects = l }) number objects

pub effect_apart : (number : ℕ) → TellsApart (IsStoredEffect number) spelled_effect
effect_apart number x y rest more p q e =
    let parts = long_apart (IsStoredAt number) spelled_changed (changed_apart number)
    x.objects y.objects rest more (record { count = p.count; each = p.each })
    (record { count = q.count; each = q.each }) e in
    (effect_is x y (p.number_is ∙ sym q.number_is) parts.0, parts.1)
