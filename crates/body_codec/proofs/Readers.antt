-- Readers of bodies, objects and effects.
use Rattle.std.proofs.Common.{◌≡◌, ℕ, ◌≤◌, ◌<◌, ◌^◌, eqb, IsTrue, List, [], ◌∷◌, ◌++◌, length, Option, option_map, Ok, refl, sym, ap}
use Rattle.std.specs.Ordering.{nat_cmp}
use Rattle.std.specs.Int.{w64}
use Rattle.std.proofs.lemmas.Cmp.{nat_cmp_total}
use Rattle.std.proofs.lemmas.List.Elements.{All-from_recursion, recursion_from_All}
use Rattle.gem_object.specs.texts.Bytes.{Bytes as Text}
use Rattle.gem_object.specs.seg_rights.declared.right.Right.{Right}
use Rattle.gem_object.specs.seg_rights.Right.{rank_of}
use Rattle.gem_object.specs.rc_queue.Contents.{Contents}
use Rattle.gem_object.specs.Kinds.{kind_number}
use Rattle.gem_object.specs.declared.kind.Kind.{Kind}
use Rattle.gem_object.specs.Spelling.{IsOid, IsText, AreStorable, IsDictionary, AreMethods, IsClass, IsSegment, IsUser, IsItems, IsKeyDictionary, IsSpelledBody}
use Rattle.gem_object.specs.declared.value.Value.{Value}
use Rattle.gem_object.specs.declared.body.Method.{Method}
use Rattle.gem_object.specs.declared.body.Body.{Body}
use Rattle.gem_object.specs.declared.body.Body.TheVariants.{Plain, Bytes, Dict, Class, Segment, User, Counter, Bag, RcDict, Queue}
use Rattle.gem_object.specs.declared.object.Object.{Object}
use Rattle.gem_record.specs.Names.{AscendByName}
use Rattle.gem_record.specs.declared.effect.Effect.{Effect}
use Rattle.body_codec.specs.Stored.{IsStored, IsStoredAt, IsStoredEffect}
use Rattle.body_codec.specs.Spelled.{four_bytes, eight_bytes, integer_bytes, spelled_text, spelled_value, spelled_pair, spelled_occurrences, spelled_grant, spelled_method, short_list, long_list, spelled_superclass, spelled_class, spelled_segment, spelled_user, spelled_queue, spelled_body, spelled_object, spelled_changed, spelled_effect}
use Rattle.body_codec.specs.Reading.{◌&◌, Reader, made, number_at, byte_at, name_at, integer_at, text_at, bytes_at, value_at, last_of, is_above, above_at, short_at, long_at, some_at}
use Rattle.body_codec.specs.ReadingBodies.{kind_at, right_at, superclass_at, method_at, grant_at, group_at, occurrences_at, sorted_pair_at, pair_at, ClassFields, class_of, class_at, rights_of, segment_at, user_of, user_at, counter_of, queue_of, queue_at, fields_at, body_at, object_of, object_at, changed_at, effect_of, effect_at}
use Rattle.body_codec.proofs.Fields.{IsBelow, IsSmall}
use Rattle.body_codec.proofs.Takes.{IsBytes, Reads, IsWithin, IsLongText, wider, bind_within, cond_within, breaks_within, byte_within, eight_reads, name_reads, integer_reads, text_reads, bytes_reads}
use Rattle.body_codec.proofs.Tagged.{made_within, by_tag, no_result, IsTaken, content_taken}
use Rattle.body_codec.proofs.Combined.{both_reads, made_reads, above_reads}
use Rattle.body_codec.proofs.Lists.{AllAfter, IsSome, some_reads}
use Rattle.body_codec.proofs.InOrder.{all_hold, all_sorted, all_after}
use Rattle.body_codec.proofs.Parts.{named_reads, Anything, IsSuperclass, kind_reads, right_reads, superclass_reads}
use Rattle.body_codec.proofs.ListReaders.{values_reads, AreNames, names_reads, methods_reads, AreGrants, grants_reads, AreGroups, groups_reads, items_reads, sorted_pairs_reads, pairs_reads}

-- ---- classes

abbrev TwoLists : List Method × List Method → Type 0
TwoLists p = AreMethods p.0 × AreMethods p.1

abbrev two_spelled : List Method × List Method → List ℕ
two_spelled p = short_list spelled_method p.0 ++ short_list spelled_method p.1

two_lists : Reads TwoLists two_spelled (short_at method_at & short_at method_at)
two_lists = both_reads AreMethods AreMethods (short_list spelled_method) (short_list spelled_method) (short_at method_at) (short_at method_at)
    methods_reads methods_reads

abbrev Members : Type 0
Members = List Text × (List Method × List Method)

abbrev AreMembers : Members → Type 0
AreMembers p = AreNames p.0 × TwoLists p.1

abbrev members_spelled : Members → List ℕ
members_spelled p = short_list spelled_text p.0 ++ two_spelled p.1

abbrev members_at : Reader Members
members_at = short_at (λ _. text_at) & short_at method_at & short_at method_at

members_reads : Reads AreMembers members_spelled members_at
members_reads = both_reads AreNames TwoLists (short_list spelled_text) two_spelled (short_at (λ _. text_at)) (short_at method_at & short_at method_at)
    names_reads two_lists

abbrev kind_spelled : Kind → List ℕ
kind_spelled k = kind_number k ∷ []

abbrev AreKinds : Kind × Members → Type 0
AreKinds p = Anything p.0 × AreMembers p.1

abbrev kinds_spelled : Kind × Members → List ℕ
kinds_spelled p = kind_spelled p.0 ++ members_spelled p.1

kinds_reads : Reads AreKinds kinds_spelled (kind_at & members_at)
kinds_reads = both_reads Anything AreMembers kind_spelled members_spelled kind_at members_at kind_reads members_reads

abbrev AreBehind : Option ℕ × (Kind × Members) → Type 0
AreBehind p = IsSuperclass p.0 × AreKinds p.1

abbrev behind_spelled : Option ℕ × (Kind × Members) → List ℕ
behind_spelled p = spelled_superclass p.0 ++ kinds_spelled p.1

behind_reads : Reads AreBehind behind_spelled (superclass_at & kind_at & members_at)
behind_reads = both_reads IsSuperclass AreKinds spelled_superclass kinds_spelled superclass_at (kind_at & members_at)
    superclass_reads kinds_reads

abbrev AreClassFields : ClassFields → Type 0
AreClassFields p = IsText p.0 × AreBehind p.1

abbrev class_spelled : ClassFields → List ℕ
class_spelled p = spelled_text p.0 ++ behind_spelled p.1

class_fields : Reads AreClassFields class_spelled (text_at & superclass_at & kind_at & members_at)
class_fields = both_reads IsText AreBehind spelled_text behind_spelled text_at (superclass_at & kind_at & members_at)
    text_reads behind_reads

pub class_reads : Reads IsClass spelled_class class_at
unfolding class_at
class_reads = made_reads AreClassFields class_spelled (text_at & superclass_at & kind_at & members_at) IsClass spelled_class class_at class_of
    (λ c. (c.name, (c.superclass, (c.kind, (c.names, (c.methods, c.class_methods))))))
    (λ bytes. refl) (λ c is. refl) (λ p is. refl)
    (λ p is. record {
      name = is.0;
      superclass = is.1.0;
      names_count = is.1.1.1.0.count;
      names = is.1.1.1.0.each;
      methods = is.1.1.1.1.0;
      class_methods = is.1.1.1.1.1;
    })
    (λ c is. (is.name, (is.superclass, (tt, (record { count = is.names_count; each = is.names }, (is.methods, is.class_methods))))))
    class_fields

-- ---- segments and users

abbrev right_spelled : Right → List ℕ
right_spelled r = rank_of r ∷ []

abbrev AreGroupRights : List (Text × Right) × Right → Type 0
AreGroupRights p = AreGrants p.0 × Anything p.1

abbrev group_rights_spelled : List (Text × Right) × Right → List ℕ
group_rights_spelled p = short_list spelled_grant p.0 ++ right_spelled p.1

group_rights : Reads AreGroupRights group_rights_spelled (short_at grant_at & right_at)
group_rights = both_reads AreGrants Anything (short_list spelled_grant) right_spelled (short_at grant_at) right_at grants_reads right_reads

abbrev AreRights : Right × (List (Text × Right) × Right) → Type 0
AreRights p = Anything p.0 × AreGroupRights p.1

abbrev rights_spelled : Right × (List (Text × Right) × Right) → List ℕ
rights_spelled p = right_spelled p.0 ++ group_rights_spelled p.1

rights_reads : Reads AreRights rights_spelled (right_at & short_at grant_at & right_at)
rights_reads = both_reads Anything AreGroupRights right_spelled group_rights_spelled right_at (short_at grant_at & right_at) right_reads group_rights

abbrev AreSegmentFields : ℕ × (Right × (List (Text × Right) × Right)) → Type 0
AreSegmentFields p = IsOid p.0 × AreRights p.1

abbrev segment_spelled : ℕ × (Right × (List (Text × Right) × Right)) → List ℕ
segment_spelled p = eight_bytes p.0 ++ rights_spelled p.1

pub segment_reads : Reads IsSegment spelled_segment segment_at
unfolding segment_at
segment_reads = made_reads AreSegmentFields segment_spelled (name_at & right_at & short_at grant_at & right_at) IsSegment spelled_segment segment_at
    rights_of (λ s. (s.owner, (s.owner_right, (s.groups, s.world_right))))
    (λ bytes. refl) (λ s is. refl) (λ p is. refl)
    (λ p is. record {
      owner = is.0;
      count = is.1.1.0.count;
      names = is.1.1.0.names;
      ascend = is.1.1.0.ascend;
      given = is.1.1.0.given;
    })
    (λ s is. (is.owner, (tt, (record { count = is.count; names = is.names; ascend = is.ascend; given = is.given }, tt))))
    (both_reads IsOid AreRights eight_bytes rights_spelled name_at (right_at & short_at grant_at & right_at) name_reads rights_reads)

abbrev AreNamed : ℕ × ℕ → Type 0
AreNamed p = IsOid p.0 × IsOid p.1

abbrev named_spelled : ℕ × ℕ → List ℕ
named_spelled p = eight_bytes p.0 ++ eight_bytes p.1

named : Reads AreNamed named_spelled (name_at & name_at)
named = both_reads IsOid IsOid eight_bytes eight_bytes name_at name_at name_reads name_reads

abbrev AreGrouped : List Text × (ℕ × ℕ) → Type 0
AreGrouped p = AreGroups p.0 × AreNamed p.1

abbrev grouped_spelled : List Text × (ℕ × ℕ) → List ℕ
grouped_spelled p = short_list spelled_text p.0 ++ named_spelled p.1

grouped : Reads AreGrouped grouped_spelled (short_at group_at & name_at & name_at)
grouped = both_reads AreGroups AreNamed (short_list spelled_text) named_spelled (short_at group_at) (name_at & name_at) groups_reads named

abbrev AreUserFields : Text × (List Text × (ℕ × ℕ)) → Type 0
AreUserFields p = IsText p.0 × AreGrouped p.1

abbrev user_spelled : Text × (List Text × (ℕ × ℕ)) → List ℕ
user_spelled p = spelled_text p.0 ++ grouped_spelled p.1

pub user_reads : Reads IsUser spelled_user user_at
unfolding user_at
user_reads = made_reads AreUserFields user_spelled (text_at & short_at group_at & name_at & name_at) IsUser spelled_user user_at
    user_of (λ u. (u.name, (u.groups, (u.default_segment, u.globals))))
    (λ bytes. refl) (λ u is. refl) (λ p is. refl)
    (λ p is. record {
      name = is.0;
      count = is.1.0.count;
      groups = is.1.0.each;
      ascend = is.1.0.ascend;
      default_segment = is.1.1.0;
      globals = is.1.1.1;
    })
    (λ u is. (is.name, (record { count = is.count; each = is.groups; ascend = is.ascend }, (is.default_segment, is.globals))))
    (both_reads IsText AreGrouped spelled_text grouped_spelled text_at (short_at group_at & name_at & name_at) text_reads grouped)

abbrev IsQueue : Contents Value → Type 0
IsQueue queue = (queue.removed < 2 ^ 64) × AreStorable queue.items

pub queue_reads : Reads IsQueue spelled_queue queue_at
unfolding queue_at
queue_reads = made_reads (λ (p : ℕ × List Value). (p.0 < 2 ^ 64) × AreStorable p.1) (λ p. eight_bytes p.0 ++ long_list spelled_value p.1)
    (number_at w64 & long_at (λ _. value_at)) IsQueue spelled_queue queue_at
    queue_of (λ q. (q.removed, q.items)) (λ bytes. refl) (λ q is. refl) (λ p is. refl) (λ p is. is) (λ q is. is)
    (both_reads (IsBelow (2 ^ 64)) AreStorable eight_bytes (long_list spelled_value) (number_at w64) (long_at (λ _. value_at)) eight_reads values_reads)

-- ---- bodies

abbrev bytes_spelled : List ℕ → List ℕ
bytes_spelled bytes = four_bytes (length bytes) ++ bytes

body_again : (body : Body) (rest : List ℕ) → IsSpelledBody body → body_at (spelled_body body ++ rest) ≡ Ok (body, rest)
unfolding body_at byte_at fields_at
body_again (Plain values) rest is = ap (made Plain) (values_reads.again values rest is)
body_again (Bytes bytes) rest is = ap (made Bytes) (bytes_reads.again bytes rest (record { count = is.0; bytes = is.1 }))
body_again (Dict pairs) rest is = ap (made Dict) (pairs_reads.again pairs rest is)
body_again (Class c) rest is = ap (made Class) (class_reads.again c rest is)
body_again (Segment rights) rest is = ap (made Segment) (segment_reads.again rights rest is)
body_again (User user) rest is = ap (made User) (user_reads.again user rest is)
body_again (Counter counter) rest is = ap (made (λ value. Counter (counter_of value))) (integer_reads.again counter.value rest is)
body_again (Bag pairs) rest is = ap (made Bag) (items_reads.again pairs rest is)
body_again (RcDict pairs) rest is = ap (made RcDict) (sorted_pairs_reads.again pairs rest is)
body_again (Queue queue) rest is = ap (made Queue) (queue_reads.again queue rest is)

abbrev IsBody : List ℕ → Body × List ℕ → Type 0
IsBody bytes y = IsTaken IsSpelledBody spelled_body bytes y

behind_tag : (tag : ℕ) (more : List ℕ) (y : Body × List ℕ) → IsBytes (tag ∷ more)
    → fields_at tag (tag ∷ more) more ≡ Ok y → IsBody (tag ∷ more) y
unfolding fields_at
behind_tag tag more y fits e =
    by_tag tag 0 _ _ (Ok y) (content_taken IsSpelledBody spelled_body AreStorable (long_list spelled_value) (long_at (λ _. value_at)) values_reads Plain (λ x p. p) 0 (λ x. refl) tag more y fits) (λ n0.
    by_tag tag 1 _ _ (Ok y) (content_taken IsSpelledBody spelled_body IsLongText bytes_spelled bytes_at bytes_reads Bytes (λ x p. (p.count, p.bytes)) 1 (λ x. refl) tag more y fits) (λ n1.
    by_tag tag 2 _ _ (Ok y) (content_taken IsSpelledBody spelled_body IsDictionary (long_list spelled_pair) (long_at pair_at) pairs_reads Dict (λ x p. p) 2 (λ x. refl) tag more y fits) (λ n2.
    by_tag tag 3 _ _ (Ok y) (content_taken IsSpelledBody spelled_body IsClass spelled_class class_at class_reads Class (λ x p. p) 3 (λ x. refl) tag more y fits) (λ n3.
    by_tag tag 4 _ _ (Ok y) (content_taken IsSpelledBody spelled_body IsSegment spelled_segment segment_at segment_reads Segment (λ x p. p) 4 (λ x. refl) tag more y fits) (λ n4.
    by_tag tag 5 _ _ (Ok y) (content_taken IsSpelledBody spelled_body IsUser spelled_user user_at user_reads User (λ x p. p) 5 (λ x. refl) tag more y fits) (λ n5.
    by_tag tag 6 _ _ (Ok y) (content_taken IsSpelledBody spelled_body IsSmall integer_bytes integer_at integer_reads (λ value. Counter (counter_of value)) (λ x p. p) 6 (λ x. refl) tag more y fits) (λ n6.
    by_tag tag 7 _ _ (Ok y) (content_taken IsSpelledBody spelled_body IsItems (long_list spelled_occurrences) (long_at occurrences_at) items_reads Bag (λ x p. p) 7 (λ x. refl) tag more y fits) (λ n7.
    by_tag tag 8 _ _ (Ok y) (content_taken IsSpelledBody spelled_body IsKeyDictionary (long_list spelled_pair) (long_at sorted_pair_at) sorted_pairs_reads RcDict (λ x p. p) 8 (λ x. refl) tag more y fits) (λ n8.
    by_tag tag 9 _ _ (Ok y) (content_taken IsSpelledBody spelled_body IsQueue spelled_queue queue_at queue_reads Queue (λ x p. p) 9 (λ x. refl) tag more y fits)
    (no_result _ y) n8) n7) n6) n5) n4) n3) n2) n1) n0) e

fields_within : (tag : ℕ) (bytes more : List ℕ) → length more ≤ length bytes → IsWithin bytes (fields_at tag bytes more)
unfolding fields_at
fields_within tag bytes more le =
    cond_within bytes (eqb tag 0) _ _ (made_within Plain bytes _ (wider bytes more _ le (values_reads.within more))) (
    cond_within bytes (eqb tag 1) _ _ (made_within Bytes bytes _ (wider bytes more _ le (bytes_reads.within more))) (
    cond_within bytes (eqb tag 2) _ _ (made_within Dict bytes _ (wider bytes more _ le (pairs_reads.within more))) (
    cond_within bytes (eqb tag 3) _ _ (made_within Class bytes _ (wider bytes more _ le (class_reads.within more))) (
    cond_within bytes (eqb tag 4) _ _ (made_within Segment bytes _ (wider bytes more _ le (segment_reads.within more))) (
    cond_within bytes (eqb tag 5) _ _ (made_within User bytes _ (wider bytes more _ le (user_reads.within more))) (
    cond_within bytes (eqb tag 6) _ _ (made_within (λ value. Counter (counter_of value)) bytes _ (wider bytes more _ le (integer_reads.within more))) (
    cond_within bytes (eqb tag 7) _ _ (made_within Bag bytes _ (wider bytes more _ le (items_reads.within more))) (
    cond_within bytes (eqb tag 8) _ _ (made_within RcDict bytes _ (wider bytes more _ le (sorted_pairs_reads.within more))) (
    cond_within bytes (eqb tag 9) _ _ (made_within Queue bytes _ (wider bytes more _ le (queue_reads.within more)))
    (breaks_within bytes))))))))))

body_takes : (bytes : List ℕ) (body : Body) (rest : List ℕ) → IsBytes bytes
    → body_at bytes ≡ Ok (body, rest) → IsBody bytes (body, rest)
unfolding body_at byte_at
body_takes [] body rest fits e = no_result _ (body, rest) e
body_takes (tag ∷ more) body rest fits e = behind_tag tag more (body, rest) fits e

pub body_reads : Reads IsSpelledBody spelled_body body_at
unfolding body_at
body_reads = record {
  again = body_again;
  takes = body_takes;
  within = λ bytes. bind_within bytes (byte_at bytes) (λ tag. fields_at tag.0 bytes tag.1) (byte_within bytes)
      (λ x le. fields_within x.0 bytes x.1 le);
}

-- ---- objects

abbrev SegmentAndBody : ℕ × Body → Type 0
SegmentAndBody p = IsOid p.0 × IsSpelledBody p.1

abbrev segment_and_body : ℕ × Body → List ℕ
segment_and_body p = eight_bytes p.0 ++ spelled_body p.1

object_is : (number : ℕ) (object : Object) → object.changed ≡ number
    → object_of number (object.class, (object.segment, object.body)) ≡ object
object_is number object changed = ap (λ (n : ℕ). object_of n (object.class, (object.segment, object.body))) (sym changed)

pub object_reads : (number : ℕ) → Reads (IsStored number) spelled_object (object_at number)
unfolding object_at
object_reads number = made_reads (λ (p : ℕ × (ℕ × Body)). IsOid p.0 × SegmentAndBody p.1) (λ p. eight_bytes p.0 ++ segment_and_body p.1)
    (name_at & name_at & body_at) (IsStored number) spelled_object (object_at number)
    (object_of number) (λ o. (o.class, (o.segment, o.body)))
    (λ bytes. refl) (λ o is. object_is number o is.changed) (λ p is. refl)
    (λ p is. record { spelled = record { class_name = is.0; segment_name = is.1.0; body = is.1.1 }; changed = refl })
    (λ o is. (is.spelled.class_name, (is.spelled.segment_name, is.spelled.body)))
    (both_reads IsOid SegmentAndBody eight_bytes segment_and_body name_at (name_at & body_at) name_reads
    (both_reads IsOid IsSpelledBody eight_bytes spelled_body name_at body_at name_reads body_reads))

-- ---- effects

abbrev last_name : List (ℕ × Object) → Option ℕ
last_name before = option_map (λ changed. changed.0) (last_of before)

abbrev IsNextName : Option ℕ → ℕ → Type 0
IsNextName last name = IsOid name × IsTrue (is_above nat_cmp last name)

abbrev pub IsNextChanged : ℕ → List (ℕ × Object) → ℕ × Object → Type 0
IsNextChanged number before changed = IsNextName (last_name before) changed.0 × IsStored number changed.1

changed_reads : (number : ℕ) (before : List (ℕ × Object)) → Reads (IsNextChanged number before) spelled_changed (changed_at number before)
unfolding changed_at
changed_reads number before =
    let last = last_name before in
    named_reads (IsNextChanged number before) spelled_changed (above_at nat_cmp last name_at & object_at number) (changed_at number before)
    (λ bytes. refl)
    (both_reads (IsNextName last) (IsStored number) eight_bytes spelled_object (above_at nat_cmp last name_at) (object_at number)
    (above_reads IsOid eight_bytes name_at name_reads nat_cmp last) (object_reads number))

changed_is : (number : ℕ) (before : List (ℕ × Object)) (changed : ℕ × Object) → IsNextChanged number before changed
    → IsStoredAt number changed × IsTrue (is_above nat_cmp (last_name before) changed.0)
changed_is number before changed next = (record { name = next.0.0; object = next.1 }, next.0.1)

changed_from : (number : ℕ) (before : List (ℕ × Object)) (changed : ℕ × Object) → IsStoredAt number changed
    → IsTrue (is_above nat_cmp (last_name before) changed.0) → IsNextChanged number before changed
changed_from number before changed is above = ((is.name, above), is.object)

pub names_ascend : (number : ℕ) (objects : List (ℕ × Object)) → AllAfter (IsNextChanged number) [] objects
    → AscendByName objects
names_ascend number objects each = all_sorted (λ (changed : ℕ × Object). changed.0) nat_cmp nat_cmp_total
    (IsNextChanged number) (IsStoredAt number) (changed_is number) objects each

pub objects_reads : (number : ℕ) → Reads (IsSome (IsNextChanged number)) (long_list spelled_changed) (some_at (changed_at number))
objects_reads number = some_reads (IsNextChanged number) spelled_changed (changed_at number) (changed_reads number)

effect_is : (number : ℕ) (effect : Effect) → effect.number ≡ number → effect_of number effect.objects ≡ effect
effect_is number effect same = ap (λ (n : ℕ). effect_of n effect.objects) (sym same)

pub effect_reads : (number : ℕ) → Reads (IsStoredEffect number) spelled_effect (effect_at number)
unfolding effect_at
effect_reads number = made_reads (IsSome (IsNextChanged number)) (long_list spelled_changed) (some_at (changed_at number))
    (IsStoredEffect number) spelled_effect (effect_at number) (effect_of number) (λ effect. effect.objects)
    (λ bytes. refl) (λ effect is. effect_is number effect is.number_is) (λ p is. refl)
    (λ p is. record {
      number_is = refl;
      some = is.some;
      count = is.listed.count;
      each = All-from_recursion (IsStoredAt number) p (all_hold (λ (changed : ℕ × Object). changed.0) nat_cmp nat_cmp_total
          (IsNextChanged number) (IsStoredAt number) (changed_is number) [] p is.listed.each);
      ascend = names_ascend number p is.listed.each;
    })
    (λ effect is. record {
      some = is.some;
      listed = record {
        count = is.count;
        each = all_after (λ (changed : ℕ × Object). changed.0) nat_cmp nat_cmp_total (IsNextChanged number) (IsStoredAt number)
            (changed_from number) effect.objects is.ascend (recursion_from_All (IsStoredAt number) effect.objects is.each);
      };
    })
    (objects_reads number)
