-- What has a spelling refers to names of objects alone.
use Rattle.std.proofs.Common.{ℕ, List, [], ◌∷◌, Option, Some, None, ◌<◌}
use Rattle.std.specs.List.{All, cons_option}
use Rattle.std.specs.Option.{IfSome, option_to_list}
use Rattle.std.proofs.lemmas.List.Elements.{All-nil, All-cons, All-head, All-tail, All-append}
use Rattle.gem_object.specs.References.{reference_of, names_in, names_in_pairs, names_in_items, names_in_body, references_of}
use Rattle.gem_object.specs.Spelling.{IsOid, IsStorable, IsStorablePair, IsSpelledBody, IsSpelled}
use Rattle.gem_object.specs.declared.value.Value.{Value}
use Rattle.gem_object.specs.declared.value.Value.TheVariants.{Ref}
use Rattle.gem_object.specs.declared.body.Body.{Body}
use Rattle.gem_object.specs.declared.body.Body.TheVariants.{Plain, Bytes, Dict, Class, Segment, User, Counter, Bag, RcDict, Queue}
use Rattle.gem_object.specs.declared.object.Object.{Object}

-- one value's name before others
with_value : (value : Value) → IsStorable value → (names : List ℕ) → All IsOid names
    → All IsOid (cons_option (reference_of value) names)
with_value (Ref oid) is names all = All-cons IsOid oid names is all
with_value _ is names all = all

of_values : (values : List Value) → All IsStorable values → All IsOid (names_in values)
of_values [] all = All-nil IsOid
of_values (value ∷ values) all = with_value value (All-head IsStorable value values all)
    (names_in values) (of_values values (All-tail IsStorable value values all))

of_pair : (pair : Value × Value) → IsStorablePair pair
    → All IsOid (names_in (pair.0 ∷ pair.1 ∷ []))
of_pair pair is = with_value pair.0 is.0 (names_in (pair.1 ∷ []))
    (with_value pair.1 is.1 [] (All-nil IsOid))

of_pairs : (pairs : List (Value × Value)) → All IsStorablePair pairs
    → All IsOid (names_in_pairs pairs)
of_pairs [] all = All-nil IsOid
of_pairs (pair ∷ pairs) all = All-append IsOid
    (names_in (pair.0 ∷ pair.1 ∷ [])) (names_in_pairs pairs)
    (of_pair pair (All-head IsStorablePair pair pairs all))
    (of_pairs pairs (All-tail IsStorablePair pair pairs all))

of_items : (pairs : List (Value × ℕ)) → All (λ pair. IsStorable pair.0) pairs
    → All IsOid (names_in_items pairs)
of_items [] all = All-nil IsOid
of_items (pair ∷ pairs) all = with_value pair.0 (All-head (λ p. IsStorable p.0) pair pairs all)
    (names_in_items pairs) (of_items pairs (All-tail (λ p. IsStorable p.0) pair pairs all))

of_superclass : (superclass : Option ℕ) → IfSome superclass (λ number. (0 < number) × IsOid number)
    → All IsOid (option_to_list superclass)
of_superclass None is = All-nil IsOid
of_superclass (Some number) is = All-cons IsOid number [] is.1 (All-nil IsOid)

of_body : (body : Body) → IsSpelledBody body → All IsOid (names_in_body body)
of_body (Plain values) is = of_values values is.each
of_body (Bytes bytes) is = All-nil IsOid
of_body (Dict pairs) is = of_pairs pairs is.each
of_body (Class c) is = of_superclass c.superclass is.superclass
of_body (Segment rights) is = All-cons IsOid rights.owner [] is.owner (All-nil IsOid)
of_body (User user) is = All-cons IsOid user.default_segment (user.globals ∷ []) is.default_segment
    (All-cons IsOid user.globals [] is.globals (All-nil IsOid))
of_body (Counter counter) is = All-nil IsOid
of_body (Bag pairs) is = of_items pairs is.each
of_body (RcDict pairs) is = of_pairs pairs is.each
of_body (Queue queue) is = of_values queue.items is.1.each

pub all_names : (object : Object) → IsSpelled object → All IsOid (references_of object)
all_names object is = All-cons IsOid object.class (object.segment ∷ names_in_body object.body)
    is.class_name (All-cons IsOid object.segment (names_in_body object.body) is.segment_name
    (of_body object.body is.body))
