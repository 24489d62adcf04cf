-- What the functions that build bodies ask for.
use Rattle.std.proofs.Common.{◌≡◌, ◌<◌, ℕ, Bool, true, false, cond, List, [], ◌∷◌, ◌++◌, Some, is_some, get_or, Fits, w8, Ok, refl, sym, ap, subst, ◌∙◌, arith}
use Rattle.std.proofs.lemmas.Bool.{false≢true}
use Rattle.std.proofs.lemmas.List.Elements.{recursion_from_All}
use Rattle.gem_object.specs.rc_counter_bag.Bag.{IsBag}
use Rattle.gem_object.specs.rc_dict.Dict.{IsDict}
use Rattle.gem_object.specs.insertion_map.Pairs.{entry_of, with_pair}
use Rattle.gem_object.specs.contracts.value.ValueOrd.TheImpl as order
use Rattle.gem_object.specs.Order.{same_value}
use Rattle.gem_object.specs.declared.value.Value.{Value}
use Rattle.gem_object.specs.declared.object.Object.{Object}
use Rattle.gem_record.specs.Names.{AscendByName}
use Rattle.body_codec.specs.declared.fault.BodyRule.TheVariants as rule
use Rattle.body_codec.specs.Reading.{◌>>=◌, breaks, both_at, key_at, value_at, long_at, some_at}
use Rattle.body_codec.specs.ReadingBodies.{occurrences_at, sorted_pair_at, new_key_at, pair_at, changed_at}
use Rattle.body_codec.proofs.Takes.{IsBytes, bind_ok, guard_ok, ok_is}
use Rattle.body_codec.proofs.Equal.{same_order}
use Rattle.body_codec.proofs.ListReaders.{items_reads, sorted_pairs_reads}
use Rattle.body_codec.proofs.Readers.{objects_reads, names_ascend}

pub as_bytes : (bytes : List ℕ) → ((i : ℕ) → Fits w8 (get_or bytes i 0)) → IsBytes bytes
as_bytes bytes fits i = omega (arith, fits i)

pub bag_given : (bytes : List ℕ) (pairs : List (Value × ℕ)) (rest : List ℕ) → IsBytes bytes
    → long_at occurrences_at bytes ≡ Ok (pairs, rest) → IsBag order.ghosts.cmp pairs
bag_given bytes pairs rest fits e =
    let items = (items_reads.takes bytes pairs rest fits e).1 in
    subst (λ cmp. IsBag cmp pairs) (sym same_order) (record {
      ascends = items.ascend;
      occur = recursion_from_All (λ pair. 0 < pair.1) pairs (λ k d below. (items.occur k d below).0);
    })

pub dict_given : (bytes : List ℕ) (pairs : List (Value × Value)) (rest : List ℕ) → IsBytes bytes
    → long_at sorted_pair_at bytes ≡ Ok (pairs, rest) → IsDict order.ghosts.cmp pairs
dict_given bytes pairs rest fits e =
    subst (λ cmp. IsDict cmp pairs) (sym same_order) (sorted_pairs_reads.takes bytes pairs rest fits e).1.ascend

pub names_given : (number : ℕ) (bytes : List ℕ) (objects : List (ℕ × Object)) (rest : List ℕ) → IsBytes bytes
    → some_at (changed_at number) bytes ≡ Ok (objects, rest) → AscendByName objects
names_given number bytes objects rest fits e =
    names_ascend number objects ((objects_reads number).takes bytes objects rest fits e).1.listed.each

-- a new key's pair comes last
pushed_new : {K T : Type 0} (eq : K → K → Bool) (key : K) (value : T) (pairs : List (K × T))
    → is_some (entry_of eq key pairs) ≡ false → with_pair eq key value pairs ≡ pairs ++ (key, value) ∷ []
pushed_new eq key value [] new = refl
pushed_new {K = K} {T = T} eq key value (pair ∷ rest) new = by (eq key pair.0) new (pushed_new eq key value rest) where
  by : (b : Bool) → is_some (cond b (Some pair.1) (entry_of eq key rest)) ≡ false
      → (is_some (entry_of eq key rest) ≡ false → with_pair eq key value rest ≡ rest ++ (key, value) ∷ [])
      → cond b ((pair.0, value) ∷ rest) (pair ∷ with_pair eq key value rest) ≡ pair ∷ (rest ++ (key, value) ∷ [])
  by true new more = absurd (false≢true (sym new))
  by false new more = ap (λ (l : List (K × T)). pair ∷ l) (more new)

pub pair_new : (before : List (Value × Value)) (bytes : List ℕ) (key value : Value) (rest : List ℕ)
    → pair_at before bytes ≡ Ok ((key, value), rest)
    → with_pair same_value key value before ≡ before ++ (key, value) ∷ []
unfolding pair_at both_at new_key_at
pair_new before bytes key value rest e =
    let one = bind_ok (new_key_at before bytes)
    (λ one. value_at one.1 >>= (λ other. Ok ((one.0, other.0), other.1))) ((key, value), rest) e in
    let other = bind_ok (value_at one.0.1) (λ other. Ok ((one.0.0, other.0), other.1)) ((key, value), rest) one.2 in
    let is = ok_is ((one.0.0, other.0.0), other.0.1) ((key, value), rest) other.2 in
    let same : one.0.0 ≡ key = ap (λ (p : (Value × Value) × List ℕ). p.0.0) is in
    let read = bind_ok (key_at 6 bytes)
    (λ key. cond (is_some (entry_of same_value key.0 before)) (breaks bytes rule.Order) (Ok key)) one.0 one.1 in
    let g = guard_ok (is_some (entry_of same_value read.0.0 before)) _ (Ok read.0) one.0 read.2 in
    let key_is : read.0.0 ≡ one.0.0 = ap (λ (p : Value × List ℕ). p.0) (ok_is read.0 one.0 g.1) in
    pushed_new same_value key value before
    (subst (λ k. is_some (entry_of same_value k before) ≡ false) (key_is ∙ same) g.0)
