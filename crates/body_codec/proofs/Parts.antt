-- Readers of the parts of bodies.
use Rattle.std.proofs.Common.{◌≡◌, ◌≢◌, ℕ, suc, ◌<◌, ◌^◌, Bool, true, false, cond, eqb, IsTrue, List, [], ◌∷◌, ◌++◌, length, Option, Some, None, option_map, is_some, Result, Ok, refl, sym, ap, subst, ◌∙◌, arith}
use Rattle.std.specs.Option.{IfSome}
use Rattle.std.proofs.lemmas.Bool.{eqb-true, false≢true}
use Rattle.std.proofs.lemmas.Bool.Decides.{nat_tests}
use Rattle.gem_object.specs.texts.Bytes.{Bytes as Text}
use Rattle.gem_object.specs.seg_rights.declared.right.Right.{Right}
use Rattle.gem_object.specs.seg_rights.declared.right.Right.TheVariants as right
use Rattle.gem_object.specs.seg_rights.Right.{rank_of}
use Rattle.gem_object.specs.insertion_map.Pairs.{entry_of}
use Rattle.gem_object.specs.Order.{tag_of, value_order, same_value}
use Rattle.gem_object.specs.Kinds.{kind_number}
use Rattle.gem_object.specs.declared.kind.Kind.{Kind}
use Rattle.gem_object.specs.declared.kind.Kind.TheVariants as kind
use Rattle.gem_object.specs.Spelling.{IsOid, IsText, IsStorable, IsCode, is_key}
use Rattle.gem_object.specs.declared.value.Value.{Value}
use Rattle.gem_object.specs.declared.value.Value.TheVariants.{Nil, False, True, Int, Char, Sym, Ref, Block}
use Rattle.gem_object.specs.declared.body.MethodCode.{MethodCode}
use Rattle.gem_object.specs.declared.body.MethodCode.TheVariants.{Source, Primitive}
use Rattle.gem_object.specs.declared.body.Method.{Method}
use Rattle.body_codec.specs.declared.fault.BodyRule.TheVariants as rule
use Rattle.body_codec.specs.declared.fault.Flaw.{Flaw}
use Rattle.body_codec.specs.Spelled.{four_bytes, eight_bytes, spelled_text, spelled_value, spelled_pair, spelled_occurrences, spelled_grant, spelled_code, spelled_method, spelled_superclass}
use Rattle.body_codec.specs.Reading.{◌&◌, Reader, breaks, made, byte_at, name_at, times_at, text_at, bytes_at, value_at, key_at, coded_at, last_of, is_above, above_at}
use Rattle.body_codec.specs.ReadingBodies.{text_order, kind_of, right_of, given_right_of, kind_at, right_at, given_right_at, superclass_of, superclass_at, code_of_tag, code_at, method_of, method_at, grant_at, group_at, occurrences_at, sorted_pair_at, new_key_at, pair_at}
use Rattle.body_codec.proofs.Takes.{IsBytes, Takes, Reads, IsWithin, IsTimes, IsLongText, wider, bind_within, cond_within, breaks_within, byte_within, bind_ok, guard_ok, ok_is, step, name_reads, text_reads, bytes_reads, times_reads}
use Rattle.body_codec.proofs.Tagged.{made_within, by_tag, no_result, content_taken}
use Rattle.body_codec.proofs.Values.{IsKeyUpTo, value_reads, key_reads}
use Rattle.body_codec.proofs.Combined.{both_reads, made_reads, coded_reads, above_reads}

-- the same reader by another name
pub named_reads : {A : Type 0} (P : A → Type 0) (spelled : A → List ℕ) (read whole : Reader A)
    → ((bytes : List ℕ) → whole bytes ≡ read bytes) → Reads P spelled read → Reads P spelled whole
named_reads P spelled read whole same reads = record {
  again = λ x rest is. same (spelled x ++ rest) ∙ reads.again x rest is;
  takes = λ bytes x rest fits e. reads.takes bytes x rest fits (sym (same bytes) ∙ e);
  within = λ bytes. subst (λ r. IsWithin bytes r) (sym (same bytes)) (reads.within bytes);
}

-- the same reader of things that are told in another way
pub told_reads : {A : Type 0} (P Q : A → Type 0) (spelled : A → List ℕ) (read : Reader A)
    → ((x : A) → P x → Q x) → ((x : A) → Q x → P x) → Reads P spelled read → Reads Q spelled read
told_reads P Q spelled read to from reads = record {
  again = λ x rest is. reads.again x rest (from x is);
  takes = λ bytes x rest fits e.
      let t = reads.takes bytes x rest fits e in
      (t.0, to x t.1);
  within = reads.within;
}

-- ---- kinds and rights

abbrev pub Anything : {A : Type 0} → A → Type 0
Anything x = Unit {0}

-- a byte's meaning in a chain of choices: the byte is the number of what it means
chain : {A G : Type 0} (n k : ℕ) (x y : A) (more : Option A) → (n ≡ k → x ≡ y → G) → (more ≡ Some y → G)
    → cond (eqb n k) (Some x) more ≡ Some y → G
chain {A = A} {G = G} n k x y more here later e = by (eqb n k) refl e where
  by : (b : Bool) → eqb n k ≡ b → cond b (Some x) more ≡ Some y → G
  by true is e = here (eqb-true _ _ is) cc
  by false is e = later e

none_told : {A G : Type 0} (y : A) → None ≡ Some y → G
none_told y e = absurd cc

kind_known : (k : Kind) → kind_of (kind_number k) ≡ Some k
kind_known kind.None = refl
kind_known kind.Plain = refl
kind_known kind.Indexed = refl
kind_known kind.Bytes = refl
kind_known kind.Dict = refl
kind_known kind.Segment = refl
kind_known kind.User = refl
kind_known kind.Counter = refl
kind_known kind.Bag = refl
kind_known kind.RcDict = refl
kind_known kind.Queue = refl

kind_told : (n : ℕ) (k : Kind) → kind_of n ≡ Some k → n ≡ kind_number k
kind_told n k e =
    let G = n ≡ kind_number k in
    let at = λ (i : ℕ) (x : Kind) (same : i ≡ kind_number x) (is : n ≡ i) (it : x ≡ k). is ∙ same ∙ ap kind_number it in
    chain {G = G} n 0 kind.None k _ (at 0 kind.None refl) (
    chain {G = G} n 1 kind.Plain k _ (at 1 kind.Plain refl) (
    chain {G = G} n 2 kind.Indexed k _ (at 2 kind.Indexed refl) (
    chain {G = G} n 3 kind.Bytes k _ (at 3 kind.Bytes refl) (
    chain {G = G} n 4 kind.Dict k _ (at 4 kind.Dict refl) (
    chain {G = G} n 5 kind.Segment k _ (at 5 kind.Segment refl) (
    chain {G = G} n 6 kind.User k _ (at 6 kind.User refl) (
    chain {G = G} n 7 kind.Counter k _ (at 7 kind.Counter refl) (
    chain {G = G} n 8 kind.Bag k _ (at 8 kind.Bag refl) (
    chain {G = G} n 9 kind.RcDict k _ (at 9 kind.RcDict refl) (
    chain {G = G} n 10 kind.Queue k None (at 10 kind.Queue refl)
    (none_told k))))))))))) e

pub kind_reads : Reads Anything (λ k. kind_number k ∷ []) kind_at
kind_reads = named_reads Anything (λ k. kind_number k ∷ []) (coded_at kind_of rule.Kind) kind_at (λ bytes. refl)
    (coded_reads Anything kind_of kind_number rule.Kind (λ k _. kind_known k) (λ n k e. (kind_told n k e, tt)))

right_known : (r : Right) → right_of (rank_of r) ≡ Some r
right_known right.None = refl
right_known right.Read = refl
right_known right.Write = refl

right_told : (n : ℕ) (r : Right) → right_of n ≡ Some r → n ≡ rank_of r
right_told n r e =
    let G = n ≡ rank_of r in
    let at = λ (i : ℕ) (x : Right) (same : i ≡ rank_of x) (is : n ≡ i) (it : x ≡ r). is ∙ same ∙ ap rank_of it in
    chain {G = G} n 0 right.None r _ (at 0 right.None refl) (
    chain {G = G} n 1 right.Read r _ (at 1 right.Read refl) (
    chain {G = G} n 2 right.Write r None (at 2 right.Write refl)
    (none_told r))) e

pub right_reads : Reads Anything (λ r. rank_of r ∷ []) right_at
right_reads = named_reads Anything (λ r. rank_of r ∷ []) (coded_at right_of rule.Range) right_at (λ bytes. refl)
    (coded_reads Anything right_of rank_of rule.Range (λ r _. right_known r) (λ n r e. (right_told n r e, tt)))

abbrev pub IsGiven : Right → Type 0
IsGiven r = r ≢ right.None

given_known : (r : Right) → IsGiven r → given_right_of (rank_of r) ≡ Some r
given_known right.None given = absurd (given refl)
given_known right.Read given = refl
given_known right.Write given = refl

some_right : (r : Right) → 0 < rank_of r → IsGiven r
some_right r above none = absurd (omega (arith, above, ap rank_of none))

given_told : (n : ℕ) (r : Right) → given_right_of n ≡ Some r → (n ≡ rank_of r) × IsGiven r
given_told n r e =
    let G = (n ≡ rank_of r) × IsGiven r in
    let at : (i : ℕ) (x : Right) → i ≡ rank_of x → 0 < rank_of x → n ≡ i → x ≡ r → (n ≡ rank_of r) × IsGiven r =
    λ i x same some is it. (is ∙ same ∙ ap rank_of it, some_right r (subst (λ y. 0 < rank_of y) it some)) in
    chain {G = G} n 1 right.Read r _ (at 1 right.Read refl (omega arith)) (
    chain {G = G} n 2 right.Write r None (at 2 right.Write refl (omega arith))
    (none_told r)) e

pub given_reads : Reads IsGiven (λ r. rank_of r ∷ []) given_right_at
given_reads = named_reads IsGiven (λ r. rank_of r ∷ []) (coded_at given_right_of rule.Range) given_right_at (λ bytes. refl)
    (coded_reads IsGiven given_right_of rank_of rule.Range given_known given_told)

-- ---- the superclass

abbrev pub IsSuperclass : Option ℕ → Type 0
IsSuperclass superclass = IfSome superclass (λ number. (0 < number) × IsOid number)

abbrev number_of : Option ℕ → ℕ
number_of None = 0
number_of (Some n) = n

superclass_back : (s : Option ℕ) → IsSuperclass s → superclass_of (number_of s) ≡ s
superclass_back None is = refl
superclass_back (Some n) is =
    let some : eqb n 0 ≡ false = grind (arith, nat_tests, is.0) in
    ap (λ b. cond b None (Some n)) some

superclass_written : (n : ℕ) → spelled_superclass (superclass_of n) ≡ eight_bytes n
superclass_written n = by (eqb n 0) refl where
  by : (b : Bool) → eqb n 0 ≡ b → spelled_superclass (cond b None (Some n)) ≡ eight_bytes n
  by true is = ap eight_bytes (sym (eqb-true _ _ is))
  by false is = refl

superclass_made : (n : ℕ) → IsOid n → IsSuperclass (superclass_of n)
superclass_made n is = by (eqb n 0) refl where
  by : (b : Bool) → eqb n 0 ≡ b → IsSuperclass (cond b None (Some n))
  by true e = tt
  by false e = (grind (arith, nat_tests), is)

superclass_undone : (s : Option ℕ) → IsSuperclass s → IsOid (number_of s)
superclass_undone None is = omega arith
superclass_undone (Some n) is = is.1

pub superclass_reads : Reads IsSuperclass spelled_superclass superclass_at
superclass_reads = made_reads IsOid eight_bytes name_at IsSuperclass spelled_superclass superclass_at superclass_of number_of
    (λ bytes. refl) superclass_back (λ n is. superclass_written n) superclass_made superclass_undone name_reads

-- ---- methods

byte_takes : (bytes : List ℕ) (n : ℕ) (rest : List ℕ) → IsBytes bytes → byte_at bytes ≡ Ok (n, rest)
    → Takes bytes (n ∷ []) rest × (n < 2 ^ 8)
unfolding byte_at
byte_takes [] n rest fits e = no_result _ (n, rest) e
byte_takes (byte ∷ more) n rest fits e =
    let is = ok_is (byte, more) (n, rest) e in
    subst (λ (p : ℕ × List ℕ). Takes (byte ∷ more) (p.0 ∷ []) p.1 × (p.0 < 2 ^ 8)) is
    (record { parts = refl; rest_fits = λ i. fits (suc i) }, fits 0)

byte_reads : Reads (λ (n : ℕ). n < 2 ^ 8) (λ n. n ∷ []) byte_at
unfolding byte_at
byte_reads = record { again = λ n rest is. refl; takes = byte_takes; within = byte_within }

code_again : (code : MethodCode) (rest : List ℕ) → IsCode code → code_at (spelled_code code ++ rest) ≡ Ok (code, rest)
unfolding code_at byte_at
code_again (Source source) rest is =
    ap (made Source) (bytes_reads.again source rest (record { count = is.count; bytes = is.bytes }))
code_again (Primitive number) rest is = refl

code_takes : (bytes : List ℕ) (code : MethodCode) (rest : List ℕ) → IsBytes bytes → code_at bytes ≡ Ok (code, rest)
    → Takes bytes (spelled_code code) rest × IsCode code
unfolding code_at byte_at
code_takes [] code rest fits e = no_result _ (code, rest) e
code_takes (tag ∷ more) code rest fits e =
    by_tag tag 0 _ _ (Ok (code, rest)) (content_taken IsCode spelled_code IsLongText (λ (text : List ℕ). four_bytes (length text) ++ text) bytes_at bytes_reads
    Source (λ x p. record { count = p.count; bytes = p.bytes }) 0 (λ x. refl) tag more (code, rest) fits) (λ n0.
    by_tag tag 1 _ _ (Ok (code, rest)) (content_taken IsCode spelled_code (λ (n : ℕ). n < 2 ^ 8) (λ n. n ∷ []) byte_at byte_reads
    Primitive (λ x p. p) 1 (λ x. refl) tag more (code, rest) fits)
    (no_result _ (code, rest)) n0) e

code_within : (bytes : List ℕ) → IsWithin bytes (code_at bytes)
unfolding code_at
code_within bytes = bind_within bytes (byte_at bytes) (λ tag. code_of_tag tag.0 bytes tag.1) (byte_within bytes)
    (λ x le. cond_within bytes (eqb x.0 0) _ _ (made_within Source bytes _ (wider bytes x.1 _ le (bytes_reads.within x.1)))
    (cond_within bytes (eqb x.0 1) _ _ (made_within Primitive bytes _ (wider bytes x.1 _ le (byte_within x.1))) (breaks_within bytes)))

pub code_reads : Reads IsCode spelled_code code_at
code_reads = record { again = code_again; takes = code_takes; within = code_within }

abbrev last_selector : List Method → Option Text
last_selector before = option_map (λ method. method.selector) (last_of before)

abbrev pub IsNextMethod : List Method → Method → Type 0
IsNextMethod before method =
    (IsText method.selector × IsTrue (is_above text_order (last_selector before) method.selector)) × IsCode method.code

abbrev IsNextText : Option Text → Text → Type 0
IsNextText last text = IsText text × IsTrue (is_above text_order last text)

text_above : (last : Option Text) → Reads (IsNextText last) spelled_text (above_at text_order last text_at)
text_above last = above_reads IsText spelled_text text_at text_reads text_order last

pub method_reads : (before : List Method) → Reads (IsNextMethod before) spelled_method (method_at before)
unfolding method_at
method_reads before =
    let last = last_selector before in
    made_reads (λ (p : Text × MethodCode). IsNextText last p.0 × IsCode p.1) (λ p. spelled_text p.0 ++ spelled_code p.1)
    (above_at text_order last text_at & code_at) (IsNextMethod before) spelled_method (method_at before)
    method_of (λ method. (method.selector, method.code)) (λ bytes. refl) (λ m is. refl) (λ p is. refl) (λ p is. is) (λ m is. is)
    (both_reads (IsNextText last) IsCode spelled_text spelled_code (above_at text_order last text_at) code_at (text_above last) code_reads)

-- ---- groups

abbrev last_group : List (Text × Right) → Option Text
last_group before = option_map (λ grant. grant.0) (last_of before)

abbrev pub IsNextGrant : List (Text × Right) → Text × Right → Type 0
IsNextGrant before grant = IsNextText (last_group before) grant.0 × IsGiven grant.1

pub grant_reads : (before : List (Text × Right)) → Reads (IsNextGrant before) spelled_grant (grant_at before)
unfolding grant_at
grant_reads before =
    let last = last_group before in
    named_reads (IsNextGrant before) spelled_grant (above_at text_order last text_at & given_right_at) (grant_at before) (λ bytes. refl)
    (both_reads (IsNextText last) IsGiven spelled_text (λ r. rank_of r ∷ []) (above_at text_order last text_at) given_right_at
    (text_above last) given_reads)

abbrev pub IsNextGroup : List Text → Text → Type 0
IsNextGroup before text = IsNextText (last_of before) text

pub group_reads : (before : List Text) → Reads (IsNextGroup before) spelled_text (group_at before)
group_reads before = named_reads (IsNextGroup before) spelled_text (above_at text_order (last_of before) text_at) (group_at before) (λ bytes. refl)
    (text_above (last_of before))

-- ---- pairs

abbrev last_item : {T : Type 0} → List (Value × T) → Option Value
last_item before = option_map (λ pair. pair.0) (last_of before)

abbrev IsNextValue : Option Value → Value → Type 0
IsNextValue last value = IsStorable value × IsTrue (is_above value_order last value)

abbrev pub IsNextItem : List (Value × ℕ) → Value × ℕ → Type 0
IsNextItem before pair = IsNextValue (last_item before) pair.0 × IsTimes pair.1

pub occurrences_reads : (before : List (Value × ℕ)) → Reads (IsNextItem before) spelled_occurrences (occurrences_at before)
unfolding occurrences_at
occurrences_reads before =
    let last = last_item before in
    named_reads (IsNextItem before) spelled_occurrences (above_at value_order last value_at & times_at) (occurrences_at before) (λ bytes. refl)
    (both_reads (IsNextValue last) IsTimes spelled_value eight_bytes (above_at value_order last value_at) times_at
    (above_reads IsStorable spelled_value value_at value_reads value_order last) times_reads)

abbrev IsNextKey : Option Value → Value → Type 0
IsNextKey last value = IsKeyUpTo 5 value × IsTrue (is_above value_order last value)

abbrev pub IsNextPair : List (Value × Value) → Value × Value → Type 0
IsNextPair before pair = IsNextKey (last_item before) pair.0 × IsStorable pair.1

pub sorted_pair_reads : (before : List (Value × Value)) → Reads (IsNextPair before) spelled_pair (sorted_pair_at before)
unfolding sorted_pair_at
sorted_pair_reads before =
    let last = last_item before in
    named_reads (IsNextPair before) spelled_pair (above_at value_order last (key_at 5) & value_at) (sorted_pair_at before) (λ bytes. refl)
    (both_reads (IsNextKey last) IsStorable spelled_value spelled_value (above_at value_order last (key_at 5)) value_at
    (above_reads (IsKeyUpTo 5) spelled_value (key_at 5) (key_reads 5) value_order last) value_reads)

abbrev pub IsNewKey : List (Value × Value) → Value → Type 0
IsNewKey before key = IsKeyUpTo 6 key × (is_some (entry_of same_value key before) ≡ false)

abbrev kept : List (Value × Value) → List ℕ → Value × List ℕ → Result (Value × List ℕ) Flaw
kept before bytes key = cond (is_some (entry_of same_value key.0 before)) (breaks bytes rule.Order) (Ok key)

new_key_reads : (before : List (Value × Value)) → Reads (IsNewKey before) spelled_value (new_key_at before)
unfolding new_key_at
new_key_reads before = record {
  again = λ key rest is.
      step (key_at 6 (spelled_value key ++ rest)) (key, rest) (kept before (spelled_value key ++ rest)) ((key_reads 6).again key rest is.0)
      ∙ ap (λ b. cond b (breaks (spelled_value key ++ rest) rule.Order) (Ok (key, rest))) is.1;
  takes = λ bytes key rest fits e.
      let a = bind_ok (key_at 6 bytes) (kept before bytes) (key, rest) e in
      let b = guard_ok (is_some (entry_of same_value a.0.0 before)) _ (Ok a.0) (key, rest) a.2 in
      let is = ok_is a.0 (key, rest) b.1 in
      let taken = (key_reads 6).takes bytes a.0.0 a.0.1 fits a.1 in
      subst (λ (p : Value × List ℕ). Takes bytes (spelled_value p.0) p.1 × IsNewKey before p.0) is (taken.0, (taken.1, b.0));
  within = λ bytes. bind_within bytes (key_at 6 bytes) (kept before bytes) ((key_reads 6).within bytes)
      (λ x le. cond_within bytes (is_some (entry_of same_value x.0 before)) (breaks bytes rule.Order) (Ok x) (breaks_within bytes) le);
}

abbrev pub IsNewPair : List (Value × Value) → Value × Value → Type 0
IsNewPair before pair = IsNewKey before pair.0 × IsStorable pair.1

pub pair_reads : (before : List (Value × Value)) → Reads (IsNewPair before) spelled_pair (pair_at before)
unfolding pair_at
pair_reads before = named_reads (IsNewPair before) spelled_pair (new_key_at before & value_at) (pair_at before) (λ bytes. refl)
    (both_reads (IsNewKey before) IsStorable spelled_value spelled_value (new_key_at before) value_at (new_key_reads before) value_reads)

-- ---- which values are keys

pub key_told : (value : Value) → IsKeyUpTo 5 value → IsTrue (is_key value)
key_told Nil key = absurd (omega (arith, key.some))
key_told False key = refl
key_told True key = refl
key_told (Int number) key = refl
key_told (Char code) key = refl
key_told (Sym name) key = refl
key_told (Ref oid) key = absurd (omega (arith, key.most))
key_told (Block block) key = absurd key.stored

pub key_from : (value : Value) → IsStorable value → IsTrue (is_key value) → IsKeyUpTo 5 value
key_from Nil stored key = absurd (false≢true key)
key_from False stored key = record { stored = stored; some = omega arith; most = omega arith }
key_from True stored key = record { stored = stored; some = omega arith; most = omega arith }
key_from (Int number) stored key = record { stored = stored; some = omega arith; most = omega arith }
key_from (Char code) stored key = record { stored = stored; some = omega arith; most = omega arith }
key_from (Sym name) stored key = record { stored = stored; some = omega arith; most = omega arith }
key_from (Ref oid) stored key = absurd (false≢true key)
key_from (Block block) stored key = absurd stored

pub not_nil : (value : Value) → IsKeyUpTo 6 value → value ≢ Nil
not_nil value key is = absurd (omega (arith, key.some, ap tag_of is))

pub any_key : (value : Value) → IsStorable value → value ≢ Nil → IsKeyUpTo 6 value
any_key Nil stored some = absurd (some refl)
any_key False stored some = record { stored = stored; some = omega arith; most = omega arith }
any_key True stored some = record { stored = stored; some = omega arith; most = omega arith }
any_key (Int number) stored some = record { stored = stored; some = omega arith; most = omega arith }
any_key (Char code) stored some = record { stored = stored; some = omega arith; most = omega arith }
any_key (Sym name) stored some = record { stored = stored; some = omega arith; most = omega arith }
any_key (Ref oid) stored some = record { stored = stored; some = omega arith; most = omega arith }
any_key (Block block) stored some = absurd stored
