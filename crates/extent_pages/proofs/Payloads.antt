-- Directories and leaves read back as they were written, and what is read is spelled so.
use Rattle.std.proofs.Common.{◌≡◌, ℕ, zero, suc, ◌+◌, ◌*◌, ◌/◌, ◌<◌, ◌≤◌, ◌^◌, true, cond, nat_le, ◌&&◌, eqb, IsTrue, List, [], ◌∷◌, ◌++◌, length, Option, option_map, Result, Ok, Err, refl, sym, ap, subst, ◌∙◌, append_assoc, append-nil, arith}
use Rattle.std.specs.List.{flat_map}
use Rattle.std.specs.Ordering.{nat_cmp}
use Rattle.std.specs.Int.{w32, w64}
use Rattle.std.proofs.lemmas.Bool.{eq-eqb}
use Rattle.std.proofs.lemmas.Bool.Decides.{nat_tests}
use Rattle.std.proofs.lemmas.Cmp.{nat_cmp_total}
use Rattle.std.proofs.lemmas.List.Elements.{All-from_recursion, recursion_from_All}
use Rattle.gem_object.specs.Spelling.{IsOid}
use Rattle.gem_object.specs.declared.object.Object.{Object}
use Rattle.body_codec.specs.declared.fault.Flaw.{Flaw}
use Rattle.body_codec.specs.Stored.{IsStored}
use Rattle.body_codec.specs.Spelled.{four_bytes, eight_bytes, spelled_object, spelled_changed, long_list}
use Rattle.body_codec.specs.Reading.{◌&◌, number_at, byte_at, name_at, last_of, is_above, above_at, long_at}
use Rattle.body_codec.specs.ReadingBodies.{object_at}
use Rattle.body_codec.proofs.Fields.{IsBelow}
use Rattle.body_codec.proofs.Takes.{IsBytes, Takes, Reads, then_takes, four_reads, eight_reads, name_reads}
use Rattle.body_codec.proofs.Combined.{both_reads, above_reads}
use Rattle.body_codec.proofs.Lists.{AllAfter, IsListed, long_reads}
use Rattle.body_codec.proofs.InOrder.{all_hold, all_sorted, all_after}
use Rattle.body_codec.proofs.Readers.{object_reads}
use Rattle.extent_pages.specs.declared.fault.PageRule.{PageRule}
use Rattle.extent_pages.specs.declared.fault.PageRule.TheVariants as rule
use Rattle.extent_pages.specs.Pages.{Chain, Fault, ◌andthen◌}
use Rattle.extent_pages.specs.Spelled.{spelled_entry, spelled_directory, spelled_leaf}
use Rattle.extent_pages.specs.Contents.{PayloadFault, with_rule, all_read, in_chain, entry_at, directory_of, leaf_size, count_at, leaf_name_at, leaf_object_at, objects_after, leaf_at, leaf_of}
use Rattle.extent_pages.specs.Stored.{FitsEntry, AreEntries, IsOfLeaf, AreOfLeaf}
use Rattle.extent_pages.proofs.Filled.{directory_long}
use Rattle.extent_pages.proofs.Tests.{ok_is, not_ok, then_ok, passed, both_true}

-- ---- results

pub chain_ok : {A : Type 0} (chain : Chain) (r : Result A PayloadFault) (x : A) → in_chain chain r ≡ Ok x → r ≡ Ok x
chain_ok chain (Ok y) x e = ap (λ z. Ok z) (ok_is y x e)
chain_ok chain (Err fault) x e = not_ok _ x e

pub with_ok : {A : Type 0} (broken : PageRule) (r : Result A Flaw) (x : A) → with_rule broken r ≡ Ok x → r ≡ Ok x
with_ok broken (Ok y) x e = ap (λ z. Ok z) (ok_is y x e)
with_ok broken (Err flaw) x e = not_ok _ x e

pub nothing_left : {A : Type 0} (l : List A) → length l ≡ 0 → l ≡ []
nothing_left [] none = refl
nothing_left (x ∷ l) none = absurd (omega (arith, none))

pub all_ok : {A : Type 0} (broken : PageRule) (read : A × List ℕ) (x : A) → all_read broken read ≡ Ok x
    → read ≡ (x, [])
all_ok broken read x e =
    let p = passed (eqb (length read.1) 0) read.0 x (length read.1, broken) e in
    let none : length read.1 ≡ 0 = grind (arith, nat_tests, p.0) in
    rw (sym p.1, sym (nothing_left read.1 none)) refl

-- ---- directories

abbrev last_entry : List (ℕ × ℕ) → Option ℕ
last_entry before = option_map (λ (entry : ℕ × ℕ). entry.0) (last_of before)

abbrev IsNextNumber : Option ℕ → ℕ → Type 0
IsNextNumber last number = IsBelow (2 ^ 64) number × IsTrue (is_above nat_cmp last number)

abbrev IsNextEntry : List (ℕ × ℕ) → ℕ × ℕ → Type 0
IsNextEntry before entry = IsNextNumber (last_entry before) entry.0 × IsBelow (2 ^ 32) entry.1

both_entry : (before : List (ℕ × ℕ)) → Reads (IsNextEntry before) spelled_entry
    (above_at nat_cmp (last_entry before) (number_at w64) & number_at w32)
both_entry before = both_reads (IsNextNumber (last_entry before)) (IsBelow (2 ^ 32)) eight_bytes four_bytes
    (above_at nat_cmp (last_entry before) (number_at w64)) (number_at w32)
    (above_reads (IsBelow (2 ^ 64)) eight_bytes (number_at w64) eight_reads nat_cmp (last_entry before)) four_reads

entry_reads : (before : List (ℕ × ℕ)) → Reads (IsNextEntry before) spelled_entry (entry_at before)
unfolding entry_at
entry_reads before =
    let both = both_entry before in
    record { again = both.again; takes = both.takes; within = both.within }

pub entries_reads : Reads (IsListed IsNextEntry (2 ^ 32)) (long_list spelled_entry) (long_at entry_at)
entries_reads = long_reads IsNextEntry spelled_entry entry_at entry_reads

entry_is : (before : List (ℕ × ℕ)) (entry : ℕ × ℕ) → IsNextEntry before entry
    → FitsEntry entry × IsTrue (is_above nat_cmp (last_entry before) entry.0)
entry_is before entry next = ((next.0.0, next.1), next.0.1)

entry_from : (before : List (ℕ × ℕ)) (entry : ℕ × ℕ) → FitsEntry entry
    → IsTrue (is_above nat_cmp (last_entry before) entry.0) → IsNextEntry before entry
entry_from before entry fits above = ((fits.0, above), fits.1)

are_listed : (entries : List (ℕ × ℕ)) → AreEntries entries → IsListed IsNextEntry (2 ^ 32) entries
are_listed entries are = record {
  count = are.count;
  each = all_after (λ (entry : ℕ × ℕ). entry.0) nat_cmp nat_cmp_total IsNextEntry FitsEntry
      entry_from entries are.ascend (recursion_from_All FitsEntry entries are.each);
}

are_entries : (entries : List (ℕ × ℕ)) → IsListed IsNextEntry (2 ^ 32) entries → AreEntries entries
are_entries entries listed = record {
  count = listed.count;
  each = All-from_recursion FitsEntry entries (all_hold (λ (entry : ℕ × ℕ). entry.0) nat_cmp nat_cmp_total
      IsNextEntry FitsEntry entry_is [] entries listed.each);
  ascend = all_sorted (λ (entry : ℕ × ℕ). entry.0) nat_cmp nat_cmp_total IsNextEntry FitsEntry entry_is entries listed.each;
}

abbrev whole_directory : Chain → Result (List (ℕ × ℕ) × List ℕ) Flaw → Result (List (ℕ × ℕ)) Fault
whole_directory chain r = in_chain chain (with_rule rule.Directory r andthen all_read rule.Directory)

pub directory_back : (pages : List ℕ) (entries : List (ℕ × ℕ)) → AreEntries entries
    → directory_of (record { pages = pages; payload = spelled_directory entries }) ≡ Ok entries
unfolding directory_of
directory_back pages entries are =
    let chain : Chain = record { pages = pages; payload = spelled_directory entries } in
    let read : long_at entry_at (spelled_directory entries) ≡ Ok (entries, []) =
    ap (long_at entry_at) (sym (append-nil (spelled_directory entries)))
    ∙ entries_reads.again entries [] (are_listed entries are) in
    ap (whole_directory chain) read

-- what was read is spelled so
pub record IsDirectory (payload : List ℕ) (entries : List (ℕ × ℕ)) : Type 0 where
  pub spelled : payload ≡ spelled_directory entries
  pub are : AreEntries entries

pub directory_takes : (chain : Chain) (entries : List (ℕ × ℕ)) → IsBytes chain.payload → directory_of chain ≡ Ok entries
    → IsDirectory chain.payload entries
unfolding directory_of
directory_takes chain entries fits e =
    let read = then_ok (with_rule rule.Directory (long_at entry_at chain.payload)) (all_read rule.Directory) entries
    (chain_ok chain _ entries e) in
    let whole = all_ok rule.Directory read.0 entries read.2 in
    let is : long_at entry_at chain.payload ≡ Ok (entries, []) = with_ok rule.Directory _ read.0 read.1 ∙ ap (λ z. Ok z) whole in
    let taken = entries_reads.takes chain.payload entries [] fits is in
    record {
      spelled = taken.0.parts ∙ append-nil (spelled_directory entries);
      are = are_entries entries taken.1;
    }

-- entries that were read with nothing behind them
pub entries_are : (bytes : List ℕ) (entries : List (ℕ × ℕ)) (rest : List ℕ) → IsBytes bytes
    → long_at entry_at bytes ≡ Ok (entries, rest) → AreEntries entries
entries_are bytes entries rest fits e = are_entries entries (entries_reads.takes bytes entries rest fits e).1

pub entries_fill : (bytes : List ℕ) (entries : List (ℕ × ℕ)) (rest : List ℕ) → IsBytes bytes → rest ≡ []
    → long_at entry_at bytes ≡ Ok (entries, rest) → length bytes ≡ 4 + 12 * length entries
entries_fill bytes entries rest fits none e =
    ap length ((entries_reads.takes bytes entries rest fits e).0.parts ∙ ap (λ (l : List ℕ). spelled_directory entries ++ l) none ∙ append-nil (spelled_directory entries))
    ∙ directory_long entries

-- ---- leaves

abbrev last_name : List (ℕ × Object) → Option ℕ
last_name before = option_map (λ (entry : ℕ × Object). entry.0) (last_of before)

abbrev IsNextName : Option ℕ → ℕ → Type 0
IsNextName last name = IsOid name × IsTrue (is_above nat_cmp last name)

abbrev IsNextOfLeaf : ℕ → List (ℕ × Object) → ℕ × Object → Type 0
IsNextOfLeaf leaf before entry =
    (IsNextName (last_name before) entry.0 × (entry.0 / leaf_size ≡ leaf)) × IsStored 0 entry.1

names_read : (last : Option ℕ) → Reads (IsNextName last) eight_bytes (above_at nat_cmp last name_at)
names_read last = above_reads IsOid eight_bytes name_at name_reads nat_cmp last

module _ (leaf : ℕ) where
  -- the name that was read, if it is of the leaf
  abbrev of_leaf : List ℕ → ℕ × List ℕ → Result (ℕ × List ℕ) PayloadFault
  of_leaf bytes name = cond (eqb (name.0 / leaf_size) leaf) (Ok name) (Err (length bytes, rule.Leaf))

  name_again : (before : List (ℕ × Object)) (name : ℕ) (rest : List ℕ) → IsNextName (last_name before) name
      → name / leaf_size ≡ leaf → leaf_name_at leaf before (eight_bytes name ++ rest) ≡ Ok (name, rest)
  unfolding leaf_name_at
  name_again before name rest next of =
      let bytes = eight_bytes name ++ rest in
      ap (λ r. with_rule rule.Leaf r andthen of_leaf bytes) ((names_read (last_name before)).again name rest next)
      ∙ ap (λ b. cond b (Ok (name, rest)) (Err (length bytes, rule.Leaf))) (eq-eqb (name / leaf_size) leaf of)

  -- what is known of a name that was read
  record NameTaken (before : List (ℕ × Object)) (bytes : List ℕ) (name : ℕ) (rest : List ℕ) : Type 0 where
    taken : Takes bytes (eight_bytes name) rest
    next : IsNextName (last_name before) name
    of : name / leaf_size ≡ leaf

  name_takes : (before : List (ℕ × Object)) (bytes : List ℕ) (name : ℕ) (rest : List ℕ) → IsBytes bytes
      → leaf_name_at leaf before bytes ≡ Ok (name, rest) → NameTaken before bytes name rest
  unfolding leaf_name_at
  name_takes before bytes name rest fits e =
      let read = then_ok (with_rule rule.Leaf (above_at nat_cmp (last_name before) name_at bytes)) (of_leaf bytes) (name, rest) e in
      let p = passed (eqb (read.0.0 / leaf_size) leaf) read.0 (name, rest) (length bytes, rule.Leaf) read.2 in
      let is : above_at nat_cmp (last_name before) name_at bytes ≡ Ok (name, rest) =
      with_ok rule.Leaf _ read.0 read.1 ∙ ap (λ z. Ok z) p.1 in
      let t = (names_read (last_name before)).takes bytes name rest fits is in
      let passed_is : eqb (name / leaf_size) leaf ≡ true = ap (λ (r : ℕ × List ℕ). eqb (r.0 / leaf_size) leaf) (sym p.1) ∙ p.0 in
      record { taken = t.0; next = t.1; of = grind (arith, nat_tests, passed_is) }

  -- the object behind a name
  abbrev with_name : ℕ → Object × List ℕ → Result ((ℕ × Object) × List ℕ) PayloadFault
  with_name name object = Ok ((name, object.0), object.1)

  abbrev object_behind : ℕ × List ℕ → Result ((ℕ × Object) × List ℕ) PayloadFault
  object_behind name = with_rule rule.Object (object_at 0 name.1) andthen with_name name.0

  object_again : (before : List (ℕ × Object)) (entry : ℕ × Object) (rest : List ℕ) → IsNextOfLeaf leaf before entry
      → leaf_object_at leaf before (spelled_changed entry ++ rest) ≡ Ok (entry, rest)
  unfolding leaf_object_at
  object_again before entry rest next =
      let after = spelled_object entry.1 ++ rest in
      ap (leaf_object_at leaf before) (append_assoc (eight_bytes entry.0) (spelled_object entry.1) rest)
      ∙ ap (λ r. r andthen object_behind) (name_again before entry.0 after next.0.0 next.0.1)
      ∙ ap (λ r. with_rule rule.Object r andthen with_name entry.0) ((object_reads 0).again entry.1 rest next.1)

  record ObjectTaken (before : List (ℕ × Object)) (bytes : List ℕ) (entry : ℕ × Object) (rest : List ℕ) : Type 0 where
    taken : Takes bytes (spelled_changed entry) rest
    next : IsNextOfLeaf leaf before entry

  object_takes : (before : List (ℕ × Object)) (bytes : List ℕ) (entry : ℕ × Object) (rest : List ℕ) → IsBytes bytes
      → leaf_object_at leaf before bytes ≡ Ok (entry, rest) → ObjectTaken before bytes entry rest
  unfolding leaf_object_at
  object_takes before bytes entry rest fits e =
      let name = then_ok (leaf_name_at leaf before bytes) object_behind (entry, rest) e in
      let object = then_ok (with_rule rule.Object (object_at 0 name.0.1)) (with_name name.0.0) (entry, rest) name.2 in
      let n = name_takes before bytes name.0.0 name.0.1 fits name.1 in
      let o = (object_reads 0).takes name.0.1 object.0.0 object.0.1 n.taken.rest_fits (with_ok rule.Object _ object.0 object.1) in
      let whole : ObjectTaken before bytes (name.0.0, object.0.0) object.0.1 = record {
        taken = then_takes bytes (eight_bytes name.0.0) name.0.1 (spelled_object object.0.0) object.0.1 n.taken o.0;
        next = ((n.next, n.of), o.1);
      } in
      subst (λ (y : (ℕ × Object) × List ℕ). ObjectTaken before bytes y.0 y.1)
      (ok_is ((name.0.0, object.0.0), object.0.1) (entry, rest) object.2) whole

  abbrev objects_behind : ℕ → List (ℕ × Object) → (ℕ × Object) × List ℕ → Result (List (ℕ × Object) × List ℕ) PayloadFault
  objects_behind more before object = objects_after leaf more (before ++ object.0 ∷ []) object.1

  objects_again : (objects before : List (ℕ × Object)) (rest : List ℕ) → AllAfter (IsNextOfLeaf leaf) before objects
      → objects_after leaf (length objects) before (flat_map spelled_changed objects ++ rest) ≡ Ok (before ++ objects, rest)
  unfolding objects_after
  objects_again [] before rest all = ap (λ (l : List (ℕ × Object)). Ok (l, rest)) (sym (append-nil before))
  objects_again (entry ∷ objects) before rest all =
      ap (objects_after leaf (suc (length objects)) before) (append_assoc (spelled_changed entry) (flat_map spelled_changed objects) rest)
      ∙ ap (λ r. r andthen objects_behind (length objects) before) (object_again before entry (flat_map spelled_changed objects ++ rest) all.0)
      ∙ objects_again objects (before ++ entry ∷ []) rest all.1
      ∙ ap (λ (l : List (ℕ × Object)). Ok (l, rest)) (append_assoc before (entry ∷ []) objects)

  -- what is known of the objects that were read behind others
  record ObjectsTaken (more : ℕ) (before : List (ℕ × Object)) (bytes : List ℕ) (all : List (ℕ × Object)) (rest : List ℕ) : Type 0 where
    objects : List (ℕ × Object)
    are : all ≡ before ++ objects
    count : length objects ≡ more
    each : AllAfter (IsNextOfLeaf leaf) before objects
    taken : Takes bytes (flat_map spelled_changed objects) rest

  objects_take : (more : ℕ) (before : List (ℕ × Object)) (bytes : List ℕ) (all : List (ℕ × Object)) (rest : List ℕ) → IsBytes bytes
      → objects_after leaf more before bytes ≡ Ok (all, rest) → ObjectsTaken more before bytes all rest
  unfolding objects_after
  objects_take zero before bytes all rest fits e =
      subst (λ (y : List (ℕ × Object) × List ℕ). ObjectsTaken 0 before bytes y.0 y.1) (ok_is (before, bytes) (all, rest) e) (record {
        objects = [];
        are = sym (append-nil before);
        count = refl;
        each = tt;
        taken = record { parts = refl; rest_fits = fits };
      })
  objects_take (suc more) before bytes all rest fits e =
      let first = then_ok (leaf_object_at leaf before bytes) (objects_behind more before) (all, rest) e in
      let one = object_takes before bytes first.0.0 first.0.1 fits first.1 in
      let others = objects_take more (before ++ first.0.0 ∷ []) first.0.1 all rest one.taken.rest_fits first.2 in
      record {
        objects = first.0.0 ∷ others.objects;
        are = others.are ∙ append_assoc before (first.0.0 ∷ []) others.objects;
        count = ap suc others.count;
        each = (one.next, others.each);
        taken = then_takes bytes (spelled_changed first.0.0) first.0.1 (flat_map spelled_changed others.objects) rest one.taken others.taken;
      }

  -- ---- names that ascend

  next_is : (before : List (ℕ × Object)) (entry : ℕ × Object) → IsNextOfLeaf leaf before entry
      → IsOfLeaf leaf entry × IsTrue (is_above nat_cmp (last_name before) entry.0)
  next_is before entry next = ((record { name = next.0.0.0; object = next.1 }, next.0.1), next.0.0.1)

  next_from : (before : List (ℕ × Object)) (entry : ℕ × Object) → IsOfLeaf leaf entry
      → IsTrue (is_above nat_cmp (last_name before) entry.0) → IsNextOfLeaf leaf before entry
  next_from before entry is above = (((is.0.name, above), is.1), is.0.object)

  each_next : (objects : List (ℕ × Object)) → AreOfLeaf leaf objects → AllAfter (IsNextOfLeaf leaf) [] objects
  each_next objects are = all_after (λ (entry : ℕ × Object). entry.0) nat_cmp nat_cmp_total (IsNextOfLeaf leaf) (IsOfLeaf leaf)
      next_from objects are.ascend (recursion_from_All (IsOfLeaf leaf) objects are.each)

  -- ---- whole leaves

  abbrev counted_then : ℕ × List ℕ → Result (List (ℕ × Object) × List ℕ) PayloadFault
  counted_then count = objects_after leaf count.0 [] count.1

  count_again : (count : ℕ) (rest : List ℕ) → 0 < count → count ≤ leaf_size → count_at (count ∷ rest) ≡ Ok (count, rest)
  unfolding count_at byte_at
  count_again count rest some short =
      let low : nat_le 1 count ≡ true = grind (arith, nat_tests, some) in
      let high : nat_le count leaf_size ≡ true = grind (arith, nat_tests, short) in
      ap (λ b. cond (b && nat_le count leaf_size) (Ok (count, rest)) (Err (length (count ∷ rest), rule.Leaf))) low
      ∙ ap (λ b. cond b (Ok (count, rest)) (Err (length (count ∷ rest), rule.Leaf))) high

  leaf_again : (objects : List (ℕ × Object)) → AreOfLeaf leaf objects → leaf_at leaf (spelled_leaf objects) ≡ Ok (objects, [])
  unfolding leaf_at
  leaf_again objects are =
      let behind = flat_map spelled_changed objects in
      ap (λ r. r andthen counted_then) (count_again (length objects) behind are.some are.count)
      ∙ ap (objects_after leaf (length objects) []) (sym (append-nil behind)) ∙ objects_again objects [] [] (each_next objects are)

  pub leaf_back : (pages : List ℕ) (objects : List (ℕ × Object)) → AreOfLeaf leaf objects
      → leaf_of leaf (record { pages = pages; payload = spelled_leaf objects }) ≡ Ok objects
  unfolding leaf_of
  leaf_back pages objects are =
      let chain : Chain = record { pages = pages; payload = spelled_leaf objects } in
      ap (λ r. in_chain chain (r andthen all_read rule.Leaf)) (leaf_again objects are)

  record CountTaken (bytes : List ℕ) (count : ℕ) (rest : List ℕ) : Type 0 where
    parts : bytes ≡ count ∷ rest
    some : 0 < count
    short : count ≤ leaf_size
    fits : IsBytes rest

  count_takes : (bytes : List ℕ) (count : ℕ) (rest : List ℕ) → IsBytes bytes → count_at bytes ≡ Ok (count, rest)
      → CountTaken bytes count rest
  unfolding count_at byte_at
  count_takes [] count rest fits e = not_ok _ (count, rest) e
  count_takes (byte ∷ more) count rest fits e =
      let p = passed (nat_le 1 byte && nat_le byte leaf_size) (byte, more) (count, rest) (length (byte ∷ more), rule.Leaf) e in
      let both = both_true (nat_le 1 byte) (nat_le byte leaf_size) p.0 in
      subst (λ (y : ℕ × List ℕ). CountTaken (byte ∷ more) y.0 y.1) p.1 (record {
        parts = refl;
        some = grind (arith, nat_tests, both.0);
        short = grind (arith, nat_tests, both.1);
        fits = λ i. fits (suc i);
      })

  -- what was read is spelled so
  pub record IsLeaf (payload : List ℕ) (objects : List (ℕ × Object)) : Type 0 where
    pub spelled : payload ≡ spelled_leaf objects
    pub are : AreOfLeaf leaf objects

  leaf_behind : (bytes : List ℕ) (objects : List (ℕ × Object)) → IsBytes bytes → leaf_at leaf bytes ≡ Ok (objects, [])
      → IsLeaf bytes objects
  unfolding leaf_at
  leaf_behind bytes objects fits e =
      let count = then_ok (count_at bytes) counted_then (objects, []) e in
      let c = count_takes bytes count.0.0 count.0.1 fits count.1 in
      let t = objects_take count.0.0 [] count.0.1 objects [] c.fits count.2 in
      let parts : bytes ≡ spelled_leaf t.objects =
      c.parts ∙ ap (λ (n : ℕ). n ∷ count.0.1) (sym t.count)
      ∙ ap (λ (l : List ℕ). length t.objects ∷ l) (t.taken.parts ∙ append-nil (flat_map spelled_changed t.objects)) in
      let known : IsLeaf bytes t.objects = record {
        spelled = parts;
        are = record {
          some = omega (arith, t.count, c.some);
          count = omega (arith, t.count, c.short);
          each = All-from_recursion (IsOfLeaf leaf) t.objects (all_hold (λ (entry : ℕ × Object). entry.0) nat_cmp nat_cmp_total
              (IsNextOfLeaf leaf) (IsOfLeaf leaf) next_is [] t.objects t.each);
          ascend = all_sorted (λ (entry : ℕ × Object). entry.0) nat_cmp nat_cmp_total (IsNextOfLeaf leaf) (IsOfLeaf leaf) next_is t.objects t.each;
        };
      } in
      subst (λ l. IsLeaf bytes l) (sym t.are) known

  -- objects that were read with nothing behind them
  pub objects_are : (bytes : List ℕ) (objects : List (ℕ × Object)) (rest : List ℕ) → IsBytes bytes → rest ≡ []
      → leaf_at leaf bytes ≡ Ok (objects, rest) → AreOfLeaf leaf objects
  objects_are bytes objects rest fits none e =
      (leaf_behind bytes objects fits (subst (λ (l : List ℕ). leaf_at leaf bytes ≡ Ok (objects, l)) none e)).are

  pub objects_spelled : (bytes : List ℕ) (objects : List (ℕ × Object)) (rest : List ℕ) → IsBytes bytes → rest ≡ []
      → leaf_at leaf bytes ≡ Ok (objects, rest) → bytes ≡ spelled_leaf objects
  objects_spelled bytes objects rest fits none e =
      (leaf_behind bytes objects fits (subst (λ (l : List ℕ). leaf_at leaf bytes ≡ Ok (objects, l)) none e)).spelled

  pub leaf_takes : (chain : Chain) (objects : List (ℕ × Object)) → IsBytes chain.payload → leaf_of leaf chain ≡ Ok objects
      → IsLeaf chain.payload objects
  unfolding leaf_of
  leaf_takes chain objects fits e =
      let read = then_ok (leaf_at leaf chain.payload) (all_read rule.Leaf) objects (chain_ok chain _ objects e) in
      let whole = all_ok rule.Leaf read.0 objects read.2 in
      leaf_behind chain.payload objects fits (read.1 ∙ ap (λ z. Ok z) whole)
