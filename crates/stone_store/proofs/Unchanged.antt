-- The objects of an extent count as changed by no commit.
use Rattle.std.proofs.Common.{◌≡◌, ℕ, zero, suc, eqb, List, [], ◌∷◌, ◌++◌, length, Option, Some, Result, Ok, Err, sym, ap, subst}
use Rattle.std.specs.List.{AllByRecursion, flat_map}
use Rattle.gem_object.specs.declared.object.Object.{Object}
use Rattle.gem_object.specs.declared.body.Body.{Body}
use Rattle.body_codec.specs.declared.fault.Flaw.{Flaw}
use Rattle.body_codec.specs.Reading.{◌&◌, made, name_at}
use Rattle.body_codec.specs.ReadingBodies.{object_of, object_at, body_at}
use Rattle.extent_pages.specs.declared.fault.PageRule.TheVariants as rule
use Rattle.extent_pages.specs.Pages.{Chain, ◌andthen◌}
use Rattle.extent_pages.specs.Contents.{PayloadFault, with_rule, all_read, in_chain, count_at, leaf_name_at, leaf_object_at, objects_after, leaf_at, leaf_of}
use Rattle.extent_pages.specs.Extent.{Leaf, Extent, objects_of, image_in, extent_of}
use Rattle.extent_pages.specs.Laid.{LeavesLie}
use Rattle.extent_pages.proofs.Tests.{ok_is, not_ok, then_ok, passed}
use Rattle.extent_pages.proofs.Files.{opened}
use Rattle.page_file.specs.Opening.{IsUnchanged}
use Rattle.page_file.proofs.Unchanged.{IsOfNone, all_joined, made_unchanged}

object_unchanged : (bytes : List ℕ) (object : Object) (rest : List ℕ) → object_at 0 bytes ≡ Ok (object, rest)
    → object.changed ≡ 0
unfolding object_at
object_unchanged bytes object rest e = by ((name_at & name_at & body_at) bytes) e where
  by : (r : Result ((ℕ × (ℕ × Body)) × List ℕ) Flaw) → made (object_of 0) r ≡ Ok (object, rest) → object.changed ≡ 0
  by (Ok f) e = sym (ap (λ (x : Object × List ℕ). x.0.changed) (ok_is (object_of 0 f.0, f.1) (object, rest) e))
  by (Err flaw) e = not_ok flaw (object, rest) e

ruled_ok : {A : Type 0} (r : Result A Flaw) (x : A) → with_rule rule.Object r ≡ Ok x → r ≡ Ok x
ruled_ok (Ok y) x e = ap (λ z. Ok z) (ok_is y x e)
ruled_ok (Err flaw) x e = not_ok (flaw.left, rule.Object) x e

abbrev pub named : ℕ → Object × List ℕ → Result ((ℕ × Object) × List ℕ) PayloadFault
named name object = Ok ((name, object.0), object.1)

abbrev pub behind_name : ℕ × List ℕ → Result ((ℕ × Object) × List ℕ) PayloadFault
behind_name name = with_rule rule.Object (object_at 0 name.1) andthen named name.0

entry_unchanged : (leaf : ℕ) (before : List (ℕ × Object)) (bytes : List ℕ) (read : (ℕ × Object) × List ℕ)
    → leaf_object_at leaf before bytes ≡ Ok read → IsOfNone read.0
unfolding leaf_object_at
entry_unchanged leaf before bytes read e =
    let name = then_ok (leaf_name_at leaf before bytes) behind_name read e in
    let object = then_ok (with_rule rule.Object (object_at 0 name.0.1)) (named name.0.0) read name.2 in
    let same = ok_is ((name.0.0, object.0.0), object.0.1) read object.2 in
    subst (λ (x : (ℕ × Object) × List ℕ). IsOfNone x.0) same
    (object_unchanged name.0.1 object.0.0 object.0.1 (ruled_ok (object_at 0 name.0.1) object.0 object.1))

all_more : (objects : List (ℕ × Object)) (entry : ℕ × Object) → AllByRecursion IsOfNone objects → IsOfNone entry
    → AllByRecursion IsOfNone (objects ++ entry ∷ [])
all_more [] entry all one = (one, tt)
all_more (first ∷ objects) entry all one = (all.0, all_more objects entry all.1 one)

objects_unchanged : (leaf more : ℕ) (before : List (ℕ × Object)) (bytes : List ℕ) (read : List (ℕ × Object) × List ℕ)
    → AllByRecursion IsOfNone before → objects_after leaf more before bytes ≡ Ok read → AllByRecursion IsOfNone read.0
unfolding objects_after
objects_unchanged leaf zero before bytes read all e =
    subst (λ (x : List (ℕ × Object) × List ℕ). AllByRecursion IsOfNone x.0) (ok_is (before, bytes) read e) all
objects_unchanged leaf (suc more) before bytes read all e =
    let next = then_ok (leaf_object_at leaf before bytes) (λ (object : (ℕ × Object) × List ℕ).
    objects_after leaf more (before ++ object.0 ∷ []) object.1) read e in
    objects_unchanged leaf more (before ++ next.0.0 ∷ []) next.0.1 read
    (all_more before next.0.0 all (entry_unchanged leaf before bytes next.0 next.1)) next.2

chain_ok : {A : Type 0} (chain : Chain) (r : Result A PayloadFault) (x : A) → in_chain chain r ≡ Ok x → r ≡ Ok x
chain_ok chain (Ok y) x e = ap (λ z. Ok z) (ok_is y x e)
chain_ok chain (Err fault) x e = not_ok _ x e

whole_is : (read : List (ℕ × Object) × List ℕ) (objects : List (ℕ × Object)) → all_read rule.Leaf read ≡ Ok objects
    → read.0 ≡ objects
whole_is read objects e = (passed (eqb (length read.1) 0) read.0 objects (length read.1, rule.Leaf) e).1

leaf_unchanged : (leaf : ℕ) (chain : Chain) (objects : List (ℕ × Object)) → leaf_of leaf chain ≡ Ok objects
    → AllByRecursion IsOfNone objects
unfolding leaf_of leaf_at
leaf_unchanged leaf chain objects e =
    let read = then_ok (leaf_at leaf chain.payload) (all_read rule.Leaf) objects (chain_ok chain _ objects e) in
    let count = then_ok (count_at chain.payload) (λ (c : ℕ × List ℕ). objects_after leaf c.0 [] c.1) read.0 read.1 in
    subst (AllByRecursion IsOfNone) (whole_is read.0 objects read.2)
    (objects_unchanged leaf count.0.0 [] count.0.1 read.0 tt count.2)

leaves_unchanged : (book : ℕ → Option (List ℕ)) (taken : List ℕ) (leaves : List Leaf) → LeavesLie book taken leaves
    → AllByRecursion IsOfNone (flat_map (λ leaf. leaf.objects) leaves)
leaves_unchanged book taken [] lie = tt
leaves_unchanged book taken (leaf ∷ leaves) lie = all_joined leaf.objects (flat_map (λ leaf. leaf.objects) leaves)
    (leaf_unchanged leaf.number (record { pages = leaf.pages; payload = lie.0.payload }) leaf.objects lie.0.holds)
    (leaves_unchanged book (leaf.pages ++ taken) leaves lie.1)

-- each object of an extent that was read
pub extent_unchanged : (file : List ℕ) (extent : Extent) → extent_of file ≡ Ok (Some extent)
    → IsUnchanged (image_in extent)
extent_unchanged file extent read =
    let open_so = opened file extent read in
    made_unchanged (objects_of extent) (leaves_unchanged _ extent.directory extent.leaves open_so.laid.leaves)
