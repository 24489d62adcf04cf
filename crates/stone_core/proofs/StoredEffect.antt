-- The effect of a commit can be stored, where the image that it makes is one.
use Rattle.std.proofs.Common.{◌≡◌, ℕ, ◌+◌, ◌≤◌, ◌<◌, ◌^◌, T, cond, ◌⊎◌, inl, inr, List, [], ◌∷◌, ◌++◌, length, map, sum_by, Some, lt_of_not-le, refl, sym, ap, subst, ◌∙◌, arith}
use Rattle.std.specs.List.{AllByRecursion, fold}
use Rattle.std.specs.Ordering.{nat_cmp, is_eq}
use Rattle.std.specs.Cmp.{tied_itself}
use Rattle.std.specs.FinMap.{entries_sorted, from_entries, get, insert, get-insert}
use Rattle.std.specs.FinMap.Entries.{is_sorted}
use Rattle.std.proofs.lemmas.Cmp.{nat_cmp_total}
use Rattle.std.proofs.lemmas.Option.{none-some}
use Rattle.std.proofs.lemmas.List.Elements.{All-from_recursion}
use Rattle.gem_object.specs.declared.object.Object.{Object}
use Rattle.gem_image.specs.Image.{Image, IsImage, with_objects}
use Rattle.gem_record.specs.Names.{AscendByName}
use Rattle.gem_object.specs.Sizes.{object_size}
use Rattle.gem_record.specs.Effects.{changed_size, log_record_size}
use Rattle.gem_record.specs.declared.effect.Effect.{Effect}
use Rattle.gem_record.specs.declared.record.TxnRecord.{TxnRecord}
use Rattle.gem_record.specs.declared.limits.TheConstants.{LOG_LIMIT}
use Rattle.body_codec.specs.Stored.{IsStoredAt, IsStoredEffect}
use Rattle.tran_log.specs.Log.{spelled_record}
use Rattle.commit_check.proofs.Members.{IsOneOf}
use Rattle.gem_meaning.specs.Effect.{stamped, changed_objects, effect_at}
use Rattle.gem_meaning.specs.Events.{Told, standing}
use Rattle.gem_keeper.specs.Crashes.{IsNextBody}
use Rattle.history_laws.proofs.Effects.{of_effect}
use Rattle.stone_core.proofs.ByName.{first_true, second_true, entries_ascend}
use Rattle.stone_core.proofs.Spelled.{others_leave}

-- each object has a byte of its own at least
fewer_from : (start : ℕ) (objects : List (ℕ × Object))
    → start + length objects ≤ fold (λ (a : ℕ) (entry : ℕ × Object). a + changed_size entry) start objects
fewer_from start [] = omega arith
fewer_from start (entry ∷ objects) =
    let rest = fewer_from (start + changed_size entry) objects in
    let own : changed_size entry ≡ 8 + object_size entry.1 = refl in
    omega (arith, rest, own)

fewer_than_bytes : (objects : List (ℕ × Object)) → length objects ≤ sum_by changed_size objects
fewer_than_bytes objects =
    let all : 0 + length objects ≤ sum_by changed_size objects = fewer_from 0 objects in omega (arith, all)

each_one : {A : Type 0} (P : A → Type 0) (xs : List A) → ((x : A) → IsOneOf x xs → P x) → AllByRecursion P xs
each_one P [] all = tt
each_one P (x ∷ xs) all = (all x (inl refl), each_one P xs (λ y one. all y (inr one)))

all_changed : (image : Image) (number : ℕ) (done : TxnRecord)
    → AllByRecursion (λ entry. entry.1.changed ≡ number) (effect_at image number done)
all_changed image number done =
    each_one (λ (entry : ℕ × Object). entry.1.changed ≡ number) (effect_at image number done)
    (λ entry one. (of_effect image number done entry.0 entry.1 one).1)

named_low : (image : Image) (name : ℕ) (object : Object) → IsImage image → get image name ≡ Some object → name < 2 ^ 48
named_low image name object is there =
    lt_of_not-le (λ reaches. absurd (none-some object (sym (is.named name reaches) ∙ there)))

each_stored : (number : ℕ) (image : Image) (objects : List (ℕ × Object)) → T (is_sorted nat_cmp objects)
    → IsImage (with_objects image objects) → AllByRecursion (λ entry. entry.1.changed ≡ number) objects
    → AllByRecursion (IsStoredAt number) objects
each_stored number image [] sorted is changed = tt
each_stored number image (entry ∷ objects) sorted is changed =
    let there : get (with_objects (insert image entry.0 entry.1) objects) entry.0 ≡ Some entry.1 =
    others_leave (insert image entry.0 entry.1) entry.0 objects (first_true _ _ sorted)
    ∙ get-insert nat_cmp_total image entry.0 entry.1 entry.0
    ∙ ap (λ o. cond (is_eq o) (Some entry.1) (get image entry.0)) (tied_itself nat_cmp_total entry.0) in (
      record {
        name = named_low (with_objects (insert image entry.0 entry.1) objects) entry.0 entry.1 is there;
        object = record { spelled = is.spelled entry.0 entry.1 there; changed = changed.0 };
      },
      each_stored number (insert image entry.0 entry.1) objects (second_true _ _ sorted) is changed.1,
    )

effect_stored : (image : Image) (number : ℕ) (done : TxnRecord) → IsImage (with_objects image (effect_at image number done))
    → AllByRecursion (IsStoredAt number) (effect_at image number done)
unfolding effect_at
effect_stored image number done is =
    each_stored number image (effect_at image number done)
    (entries_sorted (from_entries (map (stamped number) (changed_objects image done)))) is (all_changed image number done)

effect_ascends : (image : Image) (number : ℕ) (done : TxnRecord) → AscendByName (effect_at image number done)
unfolding effect_at
effect_ascends image number done = entries_ascend (map (stamped number) (changed_objects image done))

-- its record is that of the next commit
pub next_body : (t : Told) (image : Image) (number : ℕ) (done : TxnRecord) (effect : Effect) (body : List ℕ)
    → number ≡ (standing t).number → number + 1 < 2 ^ 63
    → effect.number ≡ number + 1 → effect.objects ≡ effect_at image (number + 1) done → 0 < length effect.objects
    → IsImage (with_objects image (effect_at image (number + 1) done))
    → body ≡ spelled_record done.mode effect ++ 0 ∷ [] → length body ≡ log_record_size effect
    → IsNextBody (standing t).number effect body
next_body t image number done effect body number_is small effect_number objects_are some is body_is size = record {
  mode = done.mode;
  body_is = body_is;
  small = omega (arith, number_is, small);
  stored = λ short.
      let bytes = fewer_than_bytes effect.objects in
      let stored = subst (AllByRecursion (IsStoredAt (number + 1))) (sym objects_are) (effect_stored image (number + 1) done is) in
      let next : number + 1 ≡ (standing t).number + 1 = ap (λ (n : ℕ). n + 1) number_is in
      subst (λ (n : ℕ). IsStoredEffect n effect) next (record {
        number_is = effect_number;
        some = some;
        count = omega (arith, bytes, size, short);
        each = All-from_recursion (IsStoredAt (number + 1)) effect.objects stored;
        ascend = subst AscendByName (sym objects_are) (effect_ascends image (number + 1) done);
      });
}
