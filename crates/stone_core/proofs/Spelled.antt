-- The objects of an effect have a spelling where the image that it makes is one.
use Rattle.std.proofs.Common.{◌≡◌, ◌≤◌, ◌+◌, ◌*◌, length, ℕ, false, cond, T, List, [], ◌∷◌, ◌++◌, map, Some, refl, ap, subst, ◌∙◌, arith}
use Rattle.std.specs.List.{All, AllByRecursion}
use Rattle.std.specs.declared.cmp.Ordering.{Ordering}
use Rattle.std.specs.declared.cmp.Ordering.TheVariants.{Less, Equal, Greater}
use Rattle.std.specs.Ordering.{nat_cmp, is_lt, is_eq}
use Rattle.std.specs.Cmp.{tied_itself}
use Rattle.std.specs.FinMap.{entries_sorted, from_entries, get, insert, get-insert}
use Rattle.std.specs.FinMap.Entries.{is_sorted, below_all}
use Rattle.std.proofs.lemmas.Cmp.{nat_cmp_total}
use Rattle.std.proofs.lemmas.List.{length-append}
use Rattle.std.proofs.lemmas.List.Elements.{All-from_recursion}
use Rattle.gem_object.specs.Spelling.{IsSpelled}
use Rattle.gem_object.specs.declared.object.Object.{Object}
use Rattle.gem_image.specs.Image.{Image, AreSpelled, with_objects}
use Rattle.gem_record.specs.declared.record.TxnRecord.{TxnRecord}
use Rattle.gem_record.specs.Effects.{effect_size, log_record_size}
use Rattle.gem_record.specs.declared.mode.Mode.{Mode}
use Rattle.gem_record.specs.declared.effect.Effect.{Effect}
use Rattle.body_codec.specs.Spelled.{spelled_effect}
use Rattle.tran_log.specs.Log.{Format2, spelled_record}
use Rattle.tran_log.proofs.Walks.{record_long}
use Rattle.commit_check.specs.Conflicts.{merged_objects}
use Rattle.gem_meaning.specs.Events.{Told, standing}
use Rattle.stone_core.proofs.ByName.{first_true, second_true}
use Rattle.gem_meaning.specs.Effect.{kept_objects, stamped, by_name, effect_at}

less_apart : (o : Ordering) → T (is_lt o) → is_eq o ≡ false
less_apart Less less = refl
less_apart Equal less = absurd less
less_apart Greater less = refl

-- objects of other names leave what stands at this one
pub others_leave : (image : Image) (name : ℕ) (objects : List (ℕ × Object))
    → T (below_all nat_cmp name objects) → get (with_objects image objects) name ≡ get image name
others_leave image name [] above = refl
others_leave image name (entry ∷ objects) above =
    others_leave (insert image entry.0 entry.1) name objects (second_true _ _ above)
    ∙ get-insert nat_cmp_total image entry.0 entry.1 name
    ∙ ap (λ b. cond b (Some entry.1) (get image name)) (less_apart _ (first_true _ _ above))

each_spelled : (image : Image) (objects : List (ℕ × Object)) → T (is_sorted nat_cmp objects)
    → AreSpelled (with_objects image objects) → AllByRecursion (λ entry. IsSpelled entry.1) objects
each_spelled image [] sorted spelled = tt
each_spelled image (entry ∷ objects) sorted spelled = (
  spelled entry.0 entry.1 (
      others_leave (insert image entry.0 entry.1) entry.0 objects (first_true _ _ sorted)
      ∙ get-insert nat_cmp_total image entry.0 entry.1 entry.0
      ∙ ap (λ o. cond (is_eq o) (Some entry.1) (get image entry.0)) (tied_itself nat_cmp_total entry.0)),
  each_spelled (insert image entry.0 entry.1) objects (second_true _ _ sorted) spelled,
)

-- what is put into an image by name has a spelling where what comes of it is an image
pub effect_spelled : (image : Image) (objects : List (ℕ × Object))
    → AreSpelled (with_objects image (by_name objects)) → All (λ entry. IsSpelled entry.1) (by_name objects)
effect_spelled image objects spelled = All-from_recursion (λ (entry : ℕ × Object). IsSpelled entry.1) (by_name objects)
    (each_spelled image (by_name objects) (entries_sorted (from_entries objects)) spelled)

-- the effect as it is made of what the merges made
pub effect_made : (image : Image) (number : ℕ) (done : TxnRecord) (merged objects : List (ℕ × Object))
    → merged ≡ merged_objects image done
    → objects ≡ by_name (map (stamped number) (done.written ++ (kept_objects done ++ merged)))
    → objects ≡ effect_at image number done
unfolding effect_at
effect_made image number done merged objects merged_is is =
    is ∙ ap (λ more. by_name (map (stamped number) (done.written ++ (kept_objects done ++ more)))) merged_is

-- a bound by the effect's length, in the words of what stands
pub nodes_bound : (t now : Told) (image : Image) (number : ℕ) (done : TxnRecord) (merged objects : List (ℕ × Object))
    (before after : ℕ) → t ≡ now → image ≡ (standing t).image → number ≡ (standing t).number
    → merged ≡ merged_objects (standing now).image done
    → objects ≡ by_name (map (stamped (number + 1)) (done.written ++ (kept_objects done ++ merged)))
    → after ≤ before + 8 * length objects
    → after ≤ before + 8 * length (effect_at (standing now).image ((standing now).number + 1) done)
nodes_bound t now image number done merged objects before after same image_is number_is merged_is is most =
    let counted : number ≡ (standing now).number = number_is ∙ ap (λ (t : Told). (standing t).number) same in
    let stamped_now = subst (λ (n : ℕ). objects ≡ by_name (map (stamped (n + 1)) (done.written ++ (kept_objects done ++ merged)))) counted is in
    subst (λ (list : List (ℕ × Object)). after ≤ before + 8 * length list)
    (effect_made (standing now).image ((standing now).number + 1) done merged objects merged_is stamped_now) most

-- a record with the gate behind it is fourteen bytes longer than its effect
pub body_length : (mode : Mode) (effect : Effect) (body : List ℕ) → length (spelled_effect effect) ≡ effect_size effect
    → body ≡ spelled_record mode effect ++ 0 ∷ [] → length body ≡ log_record_size effect
body_length mode effect body long is =
    let whole = length-append (spelled_record mode effect) (0 ∷ []) in
    let long_record = record_long (Format2 mode effect) in
    ap length is ∙ omega (arith, whole, long_record, long)
