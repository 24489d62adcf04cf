-- What a round's commit changes at its place, and how long its record is.
use Rattle.std.proofs.Common.{◌≡◌, ℕ, ℤ, pos, ◌+◌, ◌+ℤ◌, ◌<◌, ◌≤◌, Bool, true, false, List, [], ◌∷◌, ◌++◌, map, Option, Some, None, option_map, refl, ap, ap₂, ◌∙◌, arith}
use Rattle.std.specs.Prelude.{if◌then◌else◌}
use Rattle.std.specs.declared.cmp.Ordering.{Ordering}
use Rattle.std.specs.declared.cmp.Ordering.TheVariants.{Less, Equal, Greater}
use Rattle.std.specs.Ordering.{nat_cmp, MatchOrdering, match_ordering, is_eq}
use Rattle.std.specs.List.{AllByRecursion, flat_map}
use Rattle.std.specs.FinMap.{get}
use Rattle.std.proofs.lemmas.Cmp.{ranked}
use Rattle.gem_meaning.specs.texts.SmallInteger.{is_small_integer}
use Rattle.gem_meaning.specs.gem_object.Sizes.{fields_size}
use Rattle.gem_meaning.specs.gem_object.declared.object.Object.{Object}
use Rattle.gem_meaning.specs.gem_object.declared.value.Value.{Value}
use Rattle.gem_meaning.specs.gem_object.declared.body.Body.{Body}
use Rattle.gem_meaning.specs.rc_counter_bag.Counter.{total}
use Rattle.gem_meaning.specs.rc_counter_bag.declared.update.BagUpdate.TheVariants.{Add}
use Rattle.gem_meaning.specs.gem_image.Image.{Image, Contents, contents_of}
use Rattle.gem_meaning.specs.gem_update.Update.{merged}
use Rattle.gem_meaning.specs.gem_update.declared.update.Update.{Update}
use Rattle.gem_meaning.specs.gem_update.declared.update.Update.TheVariants as change
use Rattle.gem_meaning.specs.gem_record.declared.record.TxnRecord.{TxnRecord}
use Rattle.gem_meaning.specs.gem_record.Effects.{log_record_size}
use Rattle.gem_meaning.specs.gem_record.Names.{under}
use Rattle.gem_meaning.specs.kept_set.Kept.{kept_of, roots_of}
use Rattle.gem_meaning.specs.Effect.{kept_objects, changed_objects, stamped, by_name, effect_at}
use Rattle.gem_meaning.specs.commit_check.Union.{union, merged_in}
use Rattle.gem_meaning.specs.commit_check.Conflicts.{names_of, made_or_refused, merge_of, object_in, merged_on, merged_objects}
use Rattle.gem_server.specs.Rounds.{hits, names, hits_contents, names_contents, with_name, round_name, IsLoaded, IsRoundRecord}
use Rattle.gem_server.proofs.RunRecords.{entries_put}
use Rattle.gem_server.proofs.RoundConflicts.{some_is, counter_merged_is, bag_merged_is}
use Rattle.gem_server.proofs.LoadImages.{load_effect}

-- ---- one merge

-- one object with these contents was made
record IsMade (oid : ℕ) (merges : List (ℕ × Object)) (after : Contents) : Type 0 where
  object : Object
  is : merges ≡ (oid, object) ∷ []
  has : contents_of object ≡ after

made_where : (oid : ℕ) (updates : List Update) (view place : Option Object) (view_has place_has : Contents) (made : Body)
    → option_map contents_of view ≡ Some view_has → option_map contents_of place ≡ Some place_has
    → merged view_has.body place_has.body updates ≡ Some made
    → IsMade oid (object_in oid (merge_of oid (Some updates) view place)) (record place_has { body = made })
made_where oid updates None place view_has place_has made there found merges_so = absurd cc
made_where oid updates (Some view) None view_has place_has made there found merges_so = absurd cc
made_where oid updates (Some view) (Some place) view_has place_has made there found merges_so =
    let before : view.body ≡ view_has.body = ap (λ (c : Contents). c.body) (some_is (contents_of view) view_has there) in
    let here : place.body ≡ place_has.body = ap (λ (c : Contents). c.body) (some_is (contents_of place) place_has found) in
    record {
      object = record place { body = made };
      is = ap (λ (after : Option Body). object_in oid (made_or_refused oid place after))
          (ap₂ (λ (v p : Body). merged v p updates) before here ∙ merges_so);
      has = ap (λ (c : Contents). record c { body = made }) (some_is (contents_of place) place_has found);
    }

-- ---- the names used

below : (a b : ℕ) → a < b → nat_cmp a b ≡ Less
below a b less = by (nat_cmp a b) (ranked a b _ refl)
  where
    by : (order : Ordering) → MatchOrdering order (a < b) (a ≡ b) (b < a) → order ≡ Less
    by Less is = refl
    by Equal is = absurd (omega (arith, is, less))
    by Greater is = absurd (omega (arith, is, less))

apart : (a b : ℕ) → b < a → is_eq (nat_cmp a b) ≡ false
apart a b less = by (nat_cmp a b) (ranked a b _ refl)
  where
    by : (order : Ordering) → MatchOrdering order (a < b) (a ≡ b) (b < a) → is_eq order ≡ false
    by Less is = refl
    by Equal is = absurd (omega (arith, is, less))
    by Greater is = refl

union_none : (touched : List ℕ) → union touched [] ≡ touched
union_none [] = refl
union_none (name ∷ touched) = refl

abbrev both : List ℕ
both = hits ∷ names ∷ []

-- where nothing comes of a touched name
flat_union : (f : ℕ → List (ℕ × Object)) → ((oid : ℕ) → oid ≤ 35 → f oid ≡ []) → (touched : List ℕ)
    → AllByRecursion (λ name. name ≤ 35) touched → flat_map f (union touched both) ≡ flat_map f both
flat_union f none [] all = refl
flat_union f none (name ∷ touched) all =
    ap (λ (order : Ordering). flat_map f (match_ordering order (name ∷ union touched both) (name ∷ union touched (names ∷ []))
    (hits ∷ merged_in name touched (union touched) (names ∷ [])))) (below name hits (let low = all.0 in omega (arith, low)))
    ∙ ap (λ (here : List (ℕ × Object)). here ++ flat_map f (union touched both)) (none name all.0)
    ∙ flat_union f none touched all.1

kept_nothing : (roots : List ℕ) → kept_of roots [] ≡ []
unfolding kept_of
kept_nothing roots = refl

module _ (number : ℕ) (image place : Image) (value placed : ℤ) (pairs others : List (Value × ℕ)) (loaded : IsLoaded image value pairs)
    (there : IsLoaded place placed others) (done : TxnRecord) (rec : IsRoundRecord number done) (base : done.base ≡ image)
    (small : is_small_integer (placed +ℤ total (pos number ∷ [])) ≡ true) where
  abbrev raise : List Update
  raise = change.Counter (pos number) ∷ []

  abbrev add : List Update
  add = change.Bag (Add (round_name number)) ∷ []

  abbrev all_updates : List (ℕ × List Update)
  all_updates = (hits, raise) ∷ (names, add) ∷ []

  abbrev after : ℤ
  after = placed +ℤ total (pos number ∷ [])

  raised : IsMade hits (object_in hits (merge_of hits (Some raise) (get image hits) (get place hits))) (hits_contents after)
  raised = made_where hits raise (get image hits) (get place hits) (hits_contents value) (hits_contents placed) (hits_contents after).body
      (loaded hits) (there hits) (counter_merged_is value placed number small)

  added : IsMade names (object_in names (merge_of names (Some add) (get image names) (get place names)))
      (names_contents (with_name number others))
  added = made_where names add (get image names) (get place names) (names_contents pairs) (names_contents others)
      (names_contents (with_name number others)).body (loaded names) (there names) (bag_merged_is pairs others number)

  merged_is : (oid : ℕ) → merged_on place done oid ≡ object_in oid (merge_of oid (under oid all_updates) (get image oid) (get place oid))
  merged_is oid =
      ap (λ (updates : List (ℕ × List Update)). object_in oid (merge_of oid (under oid updates) (get done.base oid) (get place oid))) rec.updates
      ∙ ap (λ (b : Image). object_in oid (merge_of oid (under oid all_updates) (get b oid) (get place oid))) base

  of_hits : merged_on place done hits ≡ (hits, raised.object) ∷ []
  of_hits = merged_is hits ∙ raised.is

  of_names : merged_on place done names ≡ (names, added.object) ∷ []
  of_names = merged_is names ∙ added.is

  of_kernel : (oid : ℕ) → oid ≤ 35 → merged_on place done oid ≡ []
  of_kernel oid low = merged_is oid ∙ ap₂ (λ (one other : Bool). object_in oid (merge_of oid
      (if one then Some raise else (if other then Some add else None)) (get image oid) (get place oid)))
      (apart hits oid (omega (arith, low))) (apart names oid (omega (arith, low)))

  all_merged : merged_objects place done ≡ (hits, raised.object) ∷ (names, added.object) ∷ []
  unfolding merged_objects
  all_merged = ap₂ (λ (written : List (ℕ × Object)) (updates : List (ℕ × List Update)).
      flat_map (merged_on place done) (union (union done.touched (names_of written)) (names_of updates))) rec.written rec.updates
      ∙ ap (λ (touched : List ℕ). flat_map (merged_on place done) (union touched both)) (union_none done.touched)
      ∙ flat_union (merged_on place done) of_kernel done.touched rec.touched
      ∙ ap₂ (λ (one other : List (ℕ × Object)). one ++ (other ++ [])) of_hits of_names

  changes_are : changed_objects place done ≡ (hits, raised.object) ∷ (names, added.object) ∷ []
  changes_are =
      ap (λ (written : List (ℕ × Object)). written ++ (kept_objects done ++ merged_objects place done)) rec.written
      ∙ ap (λ (kept : List (ℕ × Object)). kept ++ merged_objects place done)
      (ap (kept_of (roots_of done.written done.updates)) rec.made ∙ kept_nothing (roots_of done.written done.updates))
      ∙ all_merged

  -- the effect of a round's commit with this number
  pub round_effect : (at : ℕ) → effect_at place at done ≡ load_effect at after (with_name number others)
  unfolding effect_at
  round_effect at = ap (λ (changes : List (ℕ × Object)). by_name (map (stamped at) changes)) changes_are
      ∙ entries_put ((hits, record raised.object { changed = at }) ∷ (names, record added.object { changed = at }) ∷ [])
      ∙ ap₂ (λ (counter bag : Contents).
      (hits, record { class = counter.class; segment = counter.segment; changed = at; body = counter.body })
      ∷ (names, record { class = bag.class; segment = bag.segment; changed = at; body = bag.body }) ∷ []) raised.has added.has

-- ---- its record in the log

pub effect_bytes : (number at : ℕ) (value : ℤ) (pairs : List (Value × ℕ))
    → log_record_size (record { number = number; objects = load_effect at value pairs }) ≡ 76 + fields_size (names_contents pairs).body
effect_bytes number at value pairs = omega arith
