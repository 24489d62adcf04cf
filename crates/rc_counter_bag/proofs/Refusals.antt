-- Where a replay of updates is first refused.
use Rattle.std.proofs.Common.{◌≡◌, ℕ, suc, ◌+◌, List, [], ◌∷◌, take, slice_get, Option, Some, None, Ok, Err, Ordering, refl, ap, ◌∙◌, arith}
use Rattle.rc_counter_bag.specs.Bag.{and_then, count, with_one_more, with_one_less, updated, replayed}
use Rattle.rc_counter_bag.specs.declared.update.BagUpdate.{BagUpdate}
use Rattle.rc_counter_bag.specs.declared.update.BagUpdate.TheVariants.{Add, Remove}
use Rattle.rc_counter_bag.proofs.Counts.{count-refused}

module _ {T : Type 0} (cmp : T → T → Ordering) where
  -- the updates before the refused one are replayed, and it removes an item that doesn't occur then
  pub record IsRefusedAt (start i : ℕ) (updates : List (BagUpdate T)) (pairs : List (T × ℕ)) : Type 0 where
    pub place : ℕ
    pub counted : i ≡ start + place
    pub before : List (T × ℕ)
    pub item : T
    pub replays : replayed cmp start (take place updates) pairs ≡ Ok before
    pub removes : slice_get updates place ≡ Some (Remove item)
    pub missing : count cmp item before ≡ 0

  step : (start i : ℕ) (update : BagUpdate T) (rest : List (BagUpdate T)) (pairs after : List (T × ℕ)) → updated cmp update pairs ≡ Some after → IsRefusedAt (start + 1) i rest after → IsRefusedAt start i (update ∷ rest) pairs
  step start i update rest pairs after e r = record {
    place = suc r.place;
    counted = omega (arith, r.counted);
    before = r.before;
    item = r.item;
    replays = ap (λ o. and_then start o (replayed cmp (start + 1) (take r.place rest))) e ∙ r.replays;
    removes = r.removes;
    missing = r.missing;
  }

  by_removal : (start i : ℕ) (x : T) (rest : List (BagUpdate T)) (pairs : List (T × ℕ)) (left : Option (List (T × ℕ))) → with_one_less cmp x pairs ≡ left
      → ((after : List (T × ℕ)) → replayed cmp (start + 1) rest after ≡ Err i → IsRefusedAt (start + 1) i rest after)
      → and_then start left (replayed cmp (start + 1) rest) ≡ Err i → IsRefusedAt start i (Remove x ∷ rest) pairs
  by_removal start i x rest pairs None gone more e =
      let same : start ≡ i = cc in
      record { place = 0; counted = omega arith; before = pairs; item = x; replays = refl; removes = refl; missing = count-refused cmp x pairs gone }
  by_removal start i x rest pairs (Some after) gone more e = step start i (Remove x) rest pairs after gone (more after e)

  pub refused_at : (start : ℕ) (updates : List (BagUpdate T)) (pairs : List (T × ℕ)) (i : ℕ) → replayed cmp start updates pairs ≡ Err i → IsRefusedAt start i updates pairs
  refused_at start [] pairs i e = absurd (cc)
  refused_at start (Add x ∷ rest) pairs i e = step start i (Add x) rest pairs (with_one_more cmp x pairs) refl (refused_at (start + 1) rest (with_one_more cmp x pairs) i e)
  refused_at start (Remove x ∷ rest) pairs i e = by_removal start i x rest pairs (with_one_less cmp x pairs) refl (λ after. refused_at (start + 1) rest after i) e
