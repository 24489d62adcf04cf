-- What a replay of updates does to a queue.
use Rattle.std.proofs.Common.{◌≡◌, ◌==◌, ℕ, ◌+◌, ◌-◌, ◌^◌, ◌<◌, ◌≤◌, Bool, true, false, cond, List, [], ◌∷◌, ◌++◌, map, take, slice_get, option_map, Option, Some, None, Result, Ok, Err, IsOk, Ordering, refl, sym, ap, ◌∙◌, inl, inr, ◌⊎◌, arith, suc}
use Rattle.std.proofs.lemmas.List.{append-nil, append_assoc}
use Rattle.std.proofs.lemmas.Bool.{false≢true}
use borrow.Author.Tests.{eqb-true}
use Rattle.std.specs.Ordering.{is_eq}
use Rattle.std.specs.Result.{is_ok}
use Rattle.rc_queue.specs.Contents.{Contents}
use Rattle.rc_queue.specs.Update.{is_removal, first_removal, removed_since, unless_refused, and_then, replayed, merged, one_removal_more}
use Rattle.rc_queue.specs.Turns.{merged_after, merged_twice}
use Rattle.rc_queue.specs.declared.update.QueueUpdate.{QueueUpdate}
use Rattle.rc_queue.specs.declared.update.QueueUpdate.TheVariants.{Add, Remove}

pub none_since : (same : Bool) (found : Option ℕ) → found ≡ None → cond same None found ≡ None
none_since true found e = refl
none_since false found e = e

module _ {T : Type 0} where
  -- a removal that was not refused went on
  pub went_on : (b : Bool) (at : ℕ) (queue : Contents T) (rest : Contents T → Result (Contents T) ℕ) (after : Contents T) → and_then at (cond b (Some queue) None) rest ≡ Ok after → (b ≡ true) × (rest queue ≡ Ok after)
  went_on true at queue rest after e = (refl, e)
  went_on false at queue rest after e = absurd (cc)

  pub went_err : (b : Bool) (at : ℕ) (queue : Contents T) (rest : Contents T → Result (Contents T) ℕ) (i : ℕ) → b ≡ true → and_then at (cond b (Some queue) None) rest ≡ Err i → rest queue ≡ Err i
  went_err true at queue rest i test e = e
  went_err false at queue rest i test e = absurd (cc)

  -- nothing was refused beforehand
  pub not_refused : (refusal : Option ℕ) (answer : Result (Contents T) ℕ) (after : Contents T) → unless_refused refusal answer ≡ Ok after → (refusal ≡ None) × (answer ≡ Ok after)
  not_refused None answer after e = (refl, e)
  not_refused (Some at) answer after e = absurd (cc)

  pub goes_on : (refusal : Option ℕ) (answer : Result (Contents T) ℕ) → refusal ≡ None → unless_refused refusal answer ≡ answer
  goes_on refusal answer e = ap (λ r. unless_refused r answer) e

  pub ok_value : (r : Result (Contents T) ℕ) → IsOk r → (after : Contents T) × (r ≡ Ok after)
  ok_value (Ok after) h = (after, refl)
  ok_value (Err at) h = absurd (cc)

  pub no_removal_in_adds : (at : ℕ) (added : List T) → first_removal at (map Add added) ≡ None
  no_removal_in_adds at [] = refl
  no_removal_in_adds at (x ∷ xs) = no_removal_in_adds (at + 1) xs

  module _ (cmp : T → T → Ordering) where
    -- adds go to the back, one after another
    pub replayed-adds : (at : ℕ) (added : List T) (removed : ℕ) (items : List T) → replayed cmp at (map Add added) (record { removed = removed; items = items }) ≡ Ok (record { removed = removed; items = items ++ added })
    replayed-adds at [] removed items = rw append-nil
    replayed-adds at (x ∷ xs) removed items = replayed-adds (at + 1) xs removed (items ++ x ∷ []) ∙ rw append_assoc

    -- removals go on as before where the queue is longer
    pub replayed-longer : (at : ℕ) (taken : List T) (removed : ℕ) (items added : List T) (after : Contents T)
        → replayed cmp at (map Remove taken) (record { removed = removed; items = items }) ≡ Ok after
        → replayed cmp at (map Remove taken) (record { removed = removed; items = items ++ added }) ≡ Ok (record { removed = after.removed; items = after.items ++ added })
    replayed-longer at [] removed items added after e = cc (ap (λ (r : Result (Contents T) ℕ). r) e)
    replayed-longer at (x ∷ xs) removed [] added after e = absurd (cc)
    replayed-longer at (x ∷ xs) removed (front ∷ rest) added after e =
        let w = went_on (is_eq (cmp front x)) at _ _ after e in
        rw w.0 (replayed-longer (at + 1) xs (one_removal_more removed) rest added after w.1)

    -- the count of removals never falls
    pub removed-rises : (at : ℕ) (updates : List (QueueUpdate T)) (removed : ℕ) (items : List T) (after : Contents T)
        → replayed cmp at updates (record { removed = removed; items = items }) ≡ Ok after → removed ≤ 2 ^ 64 - 1 → removed ≤ after.removed
    removed-rises at [] removed items after e fits = let same : record { removed = removed; items = items } ≡ after = cc in omega (arith, ap (λ (queue : Contents T). queue.removed) same)
    removed-rises at (Add x ∷ rest) removed items after e fits = removed-rises (at + 1) rest removed (items ++ x ∷ []) after e fits
    removed-rises at (Remove x ∷ rest) removed [] after e fits = absurd (cc)
    removed-rises at (Remove x ∷ rest) removed (front ∷ items) after e fits =
        let w = went_on (is_eq (cmp front x)) at _ _ after e in
        omega (arith, removed-rises (at + 1) rest (one_removal_more removed) items after w.1 (omega arith))

    -- and a removal raises it
    pub removal_raises : (at : ℕ) (updates : List (QueueUpdate T)) (removed : ℕ) (items : List T) (after : Contents T) (i : ℕ)
        → replayed cmp at updates (record { removed = removed; items = items }) ≡ Ok after → removed < 2 ^ 64 - 1 → first_removal at updates ≡ Some i → removed < after.removed
    removal_raises at [] removed items after i e below found = absurd (cc)
    removal_raises at (Add x ∷ rest) removed items after i e below found = removal_raises (at + 1) rest removed (items ++ x ∷ []) after i e below found
    removal_raises at (Remove x ∷ rest) removed [] after i e below found = absurd (cc)
    removal_raises at (Remove x ∷ rest) removed (front ∷ items) after i e below found =
        let w = went_on (is_eq (cmp front x)) at _ _ after e in
        omega (arith, removed-rises (at + 1) rest (one_removal_more removed) items after w.1 (omega arith))

    module _ (view : Contents T) where
      -- adds merge, and go to the back
      merged-adds_at : (place : Contents T) (added : List T) → merged cmp view place (map Add added) ≡ Ok (record { removed = place.removed; items = place.items ++ added })
      merged-adds_at place added = goes_on _ _ (none_since _ _ (no_removal_in_adds 0 added)) ∙ replayed-adds 0 added place.removed place.items

      -- removals that merge do so where the queue is longer
      pub merged-longer : (place : Contents T) (added taken : List T) (after : Contents T) → merged cmp view place (map Remove taken) ≡ Ok after
          → merged cmp view (record { removed = place.removed; items = place.items ++ added }) (map Remove taken) ≡ Ok (record { removed = after.removed; items = after.items ++ added })
      merged-longer place added taken after e =
          let w = not_refused (removed_since view place (map Remove taken)) _ after e in
          goes_on _ _ w.0 ∙ replayed-longer 0 taken place.removed place.items added after w.1

      -- both merges, in either order
      pub merged_twice-taken : (place : Contents T) (added taken : List T) (after : Contents T) → merged cmp view place (map Remove taken) ≡ Ok after
          → merged_twice cmp view place (map Remove taken) (map Add added) ≡ Ok (record { removed = after.removed; items = after.items ++ added })
      merged_twice-taken place added taken after e = ap (λ r. merged_after cmp r view (map Add added)) e ∙ merged-adds_at after added

      pub merged_twice-added : (place : Contents T) (added taken : List T) (after : Contents T) → merged cmp view place (map Remove taken) ≡ Ok after
          → merged_twice cmp view place (map Add added) (map Remove taken) ≡ Ok (record { removed = after.removed; items = after.items ++ added })
      merged_twice-added place added taken after e = ap (λ r. merged_after cmp r view (map Remove taken)) (merged-adds_at place added) ∙ merged-longer place added taken after e

-- ---- the first refusal

module _ {T : Type 0} where
  -- the update at this place is a removal
  abbrev pub RemovesAt : List (QueueUpdate T) → ℕ → Type 0
  RemovesAt updates j = option_map is_removal (slice_get updates j) ≡ Some true

  -- the first removal is one, and none stands before it
  pub record IsFirstRemoval (start i : ℕ) (updates : List (QueueUpdate T)) : Type 0 where
    pub place : ℕ
    pub counted : i ≡ start + place
    pub removes : RemovesAt updates place
    pub none_before : first_removal start (take place updates) ≡ None

  pub first_removal_found : (start : ℕ) (updates : List (QueueUpdate T)) (i : ℕ) → first_removal start updates ≡ Some i → IsFirstRemoval start i updates
  first_removal_found start [] i e = absurd (cc)
  first_removal_found start (Add x ∷ rest) i e =
      let r = first_removal_found (start + 1) rest i e in
      record { place = suc r.place; counted = omega (arith, r.counted); removes = r.removes; none_before = r.none_before }
  first_removal_found start (Remove x ∷ rest) i e =
      let same : start ≡ i = cc in record { place = 0; counted = omega arith; removes = refl; none_before = refl }

  module _ (cmp : T → T → Ordering) where
    -- updates without a removal are never refused
    pub adds_are_ok : (start : ℕ) (updates : List (QueueUpdate T)) (removed : ℕ) (items : List T) → first_removal start updates ≡ None → IsOk (replayed cmp start updates (record { removed = removed; items = items }))
    adds_are_ok start [] removed items none = refl
    adds_are_ok start (Add x ∷ rest) removed items none = adds_are_ok (start + 1) rest removed (items ++ x ∷ []) none
    adds_are_ok start (Remove x ∷ rest) removed items none = absurd (cc)

    -- where a replay is refused, there is a removal, and the updates before it are replayed
    pub record IsRefusedAt (start i : ℕ) (updates : List (QueueUpdate T)) (removed : ℕ) (items : List T) : Type 0 where
      pub place : ℕ
      pub counted : i ≡ start + place
      pub removes : RemovesAt updates place
      pub before : IsOk (replayed cmp start (take place updates) (record { removed = removed; items = items }))

    refused_by : (b : Bool) (start i : ℕ) (x front : T) (rest : List (QueueUpdate T)) (removed : ℕ) (items : List T) → is_eq (cmp front x) ≡ b
        → (b ≡ true → IsRefusedAt (start + 1) i rest (one_removal_more removed) items)
        → and_then start (cond b (Some (record { removed = one_removal_more removed; items = items })) None) (replayed cmp (start + 1) rest) ≡ Err i
        → IsRefusedAt start i (Remove x ∷ rest) removed (front ∷ items)
    refused_by true start i x front rest removed items test went e =
        let r = went refl in
        record { place = suc r.place; counted = omega (arith, r.counted); removes = r.removes; before = rw test r.before }
    refused_by false start i x front rest removed items test went e =
        let same : start ≡ i = cc in record { place = 0; counted = omega arith; removes = refl; before = refl }

    pub refused_at : (start : ℕ) (updates : List (QueueUpdate T)) (removed : ℕ) (items : List T) (i : ℕ)
        → replayed cmp start updates (record { removed = removed; items = items }) ≡ Err i → IsRefusedAt start i updates removed items
    refused_at start [] removed items i e = absurd (cc)
    refused_at start (Add x ∷ rest) removed items i e =
        let r = refused_at (start + 1) rest removed (items ++ x ∷ []) i e in
        record { place = suc r.place; counted = omega (arith, r.counted); removes = r.removes; before = r.before }
    refused_at start (Remove x ∷ rest) removed [] i e =
        let same : start ≡ i = cc in record { place = 0; counted = omega arith; removes = refl; before = refl }
    refused_at start (Remove x ∷ rest) removed (front ∷ items) i e =
        refused_by (is_eq (cmp front x)) start i x front rest removed items refl (λ test. refused_at (start + 1) rest (one_removal_more removed) items i (went_err _ start _ _ i test e)) e

    -- a merge is refused beforehand, at its first removal, or by the replay
    since_or_replayed : (refusal : Option ℕ) (answer : Result (Contents T) ℕ) (i : ℕ) → unless_refused refusal answer ≡ Err i → (refusal ≡ Some i) ⊎ ((refusal ≡ None) × (answer ≡ Err i))
    since_or_replayed None answer i e = inr (refl, e)
    since_or_replayed (Some at) answer i e = let same : at ≡ i = cc in inl (ap Some same)

    module _ (view place : Contents T) where
      pub record IsFirstRefusal (updates : List (QueueUpdate T)) (i : ℕ) : Type 0 where
        pub removes : RemovesAt updates i
        pub before : IsOk (merged cmp view place (take i updates))

      refused_since : (same : Bool) (updates : List (QueueUpdate T)) (i : ℕ) → (view.removed == place.removed) ≡ same → cond same None (first_removal 0 updates) ≡ Some i → IsFirstRefusal updates i
      refused_since true updates i test e = absurd (cc)
      refused_since false updates i test e =
          let r = first_removal_found 0 updates i e in
          let here : i ≡ r.place = omega (arith, r.counted) in
          let none : first_removal 0 (take i updates) ≡ None = ap (λ j. first_removal 0 (take j updates)) here ∙ r.none_before in
          record {
            removes = ap (λ j. option_map is_removal (slice_get updates j)) here ∙ r.removes;
            before = ap is_ok (goes_on _ (replayed cmp 0 (take i updates) place) (none_since (view.removed == place.removed) _ none)) ∙ adds_are_ok 0 (take i updates) place.removed place.items none;
          }

      refused_in_replay : (same : Bool) (updates : List (QueueUpdate T)) (i : ℕ) → (view.removed == place.removed) ≡ same → cond same None (first_removal 0 updates) ≡ None → replayed cmp 0 updates place ≡ Err i → IsFirstRefusal updates i
      refused_in_replay true updates i test none e =
          let r = refused_at 0 updates place.removed place.items i e in
          let here : i ≡ r.place = omega (arith, r.counted) in
          record {
            removes = ap (λ j. option_map is_removal (slice_get updates j)) here ∙ r.removes;
            before = ap is_ok (goes_on (removed_since view place (take i updates)) (replayed cmp 0 (take i updates) place) (ap (λ b. cond b None (first_removal 0 (take i updates))) test)) ∙ ap (λ j. is_ok (replayed cmp 0 (take j updates) place)) here ∙ r.before;
          }
      refused_in_replay false updates i test none e =
          let stands = adds_are_ok 0 updates place.removed place.items none in absurd (false≢true (sym (ap is_ok e) ∙ stands))

      pub first_refusal : (updates : List (QueueUpdate T)) (i : ℕ) → merged cmp view place updates ≡ Err i → IsFirstRefusal updates i
      first_refusal updates i e = elim (since_or_replayed (removed_since view place updates) (replayed cmp 0 updates place) i e) [
        | inl since ↦ refused_since (view.removed == place.removed) updates i refl since
        | inr replay ↦ refused_in_replay (view.removed == place.removed) updates i refl replay.0 replay.1
      ]

-- ---- no front goes twice

module _ {T : Type 0} (cmp : T → T → Ordering) (view place after : Contents T) where
  counts_differ : (same : Bool) (found : Option ℕ) (i : ℕ) → (same ≡ true → ⊥) → found ≡ Some i → cond same None found ≡ Some i
  counts_differ true found i differ e = absurd (differ refl)
  counts_differ false found i differ e = e

  counts_agree : (same : Bool) (found : Option ℕ) (i : ℕ) → cond same None found ≡ None → found ≡ Some i → same ≡ true
  counts_agree true found i none e = refl
  counts_agree false found i none e = absurd (cc)

  pub front_goes_once : (first second : List (QueueUpdate T)) (i j : ℕ) → view.removed < 2 ^ 64 - 1 → merged cmp view place first ≡ Ok after → first_removal 0 first ≡ Some i → first_removal 0 second ≡ Some j → merged cmp view after second ≡ Err j
  front_goes_once first second i j below e found_first found_second =
      let w = not_refused (removed_since view place first) (replayed cmp 0 first place) after e in
      let agree : (view.removed == place.removed) ≡ true = counts_agree (view.removed == place.removed) (first_removal 0 first) i w.0 found_first in
      let same : view.removed ≡ place.removed = eqb-true _ _ agree in
      let raised : place.removed < after.removed = removal_raises cmp 0 first place.removed place.items after i w.1 (omega arith) found_first in
      let differ : (view.removed == after.removed) ≡ true → ⊥ = λ h. let equal : view.removed ≡ after.removed = eqb-true _ _ h in omega arith in
      ap (λ r. unless_refused r (replayed cmp 0 second after)) (counts_differ (view.removed == after.removed) (first_removal 0 second) j differ found_second)

module _ {T : Type 0} (cmp : T → T → Ordering) (view place : Contents T) where
  -- a front went since the view, so no removal is merged
  pub since_refused : (updates : List (QueueUpdate T)) (i : ℕ) → (view.removed ≡ place.removed → ⊥) → first_removal 0 updates ≡ Some i → merged cmp view place updates ≡ Err i
  since_refused updates i apart found =
      ap (λ r. unless_refused r (replayed cmp 0 updates place)) (counts_differ cmp view place place (view.removed == place.removed) (first_removal 0 updates) i (λ h. apart (eqb-true _ _ h)) found)
