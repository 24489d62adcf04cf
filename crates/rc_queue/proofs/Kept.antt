-- What goes in a replay, and what stays.
use Rattle.std.proofs.Common.{◌≡◌, ℕ, ◌+◌, ◌-◌, ◌^◌, ◌≤◌, min, List, [], ◌∷◌, ◌++◌, length, Ok, Ordering, sym, ap, ◌∙◌, arith}
use Rattle.std.proofs.lemmas.List.{append-nil, append_assoc}
use Rattle.std.specs.Cmp.{Equal-is}
use Rattle.std.specs.List.{AllZip}
use Rattle.std.specs.Ordering.{is_eq}
use Rattle.std.specs.declared.cmp.Ordering.TheVariants.{Equal}
use Rattle.rc_queue.specs.Contents.{Contents}
use Rattle.rc_queue.specs.Update.{removed_since, replayed, merged, one_removal_more, added_items, removed_items}
use Rattle.rc_queue.specs.declared.update.QueueUpdate.{QueueUpdate}
use Rattle.rc_queue.specs.declared.update.QueueUpdate.TheVariants.{Add, Remove}
use Rattle.rc_queue.proofs.Replay.{went_on, not_refused}

module _ {T : Type 0} (cmp : T → T → Ordering) where
  abbrev Parts : List T → List (QueueUpdate T) → List T → Type 0
  Parts items updates after = (gone : List T) × (items ++ added_items updates ≡ gone ++ after) × AllZip (λ item named. cmp item named ≡ Equal) gone (removed_items updates)

  parts : (at : ℕ) (updates : List (QueueUpdate T)) (removed : ℕ) (items : List T) (after : Contents T)
      → replayed cmp at updates (record { removed = removed; items = items }) ≡ Ok after → Parts items updates after.items
  parts at [] removed items after e =
      let same : record { removed = removed; items = items } ≡ after = cc in
      ([], append-nil items ∙ ap (λ (queue : Contents T). queue.items) same, tt)
  parts at (Add x ∷ rest) removed items after e =
      let p = parts (at + 1) rest removed (items ++ x ∷ []) after e in
      (p.0, sym (append_assoc items (x ∷ []) (added_items rest)) ∙ p.1, p.2)
  parts at (Remove x ∷ rest) removed [] after e = absurd (cc)
  parts at (Remove x ∷ rest) removed (front ∷ items) after e =
      let w = went_on (is_eq (cmp front x)) at _ _ after e in
      let p = parts (at + 1) rest (one_removal_more removed) items after w.1 in
      (front ∷ p.0, ap (λ l. front ∷ l) p.1, ((Equal-is (cmp front x)).0 w.0, p.2))

  counts : (at : ℕ) (updates : List (QueueUpdate T)) (removed : ℕ) (items : List T) (after : Contents T)
      → replayed cmp at updates (record { removed = removed; items = items }) ≡ Ok after → removed ≤ 2 ^ 64 - 1 → after.removed ≡ min (removed + length (removed_items updates)) (2 ^ 64 - 1)
  counts at [] removed items after e fits =
      let same : record { removed = removed; items = items } ≡ after = cc in
      omega (arith, ap (λ (queue : Contents T). queue.removed) same)
  counts at (Add x ∷ rest) removed items after e fits = counts (at + 1) rest removed (items ++ x ∷ []) after e fits
  counts at (Remove x ∷ rest) removed [] after e fits = absurd (cc)
  counts at (Remove x ∷ rest) removed (front ∷ items) after e fits =
      let w = went_on (is_eq (cmp front x)) at _ _ after e in
      omega (arith, counts (at + 1) rest (one_removal_more removed) items after w.1 (omega arith))

  module _ (view place after : Contents T) (updates : List (QueueUpdate T)) (e : merged cmp view place updates ≡ Ok after) where
    replay : replayed cmp 0 updates place ≡ Ok after
    replay = let w = not_refused (removed_since view place updates) (replayed cmp 0 updates place) after e in w.1

    pub nothing_lost : Parts place.items updates after.items
    nothing_lost = parts 0 updates place.removed place.items after replay

    pub counted : place.removed ≤ 2 ^ 64 - 1 → after.removed ≡ min (place.removed + length (removed_items updates)) (2 ^ 64 - 1)
    counted fits = counts 0 updates place.removed place.items after replay fits
