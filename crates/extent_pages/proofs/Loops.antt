-- What loops read, one behind the other.
use Rattle.std.proofs.Common.{◌≡◌, ℕ, suc, ◌-◌, ◌+◌, ◌≤◌, ◌<◌, List, [], ◌∷◌, ◌++◌, Result, Ok, Err, refl, sym, ◌∙◌, arith}
use Rattle.gem_object.specs.declared.object.Object.{Object}
use Rattle.body_codec.specs.declared.fault.Flaw.{Flaw}
use Rattle.body_codec.specs.Reading.{items_after}
use Rattle.extent_pages.specs.declared.fault.PartError.{PartError}
use Rattle.extent_pages.specs.declared.fault.PartError.TheVariants as parts
use Rattle.extent_pages.specs.Contents.{PayloadFault, entry_at, leaf_object_at, objects_after}
use Rattle.extent_pages.specs.Reads.{IsPartError}

-- ---- the entries of a directory

module _ (front : List (ℕ × ℕ)) (count i : ℕ) (bytes : List ℕ) (total : Result (List (ℕ × ℕ) × List ℕ) Flaw)
    (so_far : items_after entry_at (count - i) front bytes ≡ total) where
  pub entry_more : (entry : ℕ × ℕ) (after : List ℕ) → i < count → entry_at front bytes ≡ Ok (entry, after)
      → items_after entry_at (count - (i + 1)) (front ++ entry ∷ []) after ≡ total
  unfolding items_after
  entry_more entry after below read =
      let k : count - i ≡ suc (count - (i + 1)) = omega arith in
      let one : items_after entry_at (count - i) front bytes
      ≡ items_after entry_at (count - (i + 1)) (front ++ entry ∷ []) after = rw (k, read) refl in
      sym one ∙ so_far

  pub entry_fails : (flaw : Flaw) → i < count → entry_at front bytes ≡ Err flaw → total ≡ Err flaw
  unfolding items_after
  entry_fails flaw below read =
      let k : count - i ≡ suc (count - (i + 1)) = omega arith in
      let one : items_after entry_at (count - i) front bytes ≡ Err flaw = rw (k, read) refl in
      sym so_far ∙ one

  pub entries_done : count ≤ i → total ≡ Ok (front, bytes)
  unfolding items_after
  entries_done over =
      let k : count - i ≡ 0 = omega arith in
      let one : items_after entry_at (count - i) front bytes ≡ Ok (front, bytes) = rw k refl in
      sym so_far ∙ one

-- ---- the objects of a leaf

module _ (leaf : ℕ) (front : List (ℕ × Object)) (count i : ℕ) (bytes : List ℕ)
    (total : Result (List (ℕ × Object) × List ℕ) PayloadFault)
    (so_far : objects_after leaf (count - i) front bytes ≡ total) where
  pub object_more : (entry : ℕ × Object) (after : List ℕ) → i < count → leaf_object_at leaf front bytes ≡ Ok (entry, after)
      → objects_after leaf (count - (i + 1)) (front ++ entry ∷ []) after ≡ total
  unfolding objects_after
  object_more entry after below read =
      let k : count - i ≡ suc (count - (i + 1)) = omega arith in
      let one : objects_after leaf (count - i) front bytes
      ≡ objects_after leaf (count - (i + 1)) (front ++ entry ∷ []) after = rw (k, read) refl in
      sym one ∙ so_far

  pub object_fails : (e : PartError) → i < count → IsPartError e (leaf_object_at leaf front bytes) → IsPartError e total
  unfolding objects_after
  object_fails parts.NoMemory below read = tt
  object_fails (parts.Broken left broken) below read =
      let k : count - i ≡ suc (count - (i + 1)) = omega arith in
      let one : objects_after leaf (count - i) front bytes ≡ Err (left, broken) = rw (k, read) refl in
      sym so_far ∙ one

  pub objects_done : count ≤ i → total ≡ Ok (front, bytes)
  unfolding objects_after
  objects_done over =
      let k : count - i ≡ 0 = omega arith in
      let one : objects_after leaf (count - i) front bytes ≡ Ok (front, bytes) = rw k refl in
      sym so_far ∙ one
