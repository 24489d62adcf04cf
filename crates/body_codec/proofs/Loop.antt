-- Reading items one after the other, as a loop does.
use Rattle.std.proofs.Common.{◌≡◌, ℕ, suc, ◌-◌, ◌+◌, ◌≤◌, ◌<◌, List, [], ◌∷◌, ◌++◌, Result, Ok, Err, refl, sym, ◌∙◌, arith}
use Rattle.body_codec.specs.declared.fault.Flaw.{Flaw}
use Rattle.body_codec.specs.declared.fault.ReadError.{ReadError}
use Rattle.body_codec.specs.declared.fault.ReadError.TheVariants as errors
use Rattle.body_codec.specs.Reading.{Fails, items_after}

module _ {X : Type 0} (item_at : List X → List ℕ → Result (X × List ℕ) Flaw) (front : List X) (count i : ℕ)
    (bytes : List ℕ) (total : Result (List X × List ℕ) Flaw)
    (so_far : items_after item_at (count - i) front bytes ≡ total) where
  pub goes_on : (x : X) (after : List ℕ) → i < count → item_at front bytes ≡ Ok (x, after)
      → items_after item_at (count - (i + 1)) (front ++ x ∷ []) after ≡ total
  unfolding items_after
  goes_on x after below read =
      let k : count - i ≡ suc (count - (i + 1)) = omega arith in
      let one : items_after item_at (count - i) front bytes
      ≡ items_after item_at (count - (i + 1)) (front ++ x ∷ []) after = rw (k, read) refl in
      sym one ∙ so_far

  pub ends : (e : ReadError) → i < count → Fails e (item_at front bytes) → Fails e total
  unfolding items_after
  ends errors.Memory below read = tt
  ends (errors.Flaw f) below read =
      let k : count - i ≡ suc (count - (i + 1)) = omega arith in
      let one : items_after item_at (count - i) front bytes ≡ Err f = rw (k, read) refl in
      sym so_far ∙ one

  pub is_done : count ≤ i → total ≡ Ok (front, bytes)
  unfolding items_after
  is_done over =
      let k : count - i ≡ 0 = omega arith in
      let one : items_after item_at (count - i) front bytes ≡ Ok (front, bytes) = rw k refl in
      sym so_far ∙ one
