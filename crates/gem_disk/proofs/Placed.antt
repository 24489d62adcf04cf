-- Bytes written over a list, and taken back.
use Rattle.std.proofs.Common.{◌≡◌, ℕ, ◌+◌, ◌-◌, ◌≤◌, min, List, [], ◌++◌, length, take, drop, refl, sym, ◌∙◌, ap, subst, inl, inr, arith, append_assoc, length-append, length-drop, length-take-le, take-append-drop, take-add, take_at, drop_at, take_all, take-take}
use Rattle.std.proofs.lemmas.List.{take_rest, drop_all}
use Rattle.std.proofs.lemmas.Bool.{cases_lt}
use Rattle.std.proofs.Math.Seq.{take-append-add, take-length}
use Rattle.gem_disk.specs.Disk.{placed}

-- the front, the middle and the end of a list
pub pieces : (at n : ℕ) (l : List ℕ) → (take at l ++ take n (drop at l)) ++ drop (at + n) l ≡ l
pieces at n l = ap (λ (f : List ℕ). f ++ drop (at + n) l) (sym (take-add at n l)) ∙ take-append-drop (at + n) l

length-front : (at : ℕ) (old bytes : List ℕ) → at ≤ length old → length (take at old ++ bytes) ≡ at + length bytes
length-front at old bytes inside = length-append (take at old) bytes ∙ ap (λ (m : ℕ). m + length bytes) (length-take-le at old inside)

pub take-placed : (at : ℕ) (bytes old : List ℕ) → at ≤ length old → take at (placed at bytes old) ≡ take at old
take-placed at bytes old inside =
    ap (take at) (append_assoc (take at old) bytes (drop (at + length bytes) old))
    ∙ take_at (take at old) (bytes ++ drop (at + length bytes) old) at (length-take-le at old inside)

pub drop-placed : (at : ℕ) (bytes old : List ℕ) → at ≤ length old → drop (at + length bytes) (placed at bytes old) ≡ drop (at + length bytes) old
drop-placed at bytes old inside =
    drop_at (take at old ++ bytes) (drop (at + length bytes) old) (at + length bytes) (length-front at old bytes inside)

pub length-placed : (at : ℕ) (bytes old : List ℕ) → at ≤ length old → length (placed at bytes old) ≡ (at + length bytes) + (length old - (at + length bytes))
length-placed at bytes old inside =
    length-append (take at old ++ bytes) (drop (at + length bytes) old)
    ∙ ap (λ (m : ℕ). m + length (drop (at + length bytes) old)) (length-front at old bytes inside)
    ∙ ap (λ (m : ℕ). (at + length bytes) + m) (length-drop (at + length bytes) old)

-- what is written reads back
pub reads_back : (at : ℕ) (bytes old : List ℕ) → at ≤ length old → take (length bytes) (drop at (placed at bytes old)) ≡ bytes
reads_back at bytes old inside =
    ap (λ (l : List ℕ). take (length bytes) (drop at l)) (append_assoc (take at old) bytes (drop (at + length bytes) old))
    ∙ ap (take (length bytes)) (drop_at (take at old) (bytes ++ drop (at + length bytes) old) at (length-take-le at old inside))
    ∙ take_at bytes (drop (at + length bytes) old) (length bytes) refl

-- an offset past the end counts as the end
pub placed_inside : (at : ℕ) (bytes old : List ℕ) → placed (min at (length old)) bytes old ≡ placed at bytes old
placed_inside at bytes old = elim (cases_lt (length old) at) [
  | inl past ↦
      let end : min at (length old) ≡ length old = omega arith in
      let none : drop (length old + length bytes) old ≡ [] = drop_all _ old (omega arith) in
      let none_at : drop (at + length bytes) old ≡ [] = drop_all _ old (omega arith) in
      ap (λ (m : ℕ). placed m bytes old) end
      ∙ ap (λ (l : List ℕ). (l ++ bytes) ++ drop (length old + length bytes) old) (take_all (length old) old (omega arith) ∙ sym (take_all at old (omega arith)))
      ∙ ap (λ (l : List ℕ). (take at old ++ bytes) ++ l) (none ∙ sym none_at)
  | inr inside ↦ let same : min at (length old) ≡ at = omega arith in ap (λ (m : ℕ). placed m bytes old) same
]

-- What was there before comes back, by the bytes that were lost, where all else before them is the
-- same, and all behind them.
restored : (at : ℕ) (old new lost : List ℕ) → at + length lost ≤ length old → take at new ≡ take at old → lost ≡ take (length lost) (drop at old)
    → take (length old - (at + length lost)) (drop (at + length lost) new) ≡ drop (at + length lost) old → take (length old) (placed at lost new) ≡ old
restored at old new lost fits same is behind =
    let size : length (take at new ++ lost) ≡ at + length lost =
    ap (λ (l : List ℕ). length (l ++ lost)) same ∙ length-front at old lost (omega arith) in
    let whole : length old ≡ length (take at new ++ lost) + (length old - (at + length lost)) = omega arith in
    ap (λ (m : ℕ). take m ((take at new ++ lost) ++ drop (at + length lost) new)) whole
    ∙ take-append-add (take at new ++ lost) (drop (at + length lost) new) (length old - (at + length lost))
    ∙ ap (λ (l : List ℕ). (take at new ++ lost) ++ l) behind
    ∙ ap (λ (l : List ℕ). (l ++ lost) ++ drop (at + length lost) old) same
    ∙ ap (λ (l : List ℕ). (take at old ++ l) ++ drop (at + length lost) old) is
    ∙ pieces at (length lost) old

-- where nothing is behind them
restored_end : (at : ℕ) (old new : List ℕ) → at ≤ length old → take at new ≡ take at old → take (length old) (placed at (drop at old) new) ≡ old
restored_end at old new inside same =
    let size = length-drop at old in
    let none : length old - (at + length (drop at old)) ≡ 0 = omega arith in
    let nothing : drop (at + length (drop at old)) old ≡ [] = drop_all _ old (omega arith) in
    restored at old new (drop at old) (omega arith) same (sym (take-length (drop at old)))
    (ap (λ (m : ℕ). take m (drop (at + length (drop at old)) new)) none ∙ sym nothing)

pub undone_write : (at : ℕ) (bytes old lost : List ℕ) → at ≤ length old → lost ≡ take (length bytes) (drop at old) → take (length old) (placed at lost (placed at bytes old)) ≡ old
undone_write at bytes old lost inside is =
    let size = length-drop at old in
    elim (cases_lt (length old) (at + length bytes)) [
      | inl past ↦
          let all : lost ≡ drop at old = is ∙ take_all (length bytes) (drop at old) (omega arith) in
          ap (λ (l : List ℕ). take (length old) (placed at l (placed at bytes old))) all
          ∙ restored_end at old (placed at bytes old) inside (take-placed at bytes old inside)
      | inr within ↦
          let count : length lost ≡ length bytes = ap length is ∙ length-take-le (length bytes) (drop at old) (omega arith) in
          let behind : take (length old - (at + length bytes)) (drop (at + length bytes) (placed at bytes old)) ≡ drop (at + length bytes) old =
          ap (take (length old - (at + length bytes))) (drop-placed at bytes old inside) ∙ take_rest old (at + length bytes) in
          restored at old (placed at bytes old) lost (omega arith) (take-placed at bytes old inside)
          (is ∙ ap (λ (m : ℕ). take m (drop at old)) (sym count))
          (subst (λ (m : ℕ). take (length old - (at + m)) (drop (at + m) (placed at bytes old)) ≡ drop (at + m) old) (sym count) behind)
    ]

pub undone_cut : (n : ℕ) (old : List ℕ) → n ≤ length old → take (length old) (placed n (drop n old) (take n old)) ≡ old
undone_cut n old inside = restored_end n old (take n old) inside (take-take n n old (omega arith))
