-- What a log of format 1 stands for by the text that knew no other format.
use Rattle.std.proofs.Common.{◌≡◌, ℕ, zero, suc, ◌+◌, ◌%◌, ◌^◌, ◌<◌, Bool, true, false, cond, eqb, ltb, List, [], ◌∷◌, length, map, take, drop, Option, Some, None, Result, Ok, Err, refl, ap, ap₂, subst, ◌∙◌, arith}
use Rattle.std.proofs.lemmas.Bool.{ltb-false, lt-leb, eqb-true}
use Rattle.std.proofs.lemmas.List.{length-drop}
use Rattle.gem_record.specs.declared.mode.Mode.{Mode}
use Rattle.gem_record.specs.declared.mode.Mode.TheVariants.{Full}
use Rattle.gem_record.specs.declared.effect.Effect.{Effect}
use Rattle.body_codec.specs.Whole.{whole_effect}
use Rattle.tran_log.specs.declared.fault.LogRule.{LogRule}
use Rattle.tran_log.specs.declared.fault.LogRule.TheVariants as rule
use Rattle.tran_log.specs.declared.logged.Logged.{Logged}
use Rattle.tran_log.specs.Log.{Fault, follows, word_in, number_in, length_in, parts_of, whole, whole_parts, record_at, joined, walk, log_of}
use Rattle.tran_log.specs.OldLog.{old_whole, old_record_at, old_joined, old_walk, old_log_of, IsOfFormat1, mode_and_effect, placeless, in_full, all_in_full}
use Rattle.tran_log.proofs.Walks.{broke, guard_ok}

-- ---- a record

abbrev with_full : Result Effect LogRule → Result (Mode × Effect) LogRule
with_full (Ok effect) = Ok (Full, effect)
with_full (Err broken) = Err broken

abbrev tried : (short longer next : Bool) → Result Effect LogRule → Result Effect LogRule
tried short longer next read =
    cond short (broke rule.Length) (cond longer (broke rule.Length) (cond next read (broke rule.Number)))

abbrev tried_now : (short longer next : Bool) → Result (Mode × Effect) LogRule → Result (Mode × Effect) LogRule
tried_now short longer next read =
    cond short (broke rule.Length) (cond longer (broke rule.Length) (cond next read (broke rule.Number)))

same_tried : (short longer next : Bool) (o : Option Effect)
    → tried_now short longer next (whole Full o) ≡ with_full (tried short longer next (old_whole o))
same_tried true longer next o = refl
same_tried false true next o = refl
same_tried false false true None = refl
same_tried false false true (Some effect) = refl
same_tried false false false o = refl

low : (word : ℕ) → word < 2 ^ 31 → word % 2 ^ 31 ≡ word
low word below = omega (arith, below)

same_record : (last : Option ℕ) (bytes : List ℕ) → word_in bytes < 2 ^ 31
    → record_at last bytes ≡ with_full (old_record_at last bytes)
unfolding record_at old_record_at
same_record last bytes below =
    ap₂ (λ (n : ℕ) (b : Bool). tried_now (ltb (length bytes) 12) (ltb (length (drop 12 bytes)) n) (follows last (number_in bytes))
    (whole_parts (number_in bytes) (parts_of b (take n (drop 12 bytes)))))
    (low (word_in bytes) below) (lt-leb (2 ^ 31) (word_in bytes) below)
    ∙ same_tried (ltb (length bytes) 12) (ltb (length (drop 12 bytes)) (word_in bytes)) (follows last (number_in bytes))
    (whole_effect (number_in bytes) (take (word_in bytes) (drop 12 bytes)))

-- ---- a log

ok_is : {A F : Type 0} (x y : A) → ◌≡◌ {A = Result A F} (Ok x) (Ok y) → x ≡ y
ok_is x y e = cc

same_joined : (at : ℕ) (read : Result Effect LogRule) (now : Result (List Logged) Fault) (then : Result (List Effect) Fault)
    → placeless now ≡ all_in_full then → placeless (joined at (with_full read) now) ≡ all_in_full (old_joined at read then)
same_joined at (Err broken) now then same = refl
same_joined at (Ok effect) (Ok logged) (Ok effects) same =
    ap (λ (l : List (Mode × Effect)). Ok ((Full, effect) ∷ l)) (ok_is (map mode_and_effect logged) (map in_full effects) same)
same_joined at (Ok effect) (Ok logged) (Err fault) same = absurd cc
same_joined at (Ok effect) (Err fault) (Ok effects) same = absurd cc
same_joined at (Ok effect) (Err fault) (Err other) same = same

abbrev walked : ℕ → ℕ → List ℕ → Result (List Logged) Fault
walked skip at rest = walk (12 + skip) (at + 1) (Some (number_in rest)) rest

abbrev old_walked : ℕ → List ℕ → Result (List Effect) Fault
old_walked at rest = old_walk (12 + word_in rest) (at + 1) (Some (number_in rest)) rest

same_gate : (at gate : ℕ) (last : Option ℕ) (rest : List ℕ)
    → (gate ≡ 1 → (word_in rest < 2 ^ 31) × (placeless (walked (word_in rest) at rest) ≡ all_in_full (old_walked at rest)))
    → (is_open : Bool) → eqb gate 1 ≡ is_open
    → placeless (cond is_open (joined at (record_at last rest) (walked (length_in rest) at rest)) (Ok []))
    ≡ all_in_full (cond is_open (old_joined at (old_record_at last rest) (old_walked at rest)) (Ok []))
same_gate at gate last rest given false is = refl
same_gate at gate last rest given true is =
    let here = given (eqb-true gate 1 is) in
    ap₂ (λ (r : Result (Mode × Effect) LogRule) (n : ℕ). placeless (joined at r (walked n at rest)))
    (same_record last rest here.0) (low (word_in rest) here.0)
    ∙ same_joined at (old_record_at last rest) (walked (word_in rest) at rest) (old_walked at rest) here.1

same_walk : (skip at : ℕ) (last : Option ℕ) (bytes : List ℕ) → IsOfFormat1 skip bytes
    → placeless (walk skip at last bytes) ≡ all_in_full (old_walk skip at last bytes)
same_walk zero at last [] is = refl
same_walk (suc skip) at last [] is = refl
same_walk (suc skip) at last (byte ∷ rest) is = same_walk skip (at + 1) last rest is
same_walk zero at last (gate ∷ rest) is = same_gate at gate last rest
    (λ is_open. ((is is_open).0, same_walk (12 + word_in rest) (at + 1) (Some (number_in rest)) rest (is is_open).1))
    (eqb gate 1) refl

pub same_log : (bytes : List ℕ) → IsOfFormat1 0 bytes → placeless (log_of bytes) ≡ all_in_full (old_log_of bytes)
same_log [] is = refl
same_log (gate ∷ []) is = refl
same_log (gate ∷ byte ∷ rest) is = same_walk 0 0 None (gate ∷ byte ∷ rest) is

-- ---- what the former text reads is of format 1

joined_ok : (at : ℕ) (read : Result Effect LogRule) (more : Result (List Effect) Fault) (effects : List Effect)
    → old_joined at read more ≡ Ok effects
    → (effect : Effect) × (others : List Effect) × (read ≡ Ok effect) × (more ≡ Ok others)
joined_ok at (Ok effect) (Ok others) effects e = (effect, others, refl, refl)
joined_ok at (Ok effect) (Err fault) effects e = absurd cc
joined_ok at (Err broken) more effects e = absurd cc

word_short : (last : Option ℕ) (bytes : List ℕ) (effect : Effect) → length bytes < 2 ^ 31
    → old_record_at last bytes ≡ Ok effect → word_in bytes < 2 ^ 31
unfolding old_record_at
word_short last bytes effect short e =
    let a = guard_ok (ltb (length bytes) 12) rule.Length _ effect e in
    let b = guard_ok (ltb (length (drop 12 bytes)) (word_in bytes)) rule.Length _ effect a.1 in
    omega (arith, short, ltb-false _ _ b.0, length-drop 12 bytes)

of_walk : (skip at : ℕ) (last : Option ℕ) (bytes : List ℕ) (effects : List Effect) → length bytes < 2 ^ 31
    → old_walk skip at last bytes ≡ Ok effects → IsOfFormat1 skip bytes
of_walk zero at last [] effects short e = tt
of_walk (suc skip) at last [] effects short e = tt
of_walk (suc skip) at last (byte ∷ rest) effects short e = of_walk skip (at + 1) last rest effects (omega (arith, short)) e
of_walk zero at last (gate ∷ rest) effects short e = λ is.
    let opened : old_joined at (old_record_at last rest) (old_walked at rest) ≡ Ok effects =
    subst (λ (n : ℕ). cond (eqb n 1) (old_joined at (old_record_at last rest) (old_walked at rest)) (Ok []) ≡ Ok effects) is e in
    let j = joined_ok at (old_record_at last rest) (old_walked at rest) effects opened in
    let less : length rest < 2 ^ 31 = omega (arith, short) in
    (word_short last rest j.0 less j.2, of_walk (12 + word_in rest) (at + 1) (Some (number_in rest)) rest j.1 less j.3)

pub of_log : (bytes : List ℕ) (effects : List Effect) → length bytes < 2 ^ 31 → 1 < length bytes
    → old_log_of bytes ≡ Ok effects → IsOfFormat1 0 bytes
of_log [] effects short long e = absurd (omega (arith, long))
of_log (gate ∷ []) effects short long e = absurd (omega (arith, long))
of_log (gate ∷ byte ∷ rest) effects short long e = of_walk 0 0 None (gate ∷ byte ∷ rest) effects short e
