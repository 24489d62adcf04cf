-- Which bytes are one whole effect.
use Rattle.std.proofs.Common.{◌≡◌, ◌≢◌, ℕ, List, [], ◌∷◌, length, drop, Some, None, Result, Ok, Err, refl, sym, ap, ◌∙◌, append-nil, arith}
use Rattle.std.proofs.lemmas.List.{length-drop}
use Rattle.std.proofs.Math.Seq.{drop-length}
use Rattle.gem_record.specs.declared.effect.Effect.{Effect}
use Rattle.body_codec.specs.declared.fault.BodyRule.{BodyRule}
use Rattle.body_codec.specs.declared.fault.Flaw.{Flaw}
use Rattle.body_codec.specs.Stored.{IsStoredEffect}
use Rattle.body_codec.specs.Spelled.{spelled_effect}
use Rattle.body_codec.specs.ReadingBodies.{effect_at}
use Rattle.body_codec.specs.Answers.{IsRead, IsFirstFault}
use Rattle.body_codec.specs.Whole.{all_of, whole_effect}
use Rattle.body_codec.proofs.Takes.{IsBytes}
use Rattle.body_codec.proofs.Readers.{effect_reads}
use Rattle.body_codec.proofs.Answered.{read_of, size_within}

all_ok : (read : Result (Effect × List ℕ) Flaw) (effect : Effect) → all_of read ≡ Some effect → read ≡ Ok (effect, [])
all_ok (Err flaw) effect e = absurd cc
all_ok (Ok (other, [])) effect e =
    let same : other ≡ effect = cc in
    ap (λ (x : Effect). Ok (x, [])) same
all_ok (Ok (other, byte ∷ rest)) effect e = absurd cc

-- such bytes are the effect's spelling
pub record IsWhole (number : ℕ) (bytes : List ℕ) (effect : Effect) : Type 0 where
  pub spelled : bytes ≡ spelled_effect effect
  pub stored : IsStoredEffect number effect

pub whole_is : (number : ℕ) (bytes : List ℕ) (effect : Effect) → IsBytes bytes
    → whole_effect number bytes ≡ Some effect → IsWhole number bytes effect
unfolding whole_effect
whole_is number bytes effect fits e =
    let t = (effect_reads number).takes bytes effect [] fits (all_ok (effect_at number bytes) effect e) in
    record { spelled = t.0.parts ∙ append-nil (spelled_effect effect); stored = t.1 }

pub whole_again : (number : ℕ) (effect : Effect) → IsStoredEffect number effect
    → whole_effect number (spelled_effect effect) ≡ Some effect
unfolding whole_effect
whole_again number effect stored =
    ap (λ (l : List ℕ). all_of (effect_at number l)) (sym (append-nil (spelled_effect effect)))
    ∙ ap all_of ((effect_reads number).again effect [] stored)

-- what a reader that stops behind the effect says of it
module _ (number : ℕ) (bytes : List ℕ) where
  abbrev IsEffect : Effect → ℕ → Type 0
  IsEffect effect size = IsRead (IsStoredEffect number) spelled_effect bytes effect size

  read_is : (effect : Effect) (size : ℕ) → IsEffect effect size → effect_at number bytes ≡ Ok (effect, drop size bytes)
  read_is effect size is = read_of (IsStoredEffect number) spelled_effect (effect_at number) (effect_reads number) bytes effect size is

  pub whole_read : (effect : Effect) (size : ℕ) → IsEffect effect size → size ≡ length bytes
      → whole_effect number bytes ≡ Some effect
  unfolding whole_effect
  whole_read effect size is all = ap all_of (read_is effect size is
      ∙ ap (λ (l : List ℕ). Ok (effect, l)) (ap (λ (n : ℕ). drop n bytes) all ∙ drop-length bytes))

  some_left : (effect : Effect) (rest : List ℕ) → length rest ≢ 0 → all_of (Ok (effect, rest)) ≡ None
  some_left effect [] left = absurd (left refl)
  some_left effect (byte ∷ rest) left = refl

  pub more_read : (effect : Effect) (size : ℕ) → IsEffect effect size → size ≢ length bytes
      → whole_effect number bytes ≡ None
  unfolding whole_effect
  more_read effect size is more =
      let within = size_within (IsStoredEffect number) spelled_effect (effect_at number) (effect_reads number) bytes effect size is in
      let left : length (drop size bytes) ≢ 0 = λ none. more (omega (arith, none, length-drop size bytes, within)) in
      ap all_of (read_is effect size is) ∙ some_left effect (drop size bytes) left

  pub none_whole : (at : ℕ) (broken : BodyRule) → IsFirstFault (effect_at number) bytes at broken
      → whole_effect number bytes ≡ None
  unfolding whole_effect
  none_whole at broken fault = ap all_of fault.fails
