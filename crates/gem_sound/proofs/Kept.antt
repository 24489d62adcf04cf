-- What sound objects have, and that at most one rule is the first to be broken.
use Rattle.std.proofs.Common.{◌≡◌, ◌≤◌, ℕ, Option, Some, None, IsSome, All, List, length, refl, sym, subst, inl, inr, arith}
use Rattle.std.specs.Option.{IfSome}
use Rattle.std.proofs.lemmas.Bool.{false≢true, cases_lt}
use Rattle.gem_object.specs.texts.Bytes.{Bytes as Text}
use Rattle.gem_object.specs.declared.body.ClassBody.{ClassBody}
use Rattle.gem_image.specs.Image.{Contents, Objects}
use Rattle.gem_image.specs.Rights.{rights_at}
use Rattle.gem_sound.specs.Parts.{class_of}
use Rattle.gem_sound.specs.Kernel.{KernelBody, kernel_body}
use Rattle.gem_sound.specs.Inherited.{HasNames}
use Rattle.gem_sound.specs.Sound.{ImageRule, i1, i3, i4, i5, rule_number, names_in, HasPlace, HasKernelBody, KeepsRule, KeepsRuleAt, IsSound, BreaksFirst}

at_object : (objects : Objects) (number : ℕ) (object : Contents) (rule : ImageRule) → IsSound objects
    → objects number ≡ Some object → KeepsRule objects rule number object
at_object objects number object rule sound here =
    subst (KeepsRuleAt objects rule number) here (sound number rule)

pub there : (objects : Objects) (number : ℕ) (object : Contents) → IsSound objects
    → objects number ≡ Some object → All (λ name. IsSome (objects name)) (names_in object)
there objects number object sound here = (at_object objects number object i1 sound here).there

not_zero : (objects : Objects) (found : Option Contents) → KeepsRuleAt objects i1 0 found → found ≡ None
not_zero objects None kept = refl
not_zero objects (Some object) kept = absurd (omega (arith, kept.no_zero))

pub no_zero : (objects : Objects) → IsSound objects → objects 0 ≡ None
no_zero objects sound = not_zero objects (objects 0) (sound 0 i1)

has_body : (kind : Option KernelBody) (found : Option Contents) → IsSome kind
    → HasKernelBody kind found → IsSome found
has_body None found some kept = absurd (false≢true some)
has_body (Some kind) None some kept = absurd kept
has_body (Some kind) (Some object) some kept = refl

of_rule : (objects : Objects) (number : ℕ) (found : Option Contents)
    → KeepsRuleAt objects i4 number found → HasKernelBody (kernel_body number) found
of_rule objects number None kept = kept
of_rule objects number (Some object) kept = kept

pub kernel : (objects : Objects) (number : ℕ) → IsSound objects → IsSome (kernel_body number)
    → IsSome (objects number)
kernel objects number sound some = has_body (kernel_body number) (objects number) some
    (of_rule objects number (objects number) (sound number i4))

pub segment : (objects : Objects) (number : ℕ) (object : Contents) → IsSound objects
    → objects number ≡ Some object → IsSome (rights_at objects object.segment)
segment objects number object sound here = (at_object objects number object i5 sound here).segment

pub names : (objects : Objects) (number : ℕ) (object : Contents) (class : ClassBody) → IsSound objects
    → objects number ≡ Some object → class_of object.body ≡ Some class
    → (names : List Text) × HasNames objects number names × (length names ≤ 200)
names objects number object class sound here is =
    let place : HasPlace objects number class = subst (λ found. IfSome found (HasPlace objects number)) is
    (at_object objects number object i3 sound here) in
    (place.names, place.chain, place.few_names)

pub none : (objects : Objects) (number : ℕ) (rule : ImageRule) → IsSound objects
    → BreaksFirst objects number rule → ⊥
none objects number rule sound first = first.broken (sound number rule)

at_one : (objects : Objects) (number : ℕ) (rule another : ImageRule)
    → BreaksFirst objects number rule → BreaksFirst objects number another
    → rule_number rule ≡ rule_number another
at_one objects number rule another first second = elim (cases_lt (rule_number rule) (rule_number another)) [
  | inl less ↦ absurd (first.broken (second.before rule less))
  | inr from ↦ elim (cases_lt (rule_number another) (rule_number rule)) [
    | inl less ↦ absurd (second.broken (first.before another less))
    | inr to ↦ omega (arith, from, to)
  ]
]

pub one : (objects : Objects) (number other : ℕ) (rule another : ImageRule)
    → BreaksFirst objects number rule → BreaksFirst objects other another
    → (number ≡ other) × (rule_number rule ≡ rule_number another)
one objects number other rule another first second = elim (cases_lt number other) [
  | inl less ↦ absurd (first.broken (second.lower number less rule))
  | inr from ↦ elim (cases_lt other number) [
    | inl less ↦ absurd (second.broken (first.lower other less another))
    | inr to ↦
        let same : number ≡ other = omega (arith, from, to) in (
          same,
          at_one objects number rule another first
              (subst (λ n. BreaksFirst objects n another) (sym same) second),
        )
  ]
]
