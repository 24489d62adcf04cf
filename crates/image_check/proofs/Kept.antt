-- What is known after an object was checked, and after names at which nothing stands.
use Rattle.std.proofs.Common.{◌≡◌, ◌<◌, ◌≤◌, ◌+◌, ℕ, zero, suc, true, false, Some, None, refl, ap, sym, subst, inl, inr, arith}
use Rattle.std.specs.Bool.{Decides}
use Rattle.std.specs.Option.{option_map, IfSome}
use Rattle.std.specs.FinMap.{get}
use Rattle.std.proofs.lemmas.Bool.{false≢true, cases_eq, cases_lt}
use Rattle.std.proofs.lemmas.Option.{slice_get_past}
use Rattle.radix_pages.specs.Next.{IsNext}
use Rattle.gem_object.specs.declared.object.Object.{Object}
use Rattle.gem_image.specs.Image.{Image, Contents, Objects, contents_of, objects_in}
use Rattle.gem_sound.specs.Parts.{class_of}
use Rattle.gem_sound.specs.Kernel.{KernelBody, kernel_body, kernel_bodies, kernel_classes}
use Rattle.gem_sound.specs.Sound.{ImageRule, i1, i2, i3, i4, i5, rule_number, HasReferences, HasMethods, HasPlace, HasKernelBody, IsFitting, KeepsRule, KeepsRuleAt, IsSoundImage, BreaksFirst}
use Rattle.image_check.specs.declared.fault.Rule.{Rule}
use Rattle.image_check.specs.declared.fault.Rule.TheVariants.{I1, I2, I3, I4, I5}
use Rattle.image_check.specs.Faults.{rule_of, IsFirst, IsFirstBroken, IsFirstOfClass, AreKeptBelow}

-- ---- one object

module _ (objects : Objects) (number : ℕ) (object : Contents) where
  pub breaks_1 : Decides false (HasReferences objects number object) → IsFirst objects number object i1
  breaks_1 test = record {
    before = λ any less. before_1 any less;
    broken = λ kept. false≢true (test.1 kept);
  }
    where
      before_1 : (any : ImageRule) → rule_number any < 1 → KeepsRule objects any number object
      before_1 i1 less = absurd (omega (arith, less))
      before_1 i2 less = absurd (omega (arith, less))
      before_1 i3 less = absurd (omega (arith, less))
      before_1 i4 less = absurd (omega (arith, less))
      before_1 i5 less = absurd (omega (arith, less))

  before_2 : HasReferences objects number object → (any : ImageRule) → rule_number any < 2 → KeepsRule objects any number object
  before_2 refers i1 less = refers
  before_2 refers i2 less = absurd (omega (arith, less))
  before_2 refers i3 less = absurd (omega (arith, less))
  before_2 refers i4 less = absurd (omega (arith, less))
  before_2 refers i5 less = absurd (omega (arith, less))

  before_3 : HasReferences objects number object → KeepsRule objects i2 number object
      → (any : ImageRule) → rule_number any < 3 → KeepsRule objects any number object
  before_3 refers methods i1 less = refers
  before_3 refers methods i2 less = methods
  before_3 refers methods i3 less = absurd (omega (arith, less))
  before_3 refers methods i4 less = absurd (omega (arith, less))
  before_3 refers methods i5 less = absurd (omega (arith, less))

  pub breaks_of_class : Decides true (HasReferences objects number object) → (rule : Rule)
      → IsFirstOfClass objects number object (Some rule) → IsFirst objects number object (rule_of rule)
  breaks_of_class test I1 is = absurd is
  breaks_of_class test I2 is = record { before = before_2 (test.0 refl); broken = is }
  breaks_of_class test I3 is = record { before = before_3 (test.0 refl) is.0; broken = is.1 }
  breaks_of_class test I4 is = absurd is
  breaks_of_class test I5 is = absurd is

  before_4 : HasReferences objects number object → IsFirstOfClass objects number object None
      → (any : ImageRule) → rule_number any < 4 → KeepsRule objects any number object
  before_4 refers class i1 less = refers
  before_4 refers class i2 less = class.0
  before_4 refers class i3 less = class.1
  before_4 refers class i4 less = absurd (omega (arith, less))
  before_4 refers class i5 less = absurd (omega (arith, less))

  pub breaks_4 : Decides true (HasReferences objects number object) → IsFirstOfClass objects number object None
      → Decides false (HasKernelBody (kernel_body number) (Some object)) → IsFirst objects number object i4
  breaks_4 test class body = record {
    before = before_4 (test.0 refl) class;
    broken = λ kept. false≢true (body.1 kept);
  }

  before_5 : HasReferences objects number object → IsFirstOfClass objects number object None
      → HasKernelBody (kernel_body number) (Some object)
      → (any : ImageRule) → rule_number any < 5 → KeepsRule objects any number object
  before_5 refers class body i1 less = refers
  before_5 refers class body i2 less = class.0
  before_5 refers class body i3 less = class.1
  before_5 refers class body i4 less = body
  before_5 refers class body i5 less = absurd (omega (arith, less))

  pub breaks_5 : Decides true (HasReferences objects number object) → IsFirstOfClass objects number object None
      → Decides true (HasKernelBody (kernel_body number) (Some object))
      → Decides false (IsFitting objects object) → IsFirst objects number object i5
  breaks_5 test class body fit = record {
    before = before_5 (test.0 refl) class (body.0 refl);
    broken = λ kept. false≢true (fit.1 kept);
  }

  pub keeps_all : Decides true (HasReferences objects number object) → IsFirstOfClass objects number object None
      → Decides true (HasKernelBody (kernel_body number) (Some object))
      → Decides true (IsFitting objects object) → (any : ImageRule) → KeepsRule objects any number object
  keeps_all test class body fit i1 = test.0 refl
  keeps_all test class body fit i2 = class.0
  keeps_all test class body fit i3 = class.1
  keeps_all test class body fit i4 = body.0 refl
  keeps_all test class body fit i5 = fit.0 refl

-- ---- names

pub next_kept : (objects : Objects) (number : ℕ) → AreKeptBelow objects number
    → ((any : ImageRule) → KeepsRuleAt objects any number (objects number)) → AreKeptBelow objects (number + 1)
next_kept objects number below here other less any = elim (cases_eq other number) [
  | inl same ↦ subst (λ (n : ℕ). KeepsRuleAt objects any n (objects n)) (sym same) (here any)
  | inr apart ↦ below other (omega (arith, less, apart)) any
]

object_kept : (objects : Objects) (number : ℕ) (object : Contents) → objects number ≡ Some object
    → ((any : ImageRule) → KeepsRule objects any number object)
    → (any : ImageRule) → KeepsRuleAt objects any number (objects number)
object_kept objects number object here kept any = subst (KeepsRuleAt objects any number) (sym here) (kept any)

in_image : (image : Image) (number : ℕ) (object : Object) → get image number ≡ Some object
    → objects_in image number ≡ Some (contents_of object)
in_image image number object here = ap (option_map contents_of) here

pub next_object : (image : Image) (number : ℕ) (object : Object) → get image number ≡ Some object
    → AreKeptBelow (objects_in image) number → IsFirstBroken (objects_in image) number (contents_of object) None
    → AreKeptBelow (objects_in image) (number + 1)
next_object image number object here below kept =
    next_kept (objects_in image) number below
    (object_kept (objects_in image) number (contents_of object) (in_image image number object here) kept)

pub fault_at : (image : Image) (number : ℕ) (object : Object) (rule : Rule) → get image number ≡ Some object
    → AreKeptBelow (objects_in image) number → IsFirst (objects_in image) number (contents_of object) (rule_of rule)
    → BreaksFirst (objects_in image) number (rule_of rule)
fault_at image number object rule here below first =
    let stands = in_image image number object here in
    record {
      lower = below;
      before = λ any less. subst (KeepsRuleAt (objects_in image) any number) (sym stands) (first.before any less);
      broken = λ kept. first.broken (subst (KeepsRuleAt (objects_in image) (rule_of rule) number) stands kept);
    }

-- a name at which nothing stands
none_keeps : (objects : Objects) (number : ℕ) → objects number ≡ None → kernel_body number ≡ None
    → (any : ImageRule) → KeepsRuleAt objects any number (objects number)
none_keeps objects number none no_body i1 = subst (KeepsRuleAt objects i1 number) (sym none) tt
none_keeps objects number none no_body i2 = subst (KeepsRuleAt objects i2 number) (sym none) tt
none_keeps objects number none no_body i3 = subst (KeepsRuleAt objects i3 number) (sym none) tt
none_keeps objects number none no_body i4 = subst (KeepsRuleAt objects i4 number) (sym none)
    (subst (λ body. HasKernelBody body None) (sym no_body) tt)
none_keeps objects number none no_body i5 = subst (KeepsRuleAt objects i5 number) (sym none) tt

pub next_none : (image : Image) (number : ℕ) → get image number ≡ None → kernel_body number ≡ None
    → AreKeptBelow (objects_in image) number → AreKeptBelow (objects_in image) (number + 1)
next_none image number none no_body below =
    next_kept (objects_in image) number below
    (none_keeps (objects_in image) number (ap (option_map contents_of) none) no_body)

missing_before : (objects : Objects) (number : ℕ) → objects number ≡ None → (any : ImageRule) → rule_number any < 4
    → KeepsRuleAt objects any number (objects number)
missing_before objects number none i1 less = subst (KeepsRuleAt objects i1 number) (sym none) tt
missing_before objects number none i2 less = subst (KeepsRuleAt objects i2 number) (sym none) tt
missing_before objects number none i3 less = subst (KeepsRuleAt objects i3 number) (sym none) tt
missing_before objects number none i4 less = absurd (omega (arith, less))
missing_before objects number none i5 less = absurd (omega (arith, less))

-- an object of the kernel that isn't there
pub fault_missing : (image : Image) (number : ℕ) (body : KernelBody) → get image number ≡ None → kernel_body number ≡ Some body
    → AreKeptBelow (objects_in image) number → BreaksFirst (objects_in image) number i4
fault_missing image number body none is below =
    let nothing = ap (option_map contents_of) none in
    record {
      lower = below;
      before = missing_before (objects_in image) number nothing;
      broken = λ kept.
          let at_none = subst (KeepsRuleAt (objects_in image) i4 number) nothing kept in
          subst (λ b. HasKernelBody b None) is at_none;
    }

pub no_body_past : (number : ℕ) → 36 ≤ number → kernel_body number ≡ None
unfolding kernel_bodies kernel_classes
no_body_past zero past = absurd (omega (arith, past))
no_body_past (suc at) past = slice_get_past kernel_bodies at (omega (arith, past))

gap_kept : (image : Image) (from to : ℕ) → 36 ≤ from → AreKeptBelow (objects_in image) from
    → ((key : ℕ) → from ≤ key → key < to → get image key ≡ None) → AreKeptBelow (objects_in image) to
gap_kept image from to past below none other less any = elim (cases_lt other from) [
  | inl before ↦ below other before any
  | inr after ↦ none_keeps (objects_in image) other
      (ap (option_map contents_of) (none other after less)) (no_body_past other (omega (arith, past, after))) any
]

-- what is known below the next object
pub below_next : (image : Image) (from to : ℕ) (object : Object) → 36 ≤ from → AreKeptBelow (objects_in image) from
    → IsNext image from (Some (to, object)) → AreKeptBelow (objects_in image) to
below_next image from to object past below next = gap_kept image from to past below next.1.1

pub all_kept : (image : Image) (from : ℕ) → 36 ≤ from → AreKeptBelow (objects_in image) from
    → IsNext image from None → IsSoundImage image
all_kept image from past below none number any =
    gap_kept image from (number + 1) past below (λ key after _. none key after) number (omega arith) any

-- ---- the two rules on classes

not_class : (objects : Objects) (number : ℕ) (object : Contents) → class_of object.body ≡ None
    → IsFirstOfClass objects number object None
not_class objects number object none = (
  subst (λ c. IfSome c (HasMethods number)) (sym none) tt,
  subst (λ c. IfSome c (HasPlace objects number)) (sym none) tt,
)
