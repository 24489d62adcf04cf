-- Objects of the tests have a spelling.
use Rattle.std.proofs.Common.{◌≡◌, ◌≢◌, ◌<◌, ◌^◌, ℕ, List, [], ◌∷◌, length, All, Some, sym, subst, arith}
use Rattle.std.specs.List.Sorted.{IsStrictlySortedBy}
use Rattle.std.proofs.lemmas.List.Elements.{All-nil, All-cons}
use Rattle.gem_object.specs.texts.Bytes.{Bytes as Text}
use Rattle.gem_object.specs.seg_rights.declared.right.Right.{Right}
use Rattle.gem_object.specs.seg_rights.declared.right.Right.TheVariants.{None as NoRight}
use Rattle.gem_object.specs.Spelling.{IsText, IsMethod, AreMethods, IsClass, IsSegment, IsUser}
use Rattle.gem_object.specs.declared.kind.Kind.{Kind}
use Rattle.gem_object.specs.declared.body.Method.{Method}

pub no_methods : (methods : List Method) → methods ≡ [] → AreMethods methods
unfolding IsStrictlySortedBy
no_methods methods none = subst AreMethods (sym none) record {
  count = omega arith;
  each = All-nil IsMethod;
  ascend = tt;
}

pub one_method : (methods : List Method) (method : Method) → methods ≡ method ∷ [] → IsMethod method → AreMethods methods
unfolding IsStrictlySortedBy
one_method methods method is spelled = subst AreMethods (sym is) record {
  count = omega arith;
  each = All-cons IsMethod method [] spelled (All-nil IsMethod);
  ascend = (tt, tt);
}

pub class_is : (name : Text) (superclass : ℕ) (kind : Kind) (names : List Text) (methods class_methods : List Method)
    → IsText name → 0 < superclass → superclass < 2 ^ 24 → length names < 2 ^ 16 → All IsText names
    → AreMethods methods → AreMethods class_methods
    → IsClass (record { name = name; superclass = Some superclass; kind = kind; names = names; methods = methods; class_methods = class_methods })
class_is name superclass kind names methods class_methods text some below few texts own on_class = record {
  name = text;
  superclass = (some, omega (arith, below));
  names_count = few;
  names = texts;
  methods = own;
  class_methods = on_class;
}

pub no_names : (names : List Text) → names ≡ [] → (length names < 2 ^ 16) × All IsText names
no_names names none = (
  subst (λ (ns : List Text). length ns < 2 ^ 16) (sym none) (omega arith),
  subst (All IsText) (sym none) (All-nil IsText),
)

pub segment_is : (owner : ℕ) (right world : Right) (groups : List (Text × Right)) → owner < 2 ^ 48 → groups ≡ []
    → IsSegment (record { owner = owner; owner_right = right; groups = groups; world_right = world })
unfolding IsStrictlySortedBy
segment_is owner right world groups below none =
    subst (λ gs. IsSegment (record { owner = owner; owner_right = right; groups = gs; world_right = world })) (sym none) record {
      owner = below;
      count = omega arith;
      names = All-nil (λ group. IsText group.0);
      ascend = tt;
      given = All-nil (λ group. group.1 ≢ NoRight);
    }

pub user_is : (name : Text) (groups : List Text) (segment globals : ℕ) → IsText name → groups ≡ [] → segment < 2 ^ 48 → globals < 2 ^ 48
    → IsUser (record { name = name; groups = groups; default_segment = segment; globals = globals })
unfolding IsStrictlySortedBy
user_is name groups segment globals text none segment_below globals_below =
    subst (λ gs. IsUser (record { name = name; groups = gs; default_segment = segment; globals = globals })) (sym none) record {
      name = text;
      count = omega arith;
      groups = All-nil IsText;
      ascend = tt;
      default_segment = segment_below;
      globals = globals_below;
    }
