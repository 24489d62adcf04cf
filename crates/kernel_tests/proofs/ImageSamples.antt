-- The objects that the tests of images make have a spelling.
use Rattle.std.proofs.Common.{◌≡◌, ◌≢◌, ◌<◌, ℕ, List, [], ◌∷◌, ◌++◌, length, sym, subst, arith}
use Rattle.std.specs.List.{All}
use Rattle.std.specs.List.Sorted.{IsStrictlySortedBy}
use Rattle.std.proofs.lemmas.List.Elements.{All-nil, All-cons, All-append}
use Rattle.gem_object.specs.texts.Bytes.{Bytes as Text}
use Rattle.gem_object.specs.seg_rights.declared.right.Right.{Right}
use Rattle.gem_object.specs.seg_rights.declared.right.Right.TheVariants.{None as NoRight}
use Rattle.gem_object.specs.Spelling.{IsOid, IsText, IsSegment, IsSpelled, Ascend}
use Rattle.gem_object.specs.declared.body.Body.{Body}
use Rattle.gem_object.specs.declared.body.Body.TheVariants.{Segment, User}
use Rattle.gem_object.specs.declared.object.Object.{Object}

abbrev IsSpelledEntry : ℕ × Object → Type 0
IsSpelledEntry entry = IsSpelled entry.1

few_ascend : (texts : List Text) → length texts < 2 → Ascend texts
unfolding IsStrictlySortedBy
few_ascend [] few = tt
few_ascend (text ∷ []) few = (tt, tt)
few_ascend (text ∷ other ∷ texts) few = absurd (omega arith)

abbrev object_of : ℕ → ℕ → Body → Object
object_of class segment body = record { class = class; segment = segment; changed = 0; body = body }

with_one_group : (owner : ℕ) (owner_right world_right given : Right) (group : Text)
    → IsOid owner → IsText group → given ≢ NoRight
    → IsSegment record { owner = owner; owner_right = owner_right; groups = (group, given) ∷ []; world_right = world_right }
with_one_group owner owner_right world_right given group is_owner is_text is_right = record {
  owner = is_owner;
  count = omega arith;
  names = All-cons (λ g. IsText g.0) (group, given) [] is_text (All-nil _);
  ascend = few_ascend (group ∷ []) (omega arith);
  given = All-cons (λ g. g.1 ≢ NoRight) (group, given) [] is_right (All-nil _);
}

pub segment_is : (class segment owner : ℕ) (owner_right world_right given : Right) (group : Text)
    (groups : List (Text × Right)) → groups ≡ (group, given) ∷ []
    → IsOid class → IsOid segment → IsOid owner → IsText group → given ≢ NoRight
    → IsSpelled (object_of class segment (Segment record { owner = owner; owner_right = owner_right; groups = groups; world_right = world_right }))
segment_is class segment owner owner_right world_right given group groups are is_class is_segment is_owner is_text is_right = record {
  class_name = is_class;
  segment_name = is_segment;
  body = subst (λ xs. IsSegment record { owner = owner; owner_right = owner_right; groups = xs; world_right = world_right })
      (sym are) (with_one_group owner owner_right world_right given group is_owner is_text is_right);
}

pub user_is : (class segment default globals : ℕ) (name : Text) (groups : List Text)
    → IsOid class → IsOid segment → IsOid default → IsOid globals → IsText name
    → length groups < 2 → All IsText groups
    → IsSpelled (object_of class segment (User record { name = name; groups = groups; default_segment = default; globals = globals }))
user_is class segment default globals name groups is_class is_segment is_default is_globals is_name few are = record {
  class_name = is_class;
  segment_name = is_segment;
  body = record {
    name = is_name;
    count = omega arith;
    groups = are;
    ascend = few_ascend groups few;
    default_segment = is_default;
    globals = is_globals;
  };
}

pub none_pushed : (made : List (ℕ × Object)) → made ≡ [] → All IsSpelledEntry made
none_pushed made none = subst (All IsSpelledEntry) (sym none) (All-nil IsSpelledEntry)

pub one_pushed : (objects made : List (ℕ × Object)) (number : ℕ) (object : Object)
    → made ≡ objects ++ (number, object) ∷ [] → IsSpelled object
    → All IsSpelledEntry objects → All IsSpelledEntry made
one_pushed objects made number object pushed is all = subst (All IsSpelledEntry) (sym pushed)
    (All-append IsSpelledEntry objects ((number, object) ∷ []) all
    (All-cons IsSpelledEntry (number, object) [] is (All-nil IsSpelledEntry)))
