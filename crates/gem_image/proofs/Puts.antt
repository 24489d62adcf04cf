-- What is put into an image keeps it an image.
use Rattle.std.proofs.Common.{◌≡◌, ◌+◌, ◌*◌, ◌^◌, ◌<◌, ◌≤◌, ℕ, List, ◌∷◌, length, Some, sym, ap, subst, ◌∙◌, inl, inr, arith}
use Rattle.std.specs.Prelude.{Result, Ok, Err, OnOk, OnErr}
use Rattle.std.specs.List.{All}
use Rattle.std.specs.Ordering.{nat_cmp}
use Rattle.std.specs.FinMap.{empty, get, insert, get-empty}
use Rattle.std.proofs.lemmas.Bool.{cases_eq}
use Rattle.std.proofs.lemmas.List.Elements.{All-tail}
use Rattle.radix_pages.proofs.Tables.{get-insert_same, get-insert_other}
use Rattle.gem_object.specs.Spelling.{IsSpelled}
use Rattle.gem_object.specs.declared.object.Object.{Object}
use Rattle.gem_image.specs.Image.{Image, IsImage, with_objects}

pub empty_is : (image : Image) → image ≡ empty → IsImage image
empty_is image is = subst IsImage (sym is) record {
  named = λ number _. get-empty nat_cmp number;
  spelled = λ number object at. let none = get-empty {X = Object} nat_cmp number in cc;
}

one_object : (object other : Object) → Some object ≡ Some other → object ≡ other
one_object object other same = cc

spelled_put : (image : Image) (number : ℕ) (object : Object) → IsImage image → IsSpelled object
    → (at : ℕ) (found : Object) → get (insert image number object) at ≡ Some found
    → IsSpelled found
spelled_put image number object is spelled at found here = elim (cases_eq at number) [
  | inl same ↦ subst IsSpelled
      (one_object object found (sym (get-insert_same image number object at same) ∙ here)) spelled
  | inr apart ↦ is.spelled at found (sym (get-insert_other image number object at apart) ∙ here)
]

pub insert_is : (image : Image) (number : ℕ) (object : Object) → IsImage image → number < 2 ^ 48
    → IsSpelled object → IsImage (insert image number object)
insert_is image number object is below spelled = record {
  named = λ at above. get-insert_other image number object at (omega arith) ∙ is.named at above;
  spelled = spelled_put image number object is spelled;
}

-- what a call leaves that may put an object
pub left_is : {A E : Type 0} (r : Result A E) (image left : Image) (number : ℕ) (object : Object)
    → OnOk r (left ≡ insert image number object) → OnErr r (left ≡ image)
    → IsImage image → number < 2 ^ 48 → IsSpelled object → IsImage left
left_is (Ok _) image left number object put _ is below spelled =
    subst IsImage (sym put) (insert_is image number object is below spelled)
left_is (Err _) image left number object _ same is below spelled = subst IsImage (sym same) is

abbrev pub IsSpelledEntry : ℕ × Object → Type 0
IsSpelledEntry entry = IsSpelled entry.1

-- An image that objects are put into one after the other: what is left of them makes of it what
-- all of them make of the first, and the nodes that the steps count leave 8 for each.
pub record IsUnderWay (first : Image) (all : List (ℕ × Object)) (before : ℕ)
    (image : Image) (left : List (ℕ × Object)) (steps : ℕ) : Type 0 where
  pub whole : with_objects image left ≡ with_objects first all
  pub spelled : All IsSpelledEntry left
  pub nodes : steps + 8 * length left ≤ before + 8 * length all

pub one_more : (first : Image) (all : List (ℕ × Object)) (before : ℕ)
    (image : Image) (rest : List (ℕ × Object)) (steps : ℕ)
    (number : ℕ) (object : Object) (left : List (ℕ × Object)) (made : Image) (after : ℕ)
    → IsUnderWay first all before image rest steps → rest ≡ (number, object) ∷ left
    → made ≡ insert image number object → after ≤ steps + 8
    → IsUnderWay first all before made left after
one_more first all before image rest steps number object left made after at is put nodes =
    let now = subst (λ xs. IsUnderWay first all before image xs steps) is at in
    record {
      whole = ap (λ m. with_objects m left) put ∙ now.whole;
      spelled = All-tail IsSpelledEntry (number, object) left now.spelled;
      nodes = let bound = now.nodes in omega arith;
    }
