-- More superclasses than there are objects go in a circle, so they don't end at Object.
use Rattle.std.proofs.Common.{◌≡◌, ◌≢◌, ◌<◌, ◌≤◌, ◌+◌, ◌-◌, ℕ, zero, suc, false, cond, List, [], ◌∷◌, length, get_or, Option, Some, None, IsSome, is_some, refl, ap, sym, subst, ◌∙◌, inl, inr, arith}
use Rattle.std.specs.Ordering.{nat_cmp, eq_by_cmp}
use Rattle.std.specs.FinMap.{get, len, remove, get-empty, get-remove, len-remove, empty_of_len, gets}
use Rattle.std.specs.Cmp.{nat_cmp_total}
use Rattle.std.specs.Option.{option_map, option_and_then}
use Rattle.std.proofs.lemmas.Bool.{false≢true, cases_eq}
use Rattle.std.proofs.lemmas.Grind.{common_steps}
use Rattle.gem_object.specs.texts.Bytes.{Bytes as Text}
use Rattle.gem_object.specs.declared.body.ClassBody.{ClassBody}
use Rattle.gem_object.specs.declared.object.Object.{Object}
use Rattle.gem_image.specs.Image.{Image, Objects, contents_of, objects_in}
use Rattle.gem_sound.specs.Parts.{class_at, class_of}
use Rattle.gem_sound.specs.Inherited.{HasNames, at_the_end, under}
use Rattle.image_check.specs.declared.chains.Step.{Step}
use Rattle.image_check.specs.Chains.{IsStep, AreSteps, IsEndless}

-- ---- numbers that are distinct and there are at most as many as the objects

some_is : {X : Type 0} (a b : Option X) → a ≡ b → IsSome b → IsSome a
some_is a b same some = subst IsSome (sym same) some

not_tied : (a b : ℕ) → a ≢ b → eq_by_cmp nat_cmp a b ≡ false
not_tied a b apart = grind (arith, common_steps, gets)

removed_stays : (image : Image) (gone number : ℕ) → number ≢ gone → IsSome (get image number)
    → IsSome (get (remove image gone) number)
removed_stays image gone number apart some =
    some_is (get (remove image gone) number) (get image number)
    (get-remove nat_cmp_total image gone number ∙ ap (λ b. cond b None (get image number)) (not_tied number gone apart)) some

some_left : (image : Image) (number : ℕ) → IsSome (get image number) → 0 < len image
some_left image number some = elim (cases_eq (len image) 0) [
  | inl none ↦ absurd (false≢true (sym (ap is_some (ap (λ (m : Image). get m number) (empty_of_len image none) ∙ get-empty nat_cmp number)) ∙ some))
  | inr more ↦ omega (arith, more)
]

one_less : (image : Image) (gone : ℕ) → IsSome (get image gone) → len (remove image gone) ≡ len image - 1
one_less image gone some =
    len-remove nat_cmp_total image gone ∙ ap (λ b. cond b (len image - 1) (len image)) some

fits_in : (most : ℕ) (number_of : ℕ → ℕ) (image : Image)
    → ((i : ℕ) → i ≤ most → IsSome (get image (number_of i)))
    → ((i j : ℕ) → i < j → j ≤ most → number_of i ≢ number_of j) → most < len image
fits_in zero number_of image there apart = some_left image (number_of 0) (there 0 (omega arith))
fits_in (suc most) number_of image there apart =
    let last = there (suc most) (omega arith) in
    let some = some_left image (number_of (suc most)) last in
    let less = one_less image (number_of (suc most)) last in
    let rest : most < len (remove image (number_of (suc most))) =
    fits_in most number_of (remove image (number_of (suc most)))
    (λ i within. removed_stays image (number_of (suc most)) (number_of i)
    (apart i (suc most) (omega (arith, within)) (omega arith)) (there i (omega (arith, within))))
    (λ i j below within. apart i j below (omega (arith, within))) in
    omega (arith, some, less, rest)

-- ---- how far a class is from Object

abbrev IsFar : Objects → ℕ → ℕ → Type 0
IsFar objects zero number =
    (class : ClassBody) × (class_at objects number ≡ Some class) × (class.superclass ≡ None)
IsFar objects (suc far) number = (class : ClassBody) × (above : ℕ) × (class_at objects number ≡ Some class)
    × (class.superclass ≡ Some above) × IsFar objects far above

far_of : (objects : Objects) (number : ℕ) (names : List Text) → HasNames objects number names
    → (far : ℕ) × IsFar objects far number
far_of objects _ _ (at_the_end class there top) = (0, (class, there, top))
far_of objects _ _ (under number above class inherited there is chain) =
    let found = far_of objects above inherited chain in
    (suc found.0, (class, above, there, is, found.1))

one_far : (objects : Objects) (far other number : ℕ) → IsFar objects far number → IsFar objects other number → far ≡ other
one_far objects zero zero number at also = refl
one_far objects zero (suc other) number at also = absurd (let one = at.1 in let two = also.2 in let top = at.2 in let up = also.3 in cc)
one_far objects (suc far) zero number at also = absurd (let one = at.2 in let two = also.1 in let up = at.3 in let top = also.2 in cc)
one_far objects (suc far) (suc other) number at also =
    let same : at.1 ≡ also.1 = let one = at.2 in let two = also.2 in let up = at.3 in let top = also.3 in cc in
    let same_far = one_far objects far other also.1 (subst (IsFar objects far) same at.4) also.4 in
    ap (λ (n : ℕ). suc n) same_far

above_far : (objects : Objects) (step : Step) (above far : ℕ) → IsStep objects step above → IsFar objects far step.class
    → (nearer : ℕ) × (far ≡ suc nearer) × IsFar objects nearer above
above_far objects step above zero is far = absurd (let one = is.there in let two = far.1 in let up = is.superclass in let top = far.2 in cc)
above_far objects step above (suc nearer) is far =
    let same : far.1 ≡ above = let one = is.there in let two = far.2 in let up = is.superclass in let top = far.3 in cc in
    (nearer, refl, subst (IsFar objects nearer) same far.4)

far_along : (objects : Objects) (steps : List Step) (from to far : ℕ) → AreSteps objects steps from to → IsFar objects far from
    → (i : ℕ) (d : Step) → i < length steps
    → (nearer : ℕ) × (nearer + i ≡ far) × IsFar objects nearer (get_or steps i d).class
far_along objects [] from to far are at i d below = absurd (omega (arith, below))
far_along objects (step ∷ steps) from to far are at zero d below =
    (far, omega arith, subst (IsFar objects far) (sym are.0) at)
far_along objects (step ∷ steps) from to far are at (suc i) d below =
    let up = above_far objects step are.1 far are.2 (subst (IsFar objects far) (sym are.0) at) in
    let rest = far_along objects steps are.1 to up.0 are.3 up.2 i d (omega (arith, below)) in
    let one : far ≡ suc up.0 = up.1 in
    let two : rest.0 + i ≡ up.0 = rest.1 in
    (rest.0, omega (arith, one, two), rest.2)

there_along : (objects : Objects) (steps : List Step) (from to : ℕ) → AreSteps objects steps from to
    → (i : ℕ) (d : Step) → i < length steps → IsSome (class_at objects (get_or steps i d).class)
there_along objects [] from to are i d below = absurd (omega (arith, below))
there_along objects (step ∷ steps) from to are zero d below = ap is_some are.2.there
there_along objects (step ∷ steps) from to are (suc i) d below =
    there_along objects steps are.1 to are.3 i d (omega (arith, below))

object_there : (found : Option Object)
    → IsSome (option_and_then (λ object. class_of object.body) (option_map contents_of found)) → IsSome found
object_there None some = some
object_there (Some object) some = refl

-- as many steps as there are objects, and one more
pub circle : (image : Image) (steps : List Step) (from to : ℕ) → AreSteps (objects_in image) steps from to
    → len image < length steps → IsEndless (objects_in image) from
circle image [] from to are many names chain = absurd (omega (arith, many))
circle image (step ∷ steps) from to are many names chain =
    let objects = objects_in image in
    let all = step ∷ steps in
    let far = far_of objects from names chain in
    let within : length steps < len image = fits_in (length steps) (λ i. (get_or all i step).class) image
    (λ i below. object_there (get image (get_or all i step).class)
    (there_along objects all from to are i step (omega (arith, below))))
    (λ i j less below same.
    let one = far_along objects all from to far.0 are far.1 i step (omega (arith, less, below)) in
    let two = far_along objects all from to far.0 are far.1 j step (omega (arith, below)) in
    let equal : one.0 ≡ two.0 = one_far objects one.0 two.0 (get_or all j step).class
    (subst (IsFar objects one.0) same one.2) two.2 in
    let first : one.0 + i ≡ far.0 = one.1 in
    let second : two.0 + j ≡ far.0 = two.1 in
    omega (arith, less, equal, first, second)) in
    omega (arith, many, within)
