-- What decides whether a class has its place, and whether a class fits an object.
use Rattle.std.proofs.Common.{◌≡◌, ◌≢◌, ◌<◌, ◌≤◌, ◌-◌, ◌^◌, ℕ, min, Bool, true, false, List, [], ◌∷◌, ◌++◌, length, Some, None, IsSome, All, leb, refl, ap, ap₂, sym, subst, ◌∙◌, arith}
use Rattle.std.specs.Prelude.{IsTrue}
use Rattle.std.specs.Bool.{Decides}
use Rattle.std.proofs.lemmas.Bool.{false≢true, leb-true, le-leb}
use Rattle.gem_object.specs.texts.Bytes.{Bytes as Text}
use Rattle.gem_object.specs.Edits.{plain_slots}
use Rattle.gem_object.specs.Kinds.{fits}
use Rattle.gem_object.specs.References.{references_of}
use Rattle.gem_object.specs.declared.body.ClassBody.{ClassBody}
use Rattle.gem_object.specs.declared.body.Body.{Body}
use Rattle.gem_object.specs.declared.body.Body.TheVariants.{Plain, Bytes, Dict, Class, Segment, User, Counter, Bag, RcDict, Queue}
use Rattle.gem_object.specs.declared.object.Object.{Object}
use Rattle.gem_image.specs.Image.{Contents, Objects, contents_of}
use Rattle.gem_sound.specs.Parts.{class_at}
use Rattle.gem_sound.specs.Kernel.{object_class, class_class, transcript_class, kernel_class}
use Rattle.gem_sound.specs.Inherited.{HasNames, at_the_end, under}
use Rattle.gem_sound.specs.Sound.{HasReferences, HasPlace, HasPlaceByRow, has_named_slots, FitsClass, by_kind, class_object, transcript}
use Rattle.image_check.specs.Chains.{IsCount, IsEndless}
use Rattle.image_check.specs.Bodies.{IsSpecial}

never : {P : Type 0} → (P → ⊥) → Decides false P
never not = (λ same. absurd (false≢true same), λ kept. absurd (not kept))

pub not_zero : (objects : Objects) (number : ℕ) (object : Contents) → number ≡ 0
    → Decides false (HasReferences objects number object)
not_zero objects number object zero = never (λ kept. omega (arith, zero, kept.no_zero))

pub all_there : (objects : Objects) (number : ℕ) (object : Object) (names : List ℕ) (test : Bool) → number ≢ 0
    → names ≡ references_of object → Decides test (All (λ name. IsSome (objects name)) names)
    → Decides test (HasReferences objects number (contents_of object))
all_there objects number object names test some is decides = (
  λ passed. record {
    no_zero = omega (arith, some);
    there = subst (All (λ name. IsSome (objects name))) is (decides.0 passed);
  },
  λ kept. decides.1 (subst (All (λ name. IsSome (objects name))) (sym is) kept.there),
)

-- ---- the names of a class

pub one_names : (objects : Objects) (number other : ℕ) (names more : List Text) → number ≡ other
    → HasNames objects number names → HasNames objects other more → names ≡ more
one_names objects _ _ _ _ same (at_the_end class there top) (at_the_end found here end) =
    let one : class ≡ found = cc in
    ap (λ (c : ClassBody). c.names) one
one_names objects _ _ _ _ same (at_the_end class there top) (under number above found inherited here up chain) =
    let moved : class_at objects object_class ≡ Some found = subst (λ (n : ℕ). class_at objects n ≡ Some found) (sym same) here in
    let one : class ≡ found = cc in
    absurd cc
one_names objects _ _ _ _ same (under number above found inherited here up chain) (at_the_end class there top) =
    let moved : class_at objects object_class ≡ Some found = subst (λ (n : ℕ). class_at objects n ≡ Some found) same here in
    let one : class ≡ found = cc in
    absurd cc
one_names objects _ _ _ _ same (under number above class inherited there up chain) (under other higher found more here over chained) =
    let moved : class_at objects number ≡ Some found = subst (λ (n : ℕ). class_at objects n ≡ Some found) (sym same) here in
    let one : class ≡ found = cc in
    let up_same : above ≡ higher = cc in
    ap₂ (λ front back. front ++ back) (one_names objects above higher inherited more up_same chain chained)
    (ap (λ (c : ClassBody). c.names) one)

-- a count says how many names every chain has
count_tells : (objects : Objects) (number count : ℕ) (names : List Text) → IsCount objects number count
    → HasNames objects number names → count ≡ min (length names) (2 ^ 64 - 1)
count_tells objects number count names counted chain =
    counted.count_is
    ∙ ap (λ (ns : List Text). min (length ns) (2 ^ 64 - 1)) (one_names objects number number counted.names names refl counted.chain chain)

module _ (objects : Objects) (number : ℕ) (class : ClassBody) where
  pub no_chain : IsEndless objects number → Decides false (HasPlace objects number class)
  no_chain endless = never (λ place. endless place.names place.chain)

  pub too_many : (count : ℕ) → IsCount objects number count → 200 < count → Decides false (HasPlace objects number class)
  too_many count counted many = never (λ place.
      let is = count_tells objects number count place.names counted place.chain in
      let few = place.few_names in
      omega (arith, is, few, many))

  pub not_in_row : Decides false (HasPlaceByRow objects class (kernel_class number)) → Decides false (HasPlace objects number class)
  not_in_row decides = never (λ place. false≢true (decides.1 place.row))

  pub in_row : (count : ℕ) (test : Bool) → IsCount objects number count → count ≤ 200
      → Decides true (HasPlaceByRow objects class (kernel_class number))
      → Decides test (0 < length class.names → IsTrue (has_named_slots class.kind))
      → Decides test (HasPlace objects number class)
  in_row count test counted few row named = (
    λ passed.
        let is = counted.count_is in
        record {
          names = counted.names;
          chain = counted.chain;
          few_names = omega (arith, is, few);
          row = row.0 refl;
          named = named.0 passed;
        },
    λ place. named.1 place.named,
  )

-- ---- whether a class fits

pub fit_special : (objects : Objects) (name : ℕ) (body : Body) → IsSpecial objects name body
    → Decides true (FitsClass objects name body)
fit_special objects name (Class class) special =
    let here : FitsClass objects class_class (Class class) =
    class_object class (subst (λ (n : ℕ). IsSome (class_at objects n)) special.0 special.1) in
    (λ _. subst (λ (n : ℕ). FitsClass objects n (Class class)) (sym special.0) here, λ _. refl)
fit_special objects name (Plain []) special =
    let here : FitsClass objects transcript_class (Plain []) =
    transcript (subst (λ (n : ℕ). IsSome (class_at objects n)) special.0 special.1) in
    (λ _. subst (λ (n : ℕ). FitsClass objects n (Plain [])) (sym special.0) here, λ _. refl)
fit_special objects name (Plain (value ∷ values)) special = absurd special
fit_special objects name (Bytes bytes) special = absurd special
fit_special objects name (Dict pairs) special = absurd special
fit_special objects name (Segment rights) special = absurd special
fit_special objects name (User user) special = absurd special
fit_special objects name (Counter counter) special = absurd special
fit_special objects name (Bag pairs) special = absurd special
fit_special objects name (RcDict pairs) special = absurd special
fit_special objects name (Queue queue) special = absurd special

record IsByKind (objects : Objects) (name : ℕ) (body : Body) : Type 0 where
  class : ClassBody
  names : List Text
  there : class_at objects name ≡ Some class
  fit : fits class.kind body ≡ true
  chain : HasNames objects name names
  slots : length names ≤ plain_slots body

-- a class that fits and isn't told otherwise fits by its kind
told_by_kind : (objects : Objects) (name : ℕ) (body : Body) → (IsSpecial objects name body → ⊥)
    → FitsClass objects name body → IsByKind objects name body
told_by_kind objects _ _ plain (by_kind name class names body there fit chain slots) =
    record { class = class; names = names; there = there; fit = fit; chain = chain; slots = slots }
told_by_kind objects _ _ plain (class_object class there) = absurd (plain (refl, there))
told_by_kind objects _ _ plain (transcript there) = absurd (plain (refl, there))

module _ (objects : Objects) (name : ℕ) (body : Body) (plain : IsSpecial objects name body → ⊥) where
  pub fit_nothing : class_at objects name ≡ None → Decides false (FitsClass objects name body)
  fit_nothing none = never (λ fit. let there = (told_by_kind objects name body plain fit).there in cc)

  pub fit_other : (class : ClassBody) → class_at objects name ≡ Some class → fits class.kind body ≡ false
      → Decides false (FitsClass objects name body)
  fit_other class here other = never (λ fit.
      let by = told_by_kind objects name body plain fit in
      let same : by.class ≡ class = let there = by.there in cc in
      false≢true (sym other ∙ subst (λ (c : ClassBody). fits c.kind body ≡ true) same by.fit))

  pub fit_endless : IsEndless objects name → Decides false (FitsClass objects name body)
  fit_endless endless = never (λ fit.
      let by = told_by_kind objects name body plain fit in
      endless by.names by.chain)

  pub fit_count : (class : ClassBody) (count slots : ℕ) → class_at objects name ≡ Some class → fits class.kind body ≡ true
      → IsCount objects name count → slots ≡ plain_slots body → plain_slots body < 2 ^ 32
      → Decides (leb count slots) (FitsClass objects name body)
  fit_count class count slots here fit counted slots_are few = (
    λ passed.
        let less : count ≤ slots = leb-true count slots passed in
        let is = counted.count_is in
        by_kind name class counted.names body here fit counted.chain (omega (arith, less, is, slots_are, few)),
    λ fits_it.
        let by = told_by_kind objects name body plain fits_it in
        let is = count_tells objects name count by.names counted by.chain in
        let less = by.slots in
        le-leb count slots (omega (arith, is, less, slots_are)),
  )
