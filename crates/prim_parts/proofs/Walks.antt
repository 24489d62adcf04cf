-- What is fixed of the classes above one that is there, where all objects that are seen are sound.
use Rattle.std.proofs.Common.{◌≡◌, refl, sym, ap, ◌∙◌, subst, ℕ, zero, suc, ◌+◌, ◌-◌, ◌^◌, ◌<◌, ◌≤◌, Bool, true, false, ◌||◌, nat_eq, nat_lt, length, Option, Some, None, List, [], ◌∷◌, ◌++◌, is_some, option_map, Result, Ok, arith}
use Rattle.std.proofs.lemmas.Bool.{false≢true, and_parts, and_from, leb-true}
use Rattle.std.proofs.lemmas.List.{length-append, append-nil, append_assoc}
use Rattle.std.proofs.lemmas.List.Sums.{sum_by-cons}
use Rattle.std.specs.List.{list_all}
use Rattle.gem_object.specs.texts.Bytes.{Bytes as Text}
use Rattle.gem_sound.specs.gem_image.Image.{Contents}
use Rattle.object_programs.specs.gem_world.World.{World, shown}
use Rattle.gem_object.specs.declared.value.Value.{Value}
use Rattle.gem_object.specs.declared.value.Value.TheVariants as value
use Rattle.gem_sound.specs.Sound.{names_in}
use Rattle.gem_sound.specs.Kernel.{kernel_body, kernel_bodies, kernel_classes}
use Rattle.gem_sound.specs.declared.names.TheConstants.{UNDEFINED_OBJECT_CLASS, TRUE_CLASS, FALSE_CLASS, CHARACTER_CLASS, SMALL_INTEGER_CLASS, BLOCK_CLASS, SYMBOL_CLASS}
use Rattle.prim_rules.specs.Parts.{class_of_plain, class_of_reference, class_of_value, is_under, named_slots}
use Rattle.prim_rules.specs.Classes.{all_names}
use Rattle.gem_object.specs.References.{reference_of}
use Rattle.tree_meaning.specs.Place.{MadeBlock}
use Rattle.object_programs.specs.Fixed.{ClassPart, class_part, Fixed, fixed_of}
use Rattle.object_programs.specs.Guard.{Parts, holds_of, is_there, is_known, is_segment_at, accepts, named_fit, kernel_fits, names_above, names_of_class, names_of_part, names_within, names_at, chain_limit, line_above, line_of_class, line_of_part, line_within, are_few, place_fits, fits}
use Rattle.object_programs.specs.Atom.{Kind}
use Rattle.object_programs.specs.Laws.{answered}
use Rattle.object_programs.specs.Run.{Run, atom}
use Rattle.object_programs.specs.Programs.{part_of, rest_above, line_of, classes_within, classes_above}
use Rattle.running_objects.specs.Seen.{Seen, object_at, IsSoundState}
use Rattle.running_objects.proofs.Running.{acted_says}
use Rattle.running_objects.proofs.Puts.{nothing_missed, known_refs, line_known}
use Rattle.running_objects.specs.declared.stop.Stop.{Stop}
use Rattle.prim_parts.specs.Does.{Does, IsThere}
use Rattle.prim_parts.specs.Walks.{parts_seen, classes_over, classes_with, classes_counted, classes_up, has_class, count_names, names_of}
use Rattle.prim_parts.proofs.Does.{does_give, does_atom, does_then}

-- ---- an object that is there is known

there_known : (found : Option Contents) → is_some found ≡ true → holds_of is_there (option_map fixed_of found) ≡ true
there_known None there = absurd (false≢true there)
there_known (Some object) there = refl

known_there : (found : Option Contents) → holds_of is_there (option_map fixed_of found) ≡ true → is_some found ≡ true
known_there None known = absurd (false≢true known)
known_there (Some object) known = refl

-- the class of a reference
pub ref_class : (one : Value) (name : ℕ) {before after : Seen} {result : Result ℕ Stop} → Some name ≡ reference_of one
    → Does (class_of_reference name) before result after → Does (class_of_value one) before result after
ref_class (value.Ref own) name {before} {after} {result} is does =
    let same : name ≡ own = cc in
    let At : ℕ → Type 0 = λ name. Does (class_of_reference name) before result after in
    subst At same does
ref_class value.Nil name is does = cc
ref_class value.False name is does = cc
ref_class value.True name is does = cc
ref_class (value.Int number) name is does = cc
ref_class (value.Char code) name is does = cc
ref_class (value.Sym text) name is does = cc
ref_class (value.Block block) name is does = cc

some_known : (found : Option Fixed) → is_some found ≡ true → holds_of is_there found ≡ true
some_known None there = absurd (false≢true there)
some_known (Some fixed) there = refl

module _ (seen : Seen) (sound : IsSoundState seen) where
  -- the class of an object that is seen is there
  pub class_known : (name : ℕ) (object : Contents) → Some object ≡ object_at name seen → IsThere object.class seen
  class_known name object shown = known_there (object_at object.class seen)
      (and_parts (is_known (parts_seen seen) object.class) _
      (known_refs seen.setting seen.world sound name object (sym shown))).0

  -- the class of a value that isn't a reference is there
  kernel_there : (name : ℕ) → is_some (kernel_body name) ≡ true → IsThere name seen
  kernel_there name of_kernel = known_there (object_at name seen)
      (some_known (parts_seen seen name) (sound.kernel name of_kernel))

  pub plain_known : (one : Value) (class : ℕ) → Some class ≡ class_of_plain one → IsThere class seen
  unfolding kernel_bodies kernel_classes
  plain_known one class is = kernel_there class (by one is)
    where
      same : (own class : ℕ) → Some class ≡ Some own → is_some (kernel_body own) ≡ true → is_some (kernel_body class) ≡ true
      same own class is of_kernel =
          let one : class ≡ own = cc in
          ap (λ (name : ℕ). is_some (kernel_body name)) one ∙ of_kernel

      by : (one : Value) → Some class ≡ class_of_plain one → is_some (kernel_body class) ≡ true
      by value.Nil is = same UNDEFINED_OBJECT_CLASS class is refl
      by value.False is = same FALSE_CLASS class is refl
      by value.True is = same TRUE_CLASS class is refl
      by (value.Int number) is = same SMALL_INTEGER_CLASS class is refl
      by (value.Char code) is = same CHARACTER_CLASS class is refl
      by (value.Sym name) is = same SYMBOL_CLASS class is refl
      by (value.Block block) is = same BLOCK_CLASS class is refl
      by (value.Ref name) is = cc

  -- ---- what is above a class that is there is there

  over_class : (found : Option Fixed) (part : ClassPart) (superclass : ℕ) (above : ℕ → List ℕ)
      → part_of found ≡ Some part → part.superclass ≡ Some superclass
      → list_all (is_known (parts_seen seen)) (line_of_part found above) ≡ true
      → list_all (is_known (parts_seen seen)) (above superclass) ≡ true
  over_class None part superclass above is up known = cc
  over_class (Some fixed) part superclass above is up known =
      let all : List ℕ → Bool = list_all (is_known (parts_seen seen)) in
      ap (λ (over : Option ℕ). all (line_above over above)) (sym up)
      ∙ ap (λ (one : Option ClassPart). all (line_of_class one above)) (sym is) ∙ known

  superclass_known : (name superclass : ℕ) (part : ClassPart) → is_known (parts_seen seen) name ≡ true
      → part_of (parts_seen seen name) ≡ Some part → part.superclass ≡ Some superclass
      → is_known (parts_seen seen) superclass ≡ true
  superclass_known name superclass part known is up =
      let parts : Parts = parts_seen seen in
      let line = and_parts (is_known parts name)
      (list_all (is_known parts) (line_of_part (parts name) (line_within parts (suc zero))))
      (line_known seen.setting seen.world sound (suc (suc zero)) name known) in
      (and_parts (is_known parts superclass) _
      (over_class (parts name) part superclass (line_within parts (suc zero)) is up line.1)).0

  -- ---- the walk over classes asks for fixed parts alone

  kind_known : (name : ℕ) → is_known (parts_seen seen) name ≡ true
      → Does (atom (Kind name)) seen (Ok (parts_seen seen name)) seen
  kind_known name known =
      let parts : Parts = parts_seen seen in
      does_atom (acted_says (Kind name) seen seen (parts name) refl
      (ap (λ (world : World). answered (parts name) world seen.budget)
      (nothing_missed parts (name ∷ []) seen.world (and_from (is_known parts name) true known refl))))

  -- what is done for each class that is there, by what of its superclass is done
  walk_over : (name : ℕ) (part : ClassPart) (superclass : Option ℕ)
      (above : ℕ → Run MadeBlock (List (ℕ × ClassPart))) (counted : ℕ → List (ℕ × ClassPart))
      → ((one : ℕ) → is_known (parts_seen seen) one ≡ true → Does (above one) seen (Ok (counted one)) seen)
      → is_known (parts_seen seen) name ≡ true → part_of (parts_seen seen name) ≡ Some part → part.superclass ≡ superclass
      → Does (rest_above superclass above) seen (Ok (classes_over superclass counted)) seen
  walk_over name part None above counted each known is up = does_give [] seen
  walk_over name part (Some superclass) above counted each known is up =
      each superclass (superclass_known name superclass part known is up)

  walk_class : (name : ℕ) (part : Option ClassPart)
      (above : ℕ → Run MadeBlock (List (ℕ × ClassPart))) (counted : ℕ → List (ℕ × ClassPart))
      → ((one : ℕ) → is_known (parts_seen seen) one ≡ true → Does (above one) seen (Ok (counted one)) seen)
      → is_known (parts_seen seen) name ≡ true → part_of (parts_seen seen name) ≡ part
      → Does (line_of name part above) seen (Ok (classes_with name part counted)) seen
  walk_class name None above counted each known is = does_give [] seen
  walk_class name (Some part) above counted each known is = does_then
      (walk_over name part part.superclass above counted each known is refl)
      (does_give ((name, part) ∷ classes_over part.superclass counted) seen)

  walk : (limit name : ℕ) → is_known (parts_seen seen) name ≡ true
      → Does (classes_within limit name) seen (Ok (classes_counted (parts_seen seen) limit name)) seen
  walk zero name known = does_give [] seen
  walk (suc limit) name known = does_then (kind_known name known)
      (walk_class name (part_of (parts_seen seen name)) (classes_within limit) (classes_counted (parts_seen seen) limit)
      (walk limit) known refl)

  pub does_classes : (class : ℕ) → IsThere class seen
      → Does (classes_above class) seen (Ok (classes_up (parts_seen seen) (2 ^ 48) class)) seen
  unfolding classes_above classes_up
  does_classes class there = walk chain_limit class (there_known (object_at class seen) there)

  pub does_under : (class ancestor : ℕ) (result : Bool) → IsThere class seen
      → result ≡ has_class ancestor (classes_up (parts_seen seen) (2 ^ 48) class)
      → Does (is_under class ancestor) seen (Ok result) seen
  does_under class ancestor result there is =
      let At : Bool → Type 0 = λ answer. Does (is_under class ancestor) seen (Ok answer) seen in
      subst At (sym is) (does_then (does_classes class there)
      (does_give (has_class ancestor (classes_up (parts_seen seen) (2 ^ 48) class)) seen))

  pub does_named : (class result : ℕ) → IsThere class seen
      → result ≡ count_names (classes_up (parts_seen seen) (2 ^ 48) class)
      → Does (named_slots class) seen (Ok result) seen
  unfolding named_slots
  does_named class result there is =
      let At : ℕ → Type 0 = λ answer. Does (named_slots class) seen (Ok answer) seen in
      subst At (sym is) (does_then (does_classes class there)
      (does_give (count_names (classes_up (parts_seen seen) (2 ^ 48) class)) seen))

  pub does_names : (class : ℕ) (result : List Text) → IsThere class seen
      → result ≡ names_of (classes_up (parts_seen seen) (2 ^ 48) class)
      → Does (all_names class) seen (Ok result) seen
  does_names class result there is =
      let At : List Text → Type 0 = λ answer. Does (all_names class) seen (Ok answer) seen in
      subst At (sym is) (does_then (does_classes class there)
      (does_give (names_of (classes_up (parts_seen seen) (2 ^ 48) class)) seen))

  -- ---- a sound class has at most 200 names

  module _ (parts : Parts) (above : ℕ → Option (List Text)) (counted : ℕ → List (ℕ × ClassPart))
      (each : (name : ℕ) (names : List Text) → above name ≡ Some names → count_names (counted name) ≤ length names) where
    counts_over : (name : ℕ) (superclass : Option ℕ) (inherited : List Text) → names_above name superclass above ≡ Some inherited
        → count_names (classes_over superclass counted) ≤ length inherited
    counts_over name None inherited is = omega arith
    counts_over name (Some superclass) inherited is = each superclass inherited is

    counts_own : (name : ℕ) (part : ClassPart) (names : List Text) (found : Option (List Text))
        → names_above name part.superclass above ≡ found → option_map (λ inherited. inherited ++ part.names) found ≡ Some names
        → count_names ((name, part) ∷ classes_over part.superclass counted) ≤ length names
    counts_own name part names None found is = cc
    counts_own name part names (Some inherited) found is =
        let rest : count_names (classes_over part.superclass counted) ≤ length inherited =
        counts_over name part.superclass inherited found in
        let whole : inherited ++ part.names ≡ names = cc in
        let long : length names ≡ length inherited + length part.names =
        ap length (sym whole) ∙ length-append inherited part.names in
        let sum = sum_by-cons (λ (entry : ℕ × ClassPart). length entry.1.names) (name, part)
        (classes_over part.superclass counted) in
        omega (arith, rest, long, sum)

    counts_part : (name : ℕ) (part : Option ClassPart) (names : List Text) → names_of_class name part above ≡ Some names
        → count_names (classes_with name part counted) ≤ length names
    counts_part name None names is = omega arith
    counts_part name (Some part) names is = counts_own name part names (names_above name part.superclass above) refl is

    counts_found : (name : ℕ) (found : Option Fixed) (names : List Text) → names_of_part name found above ≡ Some names
        → count_names (classes_with name (part_of found) counted) ≤ length names
    counts_found name None names is = cc
    counts_found name (Some fixed) names is = counts_part name fixed.as_class names is

  counts_up : (parts : Parts) (limit name : ℕ) (names : List Text) → names_within parts (suc limit) name ≡ Some names
      → count_names (classes_counted parts limit name) ≤ length names
  counts_up parts zero name names is = omega arith
  counts_up parts (suc limit) name names is = counts_found parts (names_within parts (suc limit)) (classes_counted parts limit)
      (counts_up parts limit) name (parts name) names is

  none_counted : (parts : Parts) (limit name : ℕ) → part_of (parts name) ≡ None → classes_counted parts limit name ≡ []
  none_counted parts zero name is = refl
  none_counted parts (suc limit) name is =
      ap (λ (part : Option ClassPart). classes_with name part (classes_counted parts limit)) is

  names_of_found : (name : ℕ) (found : Option Fixed) (part : ClassPart) (above : ℕ → Option (List Text))
      → part_of found ≡ Some part → names_of_part name found above ≡ names_of_class name (Some part) above
  names_of_found name None part above is = cc
  names_of_found name (Some fixed) part above is = ap (λ (part : Option ClassPart). names_of_class name part above) is

  few_counted : (parts : Parts) (limit name : ℕ) (part : Option ClassPart) → part_of (parts name) ≡ part
      → ((own : ClassPart) → part ≡ Some own
      → holds_of are_few (names_of_class name (Some own) (names_within parts limit)) ≡ true)
      → count_names (classes_counted parts limit name) ≤ 200
  few_counted parts limit name None is few =
      let none = ap count_names (none_counted parts limit name is) in
      omega (arith, none)
  few_counted parts limit name (Some own) is few =
      by (names_of_class name (Some own) (names_within parts limit)) refl (few own refl)
    where
      by : (found : Option (List Text)) → names_of_class name (Some own) (names_within parts limit) ≡ found
          → holds_of are_few found ≡ true → count_names (classes_counted parts limit name) ≤ 200
      by None names few = absurd (false≢true few)
      by (Some names) found few =
          let counted = counts_up parts limit name names
          (names_of_found name (parts name) own (names_within parts limit) is ∙ found) in
          let most : length names ≤ 200 = leb-true (length names) 200 few in
          omega (arith, counted, most)

  place_of : (name : ℕ) (object : Contents) → object_at name seen ≡ Some object
      → place_fits (parts_seen seen) name (class_part object.body) ≡ true
  unfolding fits
  place_of name object there =
      let parts : Parts = parts_seen seen in
      let one = and_parts (nat_lt 0 name) _ (sound.each name object there) in
      let two = and_parts (list_all (is_known parts) (names_in object)) _ one.1 in
      let three = and_parts (is_segment_at parts object.segment) _ two.1 in
      let four = and_parts (accepts parts object.class object.body) _ three.1 in
      let five = and_parts (named_fit parts object.body) _ four.1 in
      let six = and_parts (kernel_fits name object.body) _ five.1 in
      (and_parts (place_fits parts name (class_part object.body)) _ six.1).0

  few_in_place : (name : ℕ) (own : ClassPart) → place_fits (parts_seen seen) name (Some own) ≡ true
      → holds_of are_few (names_of_class name (Some own) (names_at (parts_seen seen))) ≡ true
  few_in_place name own place =
      (and_parts (holds_of are_few (names_of_class name (Some own) (names_at (parts_seen seen)))) _ place).0

  few_of : (name : ℕ) (found : Option Contents) → object_at name seen ≡ found → is_some found ≡ true
      → count_names (classes_counted (parts_seen seen) chain_limit name) ≤ 200
  unfolding names_at
  few_of name None shown there = absurd (false≢true there)
  few_of name (Some object) shown there = few_counted (parts_seen seen) chain_limit name (class_part object.body)
      (ap (λ (one : Option Contents). part_of (option_map fixed_of one)) shown)
      (λ own is. few_in_place name own
      (ap (place_fits (parts_seen seen) name) (sym is) ∙ place_of name object shown))

  pub few_names : (class : ℕ) → IsThere class seen → count_names (classes_up (parts_seen seen) (2 ^ 48) class) ≤ 200
  unfolding classes_up
  few_names class there = few_of class (object_at class seen) refl there

-- ---- a walk with a loop

module _ (parts : Parts) (limit name : ℕ) where
  -- what isn't a class ends the walk
  pub up_none : part_of (parts name) ≡ None → classes_up parts limit name ≡ []
  unfolding classes_up
  up_none is = none_at limit
    where
      none_at : (limit : ℕ) → classes_counted parts limit name ≡ []
      none_at zero = refl
      none_at (suc limit) = ap (λ (part : Option ClassPart). classes_with name part (classes_counted parts limit)) is

  pub up_zero : limit ≡ 0 → classes_up parts limit name ≡ []
  unfolding classes_up
  up_zero is = ap (λ (limit : ℕ). classes_counted parts limit name) is

  module _ (part : ClassPart) (is : part_of (parts name) ≡ Some part) (some : 0 < limit) where
    pub up_some : classes_up parts limit name ≡ (name, part) ∷ classes_over part.superclass (classes_up parts (limit - 1))
    unfolding classes_up
    up_some =
        let counted : limit ≡ suc (limit - 1) = omega (arith, some) in
        ap (λ (limit : ℕ). classes_counted parts limit name) counted
        ∙ ap (λ (one : Option ClassPart). classes_with name one (classes_counted parts (limit - 1))) is

    -- the last class, and one below another
    pub up_last : part.superclass ≡ None → classes_up parts limit name ≡ (name, part) ∷ []
    up_last last = up_some ∙ ap (λ (over : Option ℕ). (name, part) ∷ classes_over over (classes_up parts (limit - 1))) last

    pub up_more : (superclass : ℕ) → part.superclass ≡ Some superclass
        → classes_up parts limit name ≡ (name, part) ∷ classes_up parts (limit - 1) superclass
    up_more superclass up = up_some
        ∙ ap (λ (over : Option ℕ). (name, part) ∷ classes_over over (classes_up parts (limit - 1))) up

-- ---- what is found, counted and gathered on the way

module _ (parts : Parts) (limit name : ℕ) where
  pub found_none : (ancestor : ℕ) (whole : Bool) → has_class ancestor (classes_up parts limit name) ≡ whole
      → classes_up parts limit name ≡ [] → false ≡ whole
  found_none ancestor whole so_far is = ap (has_class ancestor) (sym is) ∙ so_far

  pub counted_none : (count whole : ℕ) → count + count_names (classes_up parts limit name) ≡ whole
      → classes_up parts limit name ≡ [] → count ≡ whole
  counted_none count whole so_far is =
      let none : count_names (classes_up parts limit name) ≡ 0 = ap count_names is in
      omega (arith, so_far, none)

  pub gathered_none : (names whole : List Text) → names ++ names_of (classes_up parts limit name) ≡ whole
      → classes_up parts limit name ≡ [] → names ≡ whole
  gathered_none names whole so_far is =
      sym (append-nil names) ∙ ap (λ (classes : List (ℕ × ClassPart)). names ++ names_of classes) (sym is) ∙ so_far

  module _ (part : ClassPart) (rest : List (ℕ × ClassPart)) (is : classes_up parts limit name ≡ (name, part) ∷ rest) where
    pub found_here : (ancestor : ℕ) (whole : Bool) → has_class ancestor (classes_up parts limit name) ≡ whole
        → nat_eq name ancestor ≡ true → true ≡ whole
    found_here ancestor whole so_far same =
        sym (ap (has_class ancestor) is ∙ ap (λ b. b || has_class ancestor rest) same) ∙ so_far

    pub found_above : (ancestor : ℕ) (whole : Bool) → has_class ancestor (classes_up parts limit name) ≡ whole
        → nat_eq name ancestor ≡ false → has_class ancestor rest ≡ whole
    found_above ancestor whole so_far apart =
        sym (ap (has_class ancestor) is ∙ ap (λ b. b || has_class ancestor rest) apart) ∙ so_far

    pub counted_here : (count whole : ℕ) → count + count_names (classes_up parts limit name) ≡ whole
        → (count + length part.names) + count_names rest ≡ whole
    counted_here count whole so_far =
        let one : count_names (classes_up parts limit name) ≡ length part.names + count_names rest =
        ap count_names is ∙ sum_by-cons (λ (entry : ℕ × ClassPart). length entry.1.names) (name, part) rest in
        omega (arith, so_far, one)

    pub gathered_here : (names whole : List Text) → names ++ names_of (classes_up parts limit name) ≡ whole
        → (names ++ part.names) ++ names_of rest ≡ whole
    gathered_here names whole so_far = append_assoc names part.names (names_of rest)
        ∙ ap (λ (classes : List (ℕ × ClassPart)). names ++ names_of classes) (sym is) ∙ so_far
