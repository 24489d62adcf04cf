-- Where a name stands among those of the classes above one, which are gone through upwards.
use Rattle.std.proofs.Common.{◌≡◌, refl, sym, ap, ◌∙◌, subst, ℕ, suc, ◌+◌, ◌*◌, ◌^◌, ◌-◌, ◌<◌, ◌≤◌, Bool, true, false, cond, length, List, [], ◌∷◌, ◌++◌, Option, Some, None, IfSome, is_some, option_map, option_and_then, Result, Ok, Err, arith}
use Rattle.std.specs.Prelude.{bytes_eq}
use Rattle.std.proofs.lemmas.List.Sums.{sum_by-cons}
use Rattle.gem_object.specs.texts.Bytes.{Bytes as Text}
use Rattle.gem_object.specs.declared.body.ClassBody.{ClassBody}
use Rattle.gem_object.specs.declared.body.Body.{Body}
use Rattle.gem_object.specs.declared.body.Body.TheVariants.{Class}
use Rattle.gem_sound.specs.gem_image.Image.{Contents}
use Rattle.object_programs.specs.gem_world.Access.{a_read}
use Rattle.gem_sound.specs.Parts.{class_of}
use Rattle.object_programs.specs.Fixed.{ClassPart, class_part, fixed_of}
use Rattle.object_programs.specs.Guard.{chain_limit}
use Rattle.object_programs.specs.Atom.{Ask}
use Rattle.object_programs.specs.Run.{Run, give, and_then}
use Rattle.object_programs.specs.Programs.{read, part_of}
use Rattle.object_programs.specs.declared.fault.Fault.TheVariants as fault
use Rattle.gem_language.specs.tree_meaning.Place.{MadeBlock}
use Rattle.gem_language.specs.tree_meaning.Names.{index_of}
use Rattle.running_objects.specs.Seen.{Seen, object_at, IsSoundState}
use Rattle.running_objects.specs.Acted.{Acted, Reached}
use Rattle.running_objects.specs.declared.stop.Stop.{Stop}
use Rattle.running_objects.specs.declared.stop.Stop.TheVariants as stop
use Rattle.gem_language.specs.OutOfScope.{inherited_names, names_of_class, names_within, instance_names}
use Rattle.prim_parts.specs.Does.{Does}
use Rattle.prim_parts.specs.Walks.{part_of_class, parts_seen, classes_over, classes_up, count_names}
use Rattle.prim_parts.proofs.Does.{does_atom, does_then, does_stop, does_give, does_fail}
use Rattle.prim_parts.proofs.Walks.{few_names, up_some}
use Rattle.st_outside.specs.Names.{or_further, first_in}
use Rattle.st_outside.proofs.Ups.{read_class}

-- ---- places among names

-- a place among the items behind the first ones
abbrev pub later : ℕ → Option ℕ → Option ℕ
later count (Some index) = Some (count + index)
later count None = None

none_before : (found : Option ℕ) → option_map (λ index. 0 + index) found ≡ found
none_before None = refl
none_before (Some index) = let same : 0 + index ≡ index = omega arith in ap (λ (n : ℕ). Some n) same

pub first_of_none : (name : Text) (found : Option ℕ) → first_in name [] found ≡ found
first_of_none name found = none_before found

pub first_alone : (name : Text) (names : List Text) → first_in name names None ≡ index_of name names
first_alone name names = by (index_of name names)
  where
    by : (found : Option ℕ) → or_further found None ≡ found
    by None = refl
    by (Some index) = refl

one_further : (more count : ℕ) (found further : Option ℕ) → more ≡ suc count
    → or_further (option_map (λ index. suc index) found) (option_map (λ index. more + index) further)
    ≡ option_map (λ index. suc index) (or_further found (option_map (λ index. count + index) further))
one_further more count (Some index) further is = refl
one_further more count None None is = refl
one_further more count None (Some index) is =
    let same : more + index ≡ suc (count + index) = omega (arith, is) in ap (λ (n : ℕ). Some n) same

-- where a name stands among names in two parts
pub first_in_both : (name : Text) (names more : List Text) (after : Option ℕ)
    → first_in name (names ++ more) after ≡ first_in name names (first_in name more after)
first_in_both name [] more after = sym (none_before (first_in name more after))
first_in_both name (first ∷ names) more after =
    let long : length (first ∷ (names ++ more)) ≡ suc (length (names ++ more)) = omega arith in
    let short : length (first ∷ names) ≡ suc (length names) = omega arith in
    by (bytes_eq name first) long short (first_in_both name names more after)
  where
    by : (same : Bool) → length (first ∷ (names ++ more)) ≡ suc (length (names ++ more))
        → length (first ∷ names) ≡ suc (length names)
        → first_in name (names ++ more) after ≡ first_in name names (first_in name more after)
        → or_further (cond same (Some 0) (option_map (λ index. suc index) (index_of name (names ++ more))))
        (option_map (λ index. length (first ∷ (names ++ more)) + index) after)
        ≡ or_further (cond same (Some 0) (option_map (λ index. suc index) (index_of name names)))
        (option_map (λ index. length (first ∷ names) + index) (first_in name more after))
    by true long short rest = refl
    by false long short rest =
        one_further (length (first ∷ (names ++ more))) (length (names ++ more)) (index_of name (names ++ more)) after long
        ∙ ap (option_map (λ (index : ℕ). suc index)) rest
        ∙ sym (one_further (length (first ∷ names)) (length names) (index_of name names) (first_in name more after) short)

index_below : (name : Text) (names : List Text) → IfSome (index_of name names) (λ index. index < length names)
index_below name [] = tt
index_below name (first ∷ rest) = by (bytes_eq name first) (index_of name rest) (index_below name rest)
  where
    by : (same : Bool) (found : Option ℕ) → IfSome found (λ index. index < length rest)
        → IfSome (cond same (Some 0) (option_map (λ index. suc index) found)) (λ index. index < length (first ∷ rest))
    by true found below = omega arith
    by false None below = tt
    by false (Some index) below = omega (arith, below)

-- where so many classes are left, of 200 names each, the name stands among those of the classes that
-- were gone through
abbrev pub IsReached : (limit : ℕ) → Option ℕ → Type 0
IsReached limit found = IfSome found (λ index. index + 200 * limit ≤ 200 * (2 ^ 48 + 1))

pub reached_bound : (limit : ℕ) (found : Option ℕ) → IsReached limit found → IfSome found (λ index. index ≤ 2 ^ 63)
reached_bound limit None reached = tt
reached_bound limit (Some index) reached = omega (arith, reached)

pub reached_more : (limit : ℕ) (name : Text) (names : List Text) (found : Option ℕ) → length names ≤ 200 → 0 < limit
    → limit ≤ 2 ^ 48 + 1 → IsReached limit found → IsReached (limit - 1) (first_in name names found)
reached_more limit name names found few some within reached = by (index_of name names) found (index_below name names) reached
  where
    by : (own found : Option ℕ) → IfSome own (λ index. index < length names) → IsReached limit found
        → IsReached (limit - 1) (or_further own (option_map (λ index. length names + index) found))
    by (Some index) found below reached = omega (arith, few, some, within, below)
    by None None below reached = tt
    by None (Some index) below reached = omega (arith, few, some, within, reached)

-- ---- a class that is seen has at most 200 names of its own

seen_there : (found : Option Contents) (class : ClassBody) → option_and_then (λ object. class_of object.body) found ≡ Some class
    → is_some found ≡ true
seen_there None class is = cc
seen_there (Some object) class is = refl

part_of_body : (body : Body) (class : ClassBody) → class_of body ≡ Some class → class_part body ≡ Some (part_of_class class)
part_of_body (Class own) class is =
    let same : own ≡ class = cc in ap (λ (class : ClassBody). Some (part_of_class class)) same
part_of_body other class is = cc

seen_part : (found : Option Contents) (class : ClassBody) → option_and_then (λ object. class_of object.body) found ≡ Some class
    → part_of (option_map fixed_of found) ≡ Some (part_of_class class)
seen_part None class is = cc
seen_part (Some object) class is = part_of_body object.body class is

pub few_own : (seen : Seen) → IsSoundState seen → (name : ℕ) (class : ClassBody)
    → option_and_then (λ object. class_of object.body) (object_at name seen) ≡ Some class → length class.names ≤ 200
few_own seen sound name class is =
    let parts = parts_seen seen in
    let part : ClassPart = part_of_class class in
    let some : 0 < 2 ^ 48 = omega arith in
    let up = up_some parts (2 ^ 48) name part (seen_part (object_at name seen) class is) some in
    let few : count_names (classes_up parts (2 ^ 48) name) ≤ 200 =
    few_names seen sound name (seen_there (object_at name seen) class is) in
    let counted = ap count_names up in
    let sum = sum_by-cons (λ (entry : ℕ × ClassPart). length entry.1.names) (name, part)
    (classes_over part.superclass (classes_up parts (2 ^ 48 - 1))) in
    omega (arith, few, counted, sum)

-- ---- the loop

-- the walk, where at most so many classes are gone through
unfoldable pub names_going : (limit class : ℕ) → Run MadeBlock (List Text)
names_going limit class = names_within limit class

-- where a name stands among those that come first and those that were gone through
abbrev pub indexed : Text → Option ℕ → Result (List Text) Stop → Result (Option ℕ) Stop
indexed name found (Ok names) = Ok (first_in name names found)
indexed name found (Err ended) = Err ended

-- it is told where a name stands among the names of all classes
abbrev pub IndexTold : (name : Text) (class : ℕ) (before : Seen) → Result (Option ℕ) Stop → Seen → Type 0
IndexTold name class before result after =
    Does (and_then (instance_names class) (λ names. give (index_of name names))) before result after

-- the walk begins with all classes
goes_names : (class limit : ℕ) {before after : Seen} {result : Result (List Text) Stop} → limit ≡ suc chain_limit
    → Does (names_going limit class) before result after → Does (instance_names class) before result after
unfolding names_going instance_names
goes_names class limit {before} {after} {result} whole does =
    let At : ℕ → Type 0 = λ limit. Does (names_within limit class) before result after in
    subst At whole does

pub goes_indexed : (name : Text) (class limit : ℕ) (names : Result (List Text) Stop) {before after : Seen}
    → limit ≡ suc chain_limit → Does (names_going limit class) before names after
    → Does (and_then (instance_names class) (λ names. give (index_of name names))) before (indexed name None names) after
goes_indexed name class limit (Ok names) {before} {after} whole does =
    let At : Option ℕ → Type 0 =
    λ found. Does (and_then (instance_names class) (λ names. give (index_of name names))) before (Ok found) after in
    subst At (sym (first_alone name names))
    (does_then (goes_names class limit whole does) (does_give (index_of name names) after))
goes_indexed name class limit (Err ended) whole does = does_stop (goes_names class limit whole does)

-- no class is left
pub names_end : (class limit : ℕ) (seen : Seen) → limit ≡ 0
    → Does (names_going limit class) seen (Err (stop.Fails fault.ArgumentKind)) seen
unfolding names_going
names_end class limit seen is =
    let At : ℕ → Type 0 = λ limit. Does (names_within limit class) seen (Err (stop.Fails fault.ArgumentKind)) seen in
    subst At (sym is) (does_fail fault.ArgumentKind seen)

module _ (limit name : ℕ) (some : 0 < limit) where
  names_more : names_going limit name ≡ and_then (read name) (λ object.
      names_of_class (class_of object.body) (names_going (limit - 1)))
  unfolding names_going
  names_more =
      let counted : limit ≡ suc (limit - 1) = omega (arith, some) in
      ap (λ (limit : ℕ). names_within limit name) counted

  pub names_stop : {ended : Stop} {before after : Seen} → Acted (Ask a_read name) before (Err ended) after
      → Does (names_going limit name) before (Err ended) after
  names_stop {ended} {before} {after} acted =
      let At : Run MadeBlock (List Text) → Type 0 = λ program. Does program before (Err ended) after in
      subst At (sym names_more) (does_stop (does_atom acted))

  module _ {before between after : Seen} {result : Result (List Text) Stop} (reached : Reached a_read name before between) where
    names_read : (found : Option ClassBody)
        → option_and_then (λ object. class_of object.body) (object_at name between) ≡ found
        → Does (names_of_class found (names_going (limit - 1))) between result after
        → Does (names_going limit name) before result after
    names_read found is does =
        let At : Run MadeBlock (List Text) → Type 0 = λ program. Does program before result after in
        let Of : Option ClassBody → Type 0 = λ found. Does (names_of_class found (names_going (limit - 1))) between result after in
        subst At (sym names_more)
        (does_then (does_atom reached.acted) (subst Of (sym (read_class reached found is)) does))

  module _ {before between : Seen} (reached : Reached a_read name before between) where
    -- what isn't a class has no names
    pub names_none : option_and_then (λ object. class_of object.body) (object_at name between) ≡ None
        → Does (names_going limit name) before (Ok []) between
    names_none is = names_read reached None is (does_give [] between)

    module _ (class : ClassBody)
        (is : option_and_then (λ object. class_of object.body) (object_at name between) ≡ Some class) where
      names_over : (over : Option ℕ) → class.superclass ≡ over → {after : Seen} {result : Result (List Text) Stop}
          → Does (and_then (inherited_names over (names_going (limit - 1))) (λ inherited. give (inherited ++ class.names)))
          between result after → Does (names_going limit name) before result after
      names_over over is_over {after} {result} does =
          let Of : Option ℕ → Type 0 = λ over. Does (and_then (inherited_names over (names_going (limit - 1)))
          (λ inherited. give (inherited ++ class.names))) between result after in
          names_read reached (Some class) is (subst Of (sym is_over) does)

      -- the last class
      pub names_last : class.superclass ≡ None → Does (names_going limit name) before (Ok class.names) between
      names_last last = names_over None last (does_then (does_give [] between) (does_give class.names between))

      -- A class below another one: what is told of the names from this class on is told of those from
      -- the superclass on.
      pub names_above : (Whole : Result (Option ℕ) Stop → Seen → Type 0) (wanted : Text) (found : Option ℕ)
          → ((names : Result (List Text) Stop) (after : Seen) → Does (names_going limit name) before names after
          → Whole (indexed wanted found names) after) → (superclass : ℕ) → class.superclass ≡ Some superclass
          → (names : Result (List Text) Stop) (after : Seen) → Does (names_going (limit - 1) superclass) between names after
          → Whole (indexed wanted (first_in wanted class.names found) names) after
      names_above Whole wanted found told superclass over (Ok names) after does =
          let At : Option ℕ → Type 0 = λ found. Whole (Ok found) after in
          subst At (first_in_both wanted names class.names found) (told (Ok (names ++ class.names)) after
          (names_over (Some superclass) over (does_then does (does_give (names ++ class.names) after))))
      names_above Whole wanted found told superclass over (Err ended) after does =
          told (Err ended) after (names_over (Some superclass) over (does_stop does))
