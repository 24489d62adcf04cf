-- How many slots classes name: it remains, and it is what the classes tell that are there.
use Rattle.std.proofs.Common.{◌≡◌, ◌∙◌, refl, sym, ap, subst, ℕ, zero, suc, ◌+◌, ◌^◌, Bool, true, length, List, ◌∷◌, Option, Some, None, is_some, option_map, arith}
use Rattle.std.proofs.lemmas.Bool.{false≢true, and_parts}
use Rattle.std.proofs.lemmas.List.Sums.{sum_by-cons}
use Rattle.std.specs.List.{list_all}
use Rattle.gem_object.specs.declared.body.ClassBody.{ClassBody}
use Rattle.gem_object.specs.declared.body.Body.{Body}
use Rattle.gem_object.specs.declared.body.Body.TheVariants.{Plain, Bytes, Dict, Class, Segment, User, Counter, Bag, RcDict, Queue}
use Rattle.running_objects.specs.gem_image.Image.{Contents}
use Rattle.running_objects.specs.gem_world.World.{Setting, World, shown}
use Rattle.running_objects.specs.gem_sound.Parts.{class_of}
use Rattle.running_objects.specs.object_programs.Fixed.{ClassPart, class_part, fixed_of, fixed_by}
use Rattle.running_objects.specs.object_programs.Guard.{Parts, holds_of, is_there, is_known, line_above, line_of_class, line_of_part, line_within, chain_limit}
use Rattle.running_objects.specs.object_programs.Programs.{part_of}
use Rattle.running_objects.specs.Seen.{Seen, object_at, IsSoundState}
use Rattle.running_objects.proofs.Puts.{line_known}
use Rattle.gem_language.specs.prim_rules.Parts.{named_slots}
use Rattle.prim_parts.specs.Does.{IsThere}
use Rattle.prim_parts.specs.Walks.{part_of_class, parts_seen, classes_over, classes_with, classes_counted, classes_up, count_names}
use Rattle.prim_parts.proofs.Walks.{does_named}
use Rattle.look_up_cache.specs.Lasting.{Lasting, lasting_of, class_in, Still}
use Rattle.look_up_cache.specs.Counted.{Stays, Counted, none_left, no_class, last, above}
use Rattle.look_up_cache.specs.Memory.{IsCounted, with_budget}
use Rattle.look_up_cache.specs.Elements.{AlwaysGives}
use Rattle.look_up_cache.proofs.Calms.{Taken, taken, class_lasts, class_taken}
use Rattle.look_up_cache.proofs.Stays.{there_stays}

-- ---- it remains

module _ (setting : Setting) (world later : World) (still : Still setting world later) where
  pub counted_stays : (limit name count : ℕ) → Counted setting world limit name count
      → Counted setting later limit name count
  counted_stays _ _ _ (none_left name count same) = none_left name count same
  counted_stays _ _ _ (no_class more name count part there none same) =
      no_class more name count part (there_stays setting world later still name part there) none same
  counted_stays _ _ _ (last more name count part class there is top same) =
      last more name count part class (there_stays setting world later still name part there) is top same
  counted_stays _ _ _ (above more name count part class superclass rest there is over counted same) =
      above more name count part class superclass rest (there_stays setting world later still name part there) is over
      (counted_stays more superclass rest counted) same

-- ---- it is what the classes tell

part_by_class : (body : Body) → class_part body ≡ option_map part_of_class (class_of body)
part_by_class (Plain values) = refl
part_by_class (Bytes bytes) = refl
part_by_class (Dict pairs) = refl
part_by_class (Class class) = refl
part_by_class (Segment rights) = refl
part_by_class (User user) = refl
part_by_class (Counter counter) = refl
part_by_class (Bag pairs) = refl
part_by_class (RcDict pairs) = refl
part_by_class (Queue queue) = refl

module _ (setting : Setting) (world : World) where
  part_is : (name : ℕ) (part : Lasting) (class : Option ClassBody) → Stays name part setting world
      → class_in part ≡ class → part_of (fixed_by setting world name) ≡ option_map part_of_class class
  part_is name part class there is =
      let found : Taken (shown name setting world) part = taken (shown name setting world) part there in
      ap (λ (shown : Option Contents). part_of (option_map fixed_of shown)) found.there
      ∙ (part_by_class found.object.body
      ∙ ap (option_map part_of_class) (class_taken found.object part class found.is is))

  classes_are : (more name : ℕ) (part : Lasting) (class : Option ClassBody) → Stays name part setting world
      → class_in part ≡ class → classes_counted (fixed_by setting world) (suc more) name
      ≡ classes_with name (option_map part_of_class class) (classes_counted (fixed_by setting world) more)
  classes_are more name part class there is = ap (λ (found : Option ClassPart).
      classes_with name found (classes_counted (fixed_by setting world) more)) (part_is name part class there is)

  one_more : (name : ℕ) (class : ClassBody) (rest : List (ℕ × ClassPart))
      → count_names ((name, part_of_class class) ∷ rest) ≡ length class.names + count_names rest
  one_more name class rest = sum_by-cons (λ (entry : ℕ × ClassPart). length entry.1.names) (name, part_of_class class) rest

  over_is : (more name : ℕ) (part : Lasting) (class : ClassBody) (superclass : Option ℕ) → Stays name part setting world
      → class_in part ≡ Some class → class.superclass ≡ superclass
      → count_names (classes_counted (fixed_by setting world) (suc more) name)
      ≡ length class.names + count_names (classes_over superclass (classes_counted (fixed_by setting world) more))
  over_is more name part class superclass there is over =
      let above : ℕ → List (ℕ × ClassPart) = classes_counted (fixed_by setting world) more in
      ap count_names (classes_are more name part (Some class) there is)
      ∙ (one_more name class (classes_over class.superclass above)
      ∙ ap (λ (held : Option ℕ). length class.names + count_names (classes_over held above)) over)

  counted_is : (limit name count : ℕ) → Counted setting world limit name count
      → count ≡ count_names (classes_counted (fixed_by setting world) limit name)
  counted_is _ _ _ (none_left name count same) = sym same
  counted_is _ _ _ (no_class more name count part there none same) =
      sym (ap count_names (classes_are more name part None there none) ∙ same)
  counted_is _ _ _ (last more name count part class there is top same) =
      let all = over_is more name part class None there is top in
      let none : count_names (classes_over None (classes_counted (fixed_by setting world) more)) ≡ 0 = refl in
      omega (arith, all, none, same)
  counted_is _ _ _ (above more name count part class superclass rest there is over counted same) =
      let all = over_is more name part class (Some superclass) there is over in
      let higher = counted_is more superclass rest counted in
      omega (arith, all, higher, same)

-- ---- it is there, where all is sound

known_there : (found : Option Contents) → holds_of is_there (option_map fixed_of found) ≡ true → is_some found ≡ true
known_there None known = absurd (false≢true known)
known_there (Some object) known = refl

-- that so many are named
record Counts (setting : Setting) (world : World) (limit name : ℕ) : Type 0 where
  count : ℕ
  counted : Counted setting world limit name count

module _ (seen : Seen) (sound : IsSoundState seen) where
  over_known : (name superclass : ℕ) (object : Contents) (class : ClassBody) → object_at name seen ≡ Some object
      → class_of object.body ≡ Some class → class.superclass ≡ Some superclass → IsThere superclass seen
  over_known name superclass object class there is over =
      let parts : Parts = parts_seen seen in
      let above : ℕ → List ℕ = line_within parts (suc zero) in
      let all : List ℕ → Bool = list_all (is_known parts) in
      let own : is_known parts name ≡ true = ap (λ (found : Option Contents). holds_of is_there (option_map fixed_of found)) there in
      let line : all (line_of_part (parts name) above) ≡ true = (and_parts (is_known parts name)
      (all (line_of_part (parts name) above)) (line_known seen.setting seen.world sound (suc (suc zero)) name own)).1 in
      let part : class_part object.body ≡ Some (part_of_class class) =
      part_by_class object.body ∙ ap (option_map part_of_class) is in
      let higher : all (above superclass) ≡ true =
      ap (λ (held : Option ℕ). all (line_above held above)) (sym over)
      ∙ (ap (λ (one : Option ClassPart). all (line_of_class one above)) (sym part)
      ∙ (ap (λ (found : Option Contents). all (line_of_part (option_map fixed_of found) above)) (sym there) ∙ line)) in
      known_there (object_at superclass seen) (and_parts (is_known parts superclass) _ higher).0

  module _ (more name : ℕ) (object : Contents) (there : object_at name seen ≡ Some object)
      (higher : (superclass : ℕ) → IsThere superclass seen → Counts seen.setting seen.world more superclass) where
    stays : Stays name (lasting_of object) seen.setting seen.world
    stays = ap (option_map lasting_of) there

    counts_over : (class : ClassBody) → class_of object.body ≡ Some class → (over : Option ℕ) → class.superclass ≡ over
        → Counts seen.setting seen.world (suc more) name
    counts_over class is None top = record {
      count = length class.names;
      counted = last more name (length class.names) (lasting_of object) class stays (class_lasts object.body ∙ is) top refl;
    }
    counts_over class is (Some superclass) over =
        let rest : Counts seen.setting seen.world more superclass =
        higher superclass (over_known name superclass object class there is over) in
        record {
          count = length class.names + rest.count;
          counted = above more name (length class.names + rest.count) (lasting_of object) class superclass rest.count stays
              (class_lasts object.body ∙ is) over rest.counted refl;
        }

    counts_class : (class : Option ClassBody) → class_of object.body ≡ class → Counts seen.setting seen.world (suc more) name
    counts_class None none = record {
      count = 0;
      counted = no_class more name 0 (lasting_of object) stays (class_lasts object.body ∙ none) refl;
    }
    counts_class (Some class) is = counts_over class is class.superclass refl

  counts_at : (more name : ℕ) (found : Option Contents) → object_at name seen ≡ found → is_some found ≡ true
      → ((superclass : ℕ) → IsThere superclass seen → Counts seen.setting seen.world more superclass)
      → Counts seen.setting seen.world (suc more) name
  counts_at more name None shown there higher = absurd (false≢true there)
  counts_at more name (Some object) shown there higher =
      counts_class more name object shown higher (class_of object.body) refl

  counts : (limit name : ℕ) → IsThere name seen → Counts seen.setting seen.world limit name
  counts zero name there = record { count = 0; counted = none_left name 0 refl }
  counts (suc more) name there = counts_at more name (object_at name seen) refl there (counts more)

  -- whatever is counted is what the classes tell
  all_named : (class count limit : ℕ) → chain_limit ≡ limit → Counted seen.setting seen.world limit class count
      → count ≡ count_names (classes_up (parts_seen seen) limit class)
  unfolding classes_up
  all_named class count limit is counted = counted_is seen.setting seen.world limit class count counted

  pub count_given : (class named : ℕ) → IsThere class seen → IsCounted seen (record { class = class; named = named })
      → AlwaysGives (named_slots class) named seen
  count_given class named there counted budget = does_named (with_budget budget seen) sound class named there
      (all_named class named chain_limit refl counted)

  -- what was told is remembered
  pub count_told : (class named : ℕ) → IsThere class seen → named ≡ count_names (classes_up (parts_seen seen) (2 ^ 48) class)
      → IsCounted seen (record { class = class; named = named })
  count_told class named there is =
      let found : Counts seen.setting seen.world chain_limit class = counts chain_limit class there in
      let same : found.count ≡ named = all_named class found.count chain_limit refl found.counted ∙ sym is in
      subst (λ (count : ℕ). Counted seen.setting seen.world chain_limit class count) same found.counted
