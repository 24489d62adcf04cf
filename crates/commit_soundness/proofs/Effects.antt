-- What a commit changes, and what stands in the image that it makes.
use Rattle.std.proofs.Common.{◌≡◌, ◌∙◌, ◌⊎◌, inl, inr, refl, sym, ap, subst, ℕ, true, ◌++◌, map, Option, Some, None, is_some, option_map}
use Rattle.std.specs.List.{All, AllByRecursion, Contains}
use Rattle.std.specs.Ordering.{nat_cmp}
use Rattle.std.specs.FinMap.{find, get}
use Rattle.std.proofs.lemmas.Bool.{false≢true}
use Rattle.std.proofs.lemmas.List.Elements.{recursion_from_All, All-contains, All-contains_itself, All-weaker}
use Rattle.std.proofs.lemmas.Option.{same_Some}
use Rattle.commit_check.specs.gem_object.declared.object.Object.{Object}
use Rattle.commit_check.specs.gem_image.Image.{Image, Contents, contents_of, objects_in, with_objects}
use Rattle.gem_meaning.specs.gem_sound.Sound.{names_in}
use Rattle.commit_check.specs.gem_world.World.{Setting, World}
use Rattle.commit_check.specs.gem_record.declared.record.Entry.{Entry}
use Rattle.gem_meaning.specs.kept_set.Kept.{IsKept}
use Rattle.commit_check.specs.Conflicts.{merged_objects}
use Rattle.commit_check.specs.Table.{IsMerged}
use Rattle.gem_meaning.specs.Effect.{changed_objects, stamped, effect_at}
use Rattle.commit_soundness.proofs.Lists.{all_weaker, all_both, all_mapped, all_two}
use Rattle.commit_soundness.proofs.Entries.{found_left, found_right, found_mapped, named_all, named_found, put_which, put_stays, put_there}
use Rattle.commit_soundness.proofs.Records.{done, Stands, written_is, roots, kept, Leads, written_lead, kept_is, kept_found}
use Rattle.commit_soundness.proofs.Seen.{mapped_some}
use Rattle.commit_check.specs.gem_object.References.{references_of}
use Rattle.commit_check.specs.gem_world.Changes.{was_written}
use Rattle.commit_check.specs.gem_world.World.{is_made}

module _ (entry : Entry) (setting : Setting) (world : World) where
  -- An object that was written, or a made one that is kept: it stands as it is seen, and all to which
  -- it refers leads to kept objects.
  pub record IsPut (name : ℕ) (object : Contents) : Type 0 where
    pub seen : get world.changes name ≡ Some object
    pub leads : AllByRecursion (Leads entry setting world) (names_in object)

  module _ (place : Image) where
    -- An updated object, as its merge leaves it.
    pub record IsMergedHere (fits : Object → Type 0) (name : ℕ) (object : Contents) : Type 0 where
      pub stored : Object
      pub merged : IsMerged place (done entry setting world) name stored
      pub is : contents_of stored ≡ object
      pub fit : fits stored

    -- a changed object is one of these
    abbrev pub IsChanged : (Object → Type 0) → ℕ → Contents → Type 0
    IsChanged fits name object = IsPut name object ⊎ IsMergedHere fits name object

    module _ (fits : Object → Type 0) (number : ℕ) where
      abbrev Changed : ℕ × Object → Type 0
      Changed e = IsChanged fits e.0 (contents_of e.1)

      written_changed : AllByRecursion Changed (done entry setting world).written
      written_changed = all_weaker
          (λ e. (Stands entry setting world e × (was_written setting world (e.0, contents_of e.1) ≡ true))
          × AllByRecursion (Leads entry setting world) (references_of e.1))
          Changed (λ e here. inl record { seen = here.0.0; leads = here.1 }) (done entry setting world).written
          (all_two (λ e. Stands entry setting world e × (was_written setting world (e.0, contents_of e.1) ≡ true))
          (λ e. AllByRecursion (Leads entry setting world) (references_of e.1)) (done entry setting world).written
          (written_is entry setting world) (written_lead entry setting world))

      kept_changed : AllByRecursion Changed (kept entry setting world)
      kept_changed = all_weaker
          (λ e. Stands entry setting world e × (is_made e.0 setting world ≡ true)
          × AllByRecursion (Leads entry setting world) (references_of e.1))
          Changed (λ e here. inl record { seen = here.0; leads = here.2 }) (kept entry setting world)
          (kept_is entry setting world)

      -- what the law of merges says of the list
      module _ (merged : (name : ℕ) (object : Object)
          → Contains (merged_objects place (done entry setting world)) (name, object)
          → IsMerged place (done entry setting world) name object)
          (fit : All (λ e. fits e.1) (merged_objects place (done entry setting world))) where
        merged_changed : AllByRecursion Changed (merged_objects place (done entry setting world))
        merged_changed = recursion_from_All Changed (merged_objects place (done entry setting world))
            (All-weaker (Contains (merged_objects place (done entry setting world))) Changed
            (λ e among. inr record {
              stored = e.1;
              merged = merged e.0 e.1 among;
              is = refl;
              fit = All-contains (λ some. fits some.1) (merged_objects place (done entry setting world)) e fit among;
            }) (merged_objects place (done entry setting world))
            (All-contains_itself (merged_objects place (done entry setting world))))

        changed_is : AllByRecursion Changed (changed_objects place (done entry setting world))
        changed_is = all_both Changed (done entry setting world).written
            (kept entry setting world ++ merged_objects place (done entry setting world)) written_changed
            (all_both Changed (kept entry setting world) (merged_objects place (done entry setting world))
            kept_changed merged_changed)

        -- each object of the effect is a changed one, with the number
        pub effect_is : AllByRecursion (λ e. (e.1.changed ≡ number) × Changed e)
            (effect_at place number (done entry setting world))
        unfolding effect_at
        effect_is = named_all (λ e. (e.1.changed ≡ number) × Changed e)
            (map (stamped number) (changed_objects place (done entry setting world)))
            (all_mapped (λ e. (e.1.changed ≡ number) × Changed e) (stamped number)
            (changed_objects place (done entry setting world))
            (all_weaker Changed (λ e. (number ≡ number) × Changed e) (λ e here. (refl, here))
            (changed_objects place (done entry setting world)) changed_is))

        -- what stands in the image that the commit makes stood there before, or is a changed object
        pub stands_which : (name : ℕ) (object : Contents)
            → objects_in (with_objects place (effect_at place number (done entry setting world))) name ≡ Some object
            → (objects_in place name ≡ Some object) ⊎ IsChanged fits name object
        stands_which name object here =
            by (get (with_objects place (effect_at place number (done entry setting world))) name) refl here
          where
            found : (own : Object)
                → get (with_objects place (effect_at place number (done entry setting world))) name ≡ Some own
                → (objects_in place name ≡ Some (contents_of own)) ⊎ IsChanged fits name (contents_of own)
            found own at = elim (put_which (λ e. (e.1.changed ≡ number) × Changed e) place
                (effect_at place number (done entry setting world)) name own effect_is at) [
                  | inl before ↦ inl (ap (option_map contents_of) before)
                  | inr new ↦ inr new.1
                ]

            by : (there : Option Object)
                → get (with_objects place (effect_at place number (done entry setting world))) name ≡ there
                → option_map contents_of there ≡ Some object
                → (objects_in place name ≡ Some object) ⊎ IsChanged fits name object
            by None at given = absurd (false≢true (ap is_some given))
            by (Some own) at given =
                subst (λ some. (objects_in place name ≡ Some some) ⊎ IsChanged fits name some)
                (same_Some (contents_of own) object given) (found own at)

    module _ (number : ℕ) where
      -- the image that the commit makes
      abbrev pub made : Image
      made = with_objects place (effect_at place number (done entry setting world))

      -- an object that was there is there
      pub stands_still : (name : ℕ) → is_some (objects_in place name) ≡ true → is_some (objects_in made name) ≡ true
      stands_still name there = mapped_some contents_of (get made name)
          ∙ put_stays place (effect_at place number (done entry setting world)) name
          (sym (mapped_some contents_of (get place name)) ∙ there)

      listed : (name : ℕ) → is_some (find nat_cmp name (kept entry setting world)) ≡ true
          → is_some (find nat_cmp name (effect_at place number (done entry setting world))) ≡ true
      unfolding effect_at
      listed name some =
          let all = changed_objects place (done entry setting world) in
          let with_number : ℕ × Object → Object = λ e. record e.1 { changed = number } in
          ap is_some (named_found (map (stamped number) all) name)
          ∙ found_mapped with_number name all
          (found_right name (done entry setting world).written
          (kept entry setting world ++ merged_objects place (done entry setting world))
          (found_left name (kept entry setting world) (merged_objects place (done entry setting world)) some))

      -- a kept object is there
      pub kept_stands : (name : ℕ) → IsKept (roots entry setting world) (done entry setting world).made name
          → is_some (objects_in made name) ≡ true
      kept_stands name is = mapped_some contents_of (get made name)
          ∙ put_there place (effect_at place number (done entry setting world)) name
          (listed name (kept_found entry setting world name is))
