-- The image that a commit makes: its objects have the fixed parts that are seen, and they refer to
-- what is in it.
use Rattle.std.proofs.Common.{◌≡◌, ◌∙◌, ◌⊎◌, inl, inr, refl, sym, ap, subst, ℕ, true, List, Option, Some, None, is_some, option_map}
use Rattle.std.specs.List.{All, AllByRecursion, Contains}
use Rattle.std.proofs.lemmas.Bool.{false≢true}
use Rattle.commit_check.specs.gem_object.declared.object.Object.{Object}
use Rattle.gem_update.specs.References.{values_in_update, names_in_update}
use Rattle.gem_update.specs.Spelling.{IsStorableUpdate}
use Rattle.gem_update.specs.declared.update.Update.{Update}
use Rattle.commit_check.specs.gem_image.Image.{Image, Contents, contents_of, objects_in}
use Rattle.gem_meaning.specs.gem_sound.Sound.{names_in}
use Rattle.commit_check.specs.gem_world.World.{Setting, World, untouched}
use Rattle.commit_check.specs.gem_world.Changes.{with_body}
use Rattle.commit_check.specs.gem_record.Names.{under}
use Rattle.commit_check.specs.gem_record.declared.record.Entry.{Entry}
use Rattle.commit_check.specs.Conflicts.{merged_objects}
use Rattle.commit_check.specs.Table.{IsMerged}
use Rattle.gem_meaning.specs.object_programs.Fixed.{fixed_of, fixed_by}
use Rattle.gem_meaning.specs.object_programs.Laws.{begun_at, Stays, KeepsParts, IsInReach, AreSound}
use Rattle.gem_meaning.proofs.object_programs_lemmas.Admits.{shown_first}
use Rattle.gem_meaning.proofs.object_programs_lemmas.Worlds.{changed_shown}
use Rattle.commit_soundness.proofs.Lists.{all_weaker, all_two}
use Rattle.commit_soundness.proofs.Values.{Brought, IsLike, merge_like, merge_keeps}
use Rattle.commit_soundness.proofs.References.{Refers, names_each, body_each, body_all}
use Rattle.commit_soundness.proofs.Likes.{likes_shared, likes_fixed}
use Rattle.commit_soundness.proofs.Seen.{IsSeen, refers_to_seen}
use Rattle.commit_soundness.proofs.Bases.{placed_known, seen_from}
use Rattle.commit_soundness.proofs.Updates.{IsBrought, Brings}
use Rattle.commit_soundness.proofs.Records.{done, under_each, made_found, updates_each, Leads, updates_lead}
use Rattle.commit_soundness.proofs.Effects.{IsPut, IsMergedHere, stands_which, made, stands_still, kept_stands}

-- What is known of a run, and of the merges of its commit.
pub record Ran (entry : Entry) (setting : Setting) (world : World) (fits : Object → Type 0) : Type 0 where
  pub stays : Stays setting.view setting.place
  pub placed : AreSound (begun_at setting.place setting.place setting.user setting.serial setting.first)
      (untouched setting.first)
  pub sound : AreSound setting world
  pub keeps : KeepsParts (fixed_by setting (untouched setting.first)) (fixed_by setting world)
  pub reach : IsInReach setting world
  pub brings : Brings setting world
  pub merged : (name : ℕ) (object : Object)
      → Contains (merged_objects setting.place (done entry setting world)) (name, object)
      → IsMerged setting.place (done entry setting world) name object
  pub fit : All (λ e. fits e.1) (merged_objects setting.place (done entry setting world))

module _ (entry : Entry) (setting : Setting) (world : World) (number : ℕ) (fits : Object → Type 0)
    (ran : Ran entry setting world fits) where
  abbrev pub place : Image
  place = setting.place

  -- the image that the commit makes
  abbrev pub image : Image
  image = made entry setting world place number

  -- the setting of the place alone
  abbrev pub at_place : Setting
  at_place = begun_at place place setting.user setting.serial setting.first

  abbrev pub first : World
  first = untouched setting.first

  pub known : (name : ℕ) (object : Contents) → objects_in place name ≡ Some object
      → fixed_by setting world name ≡ Some (fixed_of object)
  known = placed_known setting world ran.stays ran.keeps

  -- what stands in the image, by where it comes from
  pub which : (name : ℕ) (object : Contents) → objects_in image name ≡ Some object
      → (objects_in place name ≡ Some object)
      ⊎ (IsPut entry setting world name object ⊎ IsMergedHere entry setting world place fits name object)
  which = stands_which entry setting world place fits number ran.merged ran.fit

  -- ---- merged objects

  module _ (name : ℕ) (object : Contents) (merge : IsMergedHere entry setting world place fits name object) where
    -- the object at the place
    abbrev pub old : Contents
    old = contents_of merge.merged.place

    pub old_placed : objects_in place name ≡ Some old
    old_placed = ap (option_map contents_of) merge.merged.at_place

    pub new_is : with_body merge.merged.body old ≡ object
    new_is = sym (ap contents_of merge.merged.is) ∙ merge.is

    pub new_like : IsLike old.body merge.merged.body
    new_like = merge_like merge.merged.view.body old.body merge.merged.body merge.merged.updates merge.merged.merges

    merged_part : fixed_of object ≡ fixed_of old
    merged_part = sym (ap fixed_of new_is) ∙ likes_fixed old merge.merged.body new_like

  -- ---- fixed parts are those that are seen

  pub part_seen : (name : ℕ) (object : Contents) → objects_in image name ≡ Some object
      → fixed_by setting world name ≡ Some (fixed_of object)
  part_seen name object here = elim (which name object here) [
    | inl before ↦ known name object before
    | inr (inl put) ↦ ap (option_map fixed_of) (changed_shown setting name object world put.seen)
    | inr (inr merge) ↦ known name (old name object merge) (old_placed name object merge)
        ∙ ap Some (sym (merged_part name object merge))
  ]

  -- the object of this name is in the image, with the fixed part that is seen
  pub record Agrees (name : ℕ) : Type 0 where
    pub same : option_map fixed_of (objects_in image name) ≡ fixed_by setting world name
    pub there : is_some (objects_in image name) ≡ true

  pub agrees : (name : ℕ) → is_some (objects_in image name) ≡ true → Agrees name
  agrees name some = record { same = by (objects_in image name) refl some; there = some }
    where
      by : (found : Option Contents) → objects_in image name ≡ found → is_some found ≡ true
          → option_map fixed_of (objects_in image name) ≡ fixed_by setting world name
      by None at given = absurd (false≢true given)
      by (Some object) at given = ap (option_map fixed_of) at ∙ sym (part_seen name object at)

  pub place_agrees : (name : ℕ) → is_some (objects_in place name) ≡ true → Agrees name
  place_agrees name there = agrees name (stands_still entry setting world place number name there)

  -- what is seen is in the image, where made objects lead to kept ones
  seen_agrees : (name : ℕ) → IsSeen setting world name → Leads entry setting world name → Agrees name
  seen_agrees name seen leads = elim (seen_from setting world ran.reach name seen) [
    | inl there ↦ place_agrees name there
    | inr own ↦ agrees name (kept_stands entry setting world place number name
        (leads (made_found entry setting world name own)))
  ]

  both_agree : (names : List ℕ) → AllByRecursion (IsSeen setting world) names
      → AllByRecursion (Leads entry setting world) names → AllByRecursion Agrees names
  both_agree names seen leads = all_weaker (λ name. IsSeen setting world name × Leads entry setting world name) Agrees
      (λ name both. seen_agrees name both.0 both.1) names
      (all_two (IsSeen setting world) (Leads entry setting world) names seen leads)

  -- ---- what is referred to is in the image

  pub placed_agree : (name : ℕ) (object : Contents) → objects_in place name ≡ Some object
      → AllByRecursion Agrees (names_in object)
  placed_agree name object here = all_weaker (IsSeen at_place first) Agrees
      (λ other seen. place_agrees other
      (ap is_some (shown_first place setting.user setting.serial setting.first other) ∙ seen))
      (names_in object) (refers_to_seen at_place first ran.placed name object
      (sym (shown_first place setting.user setting.serial setting.first name) ∙ here))

  -- an update brings names of objects in the image, and can be stored
  abbrev pub IsWelcome : Update → Type 0
  IsWelcome update = AllByRecursion Agrees (names_in_update update) × IsStorableUpdate update

  welcome : AllByRecursion (λ e. AllByRecursion IsWelcome e.1) (done entry setting world).updates
  welcome = all_weaker
      (λ e. AllByRecursion (λ update. IsBrought setting world (0, update)) e.1
      × AllByRecursion (λ update. AllByRecursion (Leads entry setting world) (names_in_update update)) e.1)
      (λ e. AllByRecursion IsWelcome e.1)
      (λ e both. all_weaker
      (λ update. IsBrought setting world (0, update)
      × AllByRecursion (Leads entry setting world) (names_in_update update))
      IsWelcome (λ update here. (both_agree (names_in_update update) here.0.0 here.1, here.0.1)) e.1
      (all_two (λ update. IsBrought setting world (0, update))
      (λ update. AllByRecursion (Leads entry setting world) (names_in_update update)) e.1 both.0 both.1))
      (done entry setting world).updates
      (all_two (λ e. AllByRecursion (λ update. IsBrought setting world (0, update)) e.1)
      (λ e. AllByRecursion (λ update. AllByRecursion (Leads entry setting world) (names_in_update update)) e.1)
      (done entry setting world).updates
      (updates_each entry setting world (λ update. IsBrought setting world (0, update)) ran.brings)
      (updates_lead entry setting world))

  pub welcome_under : (name : ℕ) (updates : List Update) → under name (done entry setting world).updates ≡ Some updates
      → AllByRecursion IsWelcome updates
  welcome_under name updates is =
      under_each (AllByRecursion IsWelcome) name (done entry setting world).updates updates welcome is

  module _ (name : ℕ) (object : Contents) (merge : IsMergedHere entry setting world place fits name object) where
    updates_agree : AllByRecursion (Brought (Refers Agrees)) merge.merged.updates
    updates_agree = all_weaker IsWelcome (Brought (Refers Agrees))
        (λ update here. names_each Agrees (values_in_update update) here.0) merge.merged.updates
        (welcome_under name merge.merged.updates merge.merged.updated)

    merged_agree : AllByRecursion Agrees (names_in object)
    merged_agree =
        let before = old name object merge in
        let refers = placed_agree name before (old_placed name object merge) in
        let after = merge_keeps (Refers Agrees) merge.merged.view.body before.body merge.merged.body
        merge.merged.updates merge.merged.merges (body_each Agrees before.body refers.1.1) updates_agree in
        subst (λ some. AllByRecursion Agrees (names_in some)) (new_is name object merge)
        (refers.0, (refers.1.0, body_all Agrees merge.merged.body (likes_shared after.0).1 after.1))

  -- an object of the image refers to objects of the image
  pub all_agree : (name : ℕ) (object : Contents) → objects_in image name ≡ Some object
      → AllByRecursion Agrees (names_in object)
  all_agree name object here = elim (which name object here) [
    | inl before ↦ placed_agree name object before
    | inr (inl put) ↦ both_agree (names_in object)
        (refers_to_seen setting world ran.sound name object (changed_shown setting name object world put.seen))
        put.leads
    | inr (inr merge) ↦ merged_agree name object merge
  ]
