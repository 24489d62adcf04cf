-- The image that a commit makes is sound, and can be stored.
use Rattle.std.proofs.Common.{◌≡◌, ◌∙◌, inl, inr, refl, sym, ap, subst, ℕ, ◌<◌, ◌≤◌, ◌^◌, true, List, [], ◌∷◌, Option, Some, None, is_some, option_map, arith}
use Rattle.std.specs.List.{All, AllByRecursion, list_all}
use Rattle.std.specs.FinMap.{get}
use Rattle.std.proofs.Math.Path.{fun_ext}
use Rattle.std.proofs.lemmas.Bool.{false≢true, and_from}
use Rattle.std.proofs.lemmas.List.Elements.{All-from_recursion}
use Rattle.commit_check.specs.gem_object.Spelling.{IsSpelledBody, IsSpelled}
use Rattle.commit_check.specs.gem_object.declared.body.Body.{Body}
use Rattle.commit_check.specs.gem_object.declared.object.Object.{Object}
use Rattle.gem_update.specs.Spelling.{IsStorableUpdate, entries_of}
use Rattle.gem_update.specs.Update.{merged}
use Rattle.gem_update.specs.declared.update.Update.{Update}
use Rattle.commit_check.specs.gem_image.Image.{Image, IsImage, Contents, contents_of, objects_in}
use Rattle.gem_meaning.specs.gem_sound.Kernel.{kernel_body}
use Rattle.gem_meaning.specs.gem_sound.Sound.{IsSoundFor, names_in}
use Rattle.commit_check.specs.gem_world.World.{Setting, World, untouched, name_of, shown}
use Rattle.commit_check.specs.gem_record.declared.record.Entry.{Entry}
use Rattle.gem_meaning.specs.object_programs.Fixed.{Fixed, fixed_of, fixed_by}
use Rattle.gem_meaning.specs.object_programs.Guard.{holds_of, is_there, is_user, is_known, fits}
use Rattle.gem_meaning.specs.object_programs.Laws.{begun_at, KeepsParts, AreSound}
use Rattle.gem_meaning.proofs.object_programs_lemmas.Admits.{shown_first}
use Rattle.gem_meaning.proofs.object_programs_lemmas.Guards.{fits_more, known_more}
use Rattle.gem_meaning.proofs.object_programs_lemmas.Rules.{fits_here, keeps_spelling, sound_for}
use Rattle.gem_meaning.proofs.object_programs_lemmas.Spells.{tells_spelled}
use Rattle.gem_meaning.proofs.object_programs_lemmas.Worlds.{changed_shown}
use Rattle.commit_soundness.proofs.Lists.{all_weaker}
use Rattle.commit_soundness.proofs.Likes.{likes_fit}
use Rattle.commit_soundness.proofs.Seen.{mapped_some}
use Rattle.commit_soundness.proofs.Effects.{IsMergedHere}
use Rattle.commit_soundness.proofs.Images.{Ran, image, at_place, first, known, which, old, old_placed, new_is, new_like, Agrees, agrees, place_agrees, IsWelcome, welcome_under, all_agree}
use Rattle.commit_soundness.proofs.Lines.{fits_among}

-- a merged object's pairs or items can be counted
abbrev pub IsCounted : Object → Type 0
IsCounted object = entries_of object.body < 2 ^ 32

known_is : (found : Option Fixed) → holds_of is_there found ≡ is_some found
known_is None = refl
known_is (Some fixed) = refl

module _ (entry : Entry) (setting : Setting) (world : World) (number : ℕ)
    (ran : Ran entry setting world IsCounted)
    (spelled : (view place after : Body) (updates : List Update) → IsSpelledBody place
    → All IsStorableUpdate updates → merged view place updates ≡ Some after
    → entries_of after < 2 ^ 32 → IsSpelledBody after) where
  abbrev result : Image
  result = image entry setting world number IsCounted ran

  abbrev start : World
  start = first entry setting world number IsCounted ran

  abbrev placed_setting : Setting
  placed_setting = at_place entry setting world number IsCounted ran

  -- ---- objects fit among all that is seen

  place_shown : (name : ℕ) → objects_in setting.place name ≡ shown name placed_setting start
  place_shown = shown_first setting.place setting.user setting.serial setting.first

  place_keeps : KeepsParts (fixed_by placed_setting start) (fixed_by setting world)
  place_keeps name fixed is = by (objects_in setting.place name) refl (ap (option_map fixed_of) (place_shown name) ∙ is)
    where
      by : (found : Option Contents) → objects_in setting.place name ≡ found → option_map fixed_of found ≡ Some fixed
          → fixed_by setting world name ≡ Some fixed
      by None here given = absurd (false≢true (ap is_some given))
      by (Some object) here given = known entry setting world number IsCounted ran name object here ∙ given

  placed_fits : (name : ℕ) (object : Contents) → objects_in setting.place name ≡ Some object
      → fits (fixed_by setting world) name object ≡ true
  placed_fits name object here = fits_more (fixed_by placed_setting start) (fixed_by setting world) place_keeps name
      object (ran.placed.each name object (sym (place_shown name) ∙ here))

  placed_spelled : (name : ℕ) (object : Contents) → objects_in setting.place name ≡ Some object
      → IsSpelledBody object.body
  placed_spelled name object here = (keeps_spelling (objects_in setting.place) placed_setting start place_shown name
      object here (fits_here (objects_in setting.place) placed_setting start place_shown name object ran.placed here)
      ran.placed).body

  agreed_known : (name : ℕ) → Agrees entry setting world number IsCounted ran name
      → is_known (fixed_by setting world) name ≡ true
  agreed_known name agree = known_is (fixed_by setting world name)
      ∙ (ap is_some (sym agree.same) ∙ (mapped_some fixed_of (objects_in result name) ∙ agree.there))

  agreed_all : (names : List ℕ) → AllByRecursion (Agrees entry setting world number IsCounted ran) names
      → list_all (is_known (fixed_by setting world)) names ≡ true
  agreed_all [] all = refl
  agreed_all (name ∷ names) all = and_from (is_known (fixed_by setting world) name)
      (list_all (is_known (fixed_by setting world)) names) (agreed_known name all.0) (agreed_all names all.1)

  module _ (name : ℕ) (object : Contents)
      (merge : IsMergedHere entry setting world setting.place IsCounted name object) where
    abbrev before : Contents
    before = old entry setting world number IsCounted ran name object merge

    merged_spelled : IsSpelledBody merge.merged.body
    merged_spelled = spelled merge.merged.view.body before.body merge.merged.body merge.merged.updates
        (placed_spelled name before (old_placed entry setting world number IsCounted ran name object merge))
        (All-from_recursion IsStorableUpdate merge.merged.updates
        (all_weaker (IsWelcome entry setting world number IsCounted ran) IsStorableUpdate (λ update both. both.1)
        merge.merged.updates
        (welcome_under entry setting world number IsCounted ran name merge.merged.updates merge.merged.updated)))
        merge.merged.merges (subst (λ (some : Object). entries_of some.body < 2 ^ 32) merge.merged.is merge.fit)

    merged_fits : objects_in result name ≡ Some object → fits (fixed_by setting world) name object ≡ true
    merged_fits here =
        let is = new_is entry setting world number IsCounted ran name object merge in
        subst (λ some. fits (fixed_by setting world) name some ≡ true) is
        (likes_fit (fixed_by setting world) name before merge.merged.body
        (new_like entry setting world number IsCounted ran name object merge)
        (placed_fits name before (old_placed entry setting world number IsCounted ran name object merge))
        (subst (λ some. list_all (is_known (fixed_by setting world)) (names_in some) ≡ true) (sym is)
        (agreed_all (names_in object) (all_agree entry setting world number IsCounted ran name object here)))
        ((tells_spelled merge.merged.body).from merged_spelled))

  seen_fits : (name : ℕ) (object : Contents) → objects_in result name ≡ Some object
      → fits (fixed_by setting world) name object ≡ true
  seen_fits name object here = elim (which entry setting world number IsCounted ran name object here) [
    | inl before ↦ placed_fits name object before
    | inr (inl put) ↦ ran.sound.each name object (changed_shown setting name object world put.seen)
    | inr (inr merge) ↦ merged_fits name object merge here
  ]

  -- ---- and so among those of the image

  image_fits : (name : ℕ) (object : Contents) → objects_in result name ≡ Some object
      → fits (λ other. option_map fixed_of (objects_in result other)) name object ≡ true
  image_fits name object here = fits_among (fixed_by setting world) (objects_in result)
      (Agrees entry setting world number IsCounted ran) (λ other agree. agree.same)
      (all_agree entry setting world number IsCounted ran) name object here (seen_fits name object here)

  abbrev pub after : Setting
  after = begun_at result result setting.user setting.serial world.next

  abbrev pub now : World
  now = untouched world.next

  image_shown : (name : ℕ) → objects_in result name ≡ shown name after now
  image_shown = shown_first result setting.user setting.serial world.next

  parts_are : (λ other. option_map fixed_of (objects_in result other)) ≡ fixed_by after now
  parts_are = fun_ext (λ other. ap (option_map fixed_of) (image_shown other))

  seen_some : (name : ℕ) → is_some (objects_in result name) ≡ true → is_some (shown name setting world) ≡ true
  seen_some name some =
      let agree = agrees entry setting world number IsCounted ran name some in
      sym (mapped_some fixed_of (shown name setting world))
      ∙ (ap is_some (sym agree.same) ∙ (mapped_some fixed_of (objects_in result name) ∙ some))

  none_there : (name : ℕ) → shown name setting world ≡ None → objects_in result name ≡ None
  none_there name none = by (objects_in result name) refl
    where
      by : (found : Option Contents) → objects_in result name ≡ found → found ≡ None
      by None at = refl
      by (Some object) at = absurd (false≢true (sym (ap is_some none) ∙ seen_some name (ap is_some at)))

  place_stays : KeepsParts (fixed_by placed_setting start) (fixed_by after now)
  place_stays name fixed is = by (objects_in setting.place name) refl (ap (option_map fixed_of) (place_shown name) ∙ is)
    where
      by : (found : Option Contents) → objects_in setting.place name ≡ found → option_map fixed_of found ≡ Some fixed
          → fixed_by after now name ≡ Some fixed
      by None here given = absurd (false≢true (ap is_some given))
      by (Some object) here given =
          let agree = place_agrees entry setting world number IsCounted ran name (ap is_some here) in
          sym (ap (option_map fixed_of) (image_shown name))
          ∙ (agree.same ∙ (known entry setting world number IsCounted ran name object here ∙ given))

  kernel_there : (name : ℕ) → is_some (kernel_body name) ≡ true → is_some (fixed_by after now name) ≡ true
  kernel_there name needed = by (fixed_by placed_setting start name) refl (ran.placed.kernel name needed)
    where
      by : (found : Option Fixed) → fixed_by placed_setting start name ≡ found → is_some found ≡ true
          → is_some (fixed_by after now name) ≡ true
      by None at some = absurd (false≢true some)
      by (Some fixed) at some = ap is_some (place_stays name fixed at)

  pub image_sound : AreSound after now
  image_sound = record {
    serial_bound = ran.sound.serial_bound;
    some_name = ran.sound.some_name;
    next_bound = ran.sound.next_bound;
    free = λ counter from below. sym (image_shown (name_of setting counter))
        ∙ none_there (name_of setting counter) (ran.sound.free counter from below);
    named = λ name some. ran.sound.named name (seen_some name (ap is_some (image_shown name) ∙ some));
    each = λ name object here.
        let there = image_shown name ∙ here in
        subst (λ parts. fits parts name object ≡ true) parts_are (image_fits name object there);
    kernel = kernel_there;
    user = known_more (fixed_by placed_setting start) (fixed_by after now) place_stays (λ fixed. is_user fixed.kind)
        setting.user ran.placed.user;
  }

  pub image_for : IsSoundFor (objects_in result) setting.user setting.serial world.next
  image_for = sound_for (objects_in result) after now image_shown image_sound

  -- ---- it can be stored

  own_spelled : (name : ℕ) (object : Object) → get result name ≡ Some object → IsSpelled object
  own_spelled name object at =
      let here : objects_in result name ≡ Some (contents_of object) = ap (option_map contents_of) at in
      let has = keeps_spelling (objects_in result) after now image_shown name (contents_of object) here
      (fits_here (objects_in result) after now image_shown name (contents_of object) image_sound here) image_sound in
      record { class_name = has.class_name; segment_name = has.segment_name; body = has.body }

  nothing_above : (name : ℕ) → 2 ^ 48 ≤ name → get result name ≡ None
  nothing_above name above = by (get result name) refl
    where
      by : (found : Option Object) → get result name ≡ found → found ≡ None
      by None at = refl
      by (Some object) at =
          let below = image_sound.named name (sym (ap is_some (image_shown name))
          ∙ ap (λ found. is_some (option_map contents_of found)) at) in
          absurd (omega (arith, above, below))

  pub image_is : IsImage result
  image_is = record { named = nothing_above; spelled = own_spelled }
