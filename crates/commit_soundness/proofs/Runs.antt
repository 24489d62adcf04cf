-- What is known of a run and of what it left over the place; and the names and numbers of its effect.
use Rattle.std.proofs.Common.{◌≡◌, ◌↔◌, ◌∙◌, inl, inr, sym, ap, ℕ, ◌-◌, ◌*◌, ◌^◌, true, nat_le, nat_lt, None, is_some, option_map, arith}
use Rattle.std.specs.List.{All, Contains}
use Rattle.std.specs.FinMap.{get}
use Rattle.std.proofs.lemmas.Bool.{false≢true, and_parts, leb-true, ltb-true}
use Rattle.std.proofs.lemmas.List.Elements.{All-from_recursion, All-contains}
use Rattle.std.proofs.lemmas.Option.{none-some}
use Rattle.commit_check.specs.gem_object.declared.object.Object.{Object}
use Rattle.commit_check.specs.gem_image.Image.{Image, contents_of, objects_in}
use Rattle.commit_check.specs.gem_world.World.{Setting, World, untouched, name_of, is_drawn, is_made}
use Rattle.commit_check.specs.gem_record.declared.record.TxnRecord.{TxnRecord}
use Rattle.commit_check.specs.Conflicts.{merged_objects}
use Rattle.commit_check.specs.Table.{IsMerged}
use Rattle.gem_meaning.specs.object_programs.Fixed.{fixed_by}
use Rattle.gem_meaning.specs.object_programs.Laws.{Stays, KeepsParts, IsInReach, AreSound, begun_at}
use Rattle.gem_meaning.proofs.object_programs_lemmas.Admits.{admits_image}
use Rattle.gem_meaning.proofs.object_programs_lemmas.AtPlace.{sound_at}
use Rattle.gem_meaning.proofs.object_programs_lemmas.Objects.{StaysFixed, StaysSound, parts_stay, soundness_stays}
use Rattle.gem_meaning.proofs.object_programs_lemmas.Reach.{StaysInReach, reach_stays}
use Rattle.gem_meaning.proofs.gem_language_lemmas.Lists.{listed}
use Rattle.commit_soundness.specs.Placing.{Placing, setting_of, run_setting, left_by, record_placed, effect_placed, image_made, CanRun, IsDrawnIn}
use Rattle.commit_soundness.proofs.Bases.{changed_from, begun_in_reach, stays_through}
use Rattle.commit_soundness.proofs.Updates.{Brings, brought}
use Rattle.commit_soundness.proofs.Moved.{moved_keeps, moved_sound, moved_reach, moved_brings}
use Rattle.commit_soundness.proofs.Effects.{IsChanged, effect_is}
use Rattle.commit_soundness.proofs.Images.{Ran, known, place_agrees}

-- what the law of merges says
abbrev pub MergesAre : Type 0
MergesAre = (image : Image) (transaction : TxnRecord) (name : ℕ) (object : Object)
    → Contains (merged_objects image transaction) (name, object) ↔ IsMerged image transaction name object

abbrev Anything : Object → Type 0
Anything object = Unit {0}

-- ---- what is known of the run, and of what it left over the place

module _ (p : Placing) where
  abbrev at : Setting
  at = setting_of p

  abbrev run_at : Setting
  run_at = run_setting p

  abbrev begun : World
  begun = untouched p.first

  module _ (can : CanRun p) where
    placed_sound : AreSound (begun_at p.place p.place p.user p.serial p.first) begun
    placed_sound = admits_image p.place p.user p.serial p.first can.place can.sound

    viewed_sound : AreSound (begun_at p.view p.view p.user p.serial p.first) begun
    viewed_sound = admits_image p.view p.user p.serial p.first can.view can.sound_view

    begun_sound : AreSound run_at begun
    begun_sound = sound_at p.ordinary p.view p.user p.serial p.first can.below
        (admits_image p.ordinary p.user p.serial p.first can.ordinary can.sound_ordinary) viewed_sound

    ran_sound : AreSound run_at (left_by p)
    ran_sound = listed run_at (StaysSound run_at) (soundness_stays run_at) p.commands begun begun_sound

    ran_keeps : KeepsParts (fixed_by run_at begun) (fixed_by run_at (left_by p))
    ran_keeps = (listed run_at (StaysFixed run_at) (parts_stay run_at) p.commands begun begun_sound.free).1

    ran_reach : IsInReach run_at (left_by p)
    ran_reach = listed run_at (StaysInReach run_at) (reach_stays run_at) p.commands begun (begun_in_reach run_at)

    pub left_sound : AreSound at (left_by p)
    left_sound = moved_sound p.ordinary p.place p.view p.user p.serial p.first (left_by p) can.below can.above
        placed_sound viewed_sound ran_sound ran_keeps ran_reach

    pub reached : IsInReach at (left_by p)
    reached = moved_reach p.ordinary p.place p.view p.user p.serial p.first (left_by p) can.below can.above
        placed_sound viewed_sound ran_sound ran_keeps ran_reach

    left_keeps : KeepsParts (fixed_by at begun) (fixed_by at (left_by p))
    left_keeps = moved_keeps p.ordinary p.place p.view p.user p.serial p.first (left_by p) can.below can.above
        placed_sound viewed_sound ran_sound ran_keeps ran_reach

    left_brings : Brings at (left_by p)
    left_brings = moved_brings p.ordinary p.place p.view p.user p.serial p.first (left_by p) can.below can.above
        placed_sound viewed_sound ran_sound ran_keeps ran_reach (brought run_at p.commands begun begun_sound tt)

-- ---- what its commit makes

module _ (merges : MergesAre) (p : Placing) where
  abbrev found_at : Setting
  found_at = setting_of p

  only_merged : (name : ℕ) (object : Object) → Contains (merged_objects p.place (record_placed p)) (name, object)
      → IsMerged p.place (record_placed p) name object
  only_merged name object = (merges p.place (record_placed p) name object).0

  module _ (can : CanRun p) where
    pub ran_of : (fits : Object → Type 0) → All (λ e. fits e.1) (merged_objects p.place (record_placed p))
        → Ran p.entry found_at (left_by p) fits
    ran_of fits fit = record {
      stays = stays_through p.view p.ordinary p.place can.below can.above;
      placed = placed_sound p can;
      sound = left_sound p can;
      keeps = left_keeps p can;
      reach = reached p can;
      brings = left_brings p can;
      merged = only_merged;
      fit = fit;
    }

    -- objects stay, with their fixed parts
    pub all_stay : Stays p.place (image_made p)
    all_stay name object here =
        let ran = ran_of Anything (λ k d below. tt) in
        (place_agrees p.entry found_at (left_by p) p.number Anything ran name (ap is_some here)).same
        ∙ known p.entry found_at (left_by p) p.number Anything ran name object here

  -- ---- the effect

  abbrev IsOfEffect : ℕ × Object → Type 0
  IsOfEffect e = (e.1.changed ≡ p.number)
      × IsChanged p.entry found_at (left_by p) p.place Anything e.0 (contents_of e.1)

  of_effect : (name : ℕ) (object : Object) → Contains (effect_placed p) (name, object) → IsOfEffect (name, object)
  of_effect name object among = All-contains IsOfEffect (effect_placed p) (name, object)
      (All-from_recursion IsOfEffect (effect_placed p)
      (effect_is p.entry found_at (left_by p) p.place Anything p.number only_merged (λ k d below. tt)))
      among

  pub has_number : (name : ℕ) (object : Object) → Contains (effect_placed p) (name, object)
      → object.changed ≡ p.number
  has_number name object among = (of_effect name object among).0

  made_drawn : (name : ℕ) → is_made name found_at (left_by p) ≡ true → IsDrawnIn p name
  unfolding is_made
  made_drawn name made =
      let drawn = (and_parts (is_drawn name found_at (left_by p)) _ made).0 in
      let both = and_parts (nat_le (name_of found_at p.first) name) (nat_lt name (name_of found_at (left_by p).next)) drawn in
      let from = leb-true (name_of found_at p.first) name both.0 in
      let below = ltb-true name (name_of found_at (left_by p).next) both.1 in
      record {
        counter = name - p.serial * 2 ^ 24;
        from = omega (arith, from);
        before = omega (arith, from, below);
        is = omega (arith, from);
      }

  not_placed : (name : ℕ) → get p.place name ≡ None → is_some (objects_in p.place name) ≡ true → ⊥
  not_placed name none some = false≢true (sym (ap (λ found. is_some (option_map contents_of found)) none) ∙ some)

  pub new_drawn : CanRun p → (name : ℕ) (object : Object) → Contains (effect_placed p) (name, object)
      → get p.place name ≡ None → IsDrawnIn p name
  new_drawn can name object among none = elim ((of_effect name object among).1) [
    | inl put ↦ elim (changed_from found_at (left_by p) (reached p can) name (ap is_some put.seen)) [
      | inl there ↦ absurd (not_placed name none there)
      | inr made ↦ made_drawn name made
    ]
    | inr merge ↦ absurd (none-some merge.merged.place (sym none ∙ merge.merged.at_place))
  ]
