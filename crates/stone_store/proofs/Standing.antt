-- What the files of a store stand for.
use Rattle.std.proofs.Common.{◌≡◌, ◌⊎◌, ℕ, ◌+◌, ◌<◌, ◌≤◌, true, List, [], ◌∷◌, ◌++◌, length, Option, Some, None, is_some, option_map, refl, sym, ap, subst, ◌∙◌, inl, inr, arith}
use Rattle.std.proofs.lemmas.Bool.{cases_lt}
use Rattle.std.proofs.lemmas.List.Elements.{recursion_from_All}
use Rattle.std.proofs.lemmas.List.Sums.{fold-append}
use Rattle.std.specs.List.{AllByRecursion}
use Rattle.std.specs.FinMap.{get}
use Rattle.gem_object.specs.declared.object.Object.{Object}
use Rattle.gem_record.specs.declared.mode.Mode.{Mode}
use Rattle.gem_record.specs.declared.effect.Effect.{Effect}
use Rattle.gem_image.specs.Image.{Image, contents_of, with_objects}
use Rattle.body_codec.specs.Stored.{IsStoredAt, IsStoredEffect}
use Rattle.extent_pages.specs.Extent.{Extent, image_in}
use Rattle.extent_plan.specs.Shared.{KeepsHeld}
use Rattle.page_file.specs.Checkpoint.{IsCheckpoint}
use Rattle.page_file.specs.Opening.{IsUnchanged}
use Rattle.tran_log.specs.declared.logged.Logged.{Logged}
use Rattle.tran_log.specs.Log.{LogRecord, effect_of, spelled, AreRecords, logged_as, logged_from}
use Rattle.tran_log.specs.Reads.{AreRead}
use Rattle.gem_keeper.specs.Found.{found_object, StandsFor}
use Rattle.stone_store.specs.Store.{records_after, misfit, with_records, last_number, root_image, root_number, Held, image_of, number_of, found_in}
use Rattle.stone_store.proofs.Numbers.{InTurn, in_turn, number_grows, IsUpTo, up_to, keeps, drops, last_more}
use Rattle.stone_store.proofs.Images.{AllSettled, found_later, found_earlier, Matches, found_from, matches_of, settled_match, AllChanged, matches_all, put_all, keeps_all, found_up_to}

-- ---- records that were read

-- a record that was read: each object counts as changed by its commit
pub record IsRecord (one : Logged) : Type 0 where
  pub changed : AllChanged one.effect.number one.effect.objects

all_changed : (number : ℕ) (effect : Effect) → IsStoredEffect number effect → AllChanged number effect.objects
all_changed number effect stored = each effect.objects (recursion_from_All (IsStoredAt number) effect.objects stored.each)
  where
    each : (entries : List (ℕ × Object)) → AllByRecursion (IsStoredAt number) entries → AllChanged number entries
    each [] all = tt
    each (entry ∷ entries) all = (all.0.object.changed, each entries all.1)

pub next_is_record : (at number : ℕ) (mode : Mode) (effect : Effect) → IsStoredEffect number effect
    → IsRecord (logged_as at mode effect)
next_is_record at number mode effect stored = record {
  changed = subst (λ (n : ℕ). AllChanged n effect.objects) (sym stored.number_is) (all_changed number effect stored);
}

are_records_from : (at : ℕ) (last : Option ℕ) (records : List LogRecord) → AreRecords last records
    → AllByRecursion IsRecord (logged_from at records)
are_records_from at last [] are = tt
are_records_from at last (one ∷ records) are = (
  record { changed = all_changed (effect_of one).number (effect_of one) are.0.stored },
  are_records_from (at + (1 + length (spelled one))) (Some (effect_of one).number) records are.1,
)

pub are_records : (logged : List Logged) → AreRead logged → AllByRecursion IsRecord logged
are_records logged read =
    subst (AllByRecursion IsRecord) (sym read.logged_is) (are_records_from 0 None read.records read.follow)

-- ---- those behind a root

pub record IsBehind (root : ℕ) (one : Logged) : Type 0 where
  pub after : root < one.effect.number
  pub record_is : IsRecord one

pub all_behind : (root : ℕ) (logged : List Logged) → AllByRecursion IsRecord logged
    → AllByRecursion (IsBehind root) (records_after root logged)
all_behind root [] all = tt
all_behind root (one ∷ logged) all = elim (cases_lt root one.effect.number) [
  | inl after ↦ subst (AllByRecursion (IsBehind root)) (sym (keeps root one logged after))
      (record { after = after; record_is = all.0 }, all_behind root logged all.1)
  | inr before ↦ subst (AllByRecursion (IsBehind root)) (sym (drops root one logged before)) (all_behind root logged all.1)
]

-- none is behind a number where the records after it are none
pub record IsLow (number : ℕ) (one : Logged) : Type 0 where
  pub low : one.effect.number ≤ number

some_none : {G : Type 0} (one : Logged) (more : List Logged) → one ∷ more ≡ [] → G
some_none one more e = absurd cc

all_low : (number : ℕ) (logged : List Logged) → records_after number logged ≡ [] → AllByRecursion (IsLow number) logged
all_low number [] none = tt
all_low number (one ∷ logged) none = elim (cases_lt number one.effect.number) [
  | inl after ↦ some_none one (records_after number logged) (sym (keeps number one logged after) ∙ none)
  | inr before ↦ (record { low = before }, all_low number logged (sym (drops number one logged before) ∙ none))
]

kept_low : (root number : ℕ) (logged : List Logged) → AllByRecursion (IsLow number) logged
    → AllByRecursion (IsLow number) (records_after root logged)
kept_low root number [] all = tt
kept_low root number (one ∷ logged) all = elim (cases_lt root one.effect.number) [
  | inl after ↦ subst (AllByRecursion (IsLow number)) (sym (keeps root one logged after)) (all.0, kept_low root number logged all.1)
  | inr before ↦ subst (AllByRecursion (IsLow number)) (sym (drops root one logged before)) (kept_low root number logged all.1)
]

kept_records : (root : ℕ) (logged : List Logged) → AllByRecursion IsRecord logged → AllByRecursion IsRecord (records_after root logged)
kept_records root [] all = tt
kept_records root (one ∷ logged) all = elim (cases_lt root one.effect.number) [
  | inl after ↦ subst (AllByRecursion IsRecord) (sym (keeps root one logged after)) (all.0, kept_records root logged all.1)
  | inr before ↦ subst (AllByRecursion IsRecord) (sym (drops root one logged before)) (kept_records root logged all.1)
]

-- ---- images with records

-- what stands there stood in the root's image, or a record behind the root changed it
pub put_records : (root : ℕ) (records : List Logged) (image : Image) (name : ℕ) (object : Object)
    → AllByRecursion (IsBehind root) records → get (with_records image records) name ≡ Some object
    → (get image name ≡ Some object) ⊎ (root < object.changed)
put_records root [] image name object all there = inl there
put_records root (one ∷ records) image name object all there =
    elim (put_records root records (with_objects image one.effect.objects) name object all.1 there) [
      | inl here ↦ elim (put_all one.effect.number one.effect.objects image name object all.0.record_is.changed here) [
        | inl was ↦ inl was
        | inr is ↦ inr (subst (λ (n : ℕ). root < n) (sym is) all.0.after)
      ]
      | inr later ↦ inr later
    ]

low_records : (number : ℕ) (records : List Logged) (image : Image) (name : ℕ) (object : Object)
    → AllByRecursion IsRecord records → AllByRecursion (IsLow number) records
    → get (with_records image records) name ≡ Some object → (get image name ≡ Some object) ⊎ (object.changed ≤ number)
low_records number [] image name object are low there = inl there
low_records number (one ∷ records) image name object are low there =
    elim (low_records number records (with_objects image one.effect.objects) name object are.1 low.1 there) [
      | inl here ↦ elim (put_all one.effect.number one.effect.objects image name object are.0.changed here) [
        | inl was ↦ inl was
        | inr is ↦ inr (subst (λ (n : ℕ). n ≤ number) (sym is) low.0.low)
      ]
      | inr later ↦ inr later
    ]

keeps_records : (records : List Logged) (image : Image) (name : ℕ) → is_some (get image name) ≡ true
    → is_some (get (with_records image records) name) ≡ true
keeps_records [] image name some = some
keeps_records (one ∷ records) image name some =
    keeps_records records (with_objects image one.effect.objects) name (keeps_all one.effect.objects image name some)

-- ---- the root's image

-- what a root, a log behind it and their image keep
pub record IsStore (root : Option Extent) (logged : List Logged) : Type 0 where
  pub unchanged : IsUnchanged (root_image root)
  pub turn : InTurn logged
  pub are : AllByRecursion IsRecord logged
  pub fits : misfit (root_number root) logged ≡ None

abbrev pub held_of : Option Extent → List Logged → Held
held_of root logged = record { root = root; records = records_after (root_number root) logged }

module _ (root : Option Extent) (logged : List Logged) (is : IsStore root logged) where
  abbrev held : Held
  held = held_of root logged

  pub all_settled : AllSettled (root_number root) (image_of held)
  all_settled name object there =
      elim (put_records (root_number root) held.records (root_image root) name object
      (all_behind (root_number root) logged is.are) there) [
        | inl was ↦ inl (is.unchanged name object was)
        | inr later ↦ inr later
      ]

  -- what a store holds stands for its image
  pub stands_itself : StandsFor (image_of held) (number_of held) (Some (found_in held))
  stands_itself = found_from (root_number root) (number_of held) (number_of held) (image_of held) (image_of held)
      (settled_match (root_number root) (image_of held) all_settled) refl

  module _ (image : Image) (number : ℕ) (stands : StandsFor image number (Some (found_in held))) where
    abbrev matches : Matches (root_number root) (image_of held) image × (number_of held ≡ number)
    matches = matches_of (root_number root) number (number_of held) (image_of held) image stands

    pub number_is : number_of held ≡ number
    number_is = matches.1

    pub root_low : root_number root ≤ number
    root_low = subst (λ (n : ℕ). root_number root ≤ n) matches.1 (number_grows (root_number root) logged is.turn)

    -- one record more
    pub next_stands : (one : Logged) → one.effect.number ≡ number + 1 → IsRecord one
        → StandsFor (with_objects image one.effect.objects) (number + 1)
        (Some (found_in (record { root = root; records = held.records ++ one ∷ [] })))
    next_stands one next record_is =
        found_from (root_number root) (number + 1) (last_number (root_number root) (held.records ++ one ∷ []))
        (with_records (root_image root) (held.records ++ one ∷ [])) (with_objects image one.effect.objects)
        (λ name. ap (λ (i : Image). get i name)
        (fold-append (λ (made : Image) (o : Logged). with_objects made o.effect.objects) (root_image root) held.records (one ∷ []))
        ∙ matches_all (root_number root) one.effect.number one.effect.objects (image_of held) image
        (omega (arith, next, root_low)) record_is.changed matches.0 name)
        (last_more (root_number root) held.records one ∙ next)

    up_to_number : IsUpTo number logged
    up_to_number = subst (λ (n : ℕ). IsUpTo n logged) matches.1 (up_to (root_number root) logged is.turn is.fits)

    -- no object of the image was changed by a later commit
    pub all_up_to : (name : ℕ) (object : Object) → get image name ≡ Some object → object.changed ≤ number
    all_up_to name object there = elim (cases_lt (root_number root) object.changed) [
      | inl later ↦
          let here : get (image_of held) name ≡ Some object =
          matches.0 name ∙ ap (option_map (found_object (root_number root))) there
          ∙ ap (λ (o : Object). Some o) (found_later (root_number root) object later) in
          elim (low_records number held.records (root_image root) name object
          (kept_records (root_number root) logged is.are)
          (kept_low (root_number root) number logged (all_low number logged up_to_number.none)) here) [
            | inl was ↦ omega (arith, is.unchanged name object was)
            | inr low ↦ low
          ]
      | inr low ↦ omega (arith, low, root_low)
    ]

    -- a checkpoint of the image, with the records still in the log, or with none
    pub checkpoint_stands : (next : Extent) → IsUnchanged (image_in next) → IsCheckpoint image number next
        → StandsFor image number (Some (found_in (record { root = Some next; records = [] })))
    checkpoint_stands next unchanged made =
        subst (λ (n : ℕ). StandsFor image number (Some (record { objects = λ name. get (image_in next) name; number = n; root = n })))
        (sym made.number_is)
        (found_from number number number (image_in next) image (λ name. found_up_to number (get (image_in next) name) (get image name)
        (made.agrees name) (unchanged name) (all_up_to name)) refl)

    pub is_checkpointed : (next : Extent) → IsUnchanged (image_in next) → IsCheckpoint image number next
        → IsStore (Some next) logged × (held_of (Some next) logged ≡ record { root = Some next; records = [] })
    is_checkpointed next unchanged made = (
      record {
        unchanged = unchanged;
        turn = is.turn;
        are = is.are;
        fits = ap (λ (n : ℕ). misfit n logged) made.number_is ∙ up_to_number.fits;
      },
      ap (λ (l : List Logged). record { root = Some next; records = l })
          (ap (λ (n : ℕ). records_after n logged) made.number_is ∙ up_to_number.none),
    )

-- ---- an image over that of its root

some_found : (root : ℕ) (o : Option Object) → is_some (option_map (found_object root) o) ≡ true → is_some o ≡ true
some_found root None some = some
some_found root (Some object) some = refl

-- the image may be stored in place of the root's
pub keeps_held : (extent : Extent) (logged : List Logged) → IsStore (Some extent) logged → (image : Image) (number : ℕ)
    → StandsFor image number (Some (found_in (held_of (Some extent) logged))) → KeepsHeld image (image_in extent) extent.number
keeps_held extent logged is image number stands =
    let held = held_of (Some extent) logged in
    let matches = (matches_of extent.number number (number_of held) (image_of held) image stands).0 in
    record {
      names = λ name some. some_found extent.number (get image name) (subst (λ (o : Option Object). is_some o ≡ true) (matches name)
          (keeps_records held.records (image_in extent) name some));
      unchanged = λ name object there low.
          let found = found_earlier extent.number object low in
          let here : get (image_of held) name ≡ Some (found_object extent.number object) =
          matches name ∙ ap (option_map (found_object extent.number)) there in
          elim (put_records extent.number held.records (image_in extent) name (found_object extent.number object)
          (all_behind extent.number logged is.are) here) [
            | inl was ↦ ap (option_map contents_of) there
                ∙ ap (λ (o : Object). Some (contents_of o)) (sym found)
                ∙ sym (ap (option_map contents_of) was)
            | inr later ↦ absurd (omega (arith, later, ap (λ (o : Object). o.changed) found))
          ];
    }

-- ---- whatever the disk tells

-- Each object of a root's image with the records behind it was changed by one of their commits, or
-- counts as changed by none.
pub changed_by : (root : ℕ) (logged : List Logged) (image : Image) → AreRead logged → misfit root logged ≡ None
    → IsUnchanged image → (name : ℕ) (object : Object)
    → get (with_records image (records_after root logged)) name ≡ Some object
    → object.changed ≤ last_number root (records_after root logged)
changed_by root logged image read fits unchanged name object there =
    let number : ℕ = last_number root (records_after root logged) in
    let up = up_to root logged (in_turn logged read) fits in
    elim (low_records number (records_after root logged) image name object
    (kept_records root logged (are_records logged read)) (kept_low root number logged (all_low number logged up.none)) there) [
      | inl here ↦ omega (arith, unchanged name object here)
      | inr low ↦ low
    ]
