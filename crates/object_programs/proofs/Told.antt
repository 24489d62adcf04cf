-- What has become of a reduced-conflict object that was there before is told by its updates.
use Rattle.std.proofs.Common.{◌≡◌, ◌≢◌, ◌∙◌, refl, sym, ap, subst, ℕ, ◌+◌, ◌≤◌, Bool, true, false, ◌&&◌, nat_eq, nat_le, nat_lt, cond, Option, Some, None, List, [], ◌∷◌, ◌++◌, append-nil, option_map, is_some, inl, inr, arith}
use Rattle.std.specs.FinMap.{get, insert, get-empty}
use Rattle.std.specs.Ordering.{nat_cmp}
use Rattle.std.specs.Option.{option_or, option_and_then}
use Rattle.std.proofs.lemmas.Bool.{false≢true, and_from, cases_eq, eq-eqb, le-leb, lt-ltb, ltb-true, ne_eqb}
use Rattle.std.proofs.lemmas.List.Elements.{filter_map-append}
use Rattle.gem_world.proofs.radix_pages_lemmas.Tables.{get-insert_same, get-insert_other}
use Rattle.gem_object.specs.Kinds.{is_shared}
use Rattle.gem_object.specs.declared.body.Body.{Body}
use Rattle.gem_object.specs.declared.body.Body.TheVariants as body
use Rattle.gem_world.specs.gem_update.Update.{updated}
use Rattle.gem_world.specs.gem_update.declared.update.Update.{Update}
use Rattle.gem_world.specs.gem_update.declared.update.Update.TheVariants as change
use Rattle.gem_world.specs.gem_image.Image.{Contents}
use Rattle.gem_world.specs.World.{Setting, World, untouched, name_of, before_changes, shown, is_drawn, is_made, touch}
use Rattle.gem_world.specs.Changes.{with_body, put, make, note, update_on, updates_on}
use Rattle.object_programs.specs.Guard.{Parts, may_change}
use Rattle.object_programs.specs.Atom.{touch_missing}
use Rattle.object_programs.specs.Laws.{updated_by_all, UpdatesTell}
use Rattle.object_programs.proofs.Kept.{Kept, of_worlds, each_new}
use Rattle.object_programs.proofs.Worlds.{put_next, note_next, make_next, changed_shown, put_here, put_elsewhere, note_shown, note_unmade, may_not_change}

-- ---- updates of one body

and_then_some : {X : Type 0} (found : Option X) → option_and_then Some found ≡ found
and_then_some None = refl
and_then_some (Some x) = refl

-- one update more
one_more : (updates : List Update) (update : Update) (of : Body)
    → updated_by_all (updates ++ update ∷ []) of ≡ option_and_then (updated update) (updated_by_all updates of)
one_more [] update of = and_then_some (updated update of)
one_more (first ∷ rest) update of = by (updated first of) (one_more rest update)
  where
    by : (found : Option Body) → ((next : Body) → updated_by_all (rest ++ update ∷ []) next
        ≡ option_and_then (updated update) (updated_by_all rest next))
        → option_and_then (updated_by_all (rest ++ update ∷ [])) found
        ≡ option_and_then (updated update) (option_and_then (updated_by_all rest) found)
    by None more = refl
    by (Some next) more = more next

mapped_shared : {X : Type 0} (made : X → Body) → ((x : X) → is_shared (made x) ≡ true) → (found : Option X)
    (after : Body) → option_map made found ≡ Some after → is_shared after ≡ true
mapped_shared made shared None after is = absurd (false≢true (ap is_some is))
mapped_shared made shared (Some x) after is =
    let same : made x ≡ after = cc in
    subst (λ some. is_shared some ≡ true) same (shared x)

-- an update leaves a reduced-conflict body
update_shared : (update : Update) (of after : Body) → updated update of ≡ Some after → is_shared after ≡ true
update_shared (change.Counter by) (body.Counter counter) after is =
    mapped_shared body.Counter (λ x. refl) _ after is
update_shared (change.Bag update) (body.Bag pairs) after is = mapped_shared body.Bag (λ x. refl) _ after is
update_shared (change.RcDict update) (body.RcDict pairs) after is = mapped_shared body.RcDict (λ x. refl) _ after is
update_shared (change.Queue update) (body.Queue queue) after is = mapped_shared body.Queue (λ x. refl) _ after is
update_shared _ _ after is = absurd (false≢true (ap is_some is))

all_shared : (updates : List Update) (of after : Body) → is_shared of ≡ true
    → updated_by_all updates of ≡ Some after → is_shared after ≡ true
all_shared [] of after shared is =
    let same : of ≡ after = cc in
    subst (λ some. is_shared some ≡ true) same shared
all_shared (first ∷ rest) of after shared is = by (updated first of) refl is (λ next. all_shared rest next after)
  where
    by : (found : Option Body) → updated first of ≡ found → option_and_then (updated_by_all rest) found ≡ Some after
        → ((next : Body) → is_shared next ≡ true → updated_by_all rest next ≡ Some after → is_shared after ≡ true)
        → is_shared after ≡ true
    by None here given more = absurd (false≢true (ap is_some given))
    by (Some next) here given more = more next (update_shared first of next here) given

-- ---- updates of one name

update_at : (asked name : ℕ) (update : Update) → nat_eq name asked ≡ true
    → updates_on asked ((name, update) ∷ []) ≡ update ∷ []
update_at asked name update same = rw same refl

update_elsewhere : (asked name : ℕ) (update : Update) → nat_eq name asked ≡ false
    → updates_on asked ((name, update) ∷ []) ≡ []
update_elsewhere asked name update apart = rw apart refl

module _ (setting : Setting) where
  noted_at : (name : ℕ) (update : Update) (world : World) → is_made name setting world ≡ false
      → updates_on name (note name update setting world).updates ≡ updates_on name world.updates ++ update ∷ []
  unfolding note
  noted_at name update world unmade = rw unmade
      (filter_map-append (update_on name) world.updates ((name, update) ∷ [])
      ∙ ap (λ (more : List Update). updates_on name world.updates ++ more)
      (update_at name name update (eq-eqb name name refl)))

  noted_elsewhere : (asked name : ℕ) (update : Update) (world : World) → nat_eq name asked ≡ false
      → updates_on asked (note name update setting world).updates ≡ updates_on asked world.updates
  unfolding note
  noted_elsewhere asked name update world apart = by (is_made name setting world)
    where
      by : (made : Bool) → updates_on asked (cond made world.updates (world.updates ++ (name, update) ∷ []))
          ≡ updates_on asked world.updates
      by true = refl
      by false = filter_map-append (update_on asked) world.updates ((name, update) ∷ [])
          ∙ (ap (λ (more : List Update). updates_on asked world.updates ++ more)
          (update_elsewhere asked name update apart) ∙ append-nil (updates_on asked world.updates))

  -- ---- worlds

  abbrev pub StaysTold : World → World → Type 0
  StaysTold world later = UpdatesTell setting world → UpdatesTell setting later

  touch_told : (name : ℕ) (world : World) → StaysTold world (touch name setting world)
  unfolding touch is_made
  touch_told name world tells = record { begun = tells.begun; told = tells.told }

  misses_told : (parts : Parts) (names : List ℕ) (world : World) → StaysTold world (touch_missing parts names world)
  unfolding touch_missing is_made
  misses_told parts names world tells = record { begun = tells.begun; told = tells.told }

  -- the name isn't made: it isn't drawn, or nothing stands among the changes
  undrawn : (name : ℕ) (new : Contents) (world : World) → is_made name setting (put name new world) ≡ false
      → is_drawn name setting world ≡ false
  unfolding put is_made
  undrawn name new world unmade =
      by (is_drawn name setting world) (is_some (get (insert world.changes name new) name))
      (ap is_some (get-insert_same world.changes name new name refl)) unmade
    where
      by : (drawn some : Bool) → some ≡ true → (drawn && some) ≡ false → drawn ≡ false
      by true some is none = absurd (false≢true (sym none ∙ is))
      by false some is none = refl

  unmade_before : (name : ℕ) (world : World) → is_drawn name setting world ≡ false
      → is_made name setting world ≡ false
  unfolding is_made
  unmade_before name world drawn = ap (λ b. b && is_some (get world.changes name)) drawn

  unmade_elsewhere : (asked name : ℕ) (new : Contents) (world : World) → asked ≢ name
      → is_made asked setting (put name new world) ≡ false → is_made asked setting world ≡ false
  unfolding put is_made
  unmade_elsewhere asked name new world apart unmade =
      ap (λ found. is_drawn asked setting world && is_some found)
      (sym (get-insert_other world.changes name new asked apart)) ∙ unmade

  put_updates : (name : ℕ) (new : Contents) (world : World) → (put name new world).updates ≡ world.updates
  unfolding put
  put_updates name new world = refl

  -- what is seen of such an object is a reduced-conflict one
  seen_shared : (name : ℕ) (old object : Contents) (world : World) → UpdatesTell setting world
      → before_changes name setting ≡ Some old → is_shared old.body ≡ true → is_made name setting world ≡ false
      → shown name setting world ≡ Some object → is_shared object.body ≡ true
  seen_shared name old object world tells before shared unmade there =
      by (updated_by_all (updates_on name world.updates) old.body) refl
      (tells.told name old before shared unmade ∙ there)
    where
      by : (found : Option Body) → updated_by_all (updates_on name world.updates) old.body ≡ found
          → option_map (λ some. with_body some old) found ≡ Some object → is_shared object.body ≡ true
      by None is given = absurd (false≢true (ap is_some given))
      by (Some after) is given =
          let same : with_body after old ≡ object = cc in
          subst (λ (some : Contents). is_shared some.body ≡ true) same
          (all_shared (updates_on name world.updates) old.body after shared is)

  -- An object is put at a name where no reduced-conflict object stands that was there before.
  put_told : (name : ℕ) (new : Contents) (world : World)
      → ((old : Contents) → UpdatesTell setting world → before_changes name setting ≡ Some old
      → is_shared old.body ≡ true → is_made name setting world ≡ false → ⊥)
      → StaysTold world (put name new world)
  put_told name new world none tells = record {
    begun = omega (arith, tells.begun, put_next name new world);
    told = λ asked old before shared unmade. elim (cases_eq asked name) [
      | inl same ↦
          let here = subst (λ some. before_changes some setting ≡ Some old) same before in
          let free = subst (λ some. is_made some setting (put name new world) ≡ false) same unmade in
          absurd (none old tells here shared (unmade_before name world (undrawn name new world free)))
      | inr apart ↦ ap (λ updates. option_map (λ some. with_body some old)
          (updated_by_all (updates_on asked updates) old.body)) (put_updates name new world)
          ∙ (tells.told asked old before shared (unmade_elsewhere asked name new world apart unmade)
          ∙ sym (put_elsewhere setting asked name new world apart))
    ];
  }

  hold_told : (name : ℕ) (object : Contents) (world : World) → shown name setting world ≡ Some object
      → is_shared object.body ≡ false → StaysTold world (put name object world)
  hold_told name object world there ordinary = put_told name object world
      (λ old tells before shared unmade. false≢true (sym ordinary
      ∙ seen_shared name old object world tells before shared unmade there))

  edit_told : (name : ℕ) (old new : Contents) (world : World) → get world.changes name ≡ Some old
      → may_change name old setting world ≡ true → StaysTold world (put name new world)
  edit_told name old new world there may = put_told name new world
      (λ first tells before shared unmade. false≢true (sym (may_not_change setting name old world unmade
      (seen_shared name first old world tells before shared unmade (changed_shown setting name old world there)))
      ∙ may))

  noted_drawn : (asked name : ℕ) (update : Update) (world : World)
      → is_drawn asked setting (note name update setting world) ≡ is_drawn asked setting world
  unfolding note
  noted_drawn asked name update world = refl

  -- the updated object itself
  told_here : (updates : List Update) (update : Update) (first old : Contents) (after : Body)
      → option_map (λ some. with_body some first) (updated_by_all updates first.body) ≡ Some old
      → updated update old.body ≡ Some after
      → option_map (λ some. with_body some first) (updated_by_all (updates ++ update ∷ []) first.body)
      ≡ Some (with_body after old)
  told_here updates update first old after so_far is =
      ap (option_map (λ some. with_body some first)) (one_more updates update first.body)
      ∙ by (updated_by_all updates first.body) so_far
    where
      by : (found : Option Body) → option_map (λ some. with_body some first) found ≡ Some old
          → option_map (λ some. with_body some first) (option_and_then (updated update) found)
          ≡ Some (with_body after old)
      by None given = absurd (false≢true (ap is_some given))
      by (Some now) given =
          let same : with_body now first ≡ old = cc in
          let next : updated update now ≡ Some after = subst (λ (some : Contents). updated update some.body ≡ Some after)
          (sym same) is in
          ap (option_map (λ some. with_body some first)) next
          ∙ ap (λ (some : Contents). Some (with_body after some)) same

  update_told : (name : ℕ) (update : Update) (old : Contents) (after : Body) (world : World)
      → shown name setting world ≡ Some old → updated update old.body ≡ Some after
      → StaysTold world (put name (with_body after old) (note name update setting world))
  update_told name update old after world there is tells = record {
    begun = omega (arith, tells.begun, put_next name new noted, note_next name update setting world);
    told = λ asked first before shared unmade. elim (cases_eq asked name) [
      | inl same ↦
          let here = subst (λ some. before_changes some setting ≡ Some first) same before in
          let free = subst (λ some. is_made some setting (put name new noted) ≡ false) same unmade in
          let drawn = sym (noted_drawn name name update world) ∙ undrawn name new noted free in
          let before_made = unmade_before name world drawn in
          subst (λ some. option_map (λ one. with_body one first)
          (updated_by_all (updates_on some (put name new noted).updates) first.body)
          ≡ shown some setting (put name new noted)) (sym same)
          (ap (λ updates. option_map (λ one. with_body one first)
          (updated_by_all (updates_on name updates) first.body)) (put_updates name new noted)
          ∙ (ap (λ updates. option_map (λ one. with_body one first) (updated_by_all updates first.body))
          (noted_at name update world before_made)
          ∙ (told_here (updates_on name world.updates) update first old after
          (tells.told name first here shared before_made ∙ there) is
          ∙ sym (put_here setting name new noted))))
      | inr apart ↦
          let others = unmade_elsewhere asked name new noted apart unmade in
          ap (λ updates. option_map (λ one. with_body one first)
          (updated_by_all (updates_on asked updates) first.body)) (put_updates name new noted)
          ∙ (ap (λ updates. option_map (λ one. with_body one first) (updated_by_all updates first.body))
          (noted_elsewhere asked name update world (ne_eqb name asked (λ same. apart (sym same))))
          ∙ (tells.told asked first before shared (sym (note_unmade setting asked name update world) ∙ others)
          ∙ (sym (note_shown setting asked name update world) ∙ sym (put_elsewhere setting asked name new noted apart))))
    ];
  }
    where
      new : Contents
      new = with_body after old

      noted : World
      noted = note name update setting world

  -- ---- objects that are made

  make_updates : (object : Contents) (world : World) → (make object setting world).updates ≡ world.updates
  unfolding make
  make_updates object world = refl

  pub make_elsewhere : (asked : ℕ) (object : Contents) (world : World) → asked ≢ name_of setting world.next
      → get (make object setting world).changes asked ≡ get world.changes asked
  unfolding make
  make_elsewhere asked object world apart = get-insert_other world.changes (name_of setting world.next) object asked apart

  pub now_made : (object : Contents) (world : World) → setting.first ≤ world.next
      → is_made (name_of setting world.next) setting (make object setting world) ≡ true
  unfolding make is_made
  now_made object world begun =
      let low = name_of setting setting.first in
      let name = name_of setting world.next in
      let high = name_of setting (world.next + 1) in
      and_from _ _ (and_from (nat_le low name) (nat_lt name high) (le-leb low name (omega (arith, begun)))
      (lt-ltb name high (omega arith)))
      (ap is_some (get-insert_same world.changes name object name refl))

  -- a name that isn't made then wasn't made before
  pub unmade_then : (asked : ℕ) (object : Contents) (world : World) → asked ≢ name_of setting world.next
      → is_made asked setting (make object setting world) ≡ false → is_made asked setting world ≡ false
  unfolding make is_made
  unmade_then asked object world apart unmade =
      by (nat_le (name_of setting setting.first) asked) (nat_lt asked (name_of setting world.next))
      (nat_lt asked (name_of setting (world.next + 1))) (is_some (get world.changes asked))
      (λ below. lt-ltb asked (name_of setting (world.next + 1))
      (omega (arith, ltb-true asked (name_of setting world.next) below)))
      (ap (λ found. nat_le (name_of setting setting.first) asked && nat_lt asked (name_of setting (world.next + 1))
      && is_some found) (sym (get-insert_other world.changes (name_of setting world.next) object asked apart)) ∙ unmade)
    where
      by : (from below more some : Bool) → (below ≡ true → more ≡ true) → (from && more && some) ≡ false
          → (from && below && some) ≡ false
      by false below more some wider given = refl
      by true false more some wider given = refl
      by true true more some wider given = subst (λ b. (b && some) ≡ false) (wider refl) given

  make_told : (object : Contents) (world : World) → StaysTold world (make object setting world)
  make_told object world tells = record {
    begun = omega (arith, tells.begun, make_next object setting world);
    told = λ asked old before shared unmade. elim (cases_eq asked (name_of setting world.next)) [
      | inl same ↦ absurd (false≢true
          (sym (subst (λ some. is_made some setting (make object setting world) ≡ false) same unmade)
          ∙ now_made object world tells.begun))
      | inr apart ↦ ap (λ updates. option_map (λ some. with_body some old)
          (updated_by_all (updates_on asked updates) old.body)) (make_updates object world)
          ∙ (tells.told asked old before shared (unmade_then asked object world apart unmade)
          ∙ sym (ap (λ found. option_or found (before_changes asked setting))
          (make_elsewhere asked object world apart)))
    ];
  }

  pub told_stays : Kept setting (λ world budget later left. StaysTold world later)
  told_stays = of_worlds setting StaysTold record {
    same = λ world tells. tells;
    along = λ world between later first second tells. second (first tells);
    touches = touch_told;
    misses = misses_told;
    holds = hold_told;
    edits = λ name old new world there may _. edit_told name old new world there may;
    updates = λ name update old after world there is _. update_told name update old after world there is;
    makes = λ objects world below _. each_new setting StaysTold (λ world tells. tells)
        (λ world between later first second tells. second (first tells))
        (λ object world _. make_told object world) objects world below;
  }

  pub told_first : UpdatesTell setting (untouched setting.first)
  told_first = record {
    begun = omega arith;
    told = λ name old before shared unmade. sym (ap (λ found. option_or found (before_changes name setting))
        (get-empty nat_cmp name) ∙ before);
  }
