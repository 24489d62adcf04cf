-- A program that is performed at another place, which has the same at each name that was touched,
-- does the same.
use Rattle.std.proofs.Common.{◌≡◌, ◌∙◌, refl, ap, ap₂, subst, ℕ, ◌+◌, Bool, true, false, ◌&&◌, ◌||◌, ◌-◌, cond, nat_eq, Option, Some, None, List, [], ◌∷◌, ◌++◌, option_map, is_some, fold, inl, inr}
use Rattle.std.specs.FinMap.{get}
use Rattle.std.specs.Option.{option_or, option_and_then}
use Rattle.std.proofs.lemmas.Bool.{false≢true, and_parts, and_from, or_right, or_cases, eq-eqb, eqb-true, cond_both}
use Rattle.std.proofs.lemmas.List.Folds.{list_any-append}
use Rattle.gem_object.specs.declared.body.Body.{Body}
use Rattle.gem_object.specs.declared.body.Body.TheVariants.{Plain, Bytes, Dict, Class, Segment, User, Counter, Bag, RcDict, Queue}
use Rattle.gem_world.specs.gem_update.Update.{updated}
use Rattle.gem_world.specs.gem_update.declared.update.Update.{Update}
use Rattle.gem_world.specs.gem_image.Image.{Image, Contents, objects_in}
use Rattle.gem_world.specs.gem_image.Rights.{rights_of, groups_of, right_by, right_on_body, right_on_object}
use Rattle.gem_world.specs.World.{Setting, World, name_of, as_of, shown, shown_objects, is_made, is_private, is_among, with_name, touch}
use Rattle.gem_world.specs.Changes.{with_body, in_segment, put, make, note}
use Rattle.gem_world.specs.Access.{Access, a_read, a_write, allows, IsTouched, is_allowed, touches_of, with_touches, after_allowed, accessed}
use Rattle.object_programs.specs.Budget.{Budget}
use Rattle.object_programs.specs.Fixed.{Fixed, fixed_of, fixed_by, same_fixed}
use Rattle.object_programs.specs.Guard.{Parts, fits, asked_names, parts_with, may_change, may_replace, with_parts, all_fit, parts_with_new, may_make}
use Rattle.object_programs.specs.Atom.{Atom, Ask, Own, Kind, Made, Who, Put, Move, Note, Names, Make, Tick, Room, Show, says, refuses, done, MakeCheck, too_large, no_name, no_space, no_fault, make_check, objects_cost, with_new, asked_by_all, made_where, made_by, with_missing, touch_missing, noted, access_answer, replaced_where, edited_at, edited, updated_by, updated_at, updated_where, after_update}
use Rattle.object_programs.specs.declared.fault.Fault.TheVariants as fault
use Rattle.object_programs.specs.Run.{Run, give, fail, return_to, atom, seeing, become, and_then, ending, Ending, gives, returns, fails, State, outcome_of, onward, perform}
use Rattle.object_programs.specs.Laws.{rebased, Stays, AgreeOnTouched, KeepsParts}
use Rattle.object_programs.proofs.Kept.{kept, kept_onward, updated_kept_where}
use Rattle.object_programs.proofs.Worlds.{shown_asked}
use Rattle.object_programs.proofs.Falling.{GrowTouches, still_folded, put_grows, touch_grows, touches_by_worlds, touches_stay}
use Rattle.object_programs.proofs.Guards.{SameOn, fits_more, fits_same, asked_same, all_fit_more, all_fit_same, all_asked_same}
use Rattle.object_programs.proofs.Bases.{fixed_stays, seen_same}

pub now_there : (names : List ℕ) (name : ℕ) → is_among name (with_name names name) ≡ true
now_there names name = cond_both (is_among name names) names (names ++ name ∷ [])
    (λ some. is_among name some ≡ true) (λ there. there)
    (λ _. list_any-append (nat_eq name) names (name ∷ [])
    ∙ or_right (is_among name names) (is_among name (name ∷ [])) (ap (λ b. b || false) (eq-eqb name name refl)))

missing_there : (parts : Parts) (names : List ℕ) (other name : ℕ) → name ≡ other → is_some (parts name) ≡ false
    → is_among name (with_missing parts names other) ≡ true
missing_there parts names other name is none =
    subst (λ some. is_among name (with_missing parts names some) ≡ true) is
    (ap (λ b. is_among name (cond b names (with_name names name))) none ∙ now_there names name)

-- a name that is asked for and isn't there is among those that are touched
now_folded : (parts : Parts) (others names : List ℕ) (name : ℕ) → is_among name others ≡ true
    → is_some (parts name) ≡ false → is_among name (fold (with_missing parts) names others) ≡ true
now_folded parts [] names name here none = absurd (false≢true here)
now_folded parts (other ∷ others) names name here none =
    elim (or_cases (nat_eq name other) (is_among name others) here) [
      | inl same ↦ still_folded parts others (with_missing parts names other) name
          (missing_there parts names other name (eqb-true name other same) none)
      | inr rest ↦ now_folded parts others (with_missing parts names other) name rest none
    ]

-- the same parts on what is asked for: the same names are missing
missing_same : (parts later : Parts) (others names : List ℕ) → SameOn parts later others
    → fold (with_missing later) names others ≡ fold (with_missing parts) names others
missing_same parts later [] names same = refl
missing_same parts later (other ∷ others) names same =
    let first : later other ≡ parts other =
    same other (ap (λ b. b || is_among other others) (eq-eqb other other refl)) in
    let rest : SameOn parts later others = λ name here. same name (or_right (nat_eq name other) _ here) in
    ap (λ (found : Option Fixed).
    fold (with_missing later) (cond (is_some found) names (with_name names other)) others) first
    ∙ missing_same parts later others (with_missing parts names other) rest

part_same : (own : Bool) (fixed : Fixed) (found other : Option Fixed) → ((x : Fixed) → found ≡ Some x → other ≡ Some x)
    → (is_some (cond own (Some fixed) found) ≡ false → other ≡ found)
    → cond own (Some fixed) other ≡ cond own (Some fixed) found
part_same true fixed found other stays missing = refl
part_same false fixed None other stays missing = missing refl
part_same false fixed (Some x) other stays missing = stays x refl

bare_same : (found other : Option Fixed) → ((x : Fixed) → found ≡ Some x → other ≡ Some x)
    → (is_some found ≡ false → other ≡ found) → other ≡ found
bare_same None other stays missing = missing refl
bare_same (Some x) other stays missing = stays x refl

part_stays : (own : Bool) (fixed x : Fixed) (found other : Option Fixed)
    → ((y : Fixed) → found ≡ Some y → other ≡ Some y)
    → cond own (Some fixed) found ≡ Some x → cond own (Some fixed) other ≡ Some x
part_stays true fixed x found other stays is = is
part_stays false fixed x found other stays is = stays x is

-- the same of several objects that are made
parts_stay_new : (name : ℕ) (objects : List Contents) (found other : Parts) (asked : ℕ)
    → ((x : Fixed) → found asked ≡ Some x → other asked ≡ Some x) → (x : Fixed)
    → with_parts name objects found asked ≡ Some x → with_parts name objects other asked ≡ Some x
parts_stay_new name [] found other asked stays x is = stays x is
parts_stay_new name (object ∷ rest) found other asked stays x is = part_stays (nat_eq asked name) (fixed_of object) x
    (with_parts (name + 1) rest found asked) (with_parts (name + 1) rest other asked)
    (parts_stay_new (name + 1) rest found other asked stays) is

one_part_same : (own : Bool) (fixed : Fixed) (found other : Option Fixed) (Same : Type 0)
    → ((is_some found ≡ false → Same) → other ≡ found) → (is_some (cond own (Some fixed) found) ≡ false → Same)
    → cond own (Some fixed) other ≡ cond own (Some fixed) found
one_part_same true fixed found other Same next missing = refl
one_part_same false fixed found other Same next missing = next missing

parts_same_new : (name : ℕ) (objects : List Contents) (found other : Parts) (asked : ℕ)
    → ((x : Fixed) → found asked ≡ Some x → other asked ≡ Some x)
    → (is_some (with_parts name objects found asked) ≡ false → other asked ≡ found asked)
    → with_parts name objects other asked ≡ with_parts name objects found asked
parts_same_new name [] found other asked stays missing = bare_same (found asked) (other asked) stays missing
parts_same_new name (object ∷ rest) found other asked stays missing =
    one_part_same (nat_eq asked name) (fixed_of object) (with_parts (name + 1) rest found asked)
    (with_parts (name + 1) rest other asked) (other asked ≡ found asked)
    (parts_same_new (name + 1) rest found other asked stays) missing

-- The user's right on what is found, where segment and profile are seen as the same.
right_same_in : (segment later profile own : Option Contents) (user : ℕ) → later ≡ segment → own ≡ profile
    → right_by (option_and_then (λ (object : Contents). rights_of object.body) later) user
    (option_and_then (λ (object : Contents). groups_of object.body) own)
    ≡ right_by (option_and_then (λ (object : Contents). rights_of object.body) segment) user
    (option_and_then (λ (object : Contents). groups_of object.body) profile)
right_same_in segment later profile own user first second = ap₂ (λ (one two : Option Contents).
    right_by (option_and_then (λ (object : Contents). rights_of object.body) one) user
    (option_and_then (λ (object : Contents). groups_of object.body) two)) first second

module _ (setting : Setting) (other : Image) (stays : Stays setting.place other) where
  abbrev moved : Setting
  moved = rebased other setting

  abbrev Agree : World → Type 0
  Agree world = AgreeOnTouched setting.place other world

  parts_stay : (world : World) → KeepsParts (fixed_by setting world) (fixed_by moved world)
  parts_stay world name fixed is = fixed_stays (get world.changes name) (objects_in setting.place name) (objects_in other name)
      (objects_in setting.view name) (stays name) fixed is

  parts_agree : (world : World) (name : ℕ) → objects_in other name ≡ objects_in setting.place name
      → fixed_by moved world name ≡ fixed_by setting world name
  parts_agree world name same = ap (λ place. option_map fixed_of
      (option_or (get world.changes name) (as_of place (objects_in setting.view name)))) same

  look_same : (world : World) (name : ℕ)
      → (is_private name setting world ≡ false → objects_in other name ≡ objects_in setting.place name)
      → (shown name moved world ≡ shown name setting world)
      × (is_private name moved world ≡ is_private name setting world)
  unfolding is_private is_made
  look_same world name apart = seen_same (is_made name setting world) (get world.changes name)
      (objects_in setting.place name) (objects_in other name) (objects_in setting.view name)
      (λ made. (and_parts _ _ made).1) (stays name) apart

  recorded : (name : ℕ) (world : World) → is_private name setting world ≡ false
      → IsTouched name (touch name setting world)
  unfolding touch
  recorded name world apart =
      ap (λ b. is_among name (cond b world.touched (with_name world.touched name))) apart
      ∙ now_there world.touched name

  touch_same : (name : ℕ) (world : World) → is_private name moved world ≡ is_private name setting world
      → touch name moved world ≡ touch name setting world
  unfolding touch
  touch_same name world same =
      ap (λ b. record world { touched = cond b world.touched (with_name world.touched name) }) same

  looked_same : (name : ℕ) (world : World) → Agree (touch name setting world)
      → (shown name moved world ≡ shown name setting world) × (touch name moved world ≡ touch name setting world)
  looked_same name world agree =
      let both = look_same world name (λ apart. agree name (recorded name world apart)) in
      (both.0, touch_same name world both.1)

  with_stays : (world : World) (name : ℕ) (object : Contents)
      → KeepsParts (parts_with name object setting world) (parts_with name object moved world)
  with_stays world name object asked fixed is = part_stays (nat_eq asked name) (fixed_of object) fixed
      (fixed_by setting world asked) (fixed_by moved world asked) (parts_stay world asked) is

  missing_touched : (parts : Parts) (names : List ℕ) (world : World) (name : ℕ) → is_among name names ≡ true
      → is_some (parts name) ≡ false → IsTouched name (touch_missing parts names world)
  unfolding touch_missing
  missing_touched parts names world name here none = now_folded parts names world.touched name here none

  with_same : (world : World) (name : ℕ) (object : Contents) (names : List ℕ)
      → Agree (touch_missing (parts_with name object setting world) names world)
      → SameOn (parts_with name object setting world) (parts_with name object moved world) names
  with_same world name object names agree asked here = part_same (nat_eq asked name) (fixed_of object)
      (fixed_by setting world asked) (fixed_by moved world asked) (parts_stay world asked)
      (λ none. parts_agree world asked
      (agree asked (missing_touched (parts_with name object setting world) names world asked here none)))

  misses_same : (parts later : Parts) (object : Contents) (world : World) → SameOn parts later (asked_names parts object)
      → touch_missing later (asked_names later object) world ≡ touch_missing parts (asked_names parts object) world
  unfolding touch_missing
  misses_same parts later object world same =
      ap (λ names. record world { touched = fold (with_missing later) world.touched names })
      (asked_same parts later object same)
      ∙ ap (λ names. record world { touched = names })
      (missing_same parts later (asked_names parts object) world.touched same)

  noted_same : (name : ℕ) (update : Option Update) (world : World)
      → noted name update moved world ≡ noted name update setting world
  unfolding note is_made
  noted_same name None world = refl
  noted_same name (Some update) world = refl

  may_same : (name : ℕ) (old new : Contents) (world : World)
      → fits (parts_with name new moved world) name new ≡ fits (parts_with name new setting world) name new
      → may_replace name old new moved world ≡ may_replace name old new setting world
  unfolding may_replace
  may_same name old new world same = ap (λ b. same_fixed (fixed_of old) (fixed_of new) && b) same

  may_stays : (name : ℕ) (old new : Contents) (world : World) → may_replace name old new setting world ≡ true
      → may_replace name old new moved world ≡ true
  unfolding may_replace
  may_stays name old new world may =
      let parts = and_parts _ _ may in
      and_from _ _ parts.0 (fits_more (parts_with name new setting world) (parts_with name new moved world)
      (with_stays world name new) name new parts.1)

  -- One test decides whether an object is replaced: where it holds, it holds at the other place,
  -- and where it doesn't, it doesn't there, as long as the guard is the same.
  where_same : (may moved_may : Bool) (name : ℕ) (update : Option Update) (new : Contents) (world : World)
      → (may ≡ true → moved_may ≡ true)
      → (fits (parts_with name new moved world) name new ≡ fits (parts_with name new setting world) name new
      → moved_may ≡ may)
      → Agree (replaced_where may name update new setting world)
      → replaced_where moved_may name update new moved world ≡ replaced_where may name update new setting world
  where_same true moved_may name update new world holds same agree =
      ap (λ b. replaced_where b name update new moved world) (holds refl)
      ∙ ap (put name new) (noted_same name update world)
  where_same false moved_may name update new world holds same agree =
      let parts = parts_with name new setting world in
      let later = parts_with name new moved world in
      let on = with_same world name new (asked_names parts new) agree in
      ap (λ b. replaced_where b name update new moved world) (same (fits_same parts later name new on))
      ∙ misses_same parts later new world on

  change_same : (name : ℕ) (old : Contents) (world : World)
      → may_change name old moved world ≡ may_change name old setting world
  unfolding may_change is_made
  change_same name old world = refl

  edited_same_at : (name : ℕ) (edit : Contents → Contents) (found : Option Contents) (world : World)
      → Agree (edited_at name edit found setting world)
      → edited_at name edit found moved world ≡ edited_at name edit found setting world
  edited_same_at name edit None world agree = refl
  edited_same_at name edit (Some old) world agree =
      let own = may_change name old setting world in
      let may = may_replace name old (edit old) setting world in
      where_same (own && may) (may_change name old moved world && may_replace name old (edit old) moved world)
      name None (edit old) world
      (λ all. let parts = and_parts own may all in
      and_from _ _ (change_same name old world ∙ parts.0) (may_stays name old (edit old) world parts.1))
      (λ same. ap₂ ◌&&◌ (change_same name old world) (may_same name old (edit old) world same)) agree

  edited_same : (name : ℕ) (edit : Contents → Contents) (world : World) → Agree (edited name edit setting world)
      → edited name edit moved world ≡ edited name edit setting world
  unfolding edited
  edited_same name edit world agree = edited_same_at name edit (get world.changes name) world agree

  -- An access: what it touches and whether it is allowed.
  right_same : (user segment : ℕ) (body : Body) (world : World)
      → shown segment moved world ≡ shown segment setting world → shown user moved world ≡ shown user setting world
      → right_on_body (shown_objects moved world) user segment body
      ≡ right_on_body (shown_objects setting world) user segment body
  right_same user segment (Segment rights) world first second = refl
  right_same user segment (Plain values) world first second = right_same_in _ _ _ _ user first second
  right_same user segment (Bytes bytes) world first second = right_same_in _ _ _ _ user first second
  right_same user segment (Dict pairs) world first second = right_same_in _ _ _ _ user first second
  right_same user segment (Class class) world first second = right_same_in _ _ _ _ user first second
  right_same user segment (User of) world first second = right_same_in _ _ _ _ user first second
  right_same user segment (Counter counter) world first second = right_same_in _ _ _ _ user first second
  right_same user segment (Bag pairs) world first second = right_same_in _ _ _ _ user first second
  right_same user segment (RcDict pairs) world first second = right_same_in _ _ _ _ user first second
  right_same user segment (Queue queue) world first second = right_same_in _ _ _ _ user first second

  seen_once : (name asked : ℕ) (world : World)
      → shown asked moved (touch name setting world) ≡ shown asked setting (touch name setting world)
      → shown asked moved world ≡ shown asked setting world
  unfolding touch
  seen_once name asked world same = same

  abbrev FoundSame : ℕ → Option Contents → World → Type 0
  FoundSame name found world = (shown name moved world ≡ shown name setting world)
      × (touches_of name found moved world ≡ touches_of name found setting world)
      × (right_on_object (shown_objects moved world) setting.user found
      ≡ right_on_object (shown_objects setting world) setting.user found)

  found_same : (name : ℕ) (found : Option Contents) (world : World) → Agree (touches_of name found setting world)
      → FoundSame name found world
  found_same name None world agree =
      let looked = looked_same name world agree in
      (looked.0, looked.1, refl)
  found_same name (Some object) world agree =
      let once = touch name setting world in
      let twice = touch object.segment setting once in
      let agree_twice : Agree twice = λ asked here. agree asked (touch_grows setting setting.user twice asked here) in
      let agree_once : Agree once = λ asked here. agree_twice asked (touch_grows setting object.segment once asked here) in
      let first = looked_same name world agree_once in
      let second = looked_same object.segment once agree_twice in
      let third = looked_same setting.user twice agree in (
        first.0,
        ap (λ after. touch setting.user moved (touch object.segment moved after)) first.1
            ∙ (ap (touch setting.user moved) second.1 ∙ third.1),
        right_same setting.user object.segment object.body world
            (seen_once name object.segment world second.0)
            (seen_once name setting.user world (seen_once object.segment setting.user once third.0)),
      )

  asking_same : (name : ℕ) (world : World) → Agree (with_touches name setting world)
      → (shown name moved world ≡ shown name setting world)
      × (with_touches name moved world ≡ with_touches name setting world)
      × ((access : Access) → is_allowed access name moved world ≡ is_allowed access name setting world)
  unfolding with_touches is_allowed
  asking_same name world agree =
      let found = found_same name (shown name setting world) world agree in (
        found.0,
        ap (λ some. touches_of name some moved world) found.0 ∙ found.1,
        λ access. ap (λ some. allows access (right_on_object (shown_objects moved world) setting.user some)) found.0
            ∙ ap (allows access) found.2,
      )

  allowed_grows : (access : Access) (name : ℕ) (found : Option Contents) (world : World)
      → GrowTouches world (after_allowed access name found world)
  allowed_grows a_read name found world asked here = here
  allowed_grows a_write name None world asked here = here
  allowed_grows a_write name (Some object) world asked here = cond_both _ world (put name object world)
      (λ after. is_among asked after.touched ≡ true) (λ _. here) (λ _. put_grows setting name object world asked here)

  accessed_grows : (access : Access) (name : ℕ) (world : World)
      → GrowTouches (with_touches name setting world) (accessed access name setting world)
  unfolding accessed
  accessed_grows access name world asked here =
      let now = with_touches name setting world in
      cond_both (is_allowed access name setting world) (after_allowed access name (shown name setting world) now) now
      (λ after. is_among asked after.touched ≡ true)
      (λ _. allowed_grows access name (shown name setting world) now asked here) (λ _. here)

  accessed_same : (access : Access) (name : ℕ) (world : World)
      → shown name moved world ≡ shown name setting world
      → with_touches name moved world ≡ with_touches name setting world
      → is_allowed access name moved world ≡ is_allowed access name setting world
      → accessed access name moved world ≡ accessed access name setting world
  unfolding accessed
  accessed_same access name world seen touched allowed =
      ap (λ b. cond b (after_allowed access name (shown name moved world) (with_touches name moved world))
      (with_touches name moved world)) allowed
      ∙ ap₂ (λ found now. cond (is_allowed access name setting world) (after_allowed access name found now) now)
      seen touched

  updated_same_by : (name : ℕ) (update : Update) (old : Contents) (found : Option Body) (world : World)
      → Agree (updated_by name update old found setting world)
      → updated_by name update old found moved world ≡ updated_by name update old found setting world
  updated_same_by name update old None world agree = refl
  updated_same_by name update old (Some body) world agree =
      let new = with_body body old in
      where_same (may_replace name old new setting world) (may_replace name old new moved world) name (Some update)
      new world (may_stays name old new world) (may_same name old new world) agree

  updated_same_at : (name : ℕ) (update : Update) (found : Option Contents) (world : World)
      → Agree (updated_at name update found setting world)
      → updated_at name update found moved world ≡ updated_at name update found setting world
  updated_same_at name update None world agree = refl
  updated_same_at name update (Some old) world agree =
      updated_same_by name update old (updated update old.body) world agree

  updated_same_where : (allowed : Bool) (name : ℕ) (update : Update) (world : World)
      → shown name moved world ≡ shown name setting world
      → Agree (updated_where allowed name update setting world)
      → updated_where allowed name update moved world ≡ updated_where allowed name update setting world
  updated_same_where false name update world seen agree = refl
  updated_same_where true name update world seen agree =
      ap (λ found. updated_at name update found moved world) seen
      ∙ updated_same_at name update (shown name setting world) world agree

  update_same : (name : ℕ) (update : Update) (world : World) → Agree (after_update name update setting world)
      → after_update name update moved world ≡ after_update name update setting world
  unfolding after_update
  update_same name update world agree =
      let now = with_touches name setting world in
      let allowed = is_allowed a_write name setting world in
      let grows = updated_kept_where setting GrowTouches (touches_by_worlds setting) allowed name update now in
      let asked = asking_same name world (λ asked here. agree asked (grows asked here)) in
      let seen : shown name moved now ≡ shown name setting now
      = cc (asked.0, shown_asked moved setting name name world, shown_asked setting setting name name world) in
      ap₂ (λ b after. updated_where b name update moved after) (asked.2 a_write) asked.1
      ∙ updated_same_where allowed name update now seen agree

  kind_same : (name : ℕ) (world : World) → Agree (touch_missing (fixed_by setting world) (name ∷ []) world)
      → SameOn (fixed_by setting world) (fixed_by moved world) (name ∷ [])
  kind_same name world agree asked here = bare_same (fixed_by setting world asked)
      (fixed_by moved world asked) (parts_stay world asked)
      (λ none. parts_agree world asked
      (agree asked (missing_touched (fixed_by setting world) (name ∷ []) world asked here none)))

  kind_misses : (name : ℕ) (world : World) → SameOn (fixed_by setting world) (fixed_by moved world) (name ∷ [])
      → touch_missing (fixed_by moved world) (name ∷ []) world
      ≡ touch_missing (fixed_by setting world) (name ∷ []) world
  unfolding touch_missing
  kind_misses name world same = ap (λ names. record world { touched = names })
      (missing_same (fixed_by setting world) (fixed_by moved world) (name ∷ []) world.touched same)

  new_stays : (objects : List Contents) (world : World)
      → KeepsParts (parts_with_new objects setting world) (parts_with_new objects moved world)
  new_stays objects world asked fixed is = parts_stay_new (name_of setting world.next) objects
      (fixed_by setting world) (fixed_by moved world) asked (parts_stay world asked) fixed is

  new_same : (objects : List Contents) (world : World) (names : List ℕ)
      → Agree (touch_missing (parts_with_new objects setting world) names world)
      → SameOn (parts_with_new objects setting world) (parts_with_new objects moved world) names
  new_same objects world names agree asked here = parts_same_new (name_of setting world.next) objects
      (fixed_by setting world) (fixed_by moved world) asked (parts_stay world asked)
      (λ none. parts_agree world asked
      (agree asked (missing_touched (parts_with_new objects setting world) names world asked here none)))

  may_make_same : (objects : List Contents) (world : World)
      → all_fit (parts_with_new objects moved world) (name_of setting world.next) objects
      ≡ all_fit (parts_with_new objects setting world) (name_of setting world.next) objects
      → may_make objects moved world ≡ may_make objects setting world
  unfolding may_make
  may_make_same objects world same = same

  may_make_stays : (objects : List Contents) (world : World) → may_make objects setting world ≡ true
      → may_make objects moved world ≡ true
  unfolding may_make
  may_make_stays objects world may = all_fit_more (parts_with_new objects setting world)
      (parts_with_new objects moved world) (new_stays objects world) (name_of setting world.next) objects may

  make_same : (object : Contents) (world : World) → make object moved world ≡ make object setting world
  unfolding make
  make_same object world = refl

  with_new_same : (objects : List Contents) (world : World)
      → with_new objects moved world ≡ with_new objects setting world
  with_new_same [] world = refl
  with_new_same (object ∷ rest) world = ap (with_new rest moved) (make_same object world)
      ∙ with_new_same rest (make object setting world)

  misses_same_new : (parts later : Parts) (objects : List Contents) (world : World)
      → SameOn parts later (asked_by_all parts objects)
      → touch_missing later (asked_by_all later objects) world ≡ touch_missing parts (asked_by_all parts objects) world
  unfolding touch_missing
  misses_same_new parts later objects world same =
      ap (λ names. record world { touched = fold (with_missing later) world.touched names })
      (all_asked_same parts later objects same)
      ∙ ap (λ names. record world { touched = names })
      (missing_same parts later (asked_by_all parts objects) world.touched same)

  fit_same : (may : Bool) (objects : List Contents) (world : World) (budget : Budget)
      → may_make objects setting world ≡ may → Agree (made_where may objects setting world budget).world
      → made_where (may_make objects moved world) objects moved world budget
      ≡ made_where may objects setting world budget
  fit_same true objects world budget may agree =
      ap (λ b. made_where b objects moved world budget) (may_make_stays objects world may)
      ∙ ap (λ after. record {
        answer = says (name_of setting world.next);
        world = after;
        budget = record budget { slots = budget.slots - objects_cost objects };
      }) (with_new_same objects world)
  fit_same false objects world budget may agree =
      let name = name_of setting world.next in
      let parts = parts_with_new objects setting world in
      let later = parts_with_new objects moved world in
      let same = new_same objects world (asked_by_all parts objects) agree in
      ap (λ b. made_where b objects moved world budget)
      (may_make_same objects world (all_fit_same parts later name objects same) ∙ may)
      ∙ ap (λ after. record { answer = refuses fault.ObjectTooLarge; world = after; budget = budget })
      (misses_same_new parts later objects world same)

  made_same : (found : MakeCheck) (objects : List Contents) (world : World) (budget : Budget)
      → Agree (made_by found objects setting world budget).world
      → made_by found objects moved world budget ≡ made_by found objects setting world budget
  made_same too_large objects world budget agree = refl
  made_same no_name objects world budget agree = refl
  made_same no_space objects world budget agree = refl
  made_same no_fault objects world budget agree =
      fit_same (may_make objects setting world) objects world budget refl agree

  is_made_same : (name : ℕ) (world : World) → is_made name moved world ≡ is_made name setting world
  unfolding is_made
  is_made_same name world = refl

  step_same : {A : Type 0} (one : Atom A) (world : World) (budget : Budget)
      → Agree (done one setting world budget).world → done one moved world budget ≡ done one setting world budget
  step_same (Ask access name) world budget agree =
      let asked = asking_same name world
      (λ asked here. agree asked (accessed_grows access name world asked here)) in
      let allowed = asked.2 access in
      ap (λ after. record {
        answer = access_answer (is_allowed access name moved world) access name (shown name moved world);
        world = after;
        budget = budget;
      }) (accessed_same access name world asked.0 asked.1 allowed)
      ∙ ap₂ (λ b found. record {
        answer = access_answer b access name found;
        world = accessed access name setting world;
        budget = budget;
      }) allowed asked.0
  step_same Own world budget agree =
      let looked = looked_same setting.user world agree in
      ap₂ (λ found after. record { answer = says found; world = after; budget = budget }) looked.0 looked.1
  step_same (Kind name) world budget agree =
      let same = kind_same name world agree in
      ap₂ (λ found after. record { answer = says found; world = after; budget = budget })
      (same name (ap (λ b. b || false) (eq-eqb name name refl))) (kind_misses name world same)
  step_same (Made name) world budget agree =
      ap (λ is. record { answer = says is; world = world; budget = budget }) (is_made_same name world)
  step_same Who world budget agree = refl
  step_same (Put name body) world budget agree =
      ap (λ after. record { answer = says tt; world = after; budget = budget })
      (edited_same name (with_body body) world agree)
  step_same (Move name segment) world budget agree =
      ap (λ after. record { answer = says tt; world = after; budget = budget })
      (edited_same name (in_segment segment) world agree)
  step_same (Note name update) world budget agree =
      ap (λ after. record { answer = says tt; world = after; budget = budget }) (update_same name update world agree)
  step_same (Names count) world budget agree = refl
  step_same (Make objects_at) world budget agree =
      let objects = objects_at (name_of setting world.next) in
      made_same (make_check objects world budget) objects world budget agree
  step_same Tick world budget agree = refl
  step_same (Room slots) world budget agree = refl
  step_same (Show text) world budget agree = refl

  module _ {B : Type 0} where
    grows_on : {A : Type 0} (program : Run B A) (state : State B)
        → GrowTouches state.world (perform program setting state).state.world
    grows_on program state = kept setting (λ w b later left. GrowTouches w later) (touches_stay setting) program state

    onward_same : {A C : Type 0} (end : Ending C) (state : State B) (second : C → Run B A)
        → ((answer : C) (after : State B) → Agree (perform (second answer) setting after).state.world
        → perform (second answer) moved after ≡ perform (second answer) setting after)
        → Agree (onward end state (λ answer after. perform (second answer) setting after)).state.world
        → onward end state (λ answer after. perform (second answer) moved after)
        ≡ onward end state (λ answer after. perform (second answer) setting after)
    onward_same (gives answer) state second next agree = next answer state agree
    onward_same (returns value home) state second next agree = refl
    onward_same (fails fault) state second next agree = refl

    pub frame : {A : Type 0} (program : Run B A) (state : State B)
        → Agree (perform program setting state).state.world
        → perform program moved state ≡ perform program setting state
    frame (give answer) state agree = refl
    frame (fail fault) state agree = refl
    frame (return_to value home) state agree = refl
    frame (atom one) state agree =
        ap (λ after. outcome_of after state.local) (step_same one state.world state.budget agree)
    frame (seeing see) state agree = frame (see state.budget state.local) state agree
    frame (become local) state agree = refl
    frame (and_then first second) state agree =
        let before = perform first setting state in
        let grows = kept_onward setting (λ w b later left. GrowTouches w later) (touches_stay setting)
        before.state.world before.state.budget before.end before.state
        (λ answer after. perform (second answer) setting after) (λ name here. here)
        (λ answer after. grows_on (second answer) after) in
        ap (λ done. onward done.end done.state (λ answer after. perform (second answer) moved after))
        (frame first state (λ name here. agree name (grows name here)))
        ∙ onward_same before.end before.state second (λ answer after. frame (second answer) after) agree
    frame (ending first second) state agree =
        let before = perform first setting state in
        let grows = grows_on (second before.end) before.state in
        ap (λ done. perform (second done.end) moved done.state)
        (frame first state (λ name here. agree name (grows name here)))
        ∙ frame (second before.end) before.state agree
