-- What each atom says and leaves, case by case.
use Rattle.std.proofs.Common.{◌≡◌, ◌∙◌, refl, ap, ℕ, zero, suc, ◌+◌, ◌-◌, ◌<◌, ◌≤◌, Bool, true, false, ◌&&◌, cond, nat_eq, nat_le, Option, Some, None, [], ◌∷◌, ◌++◌, length, option_map, arith}
use Rattle.std.proofs.Math.Path.{fun_ext}
use Rattle.std.specs.FinMap.{get}
use Rattle.std.proofs.lemmas.Bool.{and_from, and_left, and_right, or_left, or_right, not_from_false, le-leb, lt-leb}
use Rattle.gem_object.specs.texts.Bytes.{Bytes as Text}
use Rattle.gem_object.specs.Kinds.{is_shared}
use Rattle.gem_object.specs.declared.body.Body.{Body}
use Rattle.gem_world.specs.gem_update.Update.{updated}
use Rattle.gem_world.specs.gem_update.declared.update.Update.{Update}
use Rattle.gem_world.specs.gem_image.Image.{Contents}
use Rattle.gem_world.specs.World.{Setting, World, shown, is_made, with_name, touch}
use Rattle.gem_world.specs.Changes.{with_body, put, note}
use Rattle.gem_world.specs.Access.{a_read, a_write, is_allowed, with_touches, accessed}
use Rattle.object_programs.specs.declared.limits.TheConstants.{COUNTER_LIMIT, TRANSCRIPT_LIMIT}
use Rattle.object_programs.specs.declared.fault.Fault.TheVariants as fault
use Rattle.object_programs.specs.Budget.{Budget, bytes_cost}
use Rattle.object_programs.specs.Fixed.{fixed_of, same_fixed}
use Rattle.object_programs.specs.Guard.{Parts, fits, may_change, may_replace}
use Rattle.object_programs.specs.Atom.{Ask, Kind, Names, Tick, Room, Show, done, refused, replaced_where, edited_at, edited, updated_by, updated_at, updated_where, after_update, named_where, ticked, spent_where, shown_where, touch_missing}
use Rattle.object_programs.specs.Laws.{answered, lacking}
use Rattle.object_programs.proofs.Worlds.{shown_asked, made_asked, may_not_change}

-- ---- accesses

module _ (name : ℕ) (setting : Setting) (world : World) (budget : Budget) where
  pub read_done : (object : Contents) → is_allowed a_read name setting world ≡ true
      → shown name setting world ≡ Some object
      → done (Ask a_read name) setting world budget ≡ answered object (with_touches name setting world) budget
  unfolding accessed
  read_done object allowed there = rw (allowed, there) refl

  pub write_done : (object : Contents) → is_allowed a_write name setting world ≡ true
      → shown name setting world ≡ Some object → is_shared object.body ≡ false
      → done (Ask a_write name) setting world budget
      ≡ answered object (put name object (with_touches name setting world)) budget
  unfolding accessed
  write_done object allowed there ordinary = rw (allowed, there, ordinary) refl

  pub write_shared_done : (object : Contents) → is_allowed a_write name setting world ≡ true
      → shown name setting world ≡ Some object → is_shared object.body ≡ true
      → done (Ask a_write name) setting world budget ≡ answered object (with_touches name setting world) budget
  unfolding accessed
  write_shared_done object allowed there shared = rw (allowed, there, shared) refl

  pub read_refused : is_allowed a_read name setting world ≡ false
      → done (Ask a_read name) setting world budget
      ≡ refused (fault.NoReadRight name) (with_touches name setting world) budget
  unfolding accessed
  read_refused shut = rw shut refl

  pub write_refused : is_allowed a_write name setting world ≡ false
      → done (Ask a_write name) setting world budget
      ≡ refused (fault.NoWriteRight name) (with_touches name setting world) budget
  unfolding accessed
  write_refused shut = rw shut refl

  pub read_nothing : shown name setting world ≡ None
      → done (Ask a_read name) setting world budget
      ≡ refused (fault.NoReadRight name) (touch name setting world) budget
  unfolding accessed is_allowed with_touches
  read_nothing none = rw none refl

  pub write_nothing : shown name setting world ≡ None
      → done (Ask a_write name) setting world budget
      ≡ refused (fault.NoWriteRight name) (touch name setting world) budget
  unfolding accessed is_allowed with_touches
  write_nothing none = rw none refl

  pub kind_done : (object : Contents) → shown name setting world ≡ Some object
      → done (Kind name) setting world budget ≡ answered (Some (fixed_of object)) world budget
  unfolding touch_missing
  kind_done object there = rw there refl

  pub kind_nothing : shown name setting world ≡ None
      → done (Kind name) setting world budget
      ≡ answered None (record world { touched = with_name world.touched name }) budget
  unfolding touch_missing
  kind_nothing none = rw none refl

-- ---- edits

module _ (name : ℕ) (old : Contents) (setting : Setting) (world : World) where
  may_made : is_made name setting world ≡ true → may_change name old setting world ≡ true
  unfolding may_change
  may_made made = or_left _ _ made

  may_ordinary : is_shared old.body ≡ false → may_change name old setting world ≡ true
  unfolding may_change
  may_ordinary ordinary = or_right _ _ (not_from_false _ ordinary)

  edited_by : (may : Bool) (edit : Contents → Contents) → get world.changes name ≡ Some old
      → (may_change name old setting world && may_replace name old (edit old) setting world) ≡ may
      → edited name edit setting world ≡ replaced_where may name None (edit old) setting world
  unfolding edited
  edited_by may edit there is = ap (λ found. edited_at name edit found setting world) there
      ∙ ap (λ b. replaced_where b name None (edit old) setting world) is

  pub edited_made : (edit : Contents → Contents) → get world.changes name ≡ Some old
      → is_made name setting world ≡ true → may_replace name old (edit old) setting world ≡ true
      → edited name edit setting world ≡ put name (edit old) world
  edited_made edit there made fit = edited_by true edit there (and_from _ _ (may_made made) fit)

  pub edited_written : (edit : Contents → Contents) → get world.changes name ≡ Some old
      → is_shared old.body ≡ false → may_replace name old (edit old) setting world ≡ true
      → edited name edit setting world ≡ put name (edit old) world
  edited_written edit there ordinary fit = edited_by true edit there (and_from _ _ (may_ordinary ordinary) fit)

  pub edited_shared : (edit : Contents → Contents) → get world.changes name ≡ Some old
      → is_made name setting world ≡ false → is_shared old.body ≡ true
      → edited name edit setting world ≡ lacking name (edit old) setting world
  edited_shared edit there unmade shared = edited_by false edit there (and_left _ _ (may_not_change setting name old world unmade shared))

  pub edited_unfit : (edit : Contents → Contents) → get world.changes name ≡ Some old
      → may_replace name old (edit old) setting world ≡ false
      → edited name edit setting world ≡ lacking name (edit old) setting world
  edited_unfit edit there unfit = edited_by false edit there (and_right _ _ unfit)

pub edited_apart : (name : ℕ) (edit : Contents → Contents) (setting : Setting) (world : World)
    → get world.changes name ≡ None → edited name edit setting world ≡ world
unfolding edited
edited_apart name edit setting world none = ap (λ found. edited_at name edit found setting world) none

-- ---- updates

may_asked : (other name : ℕ) (old new : Contents) (setting : Setting) (world : World)
    → may_replace name old new setting (with_touches other setting world) ≡ may_replace name old new setting world
unfolding may_replace
may_asked other name old new setting world =
    ap (λ (parts : Parts). same_fixed (fixed_of old) (fixed_of new) && fits parts name new)
    (fun_ext (λ asked. ap (λ found. cond (nat_eq asked name) (Some (fixed_of new)) (option_map fixed_of found))
    (shown_asked setting setting other asked world)))

module _ (name : ℕ) (update : Update) (setting : Setting) (world : World) where
  abbrev now : World
  now = with_touches name setting world

  pub update_forbidden : is_allowed a_write name setting world ≡ false → after_update name update setting world ≡ now
  unfolding after_update
  update_forbidden shut = ap (λ b. updated_where b name update setting now) shut

  pub update_nothing : shown name setting world ≡ None → after_update name update setting world ≡ touch name setting world
  unfolding after_update is_allowed with_touches
  update_nothing none = rw none refl

  update_found : (old : Contents) (found : Option Body) → is_allowed a_write name setting world ≡ true
      → shown name setting world ≡ Some old → updated update old.body ≡ found
      → after_update name update setting world ≡ updated_by name update old found setting now
  unfolding after_update
  update_found old found allowed there is = ap (λ b. updated_where b name update setting now) allowed
      ∙ (ap (λ some. updated_at name update some setting now) (shown_asked setting setting name name world ∙ there)
      ∙ ap (λ some. updated_by name update old some setting now) is)

  pub update_refused : (old : Contents) → is_allowed a_write name setting world ≡ true
      → shown name setting world ≡ Some old → updated update old.body ≡ None
      → after_update name update setting world ≡ now
  update_refused old allowed there is = update_found old None allowed there is

  update_by : (may : Bool) (old : Contents) (body : Body) → is_allowed a_write name setting world ≡ true
      → shown name setting world ≡ Some old → updated update old.body ≡ Some body
      → may_replace name old (with_body body old) setting world ≡ may
      → after_update name update setting world
      ≡ replaced_where may name (Some update) (with_body body old) setting now
  update_by may old body allowed there is fit = update_found old (Some body) allowed there is
      ∙ ap (λ b. replaced_where b name (Some update) (with_body body old) setting now)
      (may_asked name name old (with_body body old) setting world ∙ fit)

  pub update_unfit : (old : Contents) (body : Body) → is_allowed a_write name setting world ≡ true
      → shown name setting world ≡ Some old → updated update old.body ≡ Some body
      → may_replace name old (with_body body old) setting world ≡ false
      → after_update name update setting world ≡ lacking name (with_body body old) setting now
  update_unfit old body allowed there is unfit = update_by false old body allowed there is unfit

  note_made : is_made name setting now ≡ true → note name update setting now ≡ now
  unfolding note
  note_made made = ap (λ b. record now { updates = cond b now.updates (now.updates ++ (name, update) ∷ []) }) made

  note_old : is_made name setting now ≡ false
      → note name update setting now ≡ record now { updates = now.updates ++ (name, update) ∷ [] }
  unfolding note
  note_old unmade = ap (λ b. record now { updates = cond b now.updates (now.updates ++ (name, update) ∷ []) }) unmade

  pub update_noted : (old : Contents) (body : Body) → is_allowed a_write name setting world ≡ true
      → shown name setting world ≡ Some old → updated update old.body ≡ Some body
      → may_replace name old (with_body body old) setting world ≡ true → is_made name setting world ≡ false
      → after_update name update setting world
      ≡ put name (with_body body old) (record now { updates = now.updates ++ (name, update) ∷ [] })
  update_noted old body allowed there is fit unmade = update_by true old body allowed there is fit
      ∙ ap (put name (with_body body old)) (note_old (made_asked setting name name world ∙ unmade))

  pub update_made : (old : Contents) (body : Body) → is_allowed a_write name setting world ≡ true
      → shown name setting world ≡ Some old → updated update old.body ≡ Some body
      → may_replace name old (with_body body old) setting world ≡ true → is_made name setting world ≡ true
      → after_update name update setting world ≡ put name (with_body body old) now
  update_made old body allowed there is fit made = update_by true old body allowed there is fit
      ∙ ap (put name (with_body body old)) (note_made (made_asked setting name name world ∙ made))

-- an atom that has nothing to say leaves its world
pub leaves : (after world : World) (budget : Budget) → after ≡ world
    → answered {A = Unit {0}} tt after budget ≡ answered {A = Unit {0}} tt world budget
leaves after world budget is = ap (λ some. answered {A = Unit {0}} tt some budget) is

-- ---- budgets

module _ (setting : Setting) (world : World) (budget : Budget) where
  pub names_left : (count : ℕ) → world.next + count ≤ COUNTER_LIMIT
      → done (Names count) setting world budget ≡ answered tt world budget
  names_left count enough = ap (λ b. named_where b world budget) (le-leb (world.next + count) COUNTER_LIMIT enough)

  pub names_used_up : (count : ℕ) → COUNTER_LIMIT < world.next + count
      → done (Names count) setting world budget ≡ refused fault.NamesUsedUp world budget
  names_used_up count over = ap (λ b. named_where b world budget) (lt-leb (world.next + count) COUNTER_LIMIT over)

  ticked_some : (units : ℕ) → 0 < units
      → ticked units world budget ≡ answered tt world (record budget { units = units - 1 })
  ticked_some zero some = absurd (omega (arith, some))
  ticked_some (suc units) some =
      let less : units ≡ suc units - 1 = omega arith in
      ap (λ n. answered tt world (record budget { units = n })) less

  pub tick_done : 0 < budget.units
      → done Tick setting world budget ≡ answered tt world (record budget { units = budget.units - 1 })
  tick_done some = ticked_some budget.units some

  pub no_unit : budget.units ≡ 0 → done Tick setting world budget ≡ refused fault.SendBudget world budget
  no_unit none = ap (λ n. ticked n world budget) none

  pub room_done : (slots : ℕ) → slots ≤ budget.slots
      → done (Room slots) setting world budget
      ≡ answered tt world (record budget { slots = budget.slots - slots })
  room_done slots enough = ap (λ b. spent_where b slots world budget) (le-leb slots budget.slots enough)

  pub no_room : (slots : ℕ) → budget.slots < slots
      → done (Room slots) setting world budget ≡ refused fault.Space world budget
  no_room slots less = ap (λ b. spent_where b slots world budget) (lt-leb slots budget.slots less)

  pub show_done : (text : Text) → length budget.text + length text ≤ TRANSCRIPT_LIMIT
      → bytes_cost (length text) ≤ budget.slots
      → done (Show text) setting world budget ≡ answered tt world (record {
        units = budget.units;
        slots = budget.slots - bytes_cost (length text);
        text = budget.text ++ text;
      })
  show_done text short enough =
      ap (λ b. shown_where b (nat_le (bytes_cost (length text)) budget.slots) text world budget)
      (le-leb (length budget.text + length text) TRANSCRIPT_LIMIT short)
      ∙ ap (λ b. shown_where true b text world budget) (le-leb (bytes_cost (length text)) budget.slots enough)

  pub show_long : (text : Text) → TRANSCRIPT_LIMIT < length budget.text + length text
      → done (Show text) setting world budget ≡ refused fault.ObjectTooLarge world budget
  show_long text long = ap (λ b. shown_where b (nat_le (bytes_cost (length text)) budget.slots) text world budget)
      (lt-leb (length budget.text + length text) TRANSCRIPT_LIMIT long)

  pub show_no_room : (text : Text) → length budget.text + length text ≤ TRANSCRIPT_LIMIT
      → budget.slots < bytes_cost (length text)
      → done (Show text) setting world budget ≡ refused fault.Space world budget
  show_no_room text short less =
      ap (λ b. shown_where b (nat_le (bytes_cost (length text)) budget.slots) text world budget)
      (le-leb (length budget.text + length text) TRANSCRIPT_LIMIT short)
      ∙ ap (λ b. shown_where true b text world budget) (lt-leb (bytes_cost (length text)) budget.slots less)
