-- How the test of the limits, the space and an edit make what a program does that replaces a body or updates it.
use Rattle.std.proofs.Common.{◌≡◌, ◌∙◌, refl, sym, ap, ap₂, subst, ℕ, ◌+◌, ◌-◌, ◌^◌, ◌<◌, ◌≤◌, Bool, true, false, ◌&&◌, nat_le, min, Option, Some, None, option_map, [], Result, Ok, Err, arith}
use Rattle.std.specs.Option.{unwrap_or}
use Rattle.std.proofs.lemmas.Bool.{false≢true, leb-true, le-leb}
use Rattle.std.proofs.Math.Nat.{sub-zero}
use Rattle.std.proofs.Math.Dec.{leb-zero}
use Rattle.gem_object.specs.Slots.{slots_of}
use Rattle.gem_object.specs.Sizes.{fields_size}
use Rattle.gem_object.specs.declared.body.Body.{Body}
use Rattle.gem_update.specs.Update.{updated}
use Rattle.gem_update.specs.declared.update.Update.{Update}
use Rattle.gem_sound.specs.gem_image.Image.{Contents}
use Rattle.object_programs.specs.gem_world.World.{Setting, World, shown}
use Rattle.object_programs.specs.gem_world.Changes.{with_body}
use Rattle.tree_meaning.specs.Place.{MadeBlock}
use Rattle.object_programs.specs.Local.{Local}
use Rattle.object_programs.specs.Atom.{Put, Note, Room, spent_where}
use Rattle.object_programs.specs.Budget.{Budget, is_within_limits}
use Rattle.object_programs.specs.Laws.{answered}
use Rattle.object_programs.specs.Programs.{need, check, replace_body, update}
use Rattle.object_programs.specs.Run.{Run, give, atom, and_then, Ending, gives, fails, Outcome}
use Rattle.object_programs.specs.declared.fault.Fault.{Fault}
use Rattle.object_programs.specs.declared.fault.Fault.TheVariants as fault
use Rattle.object_programs.specs.declared.limits.TheConstants.{SLOTS_LIMIT, BYTES_LIMIT}
use Rattle.running_objects.specs.Seen.{Seen, object_at, with_local, IsSoundState}
use Rattle.running_objects.specs.Acted.{Acted, Edited, EditedWithin, stored_bytes}
use Rattle.running_objects.specs.declared.stop.Stop.{Stop}
use Rattle.running_objects.specs.declared.stop.Stop.TheVariants as stop
use Rattle.running_objects.proofs.Running.{keeps_same, acted_says, seen_twice}
use Rattle.running_objects.proofs.Bytes.{seen_small}
use Rattle.body_growth.specs.declared.change.Change.{Change}
use Rattle.body_growth.specs.Changes.{Shifts, Changes, Tells}
use Rattle.object_programs.specs.Budget.{is_small}
use Rattle.prim_parts.specs.Limits.{TellsLimits, room_where, limits_of_update}
use Rattle.prim_parts.specs.Does.{Does, Computes}
use Rattle.prim_parts.specs.Edits.{Replaces, Updates}
use Rattle.prim_parts.proofs.Does.{does_then, does_stop, does_atom, does_give, does_fail, does_nothing}

abbrev nowhere : Local MadeBlock
nowhere = record { scopes = []; blocks = []; living = [] }

-- ---- limits

-- two numbers that are below a limit together are alike below it
alike_below : (one other limit : ℕ) → (one ≤ limit → other ≤ limit) → (other ≤ limit → one ≤ limit)
    → nat_le one limit ≡ nat_le other limit
alike_below one other limit to from = by (nat_le one limit) (nat_le other limit) refl refl
  where
    by : (a b : Bool) → nat_le one limit ≡ a → nat_le other limit ≡ b → a ≡ b
    by true true first second = refl
    by false false first second = refl
    by true false first second =
        absurd (false≢true (sym second ∙ le-leb other limit (to (leb-true one limit first))))
    by false true first second =
        absurd (false≢true (sym first ∙ le-leb one limit (from (leb-true other limit second))))

slots_alike : (old freed taken new slots : ℕ) → Shifts old freed taken new → freed ≤ 2 → slots ≡ min old (2 ^ 64 - 1)
    → nat_le (min (slots - freed + taken) (2 ^ 64 - 1)) SLOTS_LIMIT ≡ nat_le new SLOTS_LIMIT
slots_alike old freed taken new slots shifts few is =
    alike_below (min (slots - freed + taken) (2 ^ 64 - 1)) new SLOTS_LIMIT
    (λ below. omega (arith, below, shifts.had, shifts.is, few, is))
    (λ below. omega (arith, below, shifts.had, shifts.is, few, is))

bytes_alike : (old freed taken new less more bytes : ℕ) → Shifts old freed taken new → old < 2 ^ 60
    → less ≡ min freed (2 ^ 64 - 1) → more ≡ min taken (2 ^ 64 - 1) → bytes ≡ min old (2 ^ 64 - 1)
    → nat_le (17 + min (bytes - less + more) (2 ^ 64 - 1)) BYTES_LIMIT ≡ nat_le (17 + new) BYTES_LIMIT
bytes_alike old freed taken new less more bytes shifts few less_is more_is is =
    alike_below (17 + min (bytes - less + more) (2 ^ 64 - 1)) (17 + new) BYTES_LIMIT
    (λ below. omega (arith, below, shifts.had, shifts.is, few, less_is, more_is, is))
    (λ below. omega (arith, below, shifts.had, shifts.is, few, less_is, more_is, is))

-- the test by the changes is that of the object as it will be
pub limits_told : (change : Change) (name : ℕ) (seen : Seen) (held : Contents) (slots bytes : ℕ) (result : Bool)
    → IsSoundState seen → Some held ≡ object_at name seen → slots ≡ min (slots_of held.body) (2 ^ 64 - 1)
    → bytes ≡ stored_bytes held
    → result ≡ (nat_le (min (slots - change.slots_freed + change.slots_taken) (2 ^ 64 - 1)) SLOTS_LIMIT
    && nat_le (17 + min (bytes - change.bytes_freed + change.bytes_taken) (2 ^ 64 - 1)) BYTES_LIMIT)
    → TellsLimits change name seen result
limits_told change name seen held slots bytes result sound shown slots_are bytes_are is object new there changes =
    let same : object ≡ held = seen_twice there shown in
    let few : fields_size object.body < 2 ^ 60 = seen_small seen name object sound there in
    let slots_of_it : slots ≡ min (slots_of object.body) (2 ^ 64 - 1) =
    slots_are ∙ ap (λ (one : Contents). min (slots_of one.body) (2 ^ 64 - 1)) (sym same) in
    let bytes_of_it : bytes ≡ min (fields_size object.body) (2 ^ 64 - 1) =
    bytes_are ∙ ap (λ (one : Contents). min (fields_size one.body) (2 ^ 64 - 1)) (sym same) in
    is ∙ ap₂ (λ (a b : Bool). a && b)
    (slots_alike (slots_of object.body) change.slots_freed change.slots_taken (slots_of new) slots changes.slots changes.few
    slots_of_it)
    (bytes_alike (fields_size object.body) changes.freed changes.taken (fields_size new) change.bytes_freed change.bytes_taken
    bytes changes.bytes few changes.freed_is changes.taken_is bytes_of_it)

-- the bytes that are kept beside an object are those of the object that is seen
pub stored_held : (seen : Seen) (name : ℕ) {held : Contents} {bytes : ℕ} → Some held ≡ object_at name seen
    → Some bytes ≡ option_map stored_bytes (object_at name seen) → bytes ≡ stored_bytes held
stored_held seen name {held} {bytes} there are =
    ap (λ (found : Option ℕ). unwrap_or found bytes) (are ∙ ap (option_map stored_bytes) (sym there))

-- ---- space

pub room_refused : (growth : ℕ) (seen : Seen) → Does (room_where false growth) seen (Err (stop.Fails fault.ObjectTooLarge)) seen
room_refused growth seen = does_stop (does_fail fault.ObjectTooLarge seen)

pub room_asked : (growth : ℕ) {before after : Seen} {result : Result (Unit {0}) Stop} → Acted (Room growth) before result after
    → Does (room_where true growth) before result after
room_asked growth {before} acted = does_then (does_give tt before) (does_atom acted)

-- what was spent leaves the objects
spent_leaves : (enough : Bool) (growth : ℕ) (world : World) (budget : Budget)
    → (spent_where enough growth world budget).world ≡ world
spent_leaves true growth world budget = refl
spent_leaves false growth world budget = refl

-- the test of the limits, the space, and then an atom
abbrev followed : Bool → ℕ → Run MadeBlock (Unit {0}) → Run MadeBlock (Unit {0})
followed small growth last = and_then (check fault.ObjectTooLarge small) (λ fits. and_then (atom (Room growth)) (λ room. last))

room_alone : (growth : ℕ) {before after : Seen} {result : Result (Unit {0}) Stop} → Does (room_where true growth) before result after
    → Does (atom (Room growth)) before result after
room_alone growth does = record { keeps = does.keeps; ends = does.ends }

-- an end that is an answer
abbrev is_given : {A : Type 0} → Ending A → Bool
is_given (gives answer) = true
is_given _ = false

never_small : {X : Type 0} (growth : ℕ) {before after : Seen} → Does (room_where false growth) before (Ok tt) after → X
never_small growth does =
    absurd (false≢true (ap (λ (outcome : Outcome MadeBlock (Unit {0})). is_given outcome.end) (does.ends nowhere)))

room_leaves : (small : Bool) (growth : ℕ) {before after : Seen} → Does (room_where small growth) before (Ok tt) after
    → after.world ≡ before.world
room_leaves true growth {before} {after} does =
    sym (ap (λ (outcome : Outcome MadeBlock (Unit {0})). outcome.state.world) (does.ends nowhere))
    ∙ spent_leaves (nat_le growth before.budget.slots) growth before.world before.budget
room_leaves false growth does = never_small growth does

still_there : (small : Bool) (growth name : ℕ) {before after : Seen} → Does (room_where small growth) before (Ok tt) after
    → object_at name after ≡ object_at name before
still_there small growth name does =
    ap₂ (λ (setting : Setting) (world : World). shown name setting world) does.keeps.setting (room_leaves small growth does)

followed_stop : (small : Bool) (growth : ℕ) (last : Run MadeBlock (Unit {0})) {before after : Seen} {ended : Stop}
    → Does (room_where small growth) before (Err ended) after → Does (followed small growth last) before (Err ended) after
followed_stop true growth last {before} does = does_then (does_give tt before) (does_stop (room_alone growth does))
followed_stop false growth last does = record { keeps = does.keeps; ends = does.ends }

followed_then : (small : Bool) (growth : ℕ) (last : Run MadeBlock (Unit {0})) {before between after : Seen}
    {result : Result (Unit {0}) Stop} → Does (room_where small growth) before (Ok tt) between → Does last between result after
    → Does (followed small growth last) before result after
followed_then true growth last {before} one rest = does_then (does_give tt before) (does_then (room_alone growth one) rest)
followed_then false growth last one rest = never_small growth one

-- ---- bodies that are replaced

module _ (growth : Body → ℕ) (name : ℕ) (edit : Body → Body) (held : Contents) (small : Bool) (taken : ℕ) {before : Seen}
    (there : Some held ≡ object_at name before) (tells : small ≡ is_within_limits (with_body (edit held.body) held))
    (grows : taken ≡ growth held.body) where
  as_replaced : {after : Seen} {result : Result (Unit {0}) Stop}
      → Does (followed small taken (atom (Put name (edit held.body)))) before result after
      → Replaces growth name edit before result after
  unfolding replace_body
  as_replaced {after} {result} does object is =
      let last : Run MadeBlock (Unit {0}) = atom (Put name (edit held.body)) in
      subst (λ (one : Contents). Does (replace_body (growth one.body) name one (edit one.body)) before result after)
      (sym (seen_twice is there))
      (subst (λ (b : Bool). Does (followed b (growth held.body) last) before result after) tells
      (subst (λ (n : ℕ). Does (followed small n last) before result after) grows does))

  pub replaced_stop : {after : Seen} {ended : Stop} → Does (room_where small taken) before (Err ended) after
      → Replaces growth name edit before (Err ended) after
  replaced_stop room = as_replaced (followed_stop small taken (atom (Put name (edit held.body))) room)

  pub replaced_put : {between after : Seen} {result : Result (Unit {0}) Stop} → Does (room_where small taken) before (Ok tt) between
      → Acted (Put name (edit held.body)) between result after → Replaces growth name edit before result after
  replaced_put room put = as_replaced (followed_then small taken (atom (Put name (edit held.body))) room (does_atom put))

  pub replaced_then : {between after : Seen} {result : Result (Unit {0}) Stop} → Does (room_where small taken) before (Ok tt) between
      → Edited name edit between result after → Replaces growth name edit before result after
  replaced_then room edited = replaced_put room (edited held (still_there small taken name room ∙ sym there))

-- no space is always to be had
no_room : (seen : Seen) → Acted (Room 0) seen (Ok tt) seen
no_room seen = acted_says (Room 0) seen seen tt refl
    (ap (λ (fits : Bool). spent_where fits 0 seen.world seen.budget) (leb-zero seen.budget.slots)
    ∙ ap (λ (left : ℕ). answered tt seen.world (record seen.budget { slots = left })) (sub-zero seen.budget.slots))

-- what was put within the limits has taken the place of the old body, and takes no more space
pub replaced_within : (name : ℕ) (edit : Body → Body) {before after : Seen} → EditedWithin name edit before after
    → Replaces (λ body. 0) name edit before (Ok tt) after
replaced_within name edit {before} within = replaced_put (λ body. 0) name edit within.object true 0 (sym within.there)
    (sym within.small) refl (room_asked 0 (no_room before)) within.acted

-- ---- updates

abbrev is_failed : {A : Type 0} → Ending A → Bool
is_failed (fails fault) = true
is_failed _ = false

-- the error by which it ended, or another one
abbrev failed_by : {A : Type 0} → Fault → Ending A → Fault
failed_by other (fails fault) = fault
failed_by other _ = other

abbrev said : Ending Bool → Bool
said (gives answer) = answer
said _ = false

-- the limits by what the update leaves, and the whole update by it
abbrev limits_by : Fault → Contents → Option Body → Run MadeBlock Bool
limits_by refusal held found = and_then (need refusal found) (λ new. give (is_small held.body && is_small new))

abbrev update_by : Fault → (growth name : ℕ) → Update → Contents → Option Body → Run MadeBlock (Unit {0})
update_by refusal growth name change held found = and_then (need refusal found) (λ new.
    followed (is_within_limits held && is_within_limits (with_body new held)) growth (atom (Note name change)))

-- the test by the changes is that of the update
module _ (refusal : Fault) (change : Update) (name : ℕ) (seen : Seen) (held : Contents) (shown : Some held ≡ object_at name seen)
    (object : Contents) (there : object_at name seen ≡ Some object) where
  of_it : {result : Result Bool Stop} → Computes (limits_by refusal held (updated change held.body)) result
      → Computes (limits_of_update refusal change object.body) result
  of_it {result} = subst (λ (one : Contents). Computes (limits_of_update refusal change one.body) result) (sym (seen_twice there shown))

  pub limits_updated : (nothing told : Change) (first second : Bool) → ((body : Body) → Changes nothing body body)
      → Tells (Some told) held.body (updated change held.body) → TellsLimits nothing name seen first → TellsLimits told name seen second
      → Computes (limits_of_update refusal change object.body) (Ok (first && second))
  limits_updated nothing told first second same tells before after = of_it (by (updated change held.body) tells)
    where
      by : (found : Option Body) → Tells (Some told) held.body found → Computes (limits_by refusal held found) (Ok (first && second))
      by None tells = absurd (false≢true (sym tells.taken))
      by (Some new) tells =
          let one : first ≡ is_small held.body = before held held.body (sym shown) (same held.body) in
          let two : second ≡ is_small new = after held new (sym shown) (tells.changes told new refl refl) in
          subst (λ (b : Bool). Computes (limits_by refusal held (Some new)) (Ok b)) (sym (ap₂ (λ (a b : Bool). a && b) one two))
          (record { ends = λ setting state. refl })

module _ (refusal : Fault) (growth name : ℕ) (change : Update) (held : Contents) {before : Seen} where
  goes_by : (found : Option Body) (small : Bool) {after : Seen} {result : Result (Unit {0}) Stop} → Computes (limits_by refusal held found) (Ok small)
      → Does (followed small growth (atom (Note name change))) before result after → Does (update_by refusal growth name change held found) before result after
  goes_by None small computes does = absurd (false≢true (ap (λ (outcome : Outcome MadeBlock Bool). is_given outcome.end)
      (computes.ends before.setting (with_local before nowhere))))
  goes_by (Some new) small {after} {result} computes does =
      let same : (is_small held.body && is_small new) ≡ small = ap (λ (outcome : Outcome MadeBlock Bool). said outcome.end)
      (computes.ends before.setting (with_local before nowhere)) in
      does_then (does_give new before)
      (subst (λ (b : Bool). Does (followed b growth (atom (Note name change))) before result after) (sym same) does)

  stops_by : (found : Option Body) (ended : Stop) → Computes (limits_by refusal held found) (Err ended)
      → Does (update_by refusal growth name change held found) before (Err ended) before
  stops_by None (stop.Fails other) computes =
      let same : refusal ≡ other = ap (λ (outcome : Outcome MadeBlock Bool). failed_by other outcome.end)
      (computes.ends before.setting (with_local before nowhere)) in
      subst (λ (one : Fault). Does (update_by refusal growth name change held None) before (Err (stop.Fails one)) before) same
      (does_stop (does_fail refusal before))
  stops_by None (stop.Returns value home) computes = absurd (false≢true (sym
      (ap (λ (outcome : Outcome MadeBlock Bool). is_failed outcome.end) (computes.ends before.setting (with_local before nowhere)))))
  stops_by None stop.NoMemory computes = does_nothing (update_by refusal growth name change held None) (keeps_same before)
  stops_by (Some new) (stop.Fails fault) computes = absurd (false≢true (sym
      (ap (λ (outcome : Outcome MadeBlock Bool). is_given outcome.end) (computes.ends before.setting (with_local before nowhere)))))
  stops_by (Some new) (stop.Returns value home) computes = absurd (false≢true (sym
      (ap (λ (outcome : Outcome MadeBlock Bool). is_given outcome.end) (computes.ends before.setting (with_local before nowhere)))))
  stops_by (Some new) stop.NoMemory computes = does_nothing (update_by refusal growth name change held (Some new)) (keeps_same before)

  as_updated : Some held ≡ object_at name before → {after : Seen} {result : Result (Unit {0}) Stop}
      → Does (update_by refusal growth name change held (updated change held.body)) before result after → Updates refusal growth name change before result after
  unfolding update
  as_updated there {after} {result} does object is =
      subst (λ (one : Contents). Does (update refusal growth name one change) before result after) (sym (seen_twice is there)) does

  pub update_refused : Some held ≡ object_at name before → (ended : Stop)
      → Computes (limits_of_update refusal change held.body) (Err ended) → Updates refusal growth name change before (Err ended) before
  update_refused there ended computes = as_updated there (stops_by (updated change held.body) ended computes)

  pub update_stop : Some held ≡ object_at name before → (small : Bool) → Computes (limits_of_update refusal change held.body) (Ok small)
      → {after : Seen} {ended : Stop} → Does (room_where small growth) before (Err ended) after
      → Updates refusal growth name change before (Err ended) after
  update_stop there small computes room = as_updated there (goes_by (updated change held.body) small computes
      (followed_stop small growth (atom (Note name change)) room))

  pub update_then : Some held ≡ object_at name before → (small : Bool) → Computes (limits_of_update refusal change held.body) (Ok small)
      → {between after : Seen} {result : Result (Unit {0}) Stop} → Does (room_where small growth) before (Ok tt) between
      → Acted (Note name change) between result after → Updates refusal growth name change before result after
  update_then there small computes room noted = as_updated there (goes_by (updated change held.body) small computes
      (followed_then small growth (atom (Note name change)) room (does_atom noted)))
