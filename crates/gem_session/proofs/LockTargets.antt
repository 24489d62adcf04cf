-- Objects that may be locked: they were there before the transaction.
use Rattle.std.proofs.Common.{◌≡◌, ◌∙◌, refl, sym, ap, subst, ℕ, ◌&&◌, Bool, true, false, true≢false, Option, Some, None, is_some, List, [], inl, inr, if◌then◌else◌}
use Rattle.std.specs.Ordering.{nat_cmp}
use Rattle.std.specs.FinMap.{FinMap, get, insert, empty}
use Rattle.std.specs.Option.{option_or}
use Rattle.std.proofs.lemmas.Bool.{false≢true, cases_eq}
use Rattle.gem_image.proofs.radix_pages_lemmas.Tables.{get-insert_same, get-insert_other}
use Rattle.gem_object.specs.texts.Bytes.{Bytes as Text}
use Rattle.gem_object.specs.declared.body.Body.TheVariants.{Plain}
use Rattle.gem_image.specs.Image.{Contents, Objects}
use Rattle.gem_image.specs.Rights.{right_on_object}
use Rattle.gem_world.specs.World.{Setting, World, untouched, shown, shown_objects, before_changes, is_drawn, is_made}
use Rattle.gem_world.specs.Access.{Access, a_read, a_write, allows, right_at, is_allowed}
use Rattle.gem_replies.specs.declared.reply.Line.TheVariants.{NoName, NotCommitted, NoRight}
use Rattle.lock_table.specs.declared.lock.LockKind.{LockKind}
use Rattle.running_objects.specs.object_programs.Laws.{IsInReach}
use Rattle.running_objects.proofs.object_programs_lemmas.Reach.{StaysInReach, reach_stays}
use Rattle.gem_meaning.specs.gem_language.KernelNames.{globals}
use Rattle.gem_meaning.specs.gem_language.OutOfScope.{own_globals}
use Rattle.gem_meaning.proofs.gem_language_lemmas.Lists.{listed}
use Rattle.gem_meaning.specs.Commands.{object_commands}
use Rattle.gem_meaning.specs.Events.{Event, run_on_view}
use Rattle.gem_meaning.specs.Opened.{Opened}
use Rattle.gem_meaning.specs.Names.{Found, no_name, found_here, found_in, found_in_own, global_shown, find_name}
use Rattle.gem_meaning.specs.State.{SessionState, run_so_far}
use Rattle.gem_meaning.specs.Runs.{setting_of}
use Rattle.gem_meaning.specs.Locks.{Target, replies, asks, target_of, access_of, lockable, lock_target}
use Rattle.gem_session.specs.Running.{commands_before}
use Rattle.gem_session.proofs.Made.{reach_first}

-- ---- what the Stone is asked about

asked_parts : (oid : ℕ) (made allowed : Bool) (target : ℕ)
    → asks target ≡ (if made then replies (NotCommitted oid) else if allowed then asks oid else replies (NoRight oid))
    → (target ≡ oid) × (made ≡ false) × (allowed ≡ true)
asked_parts oid true allowed target same = absurd (other same)
  where
    other : asks target ≡ replies (NotCommitted oid) → ⊥
    other same = cc
asked_parts oid false true target same = (ap oid_of same, refl, refl)
  where
    oid_of : Target → ℕ
    oid_of (asks name) = name
    oid_of (replies line) = 0
asked_parts oid false false target same = absurd (other same)
  where
    other : asks target ≡ replies (NoRight oid) → ⊥
    other same = cc

-- it wasn't made in the transaction, and the user has the right
asked_allowed : (kind : LockKind) (setting : Setting) (world : World) (found : Target) (target : ℕ)
    → asks target ≡ lockable kind setting world found
    → (is_made target setting world ≡ false) × (is_allowed (access_of kind) target setting world ≡ true)
asked_allowed kind setting world (replies line) target same = absurd (other same)
  where
    other : asks target ≡ replies line → ⊥
    other same = cc
asked_allowed kind setting world (asks oid) target same =
    let parts = asked_parts oid (is_made oid setting world) (is_allowed (access_of kind) oid setting world) target same in (
      subst (λ (n : ℕ). is_made n setting world ≡ false) (sym parts.0) parts.1,
      subst (λ (n : ℕ). is_allowed (access_of kind) n setting world ≡ true) (sym parts.0) parts.2,
    )

-- a right is one on an object
right_of_object : (access : Access) (objects : Objects) (user : ℕ) (found : Option Contents)
    → allows access (right_on_object objects user found) ≡ true → is_some found ≡ true
right_of_object a_read objects user None allowed = absurd (false≢true allowed)
right_of_object a_write objects user None allowed = absurd (false≢true allowed)
right_of_object access objects user (Some object) allowed = refl

allowed_there : (access : Access) (name : ℕ) (setting : Setting) (world : World) → is_allowed access name setting world ≡ true
    → is_some (shown name setting world) ≡ true
unfolding is_allowed
allowed_there access name setting world allowed =
    right_of_object access (shown_objects setting world) setting.user (shown name setting world) allowed

-- what is seen and wasn't made stood there before
module _ (setting : Setting) (world : World) (reach : IsInReach setting world) (name : ℕ) where
  stood : (found : Option Contents) → get world.changes name ≡ found → is_made name setting world ≡ false
      → is_some (shown name setting world) ≡ true → is_some (before_changes name setting) ≡ true
  unfolding is_made
  stood None is made seen = sym (ap (λ (x : Option Contents). is_some (option_or x (before_changes name setting))) is) ∙ seen
  stood (Some object) is made seen = elim (reach.own name (ap (λ (x : Option Contents). is_some x) is)) [
    | inl drawn ↦ absurd (true≢false (sym (ap (λ (b : Bool). b && true) drawn)
        ∙ sym (ap (λ (x : Option Contents). is_drawn name setting world && is_some x) is) ∙ made))
    | inr before ↦ before
  ]

-- what a transaction so far has changed is in its reach
pub reach_so_far : (o : Opened) (es : List Event) (number : ℕ) (s : SessionState)
    → IsInReach (setting_of o es s) (run_so_far o es number s).world
unfolding run_on_view
reach_so_far o es number s =
    let setting = setting_of o es s in
    listed setting (StaysInReach setting) (reach_stays setting) (object_commands (commands_before o number s)) (untouched s.first_name) (reach_first setting)

-- what the Stone is asked about stood there before
pub asked_stood : (kind : LockKind) (setting : Setting) (world : World) (found : Target) (target : ℕ) → IsInReach setting world
    → asks target ≡ lockable kind setting world found → is_some (before_changes target setting) ≡ true
asked_stood kind setting world found target reach same =
    let parts = asked_allowed kind setting world found target same in
    stood setting world reach target (get world.changes target) refl parts.0 (allowed_there (access_of kind) target setting world parts.1)

-- ---- a name that nothing is found at

-- an object without slots
abbrev pub nothing : Contents
nothing = record { class = 0; segment = 0; body = Plain [] }

abbrev pub lacking_all : Setting → World
lacking_all setting = record (untouched 1) { changes = insert (insert empty setting.user nothing) globals nothing }

stands_at : (changes : FinMap nat_cmp Contents) (name at : ℕ) → get changes at ≡ Some nothing → get (insert changes name nothing) at ≡ Some nothing
stands_at changes name at there = elim (cases_eq at name) [
  | inl same ↦ get-insert_same changes name nothing at same
  | inr apart ↦ get-insert_other changes name nothing at apart ∙ there
]

none_either : (readable : Bool) → (if readable then no_name else no_name) ≡ no_name
none_either true = refl
none_either false = refl

user_lacks : (setting : Setting) → shown setting.user setting (lacking_all setting) ≡ Some nothing
user_lacks setting = ap (λ (x : Option Contents). option_or x (before_changes setting.user setting))
    (stands_at (insert empty setting.user nothing) globals setting.user (get-insert_same empty setting.user nothing setting.user refl))

globals_lack : (setting : Setting) → shown globals setting (lacking_all setting) ≡ Some nothing
globals_lack setting = ap (λ (x : Option Contents). option_or x (before_changes globals setting))
    (get-insert_same (insert empty setting.user nothing) globals nothing globals refl)

nothing_global : (name : Text) → global_shown name (Some nothing) ≡ None
nothing_global name = refl

nothing_owned : own_globals (Some nothing) ≡ None
nothing_owned = refl

-- there are objects among which a name refers to nothing
pub nothing_found : (name : Text) (setting : Setting) → find_name name setting (lacking_all setting) ≡ no_name
unfolding find_name
nothing_found name setting =
    let world = lacking_all setting in
    let rest = found_in name no_name setting world globals in
    ap (λ (x : Option Contents). found_in_own name rest setting world (own_globals x)) (user_lacks setting)
    ∙ ap (λ (x : Option Contents). if allows_globals setting then found_here (global_shown name x) no_name else no_name) (globals_lack setting)
    ∙ none_either (allows_globals setting)
  where
    allows_globals : Setting → Bool
    allows_globals setting = allows a_read (right_at globals setting (lacking_all setting))

pub nothing_to_lock : (kind : LockKind) (name : Text) (setting : Setting)
    → replies (NoName name) ≡ lock_target kind name setting (lacking_all setting)
nothing_to_lock kind name setting =
    sym (ap (λ (x : Found). lockable kind setting (lacking_all setting) (target_of name x)) (nothing_found name setting))
