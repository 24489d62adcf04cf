-- What is remembered remains where nothing happens that look-ups depend on.
use Rattle.std.proofs.Common.{◌≡◌, ◌∙◌, refl, sym, ap, ap₂, ℕ, suc, Bool, true, false, ◌&&◌, cond, nat_le, nat_lt, Option, Some, None, List, is_some, option_map, option_and_then, inl, inr, arith}
use Rattle.std.specs.FinMap.{get}
use Rattle.std.proofs.lemmas.Bool.{false≢true, and_parts, and_from, or_cases, or_left, or_right, lt-ltb, ltb-true}
use Rattle.std.proofs.lemmas.Option.{none-some}
use Rattle.gem_object.specs.texts.Bytes.{Bytes as Text}
use Rattle.gem_object.specs.seg_rights.declared.right.Right.{Right}
use Rattle.gem_object.specs.seg_rights.declared.right.Right.TheVariants as right
use Rattle.gem_object.specs.seg_rights.declared.rights.Rights.{Rights}
use Rattle.gem_object.specs.declared.body.Body.{Body}
use Rattle.gem_object.specs.declared.body.Body.TheVariants.{Plain, Bytes, Dict, Class, Segment, User, Counter, Bag, RcDict, Queue}
use Rattle.running_objects.specs.gem_image.Image.{Contents, Objects, objects_in}
use Rattle.running_objects.specs.gem_image.Rights.{rights_of, groups_of, rights_at, groups_at, right_by, right_in, right_on_segment, right_on_body, right_on_object}
use Rattle.running_objects.specs.gem_world.World.{Setting, World, name_of, are_shared, shown, shown_objects, is_made, is_private, is_among}
use Rattle.running_objects.specs.gem_world.Access.{Access, a_read, a_write, allows, is_allowed}
use Rattle.running_objects.specs.object_programs.Guard.{chain_limit}
use Rattle.running_objects.specs.gem_sound.Kernel.{class_class}
use Rattle.gem_language.specs.declared.found.Found.{Found}
use Rattle.gem_language.specs.LookUp.{Start}
use Rattle.look_up_cache.specs.Lasting.{Lasting, lasting_body, lasting_of, is_settled, Still}
use Rattle.look_up_cache.specs.Calm.{Calm, Begins, Writable}
use Rattle.look_up_cache.specs.Remembered.{Up, no_class, holds, last, above, IsNothing, Past, From, Finds}
use Rattle.look_up_cache.proofs.Calms.{Taken, taken}

-- ---- rights

rights_last : (body : Body) → option_and_then rights_of (lasting_body body) ≡ rights_of body
rights_last (Plain values) = refl
rights_last (Bytes bytes) = refl
rights_last (Dict pairs) = refl
rights_last (Class class) = refl
rights_last (Segment rights) = refl
rights_last (User user) = refl
rights_last (Counter counter) = refl
rights_last (Bag pairs) = refl
rights_last (RcDict pairs) = refl
rights_last (Queue queue) = refl

groups_last : (body : Body) → option_and_then groups_of (lasting_body body) ≡ groups_of body
groups_last (Plain values) = refl
groups_last (Bytes bytes) = refl
groups_last (Dict pairs) = refl
groups_last (Class class) = refl
groups_last (Segment rights) = refl
groups_last (User user) = refl
groups_last (Counter counter) = refl
groups_last (Bag pairs) = refl
groups_last (RcDict pairs) = refl
groups_last (Queue queue) = refl

-- the right on a body, by the rights that it gives itself
abbrev right_held : Option (Rights Text) → Right → ℕ → Right
right_held (Some rights) other user = right_on_segment rights user
right_held None other user = other

right_is : (objects : Objects) (user segment : ℕ) (body : Body)
    → right_on_body objects user segment body ≡ right_held (rights_of body) (right_in objects user segment) user
right_is objects user segment (Plain values) = refl
right_is objects user segment (Bytes bytes) = refl
right_is objects user segment (Dict pairs) = refl
right_is objects user segment (Class class) = refl
right_is objects user segment (Segment rights) = refl
right_is objects user segment (User held) = refl
right_is objects user segment (Counter counter) = refl
right_is objects user segment (Bag pairs) = refl
right_is objects user segment (RcDict pairs) = refl
right_is objects user segment (Queue queue) = refl

-- what lasts of one object and another is the same
module _ {X : Type 0} (f : Body → Option X) (lasts : (body : Body) → option_and_then f (lasting_body body) ≡ f body) where
  told_same : (one other : Contents) → lasting_of one ≡ lasting_of other → f one.body ≡ f other.body
  told_same one other is = sym (lasts one.body)
      ∙ (ap (λ (part : Lasting). option_and_then f part.body) is ∙ lasts other.body)

  told_stays : (found later : Option Contents)
      → ((object : Contents) → found ≡ Some object → option_map lasting_of later ≡ Some (lasting_of object)) → (x : X)
      → option_and_then (λ object. f object.body) found ≡ Some x → option_and_then (λ object. f object.body) later ≡ Some x
  told_stays None later keeps x is = absurd (none-some x is)
  told_stays (Some object) later keeps x is =
      let now : Taken later (lasting_of object) = taken later (lasting_of object) (keeps object refl) in
      ap (option_and_then (λ (object : Contents). f object.body)) now.there
      ∙ (told_same now.object object now.is ∙ is)

-- no right is enough for nothing
nothing_allowed : (access : Access) → allows access right.None ≡ true → ⊥
nothing_allowed a_read allowed = false≢true allowed
nothing_allowed a_write allowed = false≢true allowed

module _ (access : Access) where
  by_stays : (user : ℕ) (rights after : Option (Rights Text)) (groups later : Option (List Text))
      → ((r : Rights Text) → rights ≡ Some r → after ≡ Some r) → ((g : List Text) → groups ≡ Some g → later ≡ Some g)
      → allows access (right_by rights user groups) ≡ true → allows access (right_by after user later) ≡ true
  by_stays user None after groups later keeps_rights keeps_groups allowed = absurd (nothing_allowed access allowed)
  by_stays user (Some r) after None later keeps_rights keeps_groups allowed = absurd (nothing_allowed access allowed)
  by_stays user (Some r) after (Some g) later keeps_rights keeps_groups allowed =
      ap₂ (λ (rights : Option (Rights Text)) (groups : Option (List Text)). allows access (right_by rights user groups))
      (keeps_rights r refl) (keeps_groups g refl) ∙ allowed

  held_stays : (own : Option (Rights Text)) (right later : Right) (user : ℕ)
      → (allows access right ≡ true → allows access later ≡ true)
      → allows access (right_held own right user) ≡ true → allows access (right_held own later user) ≡ true
  held_stays None right later user keeps allowed = keeps allowed
  held_stays (Some rights) right later user keeps allowed = allowed

module _ (setting : Setting) (world later : World) (still : Still setting world later) where
  in_stays : (access : Access) (segment : ℕ)
      → allows access (right_in (shown_objects setting world) setting.user segment) ≡ true
      → allows access (right_in (shown_objects setting later) setting.user segment) ≡ true
  in_stays access segment allowed = by_stays access setting.user (rights_at (shown_objects setting world) segment)
      (rights_at (shown_objects setting later) segment) (groups_at (shown_objects setting world) setting.user)
      (groups_at (shown_objects setting later) setting.user)
      (told_stays rights_of rights_last (shown segment setting world) (shown segment setting later) (still.objects segment))
      (told_stays groups_of groups_last (shown setting.user setting world) (shown setting.user setting later)
      (still.objects setting.user)) allowed

  -- an object that may be read or written may be so later
  pub allowed_stays : (access : Access) (name : ℕ) (object : Contents) → shown name setting world ≡ Some object
      → is_allowed access name setting world ≡ true → is_allowed access name setting later ≡ true
  unfolding is_allowed
  allowed_stays access name object there allowed =
      let before : Objects = shown_objects setting world in
      let after : Objects = shown_objects setting later in
      let user : ℕ = setting.user in
      let now : Taken (shown name setting later) (lasting_of object) =
      taken (shown name setting later) (lasting_of object) (still.objects name object there) in
      let first : allows access (right_held (rights_of object.body) (right_in before user object.segment) user) ≡ true =
      sym (ap (allows access) (ap (right_on_object before user) there ∙ right_is before user object.segment object.body)) ∙ allowed in
      let second : allows access (right_held (rights_of object.body) (right_in after user object.segment) user) ≡ true =
      held_stays access (rights_of object.body) (right_in before user object.segment) (right_in after user object.segment) user
      (in_stays access object.segment) first in
      ap (allows access) (ap (right_on_object after user) now.there ∙ right_is after user now.object.segment now.object.body)
      ∙ (ap₂ (λ (own : Option (Rights Text)) (segment : ℕ). allows access (right_held own (right_in after user segment) user))
      (told_same rights_of rights_last now.object object now.is) (ap (λ (part : Lasting). part.segment) now.is) ∙ second)

  -- ---- touches

  made_stays : (name : ℕ) → is_made name setting world ≡ true → is_made name setting later ≡ true
  unfolding is_made
  made_stays name made =
      let low : ℕ = name_of setting setting.first in
      let high : ℕ = name_of setting world.next in
      let top : ℕ = name_of setting later.next in
      let both = and_parts (nat_le low name && nat_lt name high) (is_some (get world.changes name)) made in
      let drawn = and_parts (nat_le low name) (nat_lt name high) both.0 in
      and_from (nat_le low name && nat_lt name top) (is_some (get later.changes name))
      (and_from (nat_le low name) (nat_lt name top) drawn.0
      (lt-ltb name top (omega (arith, ltb-true name high drawn.1, still.next))))
      (still.changed name both.1)

  private_by : (made then shared : Bool) → (made ≡ true → then ≡ true) → cond made true shared ≡ true
      → cond then true shared ≡ true
  private_by true then shared keeps is = ap (λ (b : Bool). cond b true shared) (keeps refl)
  private_by false true shared keeps is = refl
  private_by false false shared keeps is = is

  private_stays : (name : ℕ) → is_private name setting world ≡ true → is_private name setting later ≡ true
  unfolding is_private
  private_stays name is = private_by (is_made name setting world) (is_made name setting later)
      (are_shared (objects_in setting.place name) (objects_in setting.view name)) (made_stays name) is

  pub settled_stays : (name : ℕ) → is_settled name setting world ≡ true → is_settled name setting later ≡ true
  unfolding is_settled
  settled_stays name is = elim (or_cases (is_private name setting world) (is_among name world.touched) is) [
    | inl own ↦ or_left (is_private name setting later) (is_among name later.touched) (private_stays name own)
    | inr among ↦ or_right (is_private name setting later) (is_among name later.touched) (still.touched name among)
  ]

  -- ---- what is remembered

  pub there_stays : (name : ℕ) (part : Lasting) → option_map lasting_of (shown name setting world) ≡ Some part
      → option_map lasting_of (shown name setting later) ≡ Some part
  there_stays name part is =
      let now : Taken (shown name setting world) part = taken (shown name setting world) part is in
      still.objects name now.object now.there ∙ ap (λ (p : Lasting). Some p) now.is

  pub calm_stays : (name : ℕ) (part : Lasting) → Calm name part setting world → Calm name part setting later
  calm_stays name part calm =
      let now : Taken (shown name setting world) part = taken (shown name setting world) part calm.there in
      record {
        there = there_stays name part calm.there;
        allowed = allowed_stays a_read name now.object now.there calm.allowed;
        own = settled_stays name calm.own;
        segment = settled_stays part.segment calm.segment;
        user = settled_stays setting.user calm.user;
      }

  pub writable_stays : (name : ℕ) (part : Lasting) → option_map lasting_of (shown name setting world) ≡ Some part
      → Writable name setting world → Writable name setting later
  writable_stays name part there writable =
      let now : Taken (shown name setting world) part = taken (shown name setting world) part there in
      record {
        allowed = allowed_stays a_write name now.object now.there writable.allowed;
        changed = still.changed name writable.changed;
      }

  pub begins_stay : (name : ℕ) (start : Start) → Begins name start setting world → Begins name start setting later
  begins_stay name start begins =
      record { part = begins.part; calm = calm_stays name begins.part begins.calm; at = begins.at }

  up_stays : (class_side : Bool) (selector : Text) (gone left : Option Found → Type 0)
      → ((found : Option Found) → gone found → left found) → (limit name : ℕ) (found : Option Found)
      → Up class_side selector gone setting world limit name found → Up class_side selector left setting later limit name found
  up_stays class_side selector gone left keeps _ _ _ (no_class more name found part calm none rest) =
      no_class more name found part (calm_stays name part calm) none (keeps found rest)
  up_stays class_side selector gone left keeps _ _ _ (holds more name found part class code calm is held same) =
      holds more name found part class code (calm_stays name part calm) is held same
  up_stays class_side selector gone left keeps _ _ _ (last more name found part class calm is lacks top rest) =
      last more name found part class (calm_stays name part calm) is lacks top (keeps found rest)
  up_stays class_side selector gone left keeps _ _ _ (above more name found part class superclass calm is lacks over rest) =
      above more name found part class superclass (calm_stays name part calm) is lacks over
      (up_stays class_side selector gone left keeps more superclass found rest)

  past_stays : (class_side : Bool) (selector : Text) (found : Option Found) → Past class_side selector setting world found
      → Past class_side selector setting later found
  past_stays false selector found none = none
  past_stays true selector found up = up_stays false selector IsNothing IsNothing (λ found none. none)
      (suc chain_limit) class_class found up

  from_stays : (class : Option ℕ) (class_side : Bool) (selector : Text) (found : Option Found)
      → From class class_side selector setting world found → From class class_side selector setting later found
  from_stays None class_side selector found gone = past_stays class_side selector found gone
  from_stays (Some class) class_side selector found up = up_stays class_side selector
      (Past class_side selector setting world) (Past class_side selector setting later) (past_stays class_side selector)
      (suc chain_limit) class found up

  pub finds_stay : (start : Start) (selector : Text) (found : Option Found) → Finds start selector found setting world
      → Finds start selector found setting later
  finds_stay start selector found finds =
      record { from = from_stays start.class start.class_side selector found finds.from }
