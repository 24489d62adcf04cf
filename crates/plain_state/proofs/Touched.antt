-- What holds of touches and accesses of a state.
use Rattle.std.proofs.Common.{◌≡◌, refl, sym, ap, ◌∙◌, subst, ℕ, Bool, true, false, cond, nat_eq, List, Option, Some, None, Result, Ok, Err, true≢false, is_some, option_map}
use Rattle.std.proofs.lemmas.Bool.{eqb-true}
use Rattle.std.specs.Option.{option_or}
use Rattle.std.specs.FinMap.{FinMap, get, insert}
use Rattle.std.specs.Ordering.{nat_cmp}
use Rattle.gem_object.specs.seg_rights.declared.right.Right.TheVariants as right
use Rattle.gem_object.specs.Kinds.{is_shared}
use Rattle.gem_update.specs.declared.update.Update.{Update}
use Rattle.gem_image.specs.Image.{Contents}
use Rattle.gem_image.specs.Rights.{right_on_object}
use Rattle.gem_world.specs.World.{Setting, World, shown, shown_objects, touch}
use Rattle.gem_world.specs.Access.{Access, a_read, a_write, allows, is_allowed, touches_of, with_touches, after_allowed}
use Rattle.gem_world.specs.Changes.{put}
use Rattle.object_programs.specs.Budget.{Budget}
use Rattle.object_programs.specs.Fixed.{Fixed, fixed_of, fixed_by}
use Rattle.object_programs.specs.Laws.{AreSound, answered}
use Rattle.object_programs.specs.Atom.{Atom, Ask, Own, Kind}
use Rattle.object_programs.specs.declared.fault.Fault.TheVariants as fault
use Rattle.object_programs.proofs.Worlds.{put_shown, shown_asked}
use Rattle.object_programs.proofs.Exact.{read_done, write_done, write_shared_done, read_refused, write_refused, kind_done, kind_nothing}
use Rattle.running_objects.specs.Seen.{Seen, object_at, Keeps}
use Rattle.running_objects.specs.Acted.{Acted, Reached, Owned, Known}
use Rattle.running_objects.specs.declared.stop.Stop.{Stop}
use Rattle.running_objects.specs.declared.stop.Stop.TheVariants as stop
use Rattle.running_objects.proofs.Running.{keeps_same, acted_says, acted_refuses}
use Rattle.gem_world.specs.World.{before_changes}
use Rattle.running_objects.proofs.Puts.{insert_same}
use Rattle.plain_state.specs.Parts.{in_world, touched, missed, asked, held, SameObjects}

-- Sound objects are sound with other touches and updates.
sound_apart : (setting : Setting) (world : World) (updates : List (ℕ × Update)) (names : List ℕ)
    → AreSound setting world
    → AreSound setting (record { next = world.next; changes = world.changes; updates = updates; touched = names })
sound_apart setting world updates names sound = record {
  serial_bound = sound.serial_bound;
  some_name = sound.some_name;
  next_bound = sound.next_bound;
  free = sound.free;
  named = sound.named;
  each = sound.each;
  kernel = sound.kernel;
  user = sound.user;
}

-- Where nothing differs but touches and updates, what every call keeps is kept.
pub keeps_objects : (x y : Seen) → y.setting ≡ x.setting → y.world.next ≡ x.world.next
    → y.world.changes ≡ x.world.changes → y.budget ≡ x.budget → Keeps x y
keeps_objects x y setting next changes budget =
    let with_all : Setting → ℕ → FinMap nat_cmp Contents → Budget → Seen = λ s n c b. record {
      setting = s;
      world = record { next = n; changes = c; updates = y.world.updates; touched = y.world.touched };
      budget = b;
    } in
    let at_first : Keeps x (with_all x.setting x.world.next x.world.changes x.budget) = record {
      setting = refl;
      falls = record {
        units = (keeps_same x).falls.units;
        slots = (keeps_same x).falls.slots;
        next = (keeps_same x).falls.next;
        drawn = (keeps_same x).falls.drawn;
      };
      sound = sound_apart x.setting x.world y.world.updates y.world.touched;
    } in
    let P1 : Setting → Type 0 = λ s. Keeps x (with_all s x.world.next x.world.changes x.budget) in
    let P2 : ℕ → Type 0 = λ n. Keeps x (with_all y.setting n x.world.changes x.budget) in
    let P3 : FinMap nat_cmp Contents → Type 0 = λ c. Keeps x (with_all y.setting y.world.next c x.budget) in
    let P4 : Budget → Type 0 = λ b. Keeps x (with_all y.setting y.world.next y.world.changes b) in
    subst P4 (sym budget) (subst P3 (sym changes) (subst P2 (sym next) (subst P1 (sym setting) at_first)))

pub keeps_touched : (x y : Seen) → SameObjects x y → Keeps x y
keeps_touched x y same = keeps_objects x y same.setting same.next same.changes same.budget

-- the touches of one name leave the objects, and so do those of an access
pub touched_same : (x : Seen) (name : ℕ) → SameObjects x (touched name x)
unfolding touch
touched_same x name = record { setting = refl; next = refl; changes = refl; updates = refl; budget = refl }

pub same_along : {x y z : Seen} → SameObjects x y → SameObjects y z → SameObjects x z
same_along first second = record {
  setting = second.setting ∙ first.setting;
  next = second.next ∙ first.next;
  changes = second.changes ∙ first.changes;
  updates = second.updates ∙ first.updates;
  budget = second.budget ∙ first.budget;
}

pub same_by : {x y z : Seen} → SameObjects x y → z ≡ y → SameObjects x z
same_by {x} {y} {z} same is = let P : Seen → Type 0 = λ s. SameObjects x s in subst P (sym is) same

asked_same_by : (x : Seen) (name : ℕ) (found : Option Contents) → SameObjects x (in_world (touches_of name found x.setting) x)
unfolding touch
asked_same_by x name None = record { setting = refl; next = refl; changes = refl; updates = refl; budget = refl }
asked_same_by x name (Some object) = record { setting = refl; next = refl; changes = refl; updates = refl; budget = refl }

pub asked_same : (x : Seen) (name : ℕ) → SameObjects x (asked name x)
unfolding with_touches
asked_same x name = asked_same_by x name (shown name x.setting x.world)

module _ (x : Seen) (name : ℕ) where
  nothing_allowed : (access : Access) → allows access right.None ≡ true → ⊥
  nothing_allowed a_read allowed = true≢false (sym allowed)
  nothing_allowed a_write allowed = true≢false (sym allowed)

  there_by : (access : Access) (found : Option Contents)
      → allows access (right_on_object (shown_objects x.setting x.world) x.setting.user found) ≡ true
      → (object : Contents) × (found ≡ Some object)
  there_by access None allowed = absurd (nothing_allowed access allowed)
  there_by access (Some object) allowed = (object, refl)

  -- what an access is allowed to is there
  pub there_allowed : (access : Access) → is_allowed access name x.setting x.world ≡ true
      → (object : Contents) × (object_at name x ≡ Some object)
  unfolding is_allowed
  there_allowed access allowed = there_by access (object_at name x) allowed

  pub read_yes : is_allowed a_read name x.setting x.world ≡ true → Reached a_read name x (asked name x)
  read_yes allowed =
      let found = there_allowed a_read allowed in
      record {
        object = found.0;
        there = shown_asked x.setting x.setting name name x.world ∙ found.1;
        acted = acted_says (Ask a_read name) x (asked name x) found.0 refl
            (read_done name x.setting x.world x.budget found.0 allowed found.1);
        same = λ other. shown_asked x.setting x.setting name other x.world;
      }

  pub read_no : is_allowed a_read name x.setting x.world ≡ false
      → Acted (Ask a_read name) x (Err (stop.Fails (fault.NoReadRight name))) (asked name x)
  read_no refused = acted_refuses (Ask a_read name) x (asked name x) (fault.NoReadRight name) refl
      (read_refused name x.setting x.world x.budget refused)

  pub write_no : is_allowed a_write name x.setting x.world ≡ false
      → Acted (Ask a_write name) x (Err (stop.Fails (fault.NoWriteRight name))) (asked name x)
  write_no refused = acted_refuses (Ask a_write name) x (asked name x) (fault.NoWriteRight name) refl
      (write_refused name x.setting x.world x.budget refused)

  -- what a write puts among the written ones is seen as before
  kept_shown : (object : Contents) (world : World) (other : ℕ) → shown name x.setting world ≡ Some object
      → shown other x.setting (put name object world) ≡ shown other x.setting world
  kept_shown object world other there = put_shown x.setting name object world other ∙ by (nat_eq other name) refl
    where
      by : (b : Bool) → nat_eq other name ≡ b → cond b (Some object) (shown other x.setting world) ≡ shown other x.setting world
      by true same = sym (ap (λ (n : ℕ). shown n x.setting world) (eqb-true other name same) ∙ there)
      by false apart = refl

  write_by : (object : Contents) → is_allowed a_write name x.setting x.world ≡ true
      → object_at name x ≡ Some object → (shared : Bool) → is_shared object.body ≡ shared
      → Reached a_write name x (in_world (λ world. cond shared world (put name object world)) (asked name x))
  write_by object allowed there true shared = record {
    object = object;
    there = shown_asked x.setting x.setting name name x.world ∙ there;
    acted = acted_says (Ask a_write name) x (asked name x) object refl
        (write_shared_done name x.setting x.world x.budget object allowed there shared);
    same = λ other. shown_asked x.setting x.setting name other x.world;
  }
  write_by object allowed there false ordinary =
      let here : shown name x.setting (with_touches name x.setting x.world) ≡ Some object =
      shown_asked x.setting x.setting name name x.world ∙ there in
      let stays : (other : ℕ) → shown other x.setting (put name object (with_touches name x.setting x.world))
      ≡ shown other x.setting x.world =
      λ other. kept_shown object (with_touches name x.setting x.world) other here
      ∙ shown_asked x.setting x.setting name other x.world in
      record {
        object = object;
        there = stays name ∙ there;
        acted = acted_says (Ask a_write name) x (in_world (put name object) (asked name x)) object refl
            (write_done name x.setting x.world x.budget object allowed there ordinary);
        same = stays;
      }

  pub write_yes : is_allowed a_write name x.setting x.world ≡ true → Reached a_write name x (held name (asked name x))
  write_yes allowed =
      let found = there_allowed a_write allowed in
      let here : object_at name (asked name x) ≡ Some found.0 =
      shown_asked x.setting x.setting name name x.world ∙ found.1 in
      let P : Option Contents → Type 0 = λ there.
      Reached a_write name x (in_world (after_allowed a_write name there) (asked name x)) in
      subst P (sym here) (write_by found.0 allowed found.1 (is_shared found.0.body) refl)

-- how a state that is told by an equation was reached
pub reached_by : {access : Access} {name : ℕ} {x y z : Seen} → Reached access name x y → z ≡ y → Reached access name x z
reached_by {access} {name} {x} {y} {z} reached is = let P : Seen → Type 0 = λ s. Reached access name x s in subst P (sym is) reached

pub acted_by : {A : Type 0} {one : Atom A} {x y z : Seen} {result : Result A Stop}
    → Acted one x result y → z ≡ y → Acted one x result z
acted_by {A} {one} {x} {y} {z} {result} acted is = let P : Seen → Type 0 = λ s. Acted one x result s in subst P (sym is) acted

-- the user's own profile is looked at
pub owned : (x : Seen) → Owned x (Ok tt) (touched x.setting.user x)
unfolding touch
owned x = acted_says Own x (touched x.setting.user x) (object_at x.setting.user x) refl refl

pub owned_by : {x y : Seen} → y ≡ touched x.setting.user x → Owned x (Ok tt) y
owned_by {x} {y} is = let P : Seen → Type 0 = λ s. Owned x (Ok tt) s in subst P (sym is) (owned x)

-- a fixed part is asked for
known_by : (x : Seen) (name : ℕ) (found : Option Contents) → object_at name x ≡ found → is_some found ≡ true
    → Known name x (Ok tt) x
known_by x name None there some = absurd (true≢false (sym some))
known_by x name (Some object) there some = acted_says (Kind name) x x (fixed_by x.setting x.world name) refl
    (kind_done name x.setting x.world x.budget object there
    ∙ ap (λ (answer : Option Fixed). answered answer x.world x.budget)
    (sym (ap (option_map fixed_of) there)))

pub known_there : (x : Seen) (name : ℕ) → is_some (object_at name x) ≡ true → Known name x (Ok tt) x
known_there x name some = known_by x name (object_at name x) refl some

missing_by : (x : Seen) (name : ℕ) (found : Option Contents) → object_at name x ≡ found → is_some found ≡ false
    → Known name x (Ok tt) (missed name x)
missing_by x name None there none = acted_says (Kind name) x (missed name x) (fixed_by x.setting x.world name) refl
    (kind_nothing name x.setting x.world x.budget there
    ∙ ap (λ (answer : Option Fixed). answered answer (missed name x).world x.budget)
    (sym (ap (option_map fixed_of) there)))
missing_by x name (Some object) there none = absurd (true≢false none)

pub known_missing : {x y : Seen} {name : ℕ} → is_some (object_at name x) ≡ false → y ≡ missed name x
    → Known name x (Ok tt) y
known_missing {x} {y} {name} none is =
    let P : Seen → Type 0 = λ s. Known name x (Ok tt) s in
    subst P (sym is) (missing_by x name (object_at name x) refl none)

-- a write of what stands among the changes leaves them
held_as : (x : Seen) (name : ℕ) (found : Option Contents) → get x.world.changes name ≡ found → is_some found ≡ true
    → held name x ≡ x
unfolding put
held_as x name None there some = absurd (true≢false (sym some))
held_as x name (Some object) there some =
    let seen : object_at name x ≡ Some object = ap (λ (found : Option Contents). option_or found (before_changes name x.setting)) there in
    ap (λ (found : Option Contents). in_world (after_allowed a_write name found) x) seen ∙ by (is_shared object.body)
  where
    by : (b : Bool) → in_world (λ world. cond b world (put name object world)) x ≡ x
    by true = refl
    by false = ap (λ (changes : FinMap nat_cmp Contents). record x { world = record x.world { changes = changes } })
        (insert_same x.world.changes name object there)

pub held_there : (x : Seen) (name : ℕ) → is_some (get x.world.changes name) ≡ true → x ≡ held name x
held_there x name some = sym (held_as x name (get x.world.changes name) refl some)

-- a write of another ordinary object puts it among the changes
held_as_new : (x : Seen) (name : ℕ) (object : Contents) (found : Option Contents) → get x.world.changes name ≡ found
    → is_some found ≡ false → before_changes name x.setting ≡ Some object → is_shared object.body ≡ false
    → held name x ≡ record x { world = record x.world { changes = insert x.world.changes name object } }
unfolding put
held_as_new x name object (Some other) there none before ordinary = absurd (true≢false none)
held_as_new x name object None there none before ordinary =
    let seen : object_at name x ≡ Some object =
    ap (λ (found : Option Contents). option_or found (before_changes name x.setting)) there ∙ before in
    ap (λ (found : Option Contents). in_world (after_allowed a_write name found) x) seen
    ∙ ap (λ (b : Bool). in_world (λ world. cond b world (put name object world)) x) ordinary

pub held_new : (x : Seen) (name : ℕ) (object : Contents) → is_some (get x.world.changes name) ≡ false
    → before_changes name x.setting ≡ Some object → is_shared object.body ≡ false
    → record x { world = record x.world { changes = insert x.world.changes name object } } ≡ held name x
held_new x name object none before ordinary = sym (held_as_new x name object (get x.world.changes name) refl none before ordinary)

pub held_by : (x : Seen) (name number : ℕ) (object copy : Contents) (changes : FinMap nat_cmp Contents)
    → changes ≡ insert x.world.changes number copy → number ≡ name → copy ≡ object
    → is_some (get x.world.changes name) ≡ false → before_changes name x.setting ≡ Some object
    → is_shared object.body ≡ false
    → record x { world = record x.world { changes = changes } } ≡ held name x
held_by x name number object copy changes is at same none before ordinary =
    ap (λ (changes : FinMap nat_cmp Contents). record x { world = record x.world { changes = changes } })
    (is ∙ ap (λ (n : ℕ). insert x.world.changes n copy) at
    ∙ ap (insert x.world.changes name) same)
    ∙ held_new x name object none before ordinary
