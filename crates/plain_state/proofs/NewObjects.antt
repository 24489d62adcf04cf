-- Objects that are made: their checks, what is left where they fit, and where they don't.
use Rattle.std.proofs.Common.{◌≡◌, ◌∙◌, refl, sym, ap, ap₂, subst, ℕ, ◌+◌, ◌-◌, ◌*◌, ◌^◌, ◌≤◌, Bool, true, false, cond, nat_le, List, [], ◌∷◌, length, map, Result, Ok, Err, arith}
use Rattle.std.specs.List.{list_all}
use Rattle.std.specs.FinMap.{insert}
use Rattle.std.proofs.lemmas.Bool.{leb-true, le-leb}
use Rattle.std.proofs.lemmas.List.{length-map}
use Rattle.gem_object.specs.declared.object.Object.{Object}
use Rattle.gem_image.specs.Image.{Contents, contents_of}
use Rattle.gem_world.specs.World.{Setting, World, name_of, next_name}
use Rattle.gem_world.specs.Changes.{make}
use Rattle.object_programs.specs.Budget.{is_within_limits}
use Rattle.object_programs.specs.Guard.{may_make, all_fit}
use Rattle.object_programs.specs.Fixed.{fixed_by}
use Rattle.object_programs.specs.Laws.{answered}
use Rattle.object_programs.specs.Atom.{Make, MakeCheck, too_large, no_name, no_space, no_fault, make_check, objects_cost, with_new, made_where, made_by, refused, done, Done}
use Rattle.object_programs.specs.declared.fault.Fault.{Fault}
use Rattle.object_programs.specs.declared.fault.Fault.TheVariants as fault
use Rattle.object_programs.specs.declared.limits.TheConstants.{COUNTER_LIMIT}
use Rattle.running_objects.specs.Seen.{Seen, IsSoundState}
use Rattle.running_objects.specs.Acted.{Made}
use Rattle.running_objects.specs.declared.stop.Stop.{Stop}
use Rattle.running_objects.specs.declared.stop.Stop.TheVariants as stop
use Rattle.object_guard.specs.Parts.{with_objects}
use Rattle.running_objects.proofs.Running.{acted_says, acted_refuses, acted_nothing}
use Rattle.plain_state.specs.Parts.{SameObjects}
use Rattle.plain_state.specs.Puts.{lacked, check_result, with_all, made}
use Rattle.plain_state.proofs.Touched.{keeps_touched}

-- ---- the checks

passed : (within few little : Bool)
    → check_result (cond within (cond few (cond little no_fault no_space) no_name) too_large) ≡ Ok tt
    → (few ≡ true) × (little ≡ true)
passed true true true is = (refl, refl)
passed true true false is = cc
passed true false little is = cc
passed false few little is = cc

module _ (objects : List Object) (x : Seen) where
  abbrev contents : List Contents
  contents = map contents_of objects

  abbrev pub Passes : Type 0
  Passes = check_result (make_check contents x.world x.budget) ≡ Ok tt

  both : Passes → (nat_le (x.world.next + length contents) COUNTER_LIMIT ≡ true)
      × (nat_le (objects_cost contents) x.budget.slots ≡ true)
  both passes = passed (list_all is_within_limits contents) (nat_le (x.world.next + length contents) COUNTER_LIMIT)
      (nat_le (objects_cost contents) x.budget.slots) passes

  -- what is within the limits, and has names and space, passes the checks
  pub passes_by : list_all is_within_limits contents ≡ true → x.world.next + length objects ≤ COUNTER_LIMIT
      → objects_cost contents ≤ x.budget.slots → Passes
  passes_by within few little =
      let some : nat_le (x.world.next + length contents) COUNTER_LIMIT ≡ true =
      le-leb (x.world.next + length contents) COUNTER_LIMIT (omega (arith, few, length-map objects contents_of)) in
      rw (within, some, le-leb (objects_cost contents) x.budget.slots little) refl

  -- what passes the checks has names and space
  pub names_left : Passes → x.world.next + length objects ≤ COUNTER_LIMIT
  names_left passes =
      let few = leb-true (x.world.next + length contents) COUNTER_LIMIT (both passes).0 in
      omega (arith, few, length-map objects contents_of)

  pub space_left : Passes → objects_cost contents ≤ x.budget.slots
  space_left passes = leb-true (objects_cost contents) x.budget.slots (both passes).1

  abbrev after_check : MakeCheck → Done ℕ
  after_check found = made_by found contents x.setting x.world x.budget

  by_check : (objects_at : ℕ → List Contents) → objects_at (next_name x.setting x.world) ≡ contents
      → (found : MakeCheck) → make_check contents x.world x.budget ≡ found
      → done (Make objects_at) x.setting x.world x.budget ≡ after_check found
  by_check objects_at is found checked =
      ap (λ (some : List Contents). made_by (make_check some x.world x.budget) some x.setting x.world x.budget) is
      ∙ ap after_check checked

  refuses_by : (one : Fault) (found : MakeCheck) → make_check contents x.world x.budget ≡ found
      → after_check found ≡ refused one x.world x.budget → Made objects x (Err (stop.Fails one)) x
  refuses_by one found checked is objects_at at =
      acted_refuses (Make objects_at) x x one refl (by_check objects_at at found checked ∙ is)

  failed : (one : Fault) (found : MakeCheck) → make_check contents x.world x.budget ≡ found
      → check_result found ≡ Err one → Made objects x (Err (stop.Fails one)) x
  failed one too_large checked is = refuses_by one too_large checked
      (ap (λ (some : Fault). refused some x.world x.budget) (let same : fault.ObjectTooLarge ≡ one = cc in same))
  failed one no_name checked is = refuses_by one no_name checked
      (ap (λ (some : Fault). refused some x.world x.budget) (let same : fault.NamesUsedUp ≡ one = cc in same))
  failed one no_space checked is = refuses_by one no_space checked
      (ap (λ (some : Fault). refused some x.world x.budget) (let same : fault.Space ≡ one = cc in same))
  failed one no_fault checked is = cc

  -- one check fails
  pub make_failed : (one : Fault) → check_result (make_check contents x.world x.budget) ≡ Err one
      → Made objects x (Err (stop.Fails one)) x
  make_failed one is = failed one (make_check contents x.world x.budget) refl is

  clear : (found : MakeCheck) → check_result found ≡ Ok tt → found ≡ no_fault
  clear too_large is = cc
  clear no_name is = cc
  clear no_space is = cc
  clear no_fault is = refl

  by_guard : Passes → (objects_at : ℕ → List Contents) → objects_at (next_name x.setting x.world) ≡ contents
      → (may : Bool) → may_make contents x.setting x.world ≡ may
      → done (Make objects_at) x.setting x.world x.budget ≡ made_where may contents x.setting x.world x.budget
  by_guard passes objects_at is may allowed =
      by_check objects_at is no_fault (clear (make_check contents x.world x.budget) passes)
      ∙ ap (λ b. made_where b contents x.setting x.world x.budget) allowed

-- ---- the world after objects are made

new_world : (objects : List Object) (setting : Setting) (world : World)
    → with_new (map contents_of objects) setting world ≡ record world {
      next = world.next + length objects;
      changes = with_all (name_of setting world.next) objects world.changes;
    }
unfolding make
new_world [] setting world =
    let same : world.next ≡ world.next + 0 = omega arith in
    ap (λ (n : ℕ). record world { next = n }) same
new_world (object ∷ rest) setting world =
    let count : (world.next + 1) + length rest ≡ world.next + length (object ∷ rest) = omega arith in
    let name : name_of setting (world.next + 1) ≡ name_of setting world.next + 1 = omega arith in
    new_world rest setting (make (contents_of object) setting world)
    ∙ ap₂ (λ (next first : ℕ). record world {
      next = next;
      changes = with_all first rest (insert world.changes (name_of setting world.next) (contents_of object));
    }) count name

module _ (objects : List Object) (x : Seen) (passes : Passes objects x) where
  -- they fit
  pub make_done : (name : ℕ) → name ≡ next_name x.setting x.world
      → may_make (map contents_of objects) x.setting x.world ≡ true
      → Made objects x (Ok name) (made objects x)
  make_done name is may objects_at at =
      acted_says (Make objects_at) x (made objects x) name refl
      (by_guard objects x passes objects_at at true may
      ∙ ap₂ (λ (answer : ℕ) (world : World). answered answer world
      (record x.budget { slots = x.budget.slots - objects_cost (map contents_of objects) }))
      (sym is) (new_world objects x.setting x.world))

  -- one of them doesn't
  pub make_lacks : (name : ℕ) → name ≡ next_name x.setting x.world
      → may_make (map contents_of objects) x.setting x.world ≡ false
      → Made objects x (Err (stop.Fails fault.ObjectTooLarge)) (lacked name objects x)
  make_lacks name is may objects_at at =
      acted_refuses (Make objects_at) x (lacked name objects x) fault.ObjectTooLarge refl
      (by_guard objects x passes objects_at at false may
      ∙ ap (λ (n : ℕ). refused fault.ObjectTooLarge (lacked n objects x).world x.budget) (sym is))

-- the guard's answer is that of these names and objects
pub may_by : (x : Seen) (objects given : List Object) (name : ℕ) (may : Bool) → given ≡ objects
    → name ≡ next_name x.setting x.world
    → may ≡ all_fit (with_objects name given (fixed_by x.setting x.world)) name (map contents_of given)
    → may_make (map contents_of objects) x.setting x.world ≡ may
unfolding may_make
may_by x objects given name may same at is =
    sym (is ∙ ap₂ (λ (some : List Object) (n : ℕ). all_fit (with_objects n some (fixed_by x.setting x.world)) n (map contents_of some)) same at)

pub made_by_same : {x y z : Seen} (objects : List Object) (result : Result ℕ Stop) → Made objects x result y → z ≡ y
    → Made objects x result z
made_by_same {x} {y} {z} objects result was is = let P : Seen → Type 0 = λ s. Made objects x result s in subst P (sym is) was

-- a make that leaves but other touches
pub make_nothing : {x y : Seen} (objects : List Object) → SameObjects x y → Made objects x (Err stop.NoMemory) y
make_nothing {x} {y} objects same objects_at at = acted_nothing (Make objects_at) x y (keeps_touched x y same)

-- ---- names

-- the number of the name that is drawn next, which is too great only behind the last name of all
pub next_number : (x : Seen) → IsSoundState x → x.setting.serial * 2 ^ 24 + x.world.next ≤ 2 ^ 48
next_number x sound = omega (arith, sound.serial_bound, sound.next_bound)
