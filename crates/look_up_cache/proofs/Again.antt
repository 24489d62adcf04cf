-- How what is remembered is found again.
use Rattle.std.proofs.Common.{◌≡◌, ◌∙◌, ◌⊎◌, inl, inr, refl, sym, ap, subst, ℕ, Bool, true, false, List, Option, Some, None, IfSome, option_map, option_and_then}
use Rattle.std.proofs.lemmas.Bool.{false≢true}
use Rattle.std.proofs.lemmas.Option.{none-some, same_Some}
use Rattle.std.specs.Borrow.{Bor}
use Rattle.std.specs.Option.{option_copied}
use Rattle.gem_object.specs.declared.body.MethodCode.{MethodCode}
use Rattle.gem_object.specs.texts.Bytes.{Bytes as Text}
use Rattle.gem_object.specs.declared.value.Value.{Value}
use Rattle.gem_object.specs.declared.value.Value.TheVariants as value
use Rattle.running_objects.specs.gem_image.Image.{Contents}
use Rattle.gem_language.specs.declared.found.Found.{Found}
use Rattle.gem_language.specs.LookUp.{Start, start_of_object}
use Rattle.running_objects.specs.Seen.{Seen, object_at}
use Rattle.look_up_cache.specs.Lasting.{Lasting}
use Rattle.look_up_cache.specs.Calm.{Begins, plain_start, start_by}
use Rattle.look_up_cache.specs.Remembered.{Finds}
use Rattle.look_up_cache.specs.Table.{held_at, AllHeld}
use Rattle.look_up_cache.specs.Memory.{start_at, IsMet, IsFound, IsCoded, Where, BeginsFor, FindsFor, founds}
use Rattle.look_up_cache.specs.declared.memory.Beginning.{Beginning}
use Rattle.look_up_cache.specs.declared.memory.Receiver.{Receiver}
use Rattle.look_up_cache.specs.declared.memory.Entry.{Entry}
use Rattle.look_up_cache.proofs.Calms.{Taken, taken, start_lasts}
use Rattle.look_up_cache.proofs.Places.{found_held}

-- one thing more stands in a table
pub all_added : {X : Type 0} (P : X → Type 0) (old new : List (Option X)) (x : X)
    → ((place : ℕ) (y : X) → held_at new place ≡ Some y → (x ≡ y) ⊎ (held_at old place ≡ Some y)) → P x
    → AllHeld P old → AllHeld P new
all_added {X} P old new x adds here all at y is = elim (adds at y is) [
  | inl same ↦ subst P same here
  | inr before ↦ all at y before
]

pub where_true : (held : Bool) (P : Type 0) → held ≡ true → Where held P → P
where_true true P is holds = holds
where_true false P is holds = absurd (false≢true is)

-- ---- where a look-up is known to begin

pub plain_begins : (receiver : Value) (found : Option Beginning) → option_map start_at found ≡ plain_start receiver
    → (seen : Seen) → IfSome found (λ start. BeginsFor receiver (start_at start) seen)
plain_begins receiver None is seen = tt
plain_begins (value.Ref name) (Some start) is seen = absurd (none-some (start_at start) (sym is))
plain_begins receiver (Some start) is seen = sym is

pub begun_here : (name : ℕ) (receiver : Receiver) (start : Beginning) → receiver.name ≡ name → start ≡ receiver.start
    → (seen : Seen) → IsMet seen receiver → Begins name (start_at start) seen.setting seen.world
begun_here name receiver start same copied seen met =
    subst (λ (s : Beginning). Begins name (start_at s) seen.setting seen.world) (sym copied)
    (subst (λ (n : ℕ). Begins n (start_at receiver.start) seen.setting seen.world) same met.begins)

-- ---- what a look-up is known to find

module _ {T : Type 0} where
  pub place_known : (methods : List (Option (Entry T))) (at : ℕ) (entry : Entry T) (start : Start) (selector : Text)
      → held_at methods at ≡ Some entry → start_at entry.start ≡ start → entry.selector ≡ selector → (seen : Seen)
      → AllHeld (IsFound seen) methods
      → Finds start selector (held_at (founds methods) at) seen.setting seen.world
  place_known methods at entry start selector here same alike seen all =
      let found : entry.found ≡ held_at (founds methods) at =
      sym (found_held methods at ∙ ap (option_and_then (λ (e : Entry T). e.found)) here) in
      subst (λ (f : Option Found). Finds start selector f seen.setting seen.world) found
      (subst (λ (text : Text). Finds start text entry.found seen.setting seen.world) alike
      (subst (λ (s : Start). Finds s entry.selector entry.found seen.setting seen.world) same (all at entry here)))

  pub found_here : (methods : List (Option (Entry T))) (at : ℕ) (entry : Entry T) → held_at methods at ≡ Some entry
      → held_at (founds methods) at ≡ entry.found
  found_here methods at entry here = found_held methods at ∙ ap (option_and_then (λ (e : Entry T). e.found)) here

pub for_known : (found : List (Option Found)) (receiver : Value) (selector : Text) (start : Start) (seen : Seen)
    (placed : Option ℕ) → BeginsFor receiver start seen
    → IfSome placed (λ at. Finds start selector (held_at found at) seen.setting seen.world)
    → IfSome placed (λ at. FindsFor receiver selector (held_at found at) seen)
for_known found receiver selector start seen None begins finds = tt
for_known found receiver selector start seen (Some at) begins finds =
    record { start = start; begins = begins; finds = finds }

-- ---- where a look-up began, by what is seen of the receiver

pub begun_now : (name : ℕ) (start : Start) (seen : Seen) (object : Contents) → object_at name seen ≡ Some object
    → Begins name start seen.setting seen.world → start_of_object name object.class object.body ≡ start
begun_now name start seen object there begins =
    let now : Taken (object_at name seen) begins.part = taken (object_at name seen) begins.part begins.calm.there in
    let same : now.object ≡ object = same_Some now.object object (sym now.there ∙ there) in
    ap (λ (held : Contents). start_of_object name held.class held.body) (sym same)
    ∙ (sym (start_lasts name now.object.class now.object.body)
    ∙ (ap (λ (part : Lasting). start_by name part.class part.body) now.is ∙ begins.at))

pub begun_there : (name : ℕ) (start : Start) (seen : Seen) → object_at name seen ≡ None
    → Begins name start seen.setting seen.world → ⊥
begun_there name start seen none begins =
    let now : Taken (object_at name seen) begins.part = taken (object_at name seen) begins.part begins.calm.there in
    none-some now.object (sym none ∙ now.there)

pub begun_plain : (receiver : Value) (found : Option Beginning) → option_map start_at found ≡ plain_start receiver
    → (start : Start) (seen : Seen) → BeginsFor receiver start seen
    → ((n : ℕ) → receiver ≡ value.Ref n → ⊥) → option_map start_at found ≡ Some start
begun_plain (value.Ref n) found is start seen begins apart = absurd (apart n refl)
begun_plain receiver found is start seen begins apart = is ∙ begins

-- the code that is kept beside what was found
pub code_known : {T : Type 0} (is_of : T → MethodCode → Type 0) (methods : List (Option (Entry T))) (at : ℕ) (entry : Entry T)
    (found : List (Option Found)) (result : Option (Bor T)) → founds methods ≡ found → Some entry ≡ held_at methods at
    → option_copied result ≡ entry.code → AllHeld (IsCoded is_of) methods
    → IfSome result (λ code. IfSome (held_at found at) (λ f. is_of code.now f.code))
code_known is_of methods at entry found None shown here is all = tt
code_known {T} is_of methods at entry found (Some code) shown here is all =
    let one : IfSome entry.found (λ f. is_of code.now f.code) =
    subst (λ (held : Option T). IfSome held (λ c. IfSome entry.found (λ f. is_of c f.code))) (sym is) (all at entry (sym here)) in
    let same : entry.found ≡ held_at found at =
    sym (found_here methods at entry (sym here)) ∙ ap (λ (f : List (Option Found)). held_at f at) shown in
    subst (λ (held : Option Found). IfSome held (λ f. is_of code.now f.code)) same one

pub as_founds : {O F : Type 0} (objects : O) (found : F) (value : O × F) → (objects, found) ≡ value → found ≡ value.1
as_founds {O} {F} objects found value is = ap (λ (v : O × F). v.1) is
