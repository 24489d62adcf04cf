-- What is known remains known.
use Rattle.std.proofs.Common.{◌≡◌, ◌∙◌, refl, sym, ap, subst, ℕ, Bool, true, false, ◌&&◌, List, Option, Some, None, is_some, Result, Ok, Err, is_ok, codes}
use Rattle.std.specs.Prelude.{OnOk, OnErr}
use Rattle.std.proofs.lemmas.Bool.{false≢true, and_parts}
use Rattle.gem_object.specs.texts.Bytes.{Bytes as Text}
use Rattle.gem_object.specs.declared.value.Value.{Value}
use Rattle.gem_object.specs.declared.body.MethodCode.{MethodCode}
use Rattle.gem_object.specs.declared.body.Body.{Body}
use Rattle.gem_object.specs.declared.object.Object.{Object}
use Rattle.gem_update.specs.declared.update.Update.{Update}
use Rattle.running_objects.specs.gem_image.Image.{Contents}
use Rattle.running_objects.specs.gem_world.World.{Setting}
use Rattle.running_objects.specs.gem_world.Access.{Access}
use Rattle.running_objects.specs.object_programs.Atom.{Put, Note, Names, Tick, Room, Show}
use Rattle.running_objects.specs.Seen.{Seen, object_at, IsSoundState, with_whole_budget}
use Rattle.running_objects.specs.Acted.{Acted, Accessed, Owned, Known, Edited, EditedWithin, Made}
use Rattle.running_objects.specs.declared.stop.Stop.{Stop}
use Rattle.running_objects.specs.object_programs.Guard.{chain_limit}
use Rattle.gem_language.specs.LookUp.{Start}
use Rattle.prim_parts.specs.Does.{IsThere}
use Rattle.prim_parts.specs.Edits.{Replaces}
use Rattle.prim_parts.proofs.Replaced.{replaced_within}
use Rattle.look_up_cache.specs.Lasting.{lasting_body}
use Rattle.look_up_cache.specs.Calm.{Begins, Writable}
use Rattle.look_up_cache.specs.Remembered.{Finds}
use Rattle.look_up_cache.specs.Remains.{Remains}
use Rattle.look_up_cache.specs.Table.{AllHeld}
use Rattle.look_up_cache.specs.Memory.{start_at, IsMet, IsFound, IsPlaced, IsCounted, Holds, Where, IsKnown}
use Rattle.look_up_cache.specs.Answering.{FindsPrimitive}
use Rattle.look_up_cache.specs.Operators.{operator_selector, operator_number, integer_start, IsAnswered}
use Rattle.look_up_cache.specs.declared.operator.IntegerOperator.{IntegerOperator}
use Rattle.look_up_cache.specs.declared.memory.Receiver.{Receiver}
use Rattle.look_up_cache.specs.declared.memory.Entry.{Entry}
use Rattle.look_up_cache.specs.declared.memory.Variable.{Variable}
use Rattle.look_up_cache.specs.declared.memory.Count.{Count}
use Rattle.look_up_cache.specs.declared.memory.Memory.{Memory}
use Rattle.look_up_cache.specs.Variables.{Stands}
use Rattle.look_up_cache.specs.Counted.{Counted}
use Rattle.look_up_cache.proofs.Names.{stands_stays}
use Rattle.look_up_cache.proofs.Naming.{counted_stays}
use Rattle.look_up_cache.proofs.Stays.{writable_stays, begins_stay, finds_stay}
use Rattle.look_up_cache.proofs.Replaced.{replace_remains}
use Rattle.look_up_cache.proofs.Atoms.{unit_remains, room_remains, names_remain, show_remains, access_remains, own_remains, known_remains, put_remains, edit_remains, note_remains, made_remains}

pub where_still : (held : Bool) (P Q : Type 0) → (P → Q) → Where held P → Where held Q
where_still true P Q keeps holds = keeps holds
where_still false P Q keeps holds = tt

module _ (before after : Seen) (remains : Remains before after) where
  begun_remains : (receiver : Receiver) → Begins receiver.name (start_at receiver.start) before.setting before.world
      → Begins receiver.name (start_at receiver.start) after.setting after.world
  begun_remains receiver begun = subst (λ (setting : Setting).
      Begins receiver.name (start_at receiver.start) setting after.world) (sym remains.setting)
      (begins_stay before.setting before.world after.world remains.still receiver.name (start_at receiver.start) begun)

  writable_remains : (name : ℕ) (start : Start) → Begins name start before.setting before.world
      → Writable name before.setting before.world → Writable name after.setting after.world
  writable_remains name start begins writable = subst (λ (setting : Setting). Writable name setting after.world)
      (sym remains.setting)
      (writable_stays before.setting before.world after.world remains.still name begins.part begins.calm.there writable)

  primitive_remains : (start : Start) (selector : Text) (number : ℕ)
      → FindsPrimitive start selector number before.setting before.world
      → FindsPrimitive start selector number after.setting after.world
  primitive_remains start selector number finds = record {
    found = finds.found;
    finds = subst (λ (setting : Setting). Finds start selector (Some finds.found) setting after.world)
        (sym remains.setting) (finds_stay before.setting before.world after.world remains.still start selector
        (Some finds.found) finds.finds);
    code = finds.code;
  }

  flag_remains : (flag : Bool) (start : Start) (selector : Text) (number : ℕ)
      → Where flag (FindsPrimitive start selector number before.setting before.world)
      → Where flag (FindsPrimitive start selector number after.setting after.world)
  flag_remains flag start selector number = where_still flag
      (FindsPrimitive start selector number before.setting before.world)
      (FindsPrimitive start selector number after.setting after.world) (primitive_remains start selector number)

  met_remains : (receiver : Receiver) → IsMet before receiver → IsMet after receiver
  met_remains receiver met = record {
    begins = begun_remains receiver met.begins;
    writable = where_still receiver.written (Writable receiver.name before.setting before.world)
        (Writable receiver.name after.setting after.world)
        (writable_remains receiver.name (start_at receiver.start) met.begins) met.writable;
    reads = flag_remains receiver.reads_elements (start_at receiver.start) (codes "at:") 34 met.reads;
    puts = flag_remains receiver.puts_elements (start_at receiver.start) (codes "at:put:") 35 met.puts;
  }

  found_remains : {T : Type 0} (entry : Entry T) → IsFound before entry → IsFound after entry
  found_remains entry found = subst (λ (setting : Setting).
      Finds (start_at entry.start) entry.selector entry.found setting after.world) (sym remains.setting)
      (finds_stay before.setting before.world after.world remains.still (start_at entry.start) entry.selector entry.found found)

  placed_remains : (variable : Variable) → IsPlaced before variable → IsPlaced after variable
  placed_remains variable placed = subst (λ (setting : Setting).
      Stands variable.holder variable.name variable.slot setting after.world) (sym remains.setting)
      (stands_stays before.setting before.world after.world remains.still variable.holder variable.name variable.slot placed)

  counted_remains : (count : Count) → IsCounted before count → IsCounted after count
  counted_remains count counted = subst (λ (setting : Setting).
      Counted setting after.world chain_limit count.class count.named) (sym remains.setting)
      (counted_stays before.setting before.world after.world remains.still chain_limit count.class count.named counted)

  pub answered_remains : (operator : IntegerOperator) → IsAnswered before operator → IsAnswered after operator
  answered_remains operator =
      primitive_remains integer_start (operator_selector operator) (operator_number operator)

  pub holds_remain : {T : Type 0} (memory : Memory T) → Holds memory before → Holds memory after
  holds_remain memory holds = record {
    receivers = λ at receiver here. met_remains receiver (holds.receivers at receiver here);
    methods = λ at entry here. found_remains entry (holds.methods at entry here);
    variables = λ at variable here. placed_remains variable (holds.variables at variable here);
    counts = λ at count here. counted_remains count (holds.counts at count here);
    operators = λ at operator here. answered_remains operator (holds.operators at operator here);
  }

ok_by : {A : Type 0} (result : Result A Stop) (Q : Type 0) → is_ok result ≡ true → ((answer : A) → result ≡ Ok answer → Q) → Q
ok_by (Ok answer) Q is then = then answer refl
ok_by (Err ended) Q is then = absurd (false≢true is)

pub some_by : (found : Option Contents) (Q : Type 0) → is_some found ≡ true → ((object : Contents) → found ≡ Some object → Q) → Q
some_by None Q is then = absurd (false≢true is)
some_by (Some object) Q is then = then object refl

module _ {T : Type 0} (is_of : T → MethodCode → Type 0) (memory : Memory T) (before after : Seen) where
  where_stays : (held result : Bool) → (result ≡ true → held ≡ true) → (result ≡ true → Remains before after)
      → Where held (Holds memory before) → Where result (Holds memory after)
  where_stays held false from remains holds = tt
  where_stays held true from remains holds = holds_remain before after (remains refl) memory
      (subst (λ (h : Bool). Where h (Holds memory before)) (from refl) holds)

  -- after a call: what is known stays known where it ended well, and where that was asked before
  called : {A : Type 0} (holds held now : Bool) (result : Result A Stop) → now ≡ (held && is_ok result)
      → (held ≡ true → holds ≡ true) → (held ≡ true → (answer : A) → result ≡ Ok answer → Remains before after)
      → IsKnown is_of holds memory before → IsKnown is_of now memory after
  called holds held now result is from remains known = record {
    holds = where_stays holds now (λ yes. from (and_parts held (is_ok result) (sym is ∙ yes)).0)
        (λ yes. let both = and_parts held (is_ok result) (sym is ∙ yes) in
        ok_by result (Remains before after) both.1 (remains both.0)) known.holds;
    coded = known.coded;
  }

  -- the same of calls that did what an atom does
  acted : {A : Type 0} (Did : Result A Stop → Type 0) → ((answer : A) → Did (Ok answer) → Remains before after)
      → (held now : Bool) (result : Result A Stop) → now ≡ (held && is_ok result) → Did result
      → IsKnown is_of held memory before → IsKnown is_of now memory after
  acted Did remains held now result is did known = called held held now result is (λ yes. yes)
      (λ _ answer same. remains answer (subst Did same did)) known

  -- where nothing happened that look-ups depend on
  remain_known : (held : Bool) → Remains before after → IsKnown is_of held memory before → IsKnown is_of held memory after
  remain_known held remains known = record {
    holds = where_still held (Holds memory before) (Holds memory after) (holds_remain before after remains memory) known.holds;
    coded = known.coded;
  }

  pub unit_known : (held : Bool) → Acted Tick before (Ok tt) after → IsKnown is_of held memory before
      → IsKnown is_of held memory after
  unit_known held did = remain_known held (unit_remains before after did)

  pub room_known : (slots : ℕ) (held now : Bool) (result : Result (Unit {0}) Stop) → now ≡ (held && is_ok result)
      → Acted (Room slots) before result after → IsKnown is_of held memory before → IsKnown is_of now memory after
  room_known slots = acted (λ result. Acted (Room slots) before result after) (λ answer did. room_remains before after slots did)

  pub names_known : (count : ℕ) (held now : Bool) (result : Result (Unit {0}) Stop) → now ≡ (held && is_ok result)
      → Acted (Names count) before result after → IsKnown is_of held memory before → IsKnown is_of now memory after
  names_known count = acted (λ result. Acted (Names count) before result after) (λ answer did. names_remain before after count did)

  pub show_known : (text : Text) (held now : Bool) (result : Result (Unit {0}) Stop) → now ≡ (held && is_ok result)
      → Acted (Show text) before result after → IsKnown is_of held memory before → IsKnown is_of now memory after
  show_known text = acted (λ result. Acted (Show text) before result after) (λ answer did. show_remains before after text did)

  pub access_known : (access : Access) (name : ℕ) (held now : Bool) (result : Result (Unit {0}) Stop)
      → now ≡ (held && is_ok result) → Accessed access name before result after
      → IsKnown is_of held memory before → IsKnown is_of now memory after
  access_known access name = acted (λ result. Accessed access name before result after)
      (λ answer did. access_remains before after access name did)

  pub own_known : (held now : Bool) (result : Result (Unit {0}) Stop) → now ≡ (held && is_ok result)
      → Owned before result after → IsKnown is_of held memory before → IsKnown is_of now memory after
  own_known = acted (λ result. Owned before result after) (λ answer did. own_remains before after did)

  pub kind_known : (name : ℕ) (held now : Bool) (result : Result (Unit {0}) Stop) → now ≡ (held && is_ok result)
      → Known name before result after → IsKnown is_of held memory before → IsKnown is_of now memory after
  kind_known name = acted (λ result. Known name before result after) (λ answer did. known_remains before after name did)

  pub note_known : (name : ℕ) (update : Update) (held now : Bool) (result : Result (Unit {0}) Stop)
      → now ≡ (held && is_ok result) → Acted (Note name update) before result after
      → IsKnown is_of held memory before → IsKnown is_of now memory after
  note_known name update = acted (λ result. Acted (Note name update) before result after)
      (λ answer did. note_remains before after name update did)

  pub made_known : (objects : List Object) → IsSoundState before → (held now : Bool) (result : Result ℕ Stop)
      → now ≡ (held && is_ok result) → Made objects before result after
      → IsKnown is_of held memory before → IsKnown is_of now memory after
  made_known objects sound = acted (λ result. Made objects before result after)
      (λ answer did. made_remains before after objects answer sound did)

  pub put_known : (name : ℕ) (body : Body) (holds held now : Bool) (result : Result (Unit {0}) Stop)
      → (held ≡ true → holds ≡ true) → (held ≡ true → lasting_body body ≡ None) → now ≡ (held && is_ok result)
      → Acted (Put name body) before result after → IsKnown is_of holds memory before → IsKnown is_of now memory after
  put_known name body holds held now result from none is did known = called holds held now result is from
      (λ yes answer same. put_remains before after name body (none yes)
      (subst (λ (r : Result (Unit {0}) Stop). Acted (Put name body) before r after) same did)) known

  pub edit_known : (name : ℕ) (edit : Body → Body) → ((body : Body) → lasting_body (edit body) ≡ lasting_body body)
      → (holds held now : Bool) (result : Result (Unit {0}) Stop) → (held ≡ true → holds ≡ true)
      → (held ≡ true → is_some (object_at name before) ≡ true) → now ≡ (held && is_ok result)
      → Edited name edit before result after → IsKnown is_of holds memory before → IsKnown is_of now memory after
  edit_known name edit keeps holds held now result from there is did known = called holds held now result is from
      (λ yes answer same. some_by (object_at name before) (Remains before after) (there yes) (λ object here.
      edit_remains before after name edit object here keeps
      (subst (λ (r : Result (Unit {0}) Stop). Edited name edit before r after) same did))) known

  pub replaced_known : (name : ℕ) (edit : Body → Body) → ((body : Body) → lasting_body (edit body) ≡ lasting_body body)
      → (held : Bool) → IsThere name before → Replaces (λ body. 0) name edit before (Ok tt) after
      → IsKnown is_of held memory before → IsKnown is_of held memory after
  replaced_known name edit keeps held there did = remain_known held (some_by (object_at name before)
      (Remains before after) there (λ object here. replace_remains before after name edit object here keeps (did object here)))

  -- where a body was put at one look, or nothing changed
  pub within_known : (name : ℕ) (edit : Body → Body) → ((body : Body) → lasting_body (edit body) ≡ lasting_body body)
      → (held : Bool) (result : Result (Unit {0}) Value) → OnOk result (EditedWithin name edit before after)
      → OnErr result (after ≡ before) → IsKnown is_of held memory before → IsKnown is_of held memory after
  within_known name edit keeps held (Ok nothing) within same known = replaced_known name edit keeps held
      (ap is_some within.there) (replaced_within name edit within) known
  within_known name edit keeps held (Err given) within same known = subst (IsKnown is_of held memory) (sym same) known

  -- where all is forgotten
  pub unknown : (held : Bool) → IsKnown is_of held memory before → IsKnown is_of false memory after
  unknown held known = record { holds = tt; coded = known.coded }

-- what is known of receivers, where it isn't forgotten
pub known_receivers : {T : Type 0} (is_of : T → MethodCode → Type 0) (held : Bool) (memory : Memory T) (seen : Seen)
    → IsKnown is_of held memory seen → held ≡ true → AllHeld (IsMet seen) memory.receivers.items
known_receivers {T} is_of true memory seen known is = known.holds.receivers
known_receivers {T} is_of false memory seen known is = absurd (false≢true is)

-- in a new chunk, whose budget is whole
pub chunk_known : {T : Type 0} (is_of : T → MethodCode → Type 0) (held : Bool) (memory : Memory T) (seen : Seen)
    → IsKnown is_of held memory seen → IsKnown is_of held memory (with_whole_budget seen)
chunk_known {T} is_of held memory seen known = record {
  holds = where_still held (Holds memory seen) (Holds memory (with_whole_budget seen))
      (λ holds. record {
        receivers = holds.receivers;
        methods = holds.methods;
        variables = holds.variables;
        counts = holds.counts;
        operators = holds.operators;
      })
      known.holds;
  coded = known.coded;
}

-- by the view of a value
pub as_seen : {O F : Type 0} (seen : O → Seen) (P : Seen → Type 0) (objects : O) (found : F) (value : O × F)
    → (objects, found) ≡ value → P (seen objects) → P (seen value.0)
as_seen {O} {F} seen P objects found value is holds = subst (λ (v : O × F). P (seen v.0)) is holds

-- and back, by what stands within it
pub as_within : {O F : Type 0} (seen : O → Seen) (P : Seen → Type 0) (objects : O) (found : F) (value : O × F)
    → (objects, found) ≡ value → P (seen value.0) → P (seen objects)
as_within {O} {F} seen P objects found value is holds = subst (λ (v : O × F). P (seen v.0)) (sym is) holds
