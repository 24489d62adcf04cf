-- Objects that are made and put into a dictionary.
use Rattle.std.proofs.Common.{◌≡◌, refl, sym, ap, ◌∙◌, subst, ℕ, ◌+◌, ◌*◌, ◌≤◌, ◌<◌, nat_le, nat_eq, cond, Bool, true, false, ◌&&◌, if◌then◌else◌, List, [], ◌∷◌, length, map, Option, Some, None, Result, Ok, Err, arith}
use Rattle.std.proofs.lemmas.Bool.Decides.{nat_tests}
use Rattle.std.specs.List.{sum_by, list_all}
use Rattle.std.proofs.lemmas.List.Sums.{sum_by-cons}
use Rattle.gem_object.specs.insertion_map.Pairs.{with_pair}
use Rattle.gem_object.specs.Order.{same_value}
use Rattle.gem_object.specs.Edits.{with_value_at}
use Rattle.gem_object.specs.Sizes.{pair_size}
use Rattle.gem_object.specs.declared.value.Value.{Value}
use Rattle.gem_object.specs.declared.value.Value.TheVariants.{Ref}
use Rattle.gem_object.specs.declared.body.Body.{Body}
use Rattle.gem_object.specs.declared.body.Body.TheVariants as body
use Rattle.gem_sound.specs.gem_image.Image.{Contents, contents_of}
use Rattle.object_programs.specs.gem_world.World.{Setting, World, name_of, next_name, shown}
use Rattle.object_programs.specs.gem_world.Changes.{with_body, make}
use Rattle.object_programs.specs.Budget.{is_within_limits}
use Rattle.object_programs.specs.Laws.{AreFree}
use Rattle.object_programs.specs.Atom.{Make, Names, Room, named_where, spent_where, Answer, says, refuses, Done, MakeCheck, too_large, no_name, no_space, no_fault, make_check, made_by, made_where, with_new}
use Rattle.object_programs.specs.declared.limits.TheConstants.{COUNTER_LIMIT, SLOTS_LIMIT, BYTES_LIMIT}
use Rattle.object_programs.proofs.Worlds.{make_next, make_shown}
use Rattle.object_programs.proofs.Kept.{no_fault_found}
use Rattle.object_programs.specs.Budget.{Budget}
use Rattle.object_programs.specs.Guard.{may_make}
use Rattle.object_programs.specs.Local.{Local}
use Rattle.object_programs.specs.Programs.{check}
use Rattle.object_programs.specs.declared.fault.Fault.{Fault}
use Rattle.object_programs.specs.declared.fault.Fault.TheVariants as fault
use Rattle.object_programs.specs.Run.{Run, give, atom, and_then, Ending, gives, returns, fails, State, Outcome, onward, perform}
use Rattle.running_objects.specs.Ran.{EndsSo}
use Rattle.running_objects.specs.declared.stop.Stop.TheVariants as stop
use Rattle.running_objects.proofs.Running.{keeps_same, seen_twice}
use Rattle.body_growth.specs.Changes.{Changes}
use Rattle.body_growth.specs.declared.change.Change.{Change}
use Rattle.gem_object.specs.declared.object.Object.{Object}
use Rattle.prim_rules.specs.Dictionaries.{pair_growth}
use Rattle.prim_rules.specs.Receivers.{Receiver}
use Rattle.prim_rules.specs.Making.{Entered, any_name, sized_objects, make_and_enter}
use Rattle.std.proofs.lemmas.Bool.{false≢true}
use Rattle.std.specs.Result.{IsErrAnd}
use Rattle.running_objects.specs.Seen.{Seen, object_at, with_local, IsSoundState}
use Rattle.running_objects.specs.Acted.{Acted}
use Rattle.running_objects.specs.declared.stop.Stop.{Stop}
use Rattle.tree_meaning.specs.Place.{MadeBlock}
use Rattle.prim_parts.specs.Does.{Does, Computes}
use Rattle.prim_parts.specs.Entering.{HasNames, AreEntered, Enters, entry_room, put_entry}
use Rattle.prim_parts.proofs.Does.{does_then, does_atom, does_give, does_exit, does_compute}

module _ (key : Value) (one other : ℕ) where
  pair_sums : (pair : Value × Value) (rest : List (Value × Value)) (test : Bool)
      → sum_by pair_size (with_pair same_value key (Ref one) rest) ≡ sum_by pair_size (with_pair same_value key (Ref other) rest)
      → sum_by pair_size (if test then (pair.0, Ref one) ∷ rest else pair ∷ with_pair same_value key (Ref one) rest)
      ≡ sum_by pair_size (if test then (pair.0, Ref other) ∷ rest else pair ∷ with_pair same_value key (Ref other) rest)
  pair_sums pair rest true same = sum_by-cons pair_size (pair.0, Ref one) rest ∙ sym (sum_by-cons pair_size (pair.0, Ref other) rest)
  pair_sums pair rest false same = sum_by-cons pair_size pair (with_pair same_value key (Ref one) rest)
      ∙ ap (λ (n : ℕ). pair_size pair + n) same ∙ sym (sum_by-cons pair_size pair (with_pair same_value key (Ref other) rest))

  same_sum : (pairs : List (Value × Value)) → sum_by pair_size (with_pair same_value key (Ref one) pairs)
      ≡ sum_by pair_size (with_pair same_value key (Ref other) pairs)
  same_sum [] = refl
  same_sum (pair ∷ rest) = pair_sums pair rest (same_value key pair.0) (same_sum rest)

  pair_lengths : (pair : Value × Value) (rest : List (Value × Value)) (test : Bool)
      → length (with_pair same_value key (Ref one) rest) ≡ length (with_pair same_value key (Ref other) rest)
      → length (if test then (pair.0, Ref one) ∷ rest else pair ∷ with_pair same_value key (Ref one) rest)
      ≡ length (if test then (pair.0, Ref other) ∷ rest else pair ∷ with_pair same_value key (Ref other) rest)
  pair_lengths pair rest true same = refl
  pair_lengths pair rest false same = omega (arith, same)

  same_length : (pairs : List (Value × Value)) → length (with_pair same_value key (Ref one) pairs)
      ≡ length (with_pair same_value key (Ref other) pairs)
  same_length [] = refl
  same_length (pair ∷ rest) = pair_lengths pair rest (same_value key pair.0) (same_length rest)

  -- the size of a dictionary doesn't depend on the name that comes at the key
  pub entry_fits : (object : Contents) (old : Body) → is_within_limits (with_body (with_value_at key (Ref one) old) object)
      ≡ is_within_limits (with_body (with_value_at key (Ref other) old) object)
  entry_fits object (body.Dict pairs) =
      ap (λ (n : ℕ). nat_le (2 * n) SLOTS_LIMIT && nat_le (17 + (4 + sum_by pair_size (with_pair same_value key (Ref one) pairs))) BYTES_LIMIT)
      (same_length pairs)
      ∙ ap (λ (n : ℕ). nat_le (2 * length (with_pair same_value key (Ref other) pairs)) SLOTS_LIMIT && nat_le (17 + (4 + n)) BYTES_LIMIT)
      (same_sum pairs)
  entry_fits object _ = refl

-- an object that was there is seen as before after others are made
pub new_elsewhere : (setting : Setting) (name : ℕ) (objects : List Contents) (world : World)
    → ((counter : ℕ) → world.next ≤ counter → counter < COUNTER_LIMIT → nat_eq name (name_of setting counter) ≡ false)
    → world.next + length objects ≤ COUNTER_LIMIT
    → shown name setting (with_new objects setting world) ≡ shown name setting world
new_elsewhere setting name [] world apart room = refl
new_elsewhere setting name (object ∷ rest) world apart room =
    let next : (make object setting world).next ≡ world.next + 1 = make_next object setting world in
    new_elsewhere setting name rest (make object setting world)
    (λ counter more below. apart counter (omega (arith, next, more)) below) (omega (arith, next, room))
    ∙ make_shown setting object world name
    ∙ ap (λ (test : Bool). cond test (Some object) (shown name setting world)) (apart world.next (omega arith) (omega (arith, room)))

pub apart_from_new : (setting : Setting) (world : World) (name : ℕ) (object : Contents) → AreFree setting world
    → shown name setting world ≡ Some object → (counter : ℕ) → world.next ≤ counter → counter < COUNTER_LIMIT
    → nat_eq name (name_of setting counter) ≡ false
apart_from_new setting world name object free there counter more below = by (nat_eq name (name_of setting counter)) refl
  where
    by : (test : Bool) → nat_eq name (name_of setting counter) ≡ test → test ≡ false
    by false e = refl
    by true e =
        let same : name ≡ name_of setting counter = grind (arith, nat_tests) in
        let none : Some object ≡ None = sym there ∙ ap (λ (n : ℕ). shown n setting world) same ∙ free counter more below in
        absurd (cc)

-- What a make that was allowed says and leaves.
record Makes (objects : List Contents) (setting : Setting) (world after : World) (first : ℕ) : Type 0 where
  name : first ≡ next_name setting world
  room : world.next + length objects ≤ COUNTER_LIMIT
  left : after ≡ with_new objects setting world

abbrev answer_says : {A : Type 0} → A → Answer A → A
answer_says other (says answer) = answer
answer_says other (refuses fault) = other

abbrev does_say : {A : Type 0} → Answer A → Bool
does_say (says answer) = true
does_say (refuses fault) = false

makes_by : (objects : List Contents) (setting : Setting) (world after : World) (budget left : Budget) (first : ℕ)
    (found : MakeCheck) (may : Bool) → make_check objects world budget ≡ found → may_make objects setting world ≡ may
    → made_by found objects setting world budget ≡ record { answer = says first; world = after; budget = left }
    → Makes objects setting world after first
makes_by objects setting world after budget left first too_large may check_is may_is did =
    absurd (false≢true (ap (λ (one : Done ℕ). does_say one.answer) did))
makes_by objects setting world after budget left first no_name may check_is may_is did =
    absurd (false≢true (ap (λ (one : Done ℕ). does_say one.answer) did))
makes_by objects setting world after budget left first no_space may check_is may_is did =
    absurd (false≢true (ap (λ (one : Done ℕ). does_say one.answer) did))
makes_by objects setting world after budget left first no_fault may check_is may_is did =
    let at : made_where may objects setting world budget ≡ record { answer = says first; world = after; budget = left } =
    ap (λ (test : Bool). made_where test objects setting world budget) (sym may_is) ∙ did in
    by may at
  where
    by : (test : Bool) → made_where test objects setting world budget ≡ record { answer = says first; world = after; budget = left }
        → Makes objects setting world after first
    by true is = record {
      name = sym (ap (λ (one : Done ℕ). answer_says first one.answer) is);
      room = (no_fault_found objects world budget check_is).0;
      left = sym (ap (λ (one : Done ℕ). one.world) is);
    }
    by false is = absurd (false≢true (ap (λ (one : Done ℕ). does_say one.answer) is))

made_is : (objects_at : ℕ → List Contents) {before after : Seen} {first : ℕ} → Acted (Make objects_at) before (Ok first) after
    → Makes (objects_at (next_name before.setting before.world)) before.setting before.world after.world first
made_is objects_at {before} {after} {first} acted =
    let objects : List Contents = objects_at (next_name before.setting before.world) in
    makes_by objects before.setting before.world after.world before.budget after.budget first
    (make_check objects before.world before.budget) (may_make objects before.setting before.world) refl refl acted.did

-- after objects were made the dictionary is as it was, and the name is known
pub made_then : {before between after : Seen} {result : Result Value Stop} (objects_at : ℕ → List Contents) (chosen_of : ℕ → ℕ)
    (key : Value) (chosen first dictionary : ℕ) (object : Contents) → IsSoundState before
    → chosen_of (next_name before.setting before.world) ≡ chosen → object_at dictionary before ≡ Some object
    → Acted (Make objects_at) before (Ok first) between
    → (object_at dictionary between ≡ Some object → Does (put_entry dictionary key object chosen) between result after)
    → Does (and_then (atom (Make objects_at)) (λ first. put_entry dictionary key object (chosen_of first))) before result after
made_then {before} {between} {after} {result} objects_at chosen_of key chosen first dictionary object sound names there acted puts =
    let objects : List Contents = objects_at (next_name before.setting before.world) in
    let made : Makes objects before.setting before.world between.world first = made_is objects_at acted in
    let apart = apart_from_new before.setting before.world dictionary object sound.free there in
    let kept : shown dictionary before.setting (with_new objects before.setting before.world) ≡ Some object =
    new_elsewhere before.setting dictionary objects before.world apart made.room ∙ there in
    let At : World → Type 0 = λ world. shown dictionary before.setting world ≡ Some object in
    let Of : Setting → Type 0 = λ setting. shown dictionary setting between.world ≡ Some object in
    let seen : object_at dictionary between ≡ Some object =
    subst Of (sym acted.keeps.setting) (subst At (sym made.left) kept) in
    let name : chosen_of first ≡ chosen = ap chosen_of made.name ∙ names in
    let By : ℕ → Type 0 = λ one. Does (put_entry dictionary key object one) between result after in
    does_then (does_atom acted) (subst By (sym name) (puts seen))

-- ---- what comes before the objects are made

abbrev is_given : {A : Type 0} → Ending A → Bool
is_given (gives answer) = true
is_given _ = false

abbrev given_or : {A : Type 0} → A → Ending A → A
given_or other (gives answer) = answer
given_or other _ = other

nowhere : Local MadeBlock
nowhere = record { scopes = []; blocks = []; living = [] }

-- after the room that was told
pub room_then : {A : Type 0} {before after : Seen} {result : Result A Stop} (fault : Fault) (fits : Bool) (growth room : ℕ)
    (rest : Run MadeBlock A) → Computes (and_then (check fault fits) (λ small. give growth)) (Ok room)
    → (room ≡ growth → Does rest before result after)
    → Does (and_then (check fault fits) (λ small. rest)) before result after
room_then {A} {before} {after} {result} fault true growth room rest computes goes =
    let same : room ≡ growth = sym (ap (λ (outcome : Outcome MadeBlock ℕ). given_or room outcome.end)
    (computes.ends before.setting (with_local before nowhere))) in
    does_then (does_give tt before) (goes same)
room_then {A} {before} {after} {result} fault false growth room rest computes goes =
    absurd (false≢true (ap (λ (outcome : Outcome MadeBlock ℕ). is_given outcome.end)
    (computes.ends before.setting (with_local before nowhere))))

fails_so : {A : Type 0} (ended : Stop) (setting : Setting) (state : State MadeBlock) (growth : ℕ) (program : Run MadeBlock A)
    → EndsSo (record { end = gives growth; state = state }) (Err ended) state → EndsSo (perform program setting state) (Err ended) state
fails_so (stop.Fails fault) setting state growth program is =
    absurd (false≢true (sym (ap (λ (outcome : Outcome MadeBlock ℕ). is_given outcome.end) is)))
fails_so (stop.Returns value home) setting state growth program is =
    absurd (false≢true (sym (ap (λ (outcome : Outcome MadeBlock ℕ). is_given outcome.end) is)))
fails_so stop.NoMemory setting state growth program is = tt

refused_so : (A : Type 0) (ended : Stop) (fault : Fault) (state : State MadeBlock)
    → EndsSo {A = ℕ} (record { end = fails fault; state = state }) (Err ended) state
    → EndsSo {A = A} (record { end = fails fault; state = state }) (Err ended) state
refused_so A (stop.Fails other) fault state is = ap (λ (outcome : Outcome MadeBlock ℕ). onward outcome.end outcome.state
    (λ found left. record { end = fails other; state = left })) is
refused_so A (stop.Returns value home) fault state is = ap (λ (outcome : Outcome MadeBlock ℕ). onward outcome.end outcome.state
    (λ found left. record { end = returns value home; state = left })) is
refused_so A stop.NoMemory fault state is = tt

pub room_stops : {A : Type 0} (seen : Seen) (ended : Stop) (fault : Fault) (fits : Bool) (growth : ℕ) (rest : Run MadeBlock A)
    → Computes (and_then (check fault fits) (λ small. give growth)) (Err ended)
    → Does (and_then (check fault fits) (λ small. rest)) seen (Err ended) seen
room_stops seen ended fault true growth rest computes = record {
  keeps = keeps_same seen;
  ends = λ local. fails_so ended seen.setting (with_local seen local) growth rest
      (computes.ends seen.setting (with_local seen local));
}
room_stops seen ended fault false growth rest computes = record {
  keeps = keeps_same seen;
  ends = λ local. refused_so _ ended fault (with_local seen local) (computes.ends seen.setting (with_local seen local));
}

-- names that are left, and space that was taken, leave what is seen
pub record Leaves (count : ℕ) (world after : World) : Type 0 where
  pub room : world.next + count ≤ COUNTER_LIMIT
  pub same : after ≡ world

named_by : (test : Bool) (count : ℕ) (world after : World) (budget left : Budget)
    → nat_le (world.next + count) COUNTER_LIMIT ≡ test
    → named_where test world budget ≡ record { answer = says tt; world = after; budget = left } → Leaves count world after
named_by true count world after budget left is did = record {
  room = grind (arith, nat_tests);
  same = sym (ap (λ (one : Done (Unit {0})). one.world) did);
}
named_by false count world after budget left is did =
    absurd (false≢true (ap (λ (one : Done (Unit {0})). does_say one.answer) did))

pub names_left : (count : ℕ) {before after : Seen} → Acted (Names count) before (Ok tt) after
    → Leaves count before.world after.world
names_left count {before} {after} acted = named_by (nat_le (before.world.next + count) COUNTER_LIMIT) count before.world
    after.world before.budget after.budget refl acted.did

spent_by : (test : Bool) (slots : ℕ) (world after : World) (budget left : Budget)
    → spent_where test slots world budget ≡ record { answer = says tt; world = after; budget = left } → after ≡ world
spent_by true slots world after budget left did = sym (ap (λ (one : Done (Unit {0})). one.world) did)
spent_by false slots world after budget left did =
    absurd (false≢true (ap (λ (one : Done (Unit {0})). does_say one.answer) did))

pub room_left : (slots : ℕ) {before after : Seen} → Acted (Room slots) before (Ok tt) after → after.world ≡ before.world
room_left slots {before} {after} acted = spent_by (nat_le slots before.budget.slots) slots before.world after.world
    before.budget after.budget acted.did

-- ---- the whole, by what code has of it

abbrev pub whole_entry : (small fits : Bool) (count growth : ℕ) → Run MadeBlock Value → Run MadeBlock Value
whole_entry small fits count growth rest =
    and_then (check fault.ObjectTooLarge small) (λ one.
    and_then (check fault.ObjectTooLarge fits) (λ two.
    and_then (atom (Names count)) (λ three.
    and_then (atom (Room growth)) (λ four.
    rest))))

module _ (entered : Entered) (receiver : Receiver (List (Value × Value))) (objects : List Object) (chosen : ℕ) (key : Value)
    (dictionary : ℕ) {before after : Seen} {result : Result Value Stop} (are : AreEntered entered objects chosen key before)
    (name_is : receiver.name ≡ dictionary) where
  pub as_whole : Does (whole_entry (list_all is_within_limits (map contents_of objects))
      (is_within_limits (with_body (with_value_at key (Ref chosen) receiver.object.body) receiver.object))
      (length objects) (pair_growth key receiver.object.body)
      (and_then (atom (Make entered.objects_at)) (λ first. put_entry dictionary key receiver.object (entered.chosen first))))
      before result after
      → Does (make_and_enter entered receiver) before result after
  unfolding make_and_enter
  as_whole does =
      let object : Contents = receiver.object in
      let Small : Bool → Type 0 = λ test. Does (whole_entry test
      (is_within_limits (with_body (with_value_at key (Ref chosen) object.body) object)) (length objects)
      (pair_growth key object.body)
      (and_then (atom (Make entered.objects_at)) (λ first. put_entry dictionary key object (entered.chosen first)))) before result after in
      let Fits : Bool → Type 0 = λ test. Does (whole_entry (list_all is_within_limits (sized_objects entered)) test (length objects)
      (pair_growth key object.body)
      (and_then (atom (Make entered.objects_at)) (λ first. put_entry dictionary key object (entered.chosen first)))) before result after in
      let Count : ℕ → Type 0 = λ count. Does (whole_entry (list_all is_within_limits (sized_objects entered))
      (is_within_limits (with_body (with_value_at key (Ref (entered.chosen any_name)) object.body) object)) count
      (pair_growth key object.body)
      (and_then (atom (Make entered.objects_at)) (λ first. put_entry dictionary key object (entered.chosen first)))) before result after in
      let Key : Value → Type 0 = λ one. Does (whole_entry (list_all is_within_limits (sized_objects entered))
      (is_within_limits (with_body (with_value_at one (Ref (entered.chosen any_name)) object.body) object)) (length (sized_objects entered))
      (pair_growth one object.body)
      (and_then (atom (Make entered.objects_at)) (λ first. put_entry dictionary one object (entered.chosen first)))) before result after in
      let Name : ℕ → Type 0 = λ one. Does (whole_entry (list_all is_within_limits (sized_objects entered))
      (is_within_limits (with_body (with_value_at entered.key (Ref (entered.chosen any_name)) object.body) object))
      (length (sized_objects entered)) (pair_growth entered.key object.body)
      (and_then (atom (Make entered.objects_at)) (λ first. put_entry one entered.key object (entered.chosen first)))) before result after in
      subst Name (sym name_is) (subst Key (sym are.key_is) (subst Count (sym are.count)
      (subst Fits (entry_fits key chosen (entered.chosen any_name) object object.body) (subst Small (sym are.sizes) does))))

  -- the premises of the last call, after names and room
  pub as_entered : {between : Seen} → between.setting ≡ before.setting → between.world ≡ before.world
      → HasNames (length objects) before → Enters objects chosen key dictionary between result after
      → object_at dictionary before ≡ Some receiver.object
      → Does (and_then (atom (Make entered.objects_at)) (λ first. put_entry dictionary key receiver.object (entered.chosen first)))
      between result after
  as_entered {between} setting_is world_is named enters there =
      let next : next_name between.setting between.world ≡ next_name before.setting before.world =
      ap (λ (setting : Setting). next_name setting between.world) setting_is
      ∙ ap (λ (world : World). next_name before.setting world) world_is in
      let seen : object_at dictionary between ≡ object_at dictionary before =
      ap (λ (setting : Setting). shown dictionary setting between.world) setting_is
      ∙ ap (λ (world : World). shown dictionary before.setting world) world_is in
      enters entered.objects_at entered.chosen receiver.object (ap entered.objects_at next ∙ are.objects_are named)
      (ap entered.chosen next ∙ are.chosen_is named) (seen ∙ there)

handed : {A : Type 0} (P : Result A Stop → Type 0) (result : Result A Stop) (ended : Stop)
    → IsErrAnd result (λ given. given ≡ ended) → P (Err ended) → P result
handed P (Ok answer) ended is one = absurd is
handed P (Err given) ended is one = let At : Stop → Type 0 = λ stop. P (Err stop) in subst At (sym is) one

-- ---- each end of the call

module _ (entered : Entered) (receiver : Receiver (List (Value × Value))) (objects : List Object) (chosen : ℕ) (key : Value)
    (dictionary : ℕ) {before : Seen} (are : AreEntered entered objects chosen key before)
    (name_is : receiver.name ≡ dictionary) (small : Bool)
    (small_is : small ≡ list_all is_within_limits (map contents_of objects)) where
  passes : {result : Result (Unit {0}) Stop} → Computes (check fault.ObjectTooLarge small) result
      → Computes (check fault.ObjectTooLarge (list_all is_within_limits (map contents_of objects))) result
  passes {result} checks =
      let At : Bool → Type 0 = λ test. Computes (check fault.ObjectTooLarge test) result in subst At small_is checks

  pub entry_large : {result : Result Value Stop} {ended : Stop} → Computes (check fault.ObjectTooLarge small) (Err ended)
      → IsErrAnd result (λ given. given ≡ ended) → Does (make_and_enter entered receiver) before result before
  entry_large {result} {ended} checks exit = as_whole entered receiver objects chosen key dictionary are name_is
      (does_exit result exit (does_compute before (passes checks)))

  pub dictionary_large : {result : Result Value Stop} {ended : Stop} → Computes (check fault.ObjectTooLarge small) (Ok tt)
      → Computes (entry_room key chosen receiver.object) (Err ended) → IsErrAnd result (λ given. given ≡ ended)
      → Does (make_and_enter entered receiver) before result before
  dictionary_large {result} {ended} checks told exit =
      let P : Result Value Stop → Type 0 = λ given. Does (make_and_enter entered receiver) before given before in
      handed P result ended exit (as_whole entered receiver objects chosen key dictionary are name_is
      (does_then (does_compute before (passes checks)) (room_stops before ended fault.ObjectTooLarge
      (is_within_limits (with_body (with_value_at key (Ref chosen) receiver.object.body) receiver.object))
      (pair_growth key receiver.object.body) _ told)))

  module _ (growth count : ℕ) (count_is : count ≡ length objects) (checks : Computes (check fault.ObjectTooLarge small) (Ok tt))
      (told : Computes (entry_room key chosen receiver.object) (Ok growth)) where
    at_names : {after : Seen} {result : Result Value Stop} → (growth ≡ pair_growth key receiver.object.body
        → Does (and_then (atom (Names (length objects))) (λ three. and_then (atom (Room (pair_growth key receiver.object.body))) (λ four.
        and_then (atom (Make entered.objects_at)) (λ first. put_entry dictionary key receiver.object (entered.chosen first)))))
        before result after) → Does (make_and_enter entered receiver) before result after
    at_names goes = as_whole entered receiver objects chosen key dictionary are name_is
        (does_then (does_compute before (passes checks)) (room_then fault.ObjectTooLarge
        (is_within_limits (with_body (with_value_at key (Ref chosen) receiver.object.body) receiver.object))
        (pair_growth key receiver.object.body) growth _ told goes))

    pub entry_unnamed : {after : Seen} {result : Result Value Stop} {ended : Stop} → Acted (Names count) before (Err ended) after
        → IsErrAnd result (λ given. given ≡ ended) → Does (make_and_enter entered receiver) before result after
    entry_unnamed {after} {result} {ended} acted exit =
        let At : ℕ → Type 0 = λ many. Acted (Names many) before (Err ended) after in
        at_names (λ same. does_exit result exit (does_atom (subst At count_is acted)))

    pub entry_no_room : {between after : Seen} {result : Result Value Stop} {ended : Stop}
        → Acted (Names count) before (Ok tt) between → Acted (Room growth) between (Err ended) after
        → IsErrAnd result (λ given. given ≡ ended) → Does (make_and_enter entered receiver) before result after
    entry_no_room {between} {after} {result} {ended} named acted exit =
        let At : ℕ → Type 0 = λ many. Acted (Names many) before (Ok tt) between in
        let Of : ℕ → Type 0 = λ slots. Acted (Room slots) between (Err ended) after in
        at_names (λ same. does_then (does_atom (subst At count_is named))
        (does_exit result exit (does_atom (subst Of same acted))))

    pub entry_made : {between over after : Seen} {result : Result Value Stop} → 0 < length objects
        → object_at dictionary before ≡ Some receiver.object → Acted (Names count) before (Ok tt) between
        → Acted (Room growth) between (Ok tt) over → Enters objects chosen key dictionary over result after
        → Does (make_and_enter entered receiver) before result after
    entry_made {between} {over} {after} {result} some there named room enters =
        let At : ℕ → Type 0 = λ many. Acted (Names many) before (Ok tt) between in
        let Of : ℕ → Type 0 = λ slots. Acted (Room slots) between (Ok tt) over in
        let names : Acted (Names (length objects)) before (Ok tt) between = subst At count_is named in
        let left = names_left (length objects) names in
        let has : HasNames (length objects) before = omega (arith, left.room) in
        at_names (λ same. does_then (does_atom names) (does_then (does_atom (subst Of same room))
        (as_entered entered receiver objects chosen key dictionary are name_is (room.keeps.setting ∙ named.keeps.setting)
        (room_left growth room ∙ left.same) has enters there)))

-- ---- the tests before

pub all_small : (objects : List Object) → list_all (λ object. is_within_limits (contents_of object)) objects
    ≡ list_all is_within_limits (map contents_of objects)
all_small [] = refl
all_small (object ∷ rest) = ap (λ (test : Bool). is_within_limits (contents_of object) && test) (all_small rest)

after_check : (setting : Setting) (outcome : Outcome MadeBlock (Unit {0})) (growth : ℕ) (state : State MadeBlock)
    → outcome ≡ record { end = gives tt; state = state }
    → onward outcome.end outcome.state (λ found left. perform (give growth) setting left)
    ≡ record { end = gives growth; state = state }
after_check setting outcome growth state is =
    ap (λ (one : Outcome MadeBlock (Unit {0})). onward one.end one.state (λ found left. perform (give growth) setting left)) is

stops_check : (setting : Setting) (outcome : Outcome MadeBlock (Unit {0})) (growth : ℕ) (ended : Stop) (state : State MadeBlock)
    → EndsSo outcome (Err ended) state
    → EndsSo (onward outcome.end outcome.state (λ found left. perform (give growth) setting left)) (Err ended) state
stops_check setting outcome growth (stop.Fails fault) state is =
    ap (λ (one : Outcome MadeBlock (Unit {0})). onward one.end one.state (λ found left. perform (give growth) setting left)) is
stops_check setting outcome growth (stop.Returns value home) state is =
    ap (λ (one : Outcome MadeBlock (Unit {0})). onward one.end one.state (λ found left. perform (give growth) setting left)) is
stops_check setting outcome growth stop.NoMemory state is = tt

module _ (key : Value) (chosen : ℕ) (object : Contents) (told : Bool)
    (is : told ≡ is_within_limits (with_body (with_value_at key (Ref chosen) object.body) object)) where
  pub entry_told : (room : ℕ) → room ≡ pair_growth key object.body → Computes (check fault.ObjectTooLarge told) (Ok tt)
      → Computes (entry_room key chosen object) (Ok room)
  entry_told room room_is checks =
      let At : Bool → Type 0 = λ test. Computes (check fault.ObjectTooLarge test) (Ok tt) in
      let passes = subst At is checks in
      let Of : ℕ → Type 0 = λ growth. Computes (entry_room key chosen object) (Ok growth) in
      subst Of (sym room_is) (record {
        ends = λ setting state. after_check setting
            (perform (check fault.ObjectTooLarge (is_within_limits (with_body (with_value_at key (Ref chosen) object.body) object))) setting state)
            (pair_growth key object.body) state (passes.ends setting state);
      })

  pub entry_refused : {result : Result ℕ Stop} {ended : Stop} → Computes (check fault.ObjectTooLarge told) (Err ended)
      → IsErrAnd result (λ given. given ≡ ended) → Computes (entry_room key chosen object) result
  entry_refused {result} {ended} checks exit =
      let At : Bool → Type 0 = λ test. Computes (check fault.ObjectTooLarge test) (Err ended) in
      let stops = subst At is checks in
      handed (λ given. Computes (entry_room key chosen object) given) result ended exit (record {
        ends = λ setting state. stops_check setting
            (perform (check fault.ObjectTooLarge (is_within_limits (with_body (with_value_at key (Ref chosen) object.body) object))) setting state)
            (pair_growth key object.body) ended state (stops.ends setting state);
      })

-- what is told of the dictionary that was seen
pub entry_limits : {found : Option Contents} (key : Value) (chosen : ℕ) (held object : Contents) (change : Change)
    → Some held ≡ found → found ≡ Some object → Changes change held.body (with_value_at key (Ref chosen) held.body)
    → Changes change object.body (with_value_at key (Ref chosen) object.body)
entry_limits key chosen held object change shown there changes =
    let At : Contents → Type 0 = λ one. Changes change one.body (with_value_at key (Ref chosen) one.body) in
    subst At (sym (seen_twice there shown)) changes

pub entry_growth : {found : Option Contents} (key : Value) (held object : Contents) (room : ℕ) → Some held ≡ found
    → found ≡ Some object → room ≡ pair_growth key held.body → room ≡ pair_growth key object.body
entry_growth key held object room shown there is =
    is ∙ sym (ap (λ (one : Contents). pair_growth key one.body) (seen_twice there shown))
