-- Classes that were read or written.
use Rattle.std.proofs.Common.{◌≡◌, refl, sym, ap, ◌∙◌, subst, ℕ, Bool, List, Option, Some, None, Result, Ok, Err}
use Rattle.std.specs.Result.{IsErrAnd}
use Rattle.std.specs.Borrow.{Bor}
use Rattle.gem_object.specs.declared.value.Value.{Value}
use Rattle.gem_object.specs.declared.body.ClassBody.{ClassBody}
use Rattle.gem_object.specs.declared.body.Body.{Body}
use Rattle.gem_object.specs.declared.body.Body.TheVariants as body
use Rattle.gem_image.specs.Image.{Contents}
use Rattle.object_programs.specs.gem_world.Access.{Access}
use Rattle.prim_parts.specs.tree_meaning.Place.{MadeBlock}
use Rattle.object_programs.specs.Atom.{Ask}
use Rattle.object_programs.specs.Run.{Run, atom, and_then}
use Rattle.object_programs.specs.Programs.{need, check}
use Rattle.object_programs.specs.declared.fault.Fault.{Fault}
use Rattle.object_programs.specs.declared.fault.Fault.TheVariants as fault
use Rattle.running_objects.specs.Seen.{Seen}
use Rattle.running_objects.specs.Acted.{Acted, Reached}
use Rattle.running_objects.specs.declared.stop.Stop.{Stop}
use Rattle.running_objects.specs.declared.stop.Stop.TheVariants as stop
use Rattle.running_objects.proofs.Running.{seen_twice}
use Rattle.prim_rules.specs.Parts.{reference_in, class_in, slots_in, pairs_in, new_object}
use Rattle.prim_rules.specs.Receivers.{received}
use Rattle.gem_sound.specs.declared.names.TheConstants.{ARRAY_CLASS}
use Rattle.prim_classes.specs.ClassWords.{class_replaced, with_dictionary}
use Rattle.prim_rules.specs.declared.answer.PrimitiveAnswer.{PrimitiveAnswer}
use Rattle.prim_parts.specs.Does.{Does, Computes, pointed}
use Rattle.prim_parts.proofs.Does.{does_then, does_stop, does_atom, does_give, does_fail, computes_then, computes_stop, computes_give, computes_fail}

-- what is there, or the error, where it is known which
need_some : {A : Type 0} (fault : Fault) (found : Option A) (one : A) → found ≡ Some one → Computes (need fault found) (Ok one)
need_some {A} fault found one is =
    let At : Option A → Type 0 = λ other. Computes (need fault other) (Ok one) in subst At (sym is) (computes_give one)

need_none : {A : Type 0} (fault : Fault) (found : Option A) → found ≡ None → Computes (need fault found) (Err (stop.Fails fault))
need_none {A} fault found is =
    let At : Option A → Type 0 = λ other. Computes (need fault other) (Err (stop.Fails fault)) in
    subst At (sym is) (computes_fail fault)

module _ {found : Option Contents} (held : Contents) (shown : Some held ≡ found) (object : Contents)
    (there : found ≡ Some object) where
  pub class_found : (class : ClassBody) → held.body ≡ body.Class class
      → Computes (need fault.ArgumentKind (class_in object.body)) (Ok class)
  class_found class is = need_some fault.ArgumentKind (class_in object.body) class
      (ap (λ (one : Contents). class_in one.body) (seen_twice there shown) ∙ ap class_in is)

  pub class_wrong : class_in held.body ≡ None
      → Computes (need fault.ArgumentKind (class_in object.body)) (Err (stop.Fails fault.ArgumentKind))
  class_wrong is = need_none fault.ArgumentKind (class_in object.body)
      (ap (λ (one : Contents). class_in one.body) (seen_twice there shown) ∙ is)

pub not_class : (one : Body) → ((class : ClassBody) → one ≡ body.Class class → ⊥) → class_in one ≡ None
not_class (body.Plain slots) other = refl
not_class (body.Bytes bytes) other = refl
not_class (body.Dict pairs) other = refl
not_class (body.Class class) other = absurd (other class refl)
not_class (body.Segment rights) other = refl
not_class (body.User user) other = refl
not_class (body.Counter counter) other = refl
not_class (body.Bag items) other = refl
not_class (body.RcDict pairs) other = refl
not_class (body.Queue queue) other = refl

-- The receiver after an access.
module _ {C : Type 0} (access : Access) (part : Body → Option C) (value : Value) {before after : Seen} where
  pub received_as : (name : ℕ) (held : C) → Computes (need fault.ArgumentKind (reference_in value)) (Ok name)
      → (reached : Reached access name before after) → Computes (need fault.ArgumentKind (part reached.object.body)) (Ok held)
      → Does (received (λ one. atom (Ask access one)) part value) before
      (Ok (record { name = name; object = reached.object; held = held })) after
  received_as name held names reached found =
      computes_then names (does_then (does_atom reached.acted) (computes_then found (does_give _ after)))

  pub received_wrong : (name : ℕ) {ended : Stop} → Computes (need fault.ArgumentKind (reference_in value)) (Ok name)
      → (reached : Reached access name before after)
      → Computes (need fault.ArgumentKind (part reached.object.body)) (Err ended)
      → Does (received (λ one. atom (Ask access one)) part value) before (Err ended) after
  received_wrong name names reached found =
      computes_then names (does_then (does_atom reached.acted) (computes_stop after found))

  pub received_refused : (name : ℕ) {ended : Stop} → Computes (need fault.ArgumentKind (reference_in value)) (Ok name)
      → Acted (Ask access name) before (Err ended) after
      → Does (received (λ one. atom (Ask access one)) part value) before (Err ended) after
  received_refused name names acted = computes_then names (does_stop (does_atom acted))

pub received_none : {C : Type 0} (access : Access) (part : Body → Option C) (value : Value) (seen : Seen) {ended : Stop}
    → Computes (need fault.ArgumentKind (reference_in value)) (Err ended)
    → Does (received (λ one. atom (Ask access one)) part value) seen (Err ended) seen
received_none access part value seen names = computes_stop seen names

-- the same of a body that is equal
pub new_same : (class other : ℕ) (made one : Body) {before after : Seen} {result : Result Value Stop} → class ≡ other
    → made ≡ one → Does (new_object class made) before result after → Does (new_object other one) before result after
new_same class other made one {before} {after} {result} class_is is does =
    let At : Body → Type 0 = λ this. Does (new_object class this) before result after in
    let Of : ℕ → Type 0 = λ this. Does (new_object this one) before result after in
    subst Of class_is (subst At is does)

pub array_same : {values listed : List Value} {before after : Seen} {result : Result Value Stop} → values ≡ listed
    → Does (new_object ARRAY_CLASS (body.Plain values)) before result after
    → Does (new_object ARRAY_CLASS (body.Plain listed)) before result after
array_same {values} {listed} {before} {after} {result} is does =
    let At : List Value → Type 0 = λ these. Does (new_object ARRAY_CLASS (body.Plain these)) before result after in subst At is does

pub check_same : (fault : Fault) {test told : Bool} {result : Result (Unit {0}) Stop} → test ≡ told
    → Computes (check fault test) result → Computes (check fault told) result
check_same fault {test} {told} {result} is checks =
    let At : Bool → Type 0 = λ one. Computes (check fault one) result in subst At is checks

pub replaced_same : (name : ℕ) (object : Contents) {made class : ClassBody} {receiver : Value} {before after : Seen}
    {result : Result PrimitiveAnswer Stop} → made ≡ class → Does (class_replaced name object made receiver) before result after
    → Does (class_replaced name object class receiver) before result after
replaced_same name object {made} {class} {receiver} {before} {after} {result} is does =
    let At : ClassBody → Type 0 = λ one. Does (class_replaced name object one receiver) before result after in subst At is does

-- what is there
pub need_then : {A C : Type 0} (fault : Fault) {found : Option C} {rest : C → Run MadeBlock A} {before after : Seen}
    {result : Result A Stop} (one : C) → Some one ≡ found → Does (rest one) before result after
    → Does (and_then (need fault found) rest) before result after
need_then {A} {C} fault {found} {rest} {before} {after} {result} one is does =
    let At : Option C → Type 0 = λ other. Does (and_then (need fault other) rest) before result after in
    subst At is (does_then (does_give one before) does)

pub need_fails : {A C : Type 0} {fault : Fault} {found : Option C} {rest : C → Run MadeBlock A} {seen : Seen} → None ≡ found
    → Does (and_then (need fault found) rest) seen (Err (stop.Fails fault)) seen
need_fails {A} {C} {fault} {found} {rest} {seen} is =
    let At : Option C → Type 0 = λ other. Does (and_then (need fault other) rest) seen (Err (stop.Fails fault)) seen in
    subst At is (does_stop (does_fail fault seen))

pub slots_then : {A : Type 0} {rest : List Value → Run MadeBlock A} {before after : Seen} {result : Result A Stop} (one : Body)
    (slots : List Value) → one ≡ body.Plain slots → Does (rest slots) before result after
    → Does (and_then (need fault.ArgumentKind (slots_in one)) rest) before result after
slots_then {A} {rest} {before} {after} {result} one slots is does =
    let At : Body → Type 0 = λ other. Does (and_then (need fault.ArgumentKind (slots_in other)) rest) before result after in
    subst At (sym is) (does_then (does_give slots before) does)

pub pairs_there : {found : Option Contents} (held : Contents) (pairs : List (Value × Value)) (object : Contents) → Some held ≡ found
    → found ≡ Some object → held.body ≡ body.Dict pairs → Computes (need fault.ArgumentKind (pairs_in object.body)) (Ok pairs)
pairs_there held pairs object shown there is = need_some fault.ArgumentKind (pairs_in object.body) pairs
    (ap (λ (one : Contents). pairs_in one.body) (seen_twice there shown) ∙ ap pairs_in is)

exit_by : (dictionary : Value) (result : Result ClassBody Stop) (ended : Stop) → IsErrAnd result (λ given. given ≡ ended)
    → IsErrAnd (with_dictionary dictionary result) (λ given. given ≡ ended)
exit_by dictionary (Ok class) ended exit = absurd exit
exit_by dictionary (Err given) ended exit = exit

pointed_by : {A : Type 0} (result : Result (Bor A) Stop) (ended : Stop) → IsErrAnd result (λ given. given ≡ ended)
    → IsErrAnd (pointed result) (λ given. given ≡ ended)
pointed_by (Ok found) ended exit = absurd exit
pointed_by (Err given) ended exit = exit

not_pairs : (one : Body) → ((pairs : List (Value × Value)) → one ≡ body.Dict pairs → ⊥) → pairs_in one ≡ None
not_pairs (body.Plain slots) other = refl
not_pairs (body.Bytes bytes) other = refl
not_pairs (body.Dict pairs) other = absurd (other pairs refl)
not_pairs (body.Class class) other = refl
not_pairs (body.Segment rights) other = refl
not_pairs (body.User user) other = refl
not_pairs (body.Counter counter) other = refl
not_pairs (body.Bag items) other = refl
not_pairs (body.RcDict pairs) other = refl
not_pairs (body.Queue queue) other = refl

pub exit_with : (dictionary : Value) (result : Result ClassBody Stop) (ended : Stop) → IsErrAnd result (λ given. given ≡ ended)
    → IsErrAnd (with_dictionary dictionary result) (λ given. given ≡ ended)
exit_with dictionary result ended exit = exit_by dictionary result ended exit

pub exit_pointed : {A : Type 0} (result : Result (Bor A) Stop) (ended : Stop) → IsErrAnd result (λ given. given ≡ ended)
    → IsErrAnd (pointed result) (λ given. given ≡ ended)
exit_pointed {A} result ended exit = pointed_by result ended exit

pub pairs_wrong : {found : Option Contents} (held object : Contents) → Some held ≡ found → found ≡ Some object
    → ((pairs : List (Value × Value)) → held.body ≡ body.Dict pairs → ⊥)
    → Computes (need fault.ArgumentKind (pairs_in object.body)) (Err (stop.Fails fault.ArgumentKind))
pairs_wrong held object shown there other = need_none fault.ArgumentKind (pairs_in object.body)
    (ap (λ (one : Contents). pairs_in one.body) (seen_twice there shown) ∙ not_pairs held.body other)
