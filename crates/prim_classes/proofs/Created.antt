-- New objects of classes.
use Rattle.std.proofs.Common.{◌≡◌, refl, sym, ap, ◌∙◌, subst, ℕ, suc, ◌+◌, ◌-◌, ◌<◌, nat_le, Bool, true, false, ◌&&◌, cond, List, [], ◌∷◌, ◌++◌, append_assoc, length, map, replicate, Option, Some, None, option_map, Result, Ok, Err, arith}
use Rattle.std.proofs.lemmas.List.{length-replicate}
use Rattle.std.proofs.lemmas.Bool.Decides.{nat_tests}
use Rattle.gem_object.specs.Sizes.{fields_size}
use Rattle.gem_object.specs.declared.kind.Kind.{Kind}
use Rattle.gem_object.specs.declared.kind.Kind.TheVariants as of_kind
use Rattle.gem_object.specs.declared.value.Value.{Value}
use Rattle.gem_object.specs.declared.value.Value.TheVariants.{Nil}
use Rattle.gem_object.specs.declared.body.Body.{Body}
use Rattle.gem_object.specs.declared.body.Body.TheVariants as body
use Rattle.gem_image.specs.Image.{Contents, contents_of}
use Rattle.prim_parts.specs.tree_meaning.Place.{MadeBlock}
use Rattle.object_programs.specs.Atom.{Make, made_by, name_check, too_large}
use Rattle.object_programs.specs.Budget.{is_within_limits}
use Rattle.object_programs.specs.Run.{Run, and_then}
use Rattle.object_programs.specs.Programs.{need}
use Rattle.object_programs.specs.declared.fault.Fault.TheVariants as fault
use Rattle.object_programs.specs.declared.limits.TheConstants.{SLOTS_LIMIT, BYTES_LIMIT}
use Rattle.running_objects.specs.Seen.{Seen}
use Rattle.running_objects.specs.Acted.{Acted}
use Rattle.running_objects.specs.declared.stop.Stop.{Stop}
use Rattle.running_objects.specs.declared.stop.Stop.TheVariants as stop
use Rattle.running_objects.proofs.Running.{acted_refuses}
use Rattle.gem_object.specs.declared.body.ClassBody.{ClassBody}
use Rattle.gem_object.specs.declared.object.Object.{Object}
use Rattle.gem_object.specs.texts.Bytes.{Bytes as Text}
use Rattle.gem_object.specs.seg_rights.declared.rights.Rights.{Rights}
use Rattle.prim_rules.specs.New.{nil_slots, new_body, sized_body, count_in, own_rights, new_of_kind}
use Rattle.prim_rules.specs.Parts.{int_in, class_in, named_slots, default_segment, new_object_in, new_object}
use Rattle.prim_parts.specs.Does.{Does}
use Rattle.prim_parts.proofs.Does.{does_then, does_stop, does_fail, does_give, does_atom}
use Rattle.prim_classes.specs.Creation.{sized_kind, body_of, may_fit, new_other, new_elements}
use Rattle.prim_classes.specs.declared.creation.SizedKind.{SizedKind}
use Rattle.prim_classes.specs.declared.creation.SizedKind.TheVariants.{Slots, Bytes}

-- one slot more of those that are to be made
pub nil_pushed : (done whole : List Value) (left : ℕ) → 0 < left → done ++ replicate left Nil ≡ whole
    → (done ++ Nil ∷ []) ++ replicate (left - 1) Nil ≡ whole
nil_pushed done whole left more is =
    let suc_is : suc (left - 1) ≡ left = omega arith in
    let At : ℕ → Type 0 = λ count. done ++ replicate count Nil ≡ whole in
    append_assoc done (Nil ∷ []) (replicate (left - 1) Nil) ∙ subst At (sym suc_is) is

module _ (kind : Kind) (class named : ℕ) {before : Seen} where
  none_by : (found : Option (ℕ → Body)) → None ≡ option_map (λ body_of. body_of named) found
      → Does (and_then (need fault.ArgumentKind found) (λ body_of. and_then (named_slots class) (λ named. new_object class (body_of named))))
      before (Err (stop.Fails fault.ArgumentKind)) before
  none_by None same = does_stop (does_fail fault.ArgumentKind before)
  none_by (Some body_of) same = absurd (cc)

  pub other_none : None ≡ option_map (λ body_of. body_of named) (new_body kind)
      → Does (new_other kind class) before (Err (stop.Fails fault.ArgumentKind)) before
  other_none same = none_by (new_body kind) same

  some_by : (found : Option (ℕ → Body)) (made : Body) {after : Seen} {result : Result Value Stop}
      → Some made ≡ option_map (λ body_of. body_of named) found → Does (named_slots class) before (Ok named) before
      → Does (new_object class made) before result after
      → Does (and_then (need fault.ArgumentKind found) (λ body_of. and_then (named_slots class) (λ named. new_object class (body_of named))))
      before result after
  some_by None made same counts does = absurd (cc)
  some_by (Some body_of) made {after} {result} same counts does =
      let At : Body → Type 0 = λ one. Does (new_object class one) before result after in
      let this : made ≡ body_of named = cc in
      does_then (does_give body_of before) (does_then counts (subst At this does))

  pub other_some : (made : Body) {after : Seen} {result : Result Value Stop}
      → Some made ≡ option_map (λ body_of. body_of named) (new_body kind) → Does (named_slots class) before (Ok named) before
      → Does (new_object class made) before result after → Does (new_other kind class) before result after
  other_some made same counts does = some_by (new_body kind) made same counts does

pub kind_other : (kind : Kind) (class : ℕ) {before after : Seen} {result : Result Value Stop} → (kind ≡ of_kind.Segment → ⊥)
    → Does (new_other kind class) before result after → Does (new_of_kind kind class) before result after
kind_other of_kind.None class other does = does
kind_other of_kind.Plain class other does = does
kind_other of_kind.Indexed class other does = does
kind_other of_kind.Bytes class other does = does
kind_other of_kind.Dict class other does = does
kind_other of_kind.Segment class other does = absurd (other refl)
kind_other of_kind.User class other does = does
kind_other of_kind.Counter class other does = does
kind_other of_kind.Bag class other does = does
kind_other of_kind.RcDict class other does = does
kind_other of_kind.Queue class other does = does

too_large_by : (kind : SizedKind) (named count : ℕ) (class segment : ℕ) → may_fit kind named count ≡ false
    → is_within_limits (record { class = class; segment = segment; body = body_of kind named count }) ≡ false
too_large_by Slots named count class segment is =
    let slots : length (replicate (named + count) Nil) ≡ named + count = length-replicate (named + count) Nil in
    ap (λ (n : ℕ). nat_le n SLOTS_LIMIT && nat_le (17 + fields_size (body_of Slots named count)) BYTES_LIMIT) slots
    ∙ ap (λ (test : Bool). test && nat_le (17 + fields_size (body_of Slots named count)) BYTES_LIMIT) is
too_large_by Bytes named count class segment is =
    let bytes : length (replicate count 0) ≡ count = length-replicate count 0 in
    let large : nat_le (17 + (4 + count)) BYTES_LIMIT ≡ false = grind (arith, nat_tests) in
    ap (λ (n : ℕ). nat_le (17 + (4 + n)) BYTES_LIMIT) bytes ∙ large

make_refused : (object : Contents) (seen : Seen) → is_within_limits object ≡ false
    → Acted (Make (λ name. object ∷ [])) seen (Err (stop.Fails fault.ObjectTooLarge)) seen
make_refused object seen large = acted_refuses (Make (λ name. object ∷ [])) seen seen fault.ObjectTooLarge refl
    (ap (λ (test : Bool). made_by (cond (test && true) (name_check (object ∷ []) seen.world seen.budget) too_large)
    (object ∷ []) seen.setting seen.world seen.budget) large)

-- an object that is too large is refused after the profile was read
pub sized_large : (kind : SizedKind) (named count class segment : ℕ) {before after : Seen}
    → may_fit kind named count ≡ false → Does default_segment before (Ok segment) after
    → Does (new_object class (body_of kind named count)) before (Err (stop.Fails fault.ObjectTooLarge)) after
unfolding new_object new_object_in
sized_large kind named count class segment {before} {after} is read =
    does_then read (does_stop (does_atom (make_refused
    (record { class = class; segment = segment; body = body_of kind named count }) after
    (too_large_by kind named count class segment is))))

-- the class that an object is
pub class_then : {A : Type 0} {before after : Seen} {result : Result A Stop} {rest : ClassBody → Run MadeBlock A} (one : Body)
    (class : ClassBody) → one ≡ body.Class class → Does (rest class) before result after
    → Does (and_then (need fault.ArgumentKind (class_in one)) rest) before result after
class_then {A} {before} {after} {result} {rest} one class is does =
    let At : Body → Type 0 = λ body. Does (and_then (need fault.ArgumentKind (class_in body)) rest) before result after in
    subst At (sym is) (does_then (does_give class before) does)

abbrev sized_rest : (class : ℕ) (argument : Value) → (ℕ → ℕ → Body) → Run MadeBlock Value
sized_rest class argument body_of =
    and_then (need fault.ArgumentKind (int_in argument)) (λ number.
    and_then (need fault.Index (count_in number)) (λ count.
    and_then (named_slots class) (λ named.
    new_object class (body_of named count))))

-- what `new:` gives so many of
pub sized_then : {before after : Seen} {result : Result Value Stop} (kind : Kind) (sized : SizedKind) (class : ℕ) (argument : Value)
    → Some sized ≡ sized_kind kind → Does (new_elements sized class argument) before result after
    → Does (and_then (need fault.ArgumentKind (sized_body kind)) (sized_rest class argument)) before result after
sized_then of_kind.None sized class argument is does = absurd (cc)
sized_then of_kind.Plain sized class argument is does = absurd (cc)
sized_then {before} {after} {result} of_kind.Indexed sized class argument is does =
    let this : sized ≡ Slots = cc in
    let At : SizedKind → Type 0 = λ one. Does (new_elements one class argument) before result after in
    let slots : Does (new_elements Slots class argument) before result after = subst At this does in
    does_then (does_give (λ named count. nil_slots (named + count)) before) slots
sized_then {before} {after} {result} of_kind.Bytes sized class argument is does =
    let this : sized ≡ Bytes = cc in
    let At : SizedKind → Type 0 = λ one. Does (new_elements one class argument) before result after in
    let bytes : Does (new_elements Bytes class argument) before result after = subst At this does in
    does_then (does_give (λ named count. body.Bytes (replicate count 0)) before) bytes
sized_then of_kind.Dict sized class argument is does = absurd (cc)
sized_then of_kind.Segment sized class argument is does = absurd (cc)
sized_then of_kind.User sized class argument is does = absurd (cc)
sized_then of_kind.Counter sized class argument is does = absurd (cc)
sized_then of_kind.Bag sized class argument is does = absurd (cc)
sized_then of_kind.RcDict sized class argument is does = absurd (cc)
sized_then of_kind.Queue sized class argument is does = absurd (cc)

-- a new segment, which lies in itself
abbrev pub segment_at : (class user name : ℕ) → Contents
segment_at class user name = record { class = class; segment = name; body = body.Segment (own_rights user) }

pub segment_objects : (class user name next : ℕ) (object : Object) (objects : List Object) → objects ≡ object ∷ []
    → contents_of object ≡ segment_at class user name → name ≡ next
    → segment_at class user next ∷ [] ≡ map contents_of objects
segment_objects class user name next object objects are is named =
    ap (λ (one : ℕ). segment_at class user one ∷ []) (sym named) ∙ ap (λ (one : Contents). one ∷ []) (sym is)
    ∙ ap (λ (these : List Object). map contents_of these) (sym are)

pub segment_contents : (class user name : ℕ) {rights : Rights Text} → rights ≡ own_rights user
    → contents_of (record { class = class; segment = name; changed = 0; body = body.Segment rights }) ≡ segment_at class user name
segment_contents class user name is = ap (λ (rights : Rights Text). contents_of (record {
  class = class;
  segment = name;
  changed = 0;
  body = body.Segment rights;
})) is
