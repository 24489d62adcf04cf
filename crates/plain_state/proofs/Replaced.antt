-- A body that is put in place of another, and what is touched where it doesn't fit.
use Rattle.std.proofs.Common.{◌≡◌, ◌∙◌, refl, sym, ap, ap₂, ℕ, Bool, true, false, ◌&&◌, not, cond, Option, Some, None, List, [], ◌∷◌, fold, is_some, option_map, Ok, Err}
use Rattle.std.proofs.lemmas.Bool.{false≢true}
use Rattle.std.proofs.lemmas.Option.{same_Some}
use Rattle.std.proofs.lemmas.List.{append-nil}
use Rattle.std.specs.FinMap.{get, insert}
use Rattle.gem_object.specs.declared.object.Object.{Object}
use Rattle.gem_object.specs.declared.body.Body.{Body}
use Rattle.gem_image.specs.Image.{Contents, contents_of}
use Rattle.gem_world.specs.World.{shown, with_name}
use Rattle.gem_world.specs.Changes.{with_body, put}
use Rattle.object_programs.specs.Fixed.{Fixed, fixed_of, fixed_by}
use Rattle.object_programs.specs.Guard.{Parts, holds_of, is_there, asked_names, may_change, may_replace}
use Rattle.object_programs.specs.Methods.{methods_fit}
use Rattle.object_programs.specs.Atom.{Put, with_missing, touch_missing, replaced_where, edited_at, edited}
use Rattle.object_programs.specs.Laws.{answered}
use Rattle.running_objects.specs.Seen.{Seen, object_at, IsSoundState}
use Rattle.running_objects.specs.Acted.{Acted}
use Rattle.running_objects.specs.declared.stop.Stop.TheVariants as stop
use Rattle.running_objects.proofs.Running.{acted_says, acted_nothing}
use Rattle.running_objects.proofs.Puts.{put_of_same}
use Rattle.object_guard.specs.Parts.{fixed_part, with_objects}
use Rattle.object_guard.specs.Missing.{missing_of, HaveNames}
use Rattle.plain_state.specs.Edit.{edited_by}
use Rattle.plain_state.specs.declared.edit.Edit.TheVariants.{PutBody}
use Rattle.plain_state.specs.Overlay.{changed_at}
use Rattle.plain_state.specs.Parts.{edited_in, SameObjects}
use Rattle.plain_state.specs.Puts.{missed_all, lacked}
use Rattle.plain_state.proofs.Touched.{keeps_touched, same_by}

-- the fixed part of an object that is seen
pub part_seen : (found : Option Object) (x : Seen) (name : ℕ) → option_map contents_of found ≡ object_at name x
    → option_map fixed_part found ≡ fixed_by x.setting x.world name
part_seen found x name is = fused found ∙ ap (option_map fixed_of) is
  where
    fused : (found : Option Object) → option_map fixed_part found ≡ option_map fixed_of (option_map contents_of found)
    fused None = refl
    fused (Some object) = refl

-- the objects that are seen have names of objects
some_both : (found : Option Contents) → is_some (option_map fixed_of found) ≡ true → is_some found ≡ true
some_both None there = absurd (false≢true there)
some_both (Some object) there = refl

pub seen_named : (x : Seen) → IsSoundState x → HaveNames (fixed_by x.setting x.world)
seen_named x sound name there = sound.named name (some_both (shown name x.setting x.world) there)

-- ---- names that are missing

one_missing : (parts : Parts) (name : ℕ) (names touched : List ℕ) (found : Option Fixed)
    → ((touched : List ℕ) → fold with_name touched (missing_of parts names) ≡ fold (with_missing parts) touched names)
    → fold with_name touched (cond (not (holds_of is_there found)) (name ∷ missing_of parts names) (missing_of parts names))
    ≡ fold (with_missing parts) (cond (is_some found) touched (with_name touched name)) names
one_missing parts name names touched None more = more (with_name touched name)
one_missing parts name names touched (Some fixed) more = more touched

all_missing : (parts : Parts) (names touched : List ℕ)
    → fold with_name touched (missing_of parts names) ≡ fold (with_missing parts) touched names
all_missing parts [] touched = refl
all_missing parts (name ∷ names) touched = one_missing parts name names touched (parts name) (all_missing parts names)

pub missed_is : (parts : Parts) (names missing : List ℕ) (x : Seen) → missing ≡ missing_of parts names
    → missed_all missing x ≡ record x { world = touch_missing parts names x.world }
unfolding touch_missing
missed_is parts names missing x is = ap (λ touched. record x { world = record x.world { touched = touched } })
    (ap (fold with_name x.world.touched) is ∙ all_missing parts names x.world.touched)

-- ---- a put

module _ (x : Seen) (name : ℕ) (body : Body) (sound : IsSoundState x) where
  abbrev pub may_stand : Contents → Option Contents → Bool
  may_stand new found = holds_of (λ old. may_change name old x.setting x.world
      && may_replace name old new x.setting x.world) found

  put_by : (y : Seen) → y.setting ≡ x.setting → y.budget ≡ x.budget
      → edited name (with_body body) x.setting x.world ≡ y.world → Acted (Put name body) x (Ok tt) y
  put_by y setting budget left = acted_says (Put name body) x y tt setting
      (ap₂ (λ world budget. answered tt world budget) left (sym budget))

  by_test : (old : Contents) (may : Bool) → get x.world.changes name ≡ Some old
      → may_stand (with_body body old) (Some old) ≡ may
      → edited name (with_body body) x.setting x.world
      ≡ replaced_where may name None (with_body body old) x.setting x.world
  unfolding edited
  by_test old may written is = ap (λ found. edited_at name (with_body body) found x.setting x.world) written
      ∙ ap (λ b. replaced_where b name None (with_body body old) x.setting x.world) is

  absent : (found : Option Contents) → get x.world.changes name ≡ found → None ≡ option_map (with_body body) found
      → (old : Contents) → get x.world.changes name ≡ Some old → body ≡ old.body
  absent None there none old written = cc
  absent (Some other) there none old written = cc

  -- no object of this name was written
  pub put_absent : None ≡ option_map (with_body body) (get x.world.changes name) → Acted (Put name body) x (Ok tt) x
  put_absent none = put_of_same x name sound body (absent (get x.world.changes name) refl none)

  done_by : (new : Contents) (found : Option Contents) → get x.world.changes name ≡ found
      → Some new ≡ option_map (with_body body) found → may_stand new found ≡ true
      → Acted (Put name body) x (Ok tt) (edited_in name (edited_by (PutBody new.body)) x)
  unfolding put
  done_by new None there is may = cc
  done_by new (Some old) there is may =
      let same : new ≡ with_body body old = same_Some new (with_body body old) is in
      put_by (edited_in name (edited_by (PutBody new.body)) x) refl refl
      (by_test old true there (sym (ap (λ (one : Contents). may_stand one (Some old)) same) ∙ may)
      ∙ ap (λ (b : Body). record x.world { changes = insert x.world.changes name (with_body b old) })
      (sym (ap (λ (one : Contents). one.body) same))
      ∙ sym (ap (λ (found : Option Contents). record x.world {
        changes = changed_at name (edited_by (PutBody new.body)) found x.world.changes;
      }) there))

  pub put_done : (new : Contents) → Some new ≡ option_map (with_body body) (get x.world.changes name)
      → may_stand new (get x.world.changes name) ≡ true
      → Acted (Put name body) x (Ok tt) (edited_in name (edited_by (PutBody new.body)) x)
  put_done new is may = done_by new (get x.world.changes name) refl is may

  lacks_by : (object : Object) (found : Option Contents) → get x.world.changes name ≡ found
      → Some (contents_of object) ≡ option_map (with_body body) found → may_stand (contents_of object) found ≡ false
      → Acted (Put name body) x (Ok tt) (lacked name (object ∷ []) x)
  unfolding touch_missing
  lacks_by object None there is may = cc
  lacks_by object (Some old) there is may =
      let new : Contents = contents_of object in
      let same : new ≡ with_body body old = same_Some new (with_body body old) is in
      let parts : Parts = with_objects name (object ∷ []) (fixed_by x.setting x.world) in
      put_by (lacked name (object ∷ []) x) refl refl
      (by_test old false there (sym (ap (λ (one : Contents). may_stand one (Some old)) same) ∙ may)
      ∙ ap (λ (one : Contents). replaced_where false name None one x.setting x.world) (sym same)
      ∙ ap (λ names. touch_missing parts names x.world) (sym (append-nil (asked_names parts new))))

  pub put_lacks : (object : Object) → Some (contents_of object) ≡ option_map (with_body body) (get x.world.changes name)
      → may_stand (contents_of object) (get x.world.changes name) ≡ false
      → Acted (Put name body) x (Ok tt) (lacked name (object ∷ []) x)
  put_lacks object is may = lacks_by object (get x.world.changes name) refl is may

-- a put that leaves but other touches
pub put_nothing : {x y : Seen} (name : ℕ) (body : Body) → SameObjects x y → Acted (Put name body) x (Err stop.NoMemory) y
put_nothing {x} {y} name body same = acted_nothing (Put name body) x y (keeps_touched x y same)

-- the body of an object that would be put
new_by : (object : Object) (body : Body) (found : Option Contents)
    → Some (contents_of object) ≡ option_map (with_body body) found → object.body ≡ body
new_by object body None is = cc
new_by object body (Some old) is = ap (λ (one : Contents). one.body) (same_Some (contents_of object) (with_body body old) is)

pub new_methods : (name : ℕ) (object : Object) (body : Body) (found : Option Contents)
    → Some (contents_of object) ≡ option_map (with_body body) found → methods_fit name body ≡ true
    → methods_fit name object.body ≡ true
new_methods name object body found is fit = ap (methods_fit name) (new_by object body found is) ∙ fit

pub unchanged_same : {x y : Seen} → y ≡ x → SameObjects x y
unchanged_same {x} {y} is = same_by (record { setting = refl; next = refl; changes = refl; updates = refl; budget = refl }) is
