-- What reads of calm objects do.
use Rattle.std.proofs.Common.{◌≡◌, ◌∙◌, refl, sym, ap, ℕ, Bool, true, false, ◌||◌, cond, Option, Some, None, List, option_map, option_and_then}
use Rattle.std.proofs.lemmas.Bool.{false≢true}
use Rattle.std.proofs.lemmas.Option.{same_Some}
use Rattle.gem_object.specs.declared.body.ClassBody.{ClassBody}
use Rattle.gem_object.specs.declared.body.Body.{Body}
use Rattle.gem_object.specs.declared.body.Body.TheVariants.{Plain, Bytes, Dict, Class, Segment, User, Counter, Bag, RcDict, Queue}
use Rattle.running_objects.specs.gem_image.Image.{Contents}
use Rattle.running_objects.specs.gem_world.World.{Setting, World, shown, is_private, is_among, touch}
use Rattle.running_objects.specs.gem_world.Access.{touches_of, with_touches}
use Rattle.running_objects.specs.gem_sound.Parts.{class_of}
use Rattle.running_objects.specs.object_programs.Atom.{Done}
use Rattle.running_objects.specs.object_programs.Laws.{answered}
use Rattle.running_objects.specs.object_programs.Run.{gives, State, outcome_of}
use Rattle.running_objects.specs.object_programs.Programs.{read}
use Rattle.running_objects.proofs.object_programs_lemmas.Exact.{read_done}
use Rattle.gem_language.specs.tree_meaning.Place.{MadeBlock}
use Rattle.gem_language.specs.Comes.{Comes}
use Rattle.gem_language.specs.LookUp.{start_of_object}
use Rattle.look_up_cache.specs.Lasting.{Lasting, lasting_body, lasting_of, class_in, is_settled}
use Rattle.look_up_cache.specs.Calm.{Calm, start_by}

-- ---- what lasts of a body

pub class_lasts : (body : Body) → option_and_then class_of (lasting_body body) ≡ class_of body
class_lasts (Plain values) = refl
class_lasts (Bytes bytes) = refl
class_lasts (Dict pairs) = refl
class_lasts (Class class) = refl
class_lasts (Segment rights) = refl
class_lasts (User user) = refl
class_lasts (Counter counter) = refl
class_lasts (Bag pairs) = refl
class_lasts (RcDict pairs) = refl
class_lasts (Queue queue) = refl

pub start_lasts : (name class : ℕ) (body : Body)
    → start_by name class (lasting_body body) ≡ start_of_object name class body
start_lasts name class (Plain values) = refl
start_lasts name class (Bytes bytes) = refl
start_lasts name class (Dict pairs) = refl
start_lasts name class (Class held) = refl
start_lasts name class (Segment rights) = refl
start_lasts name class (User user) = refl
start_lasts name class (Counter counter) = refl
start_lasts name class (Bag pairs) = refl
start_lasts name class (RcDict pairs) = refl
start_lasts name class (Queue queue) = refl

-- an object of which this lasts
pub record Taken (found : Option Contents) (part : Lasting) : Type 0 where
  pub object : Contents
  pub there : found ≡ Some object
  pub is : lasting_of object ≡ part

pub taken : (found : Option Contents) (part : Lasting) → option_map lasting_of found ≡ Some part
    → Taken found part
taken None part is = cc
taken (Some object) part is =
    record { object = object; there = refl; is = same_Some (lasting_of object) part is }

pub class_taken : (object : Contents) (part : Lasting) (found : Option ClassBody) → lasting_of object ≡ part
    → class_in part ≡ found → class_of object.body ≡ found
class_taken object part found is class = sym (class_lasts object.body) ∙ (ap class_in is ∙ class)

-- ---- touches

settled_by : (private among : Bool) (names more : List ℕ) → (private || among) ≡ true
    → cond private names (cond among names more) ≡ names
settled_by true among names more settled = refl
settled_by false true names more settled = refl
settled_by false false names more settled = absurd (false≢true settled)

pub settled_touch : (name : ℕ) (setting : Setting) (world : World) → is_settled name setting world ≡ true
    → touch name setting world ≡ world
unfolding is_settled touch
settled_touch name setting world settled = ap (λ (names : List ℕ). record world { touched = names })
    (settled_by (is_private name setting world) (is_among name world.touched) world.touched _ settled)

module _ (name : ℕ) (part : Lasting) (setting : Setting) (world : World) (calm : Calm name part setting world) where
  pub calm_touches : (object : Contents) → shown name setting world ≡ Some object → lasting_of object ≡ part
      → with_touches name setting world ≡ world
  unfolding with_touches
  calm_touches object there is =
      let within : is_settled object.segment setting world ≡ true =
      ap (λ (p : Lasting). is_settled p.segment setting world) is ∙ calm.segment in
      ap (λ found. touches_of name found setting world) there
      ∙ (ap (λ (w : World). touch setting.user setting (touch object.segment setting w))
      (settled_touch name setting world calm.own)
      ∙ (ap (λ (w : World). touch setting.user setting w) (settled_touch object.segment setting world within)
      ∙ settled_touch setting.user setting world calm.user))

-- a read of a calm object gives it and changes nothing
pub record Reads (name : ℕ) (part : Lasting) (setting : Setting) (state : State MadeBlock) : Type 0 where
  pub object : Contents
  pub is : lasting_of object ≡ part
  pub comes : Comes (read name) setting state (gives object) state

pub calm_read : (name : ℕ) (part : Lasting) (setting : Setting) (state : State MadeBlock)
    → Calm name part setting state.world → Reads name part setting state
calm_read name part setting state calm =
    let found = taken (shown name setting state.world) part calm.there in
    record {
      object = found.object;
      is = found.is;
      comes = ap (λ (did : Done Contents). outcome_of did state.local)
          (read_done name setting state.world state.budget found.object calm.allowed found.there
          ∙ ap (λ (world : World). answered found.object world state.budget)
          (calm_touches name part setting state.world calm found.object found.there found.is));
    }
