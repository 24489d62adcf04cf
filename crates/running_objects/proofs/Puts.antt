-- What puts leave where all objects that are seen are sound: which names they lack, and what a put of the same body does.
use Rattle.std.proofs.Common.{◌≡◌, ◌∙◌, refl, sym, ap, ℕ, zero, suc, Bool, true, false, ◌&&◌, cond, nat_eq, nat_lt, Option, Some, None, List, [], ◌∷◌, ◌++◌, fold, is_some, option_map, Ok}
use Rattle.std.proofs.lemmas.Bool.{false≢true, and_parts, and_from, eqb-true, eqb-false}
use Rattle.std.specs.Ordering.{nat_cmp}
use Rattle.std.specs.FinMap.{FinMap, get, insert}
use Rattle.std.specs.List.{list_all}
use Rattle.std.specs.Option.{option_to_list}
use Rattle.std.proofs.lemmas.List.Folds.{list_all-append}
use Rattle.object_programs.proofs.radix_pages_lemmas.Tables.{same_keys, get-insert_same, get-insert_other}
use Rattle.gem_object.specs.References.{names_in_body}
use Rattle.gem_object.specs.declared.body.Body.{Body}
use Rattle.gem_object.specs.declared.body.Body.TheVariants as body
use Rattle.object_programs.specs.gem_image.Image.{Contents}
use Rattle.object_programs.specs.gem_world.World.{Setting, World, shown, with_name}
use Rattle.object_programs.specs.gem_world.Changes.{with_body, put}
use Rattle.object_programs.specs.Sound.{names_in}
use Rattle.object_programs.specs.Fixed.{ClassPart, class_part, Fixed, fixed_of, fixed_by}
use Rattle.object_programs.specs.Guard.{Parts, holds_of, is_there, is_known, asked_names, line_above, line_of_class, line_of_part, line_within, line_at, chain_limit, fits, may_change, may_replace}
use Rattle.object_programs.specs.Atom.{Put, with_missing, touch_missing, replaced_where, edited_at, edited}
use Rattle.object_programs.specs.Laws.{AreSound, answered}
use Rattle.object_programs.proofs.Worlds.{changed_shown}
use Rattle.running_objects.specs.Seen.{Seen, IsSoundState}
use Rattle.running_objects.specs.Acted.{Acted, Edited}
use Rattle.running_objects.proofs.Running.{acted_says, seen_twice}
use Rattle.running_objects.proofs.Edits.{parts_stay}

-- an object that is put where it stands changes nothing
pub insert_same : (m : FinMap nat_cmp Contents) (k : ℕ) (v : Contents) → get m k ≡ Some v → insert m k v ≡ m
insert_same m k v there = same_keys _ _ (λ q. by q (nat_eq q k) refl)
  where
    by : (q : ℕ) (b : Bool) → nat_eq q k ≡ b → get (insert m k v) q ≡ get m q
    by q true same = get-insert_same m k v q (eqb-true q k same) ∙ sym (ap (get m) (eqb-true q k same) ∙ there)
    by q false apart = get-insert_other m k v q (eqb-false q k apart)

pub put_same : (name : ℕ) (object : Contents) (world : World) → get world.changes name ≡ Some object
    → put name object world ≡ world
unfolding put
put_same name object world there =
    ap (λ (changes : FinMap nat_cmp Contents). record world { changes = changes }) (insert_same world.changes name object there)

-- ---- names that are there aren't missing

missing_not : (parts : Parts) (touched : List ℕ) (name : ℕ) (found : Option Fixed) → holds_of is_there found ≡ true
    → is_some found ≡ true
missing_not parts touched name None known = absurd (false≢true known)
missing_not parts touched name (Some fixed) known = refl

pub none_missing : (parts : Parts) (names touched : List ℕ) → list_all (is_known parts) names ≡ true
    → fold (with_missing parts) touched names ≡ touched
none_missing parts [] touched known = refl
none_missing parts (name ∷ names) touched known =
    let both = and_parts (is_known parts name) (list_all (is_known parts) names) known in
    let there : is_some (parts name) ≡ true = missing_not parts touched name (parts name) both.0 in
    ap (λ begun. fold (with_missing parts) begun names)
    (ap (λ b. cond b touched (with_name touched name)) there)
    ∙ none_missing parts names touched both.1

pub nothing_missed : (parts : Parts) (names : List ℕ) (world : World) → list_all (is_known parts) names ≡ true
    → touch_missing parts names world ≡ world
unfolding touch_missing
nothing_missed parts names world known =
    ap (λ touched. record world { touched = touched }) (none_missing parts names world.touched known)

-- ---- the classes above a class that is there are there

module _ (setting : Setting) (world : World) (sound : AreSound setting world) where
  pub known_refs : (name : ℕ) (object : Contents) → shown name setting world ≡ Some object
      → list_all (is_known (fixed_by setting world)) (names_in object) ≡ true
  unfolding fits
  known_refs name object there = (and_parts (list_all (is_known (fixed_by setting world)) (names_in object)) _
      (and_parts (nat_lt 0 name) _ (sound.each name object there)).1).0

  superclass_by : (one : Body) (superclass : ℕ) → option_map (λ part. part.superclass) (class_part one) ≡ Some (Some superclass)
      → list_all (is_known (fixed_by setting world)) (names_in_body one) ≡ true
      → is_known (fixed_by setting world) superclass ≡ true
  superclass_by (body.Class class) superclass is known = by class.superclass is known
    where
      by : (found : Option ℕ) → Some found ≡ Some (Some superclass)
          → list_all (is_known (fixed_by setting world)) (option_to_list found) ≡ true
          → is_known (fixed_by setting world) superclass ≡ true
      by None is known = cc
      by (Some other) is known =
          let same : other ≡ superclass = cc in
          ap (is_known (fixed_by setting world)) (sym same) ∙ (and_parts (is_known (fixed_by setting world) other) true known).0
  superclass_by (body.Plain values) superclass is known = cc
  superclass_by (body.Bytes bytes) superclass is known = cc
  superclass_by (body.Dict pairs) superclass is known = cc
  superclass_by (body.Segment rights) superclass is known = cc
  superclass_by (body.User user) superclass is known = cc
  superclass_by (body.Counter counter) superclass is known = cc
  superclass_by (body.Bag pairs) superclass is known = cc
  superclass_by (body.RcDict pairs) superclass is known = cc
  superclass_by (body.Queue queue) superclass is known = cc

  -- what is above a class object
  above_known : (more : ℕ → List ℕ) → ((name : ℕ) → is_known (fixed_by setting world) name ≡ true
      → list_all (is_known (fixed_by setting world)) (more name) ≡ true)
      → (one : Body) (part : Option ClassPart) → class_part one ≡ part
      → list_all (is_known (fixed_by setting world)) (names_in_body one) ≡ true
      → list_all (is_known (fixed_by setting world)) (line_of_class part more) ≡ true
  above_known more each one None is known = refl
  above_known more each one (Some part) is known = by part.superclass refl
    where
      by : (superclass : Option ℕ) → part.superclass ≡ superclass
          → list_all (is_known (fixed_by setting world)) (line_above superclass more) ≡ true
      by None none = refl
      by (Some superclass) some = each superclass (superclass_by one superclass
          (ap (option_map (λ (part : ClassPart). part.superclass)) is ∙ ap Some some) known)

  refs_of_body : (object : Contents) → list_all (is_known (fixed_by setting world)) (names_in object) ≡ true
      → list_all (is_known (fixed_by setting world)) (names_in_body object.body) ≡ true
  refs_of_body object known =
      let parts : Parts = fixed_by setting world in
      (and_parts (is_known parts object.segment) _ (and_parts (is_known parts object.class) _ known).1).1

  part_known : (more : ℕ → List ℕ) → ((name : ℕ) → is_known (fixed_by setting world) name ≡ true
      → list_all (is_known (fixed_by setting world)) (more name) ≡ true)
      → (name : ℕ) (found : Option Contents) → shown name setting world ≡ found
      → list_all (is_known (fixed_by setting world)) (line_of_part (option_map fixed_of found) more) ≡ true
  part_known more each name None there = refl
  part_known more each name (Some object) there = above_known more each object.body (class_part object.body) refl
      (refs_of_body object (known_refs name object there))

  pub line_known : (limit name : ℕ) → is_known (fixed_by setting world) name ≡ true
      → list_all (is_known (fixed_by setting world)) (line_within (fixed_by setting world) limit name) ≡ true
  line_known zero name known = refl
  line_known (suc limit) name known = and_from (is_known (fixed_by setting world) name) _ known
      (part_known (line_within (fixed_by setting world) limit) (line_known limit) name (shown name setting world) refl)

  pub line_at_known : (name : ℕ) → is_known (fixed_by setting world) name ≡ true
      → list_all (is_known (fixed_by setting world)) (line_at (fixed_by setting world) name) ≡ true
  unfolding line_at
  line_at_known name known = line_known chain_limit name known

  -- what the guard asks of an object besides what its body refers to
  pub rest_known : (name : ℕ) (object : Contents) → shown name setting world ≡ Some object
      → list_all (is_known (fixed_by setting world)) (line_at (fixed_by setting world) object.class
      ++ line_of_class (class_part object.body) (line_at (fixed_by setting world))) ≡ true
  rest_known name object there =
      let parts : Parts = fixed_by setting world in
      let refs = known_refs name object there in
      let class = and_parts (is_known parts object.class) _ refs in
      list_all-append (is_known parts) (line_at parts object.class) (line_of_class (class_part object.body) (line_at parts))
      ∙ and_from (list_all (is_known parts) (line_at parts object.class))
      (list_all (is_known parts) (line_of_class (class_part object.body) (line_at parts)))
      (line_at_known object.class class.0)
      (above_known (line_at parts) line_at_known object.body (class_part object.body) refl (refs_of_body object refs))

  -- a sound object asks for nothing that is missing
  pub asked_known : (name : ℕ) (object : Contents) → shown name setting world ≡ Some object
      → list_all (is_known (fixed_by setting world)) (asked_names (fixed_by setting world) object) ≡ true
  asked_known name object there =
      let parts : Parts = fixed_by setting world in
      let rest : List ℕ = line_at parts object.class ++ line_of_class (class_part object.body) (line_at parts) in
      list_all-append (is_known parts) (names_in object) rest
      ∙ and_from (list_all (is_known parts) (names_in object)) (list_all (is_known parts) rest)
      (known_refs name object there) (rest_known name object there)

-- ---- a put of the body that is there

module _ (x : Seen) (name : ℕ) (sound : IsSoundState x) where
  same_where : (may : Bool) (old : Contents) → get x.world.changes name ≡ Some old
      → replaced_where may name None old x.setting x.world ≡ x.world
  same_where true old written = put_same name old x.world written
  same_where false old written =
      let there : shown name x.setting x.world ≡ Some old = changed_shown x.setting name old x.world written in
      ap (λ (parts : Parts). touch_missing parts (asked_names parts old) x.world)
      (parts_stay x.setting x.world name old sound there old refl)
      ∙ nothing_missed (fixed_by x.setting x.world) (asked_names (fixed_by x.setting x.world) old) x.world
      (asked_known x.setting x.world sound name old there)

  same_at : (body : Body) (found : Option Contents) → get x.world.changes name ≡ found
      → ((old : Contents) → found ≡ Some old → body ≡ old.body)
      → edited_at name (with_body body) found x.setting x.world ≡ x.world
  same_at body None written same = refl
  same_at body (Some old) written same =
      let is : body ≡ old.body = same old refl in
      ap (λ (one : Body). edited_at name (with_body one) (Some old) x.setting x.world) is
      ∙ same_where (may_change name old x.setting x.world && may_replace name old old x.setting x.world) old written

  -- leaves all as it is
  pub put_of_same : (body : Body) → ((old : Contents) → get x.world.changes name ≡ Some old → body ≡ old.body)
      → Acted (Put name body) x (Ok tt) x
  unfolding edited
  put_of_same body same = acted_says (Put name body) x x tt refl
      (ap (λ (world : World). answered tt world x.budget) (same_at body (get x.world.changes name) refl same))

-- An edit that does nothing to what stands among the changes does nothing.
pub edit_of_same : (x : Seen) (name : ℕ) → IsSoundState x → (edit : Body → Body)
    → ((old : Contents) → get x.world.changes name ≡ Some old → edit old.body ≡ old.body)
    → Edited name edit x (Ok tt) x
edit_of_same x name sound edit same object there = put_of_same x name sound (edit object.body) (λ old written.
    let one : object ≡ old = seen_twice there
    (sym (changed_shown x.setting name old x.world written)) in
    ap (λ (object : Contents). edit object.body) one ∙ same old written)
