-- The objects of a new user, as they are where its names are drawn.
use Rattle.std.proofs.Common.{◌≡◌, refl, sym, ap, ◌∙◌, ℕ, suc, ◌+◌, ◌^◌, ◌<◌, arith, Bool, true, ◌&&◌, not, List, [], ◌∷◌, map, length, Option, Some, is_some, option_and_then}
use Rattle.std.specs.List.{list_all}
use Rattle.gem_object.specs.texts.Bytes.{Bytes as Text}
use Rattle.gem_object.specs.Edits.{value_at}
use Rattle.gem_object.specs.declared.value.Value.TheVariants.{Sym}
use Rattle.gem_object.specs.declared.object.Object.{Object}
use Rattle.gem_sound.specs.gem_image.Image.{Contents, contents_of}
use Rattle.object_programs.specs.gem_world.World.{next_name}
use Rattle.object_programs.specs.Budget.{is_within_limits}
use Rattle.object_programs.specs.Methods.{methods_fit}
use Rattle.prim_rules.specs.Users.{user_segment, user_globals, user_profile, user_entry}
use Rattle.running_objects.specs.Seen.{Seen, IsSoundState}
use Rattle.prim_parts.specs.Entering.{HasNames, AreEntered}
use Rattle.prim_shared.specs.declared.new_users.NewNames.{NewNames}
use Rattle.prim_shared.specs.NewUsers.{AreDrawn}

-- the objects at any names
abbrev pub objects_at : Text → (segment globals profile : ℕ) → List Contents
objects_at name segment globals profile =
    user_segment segment profile ∷ user_globals segment globals ∷ user_profile name segment globals ∷ []

mapped : (made : List Object) → length (map contents_of made) ≡ length made
mapped [] = refl
mapped (object ∷ rest) = ap (λ (more : ℕ). suc more) (mapped rest)

-- all of them fit into no class, so their methods do
fit_map : (name : ℕ) (made : List Object) → list_all (λ object. methods_fit name object.body) made
    ≡ list_all (λ (one : Contents). methods_fit name one.body) (map contents_of made)
fit_map name [] = refl
fit_map name (object ∷ rest) = ap (λ b. methods_fit name object.body && b) (fit_map name rest)

module _ (text : Text) (names : NewNames) (made : List Object)
    (is : map contents_of made ≡ objects_at text names.segment names.globals names.profile) where
  pub count_is : length made ≡ 3
  count_is = sym (mapped made) ∙ ap length is

  pub methods_are : (name : ℕ) → list_all (λ object. methods_fit name object.body) made ≡ true
  methods_are name = fit_map name made ∙ ap (list_all (λ (one : Contents). methods_fit name one.body)) is

  pub some_are : 0 < length made
  some_are = let count = count_is in omega (arith, count)

  pub user_entered : (key : Text) (seen : Seen) → (HasNames 3 seen → AreDrawn names seen) → key ≡ text
      → AreEntered (user_entry text) made names.profile (Sym key) seen
  user_entered key seen drawn same = record {
    objects_are = λ has.
        let d = drawn (three has) in
        let first : ℕ = next_name seen.setting seen.world in
        ap (λ (one : ℕ). objects_at text one (first + 1) (first + 2)) d.segment
        ∙ ap (λ (one : ℕ). objects_at text names.segment one (first + 2)) d.globals
        ∙ ap (λ (one : ℕ). objects_at text names.segment names.globals one) d.profile ∙ sym is;
    chosen_is = λ has. (drawn (three has)).profile;
    key_is = ap Sym (sym same);
    count = sym count_is;
    sizes = ap (list_all is_within_limits) (sym is);
  }
    where
      three : HasNames (length made) seen → HasNames 3 seen
      three has = let count = count_is in omega (arith, count, has)

-- a name and the two after it are numbers of names, where they are left to be drawn
pub are_drawn : (names : NewNames) (seen : Seen) → IsSoundState seen → HasNames 3 seen
    → names.segment ≡ next_name seen.setting seen.world
    → (names.segment + 1 < 2 ^ 48 → names.globals ≡ names.segment + 1)
    → (names.segment + 2 < 2 ^ 48 → names.profile ≡ names.segment + 2) → AreDrawn names seen
are_drawn names seen sound has first second third =
    let serial = sound.serial_bound in
    let below : next_name seen.setting seen.world + 2 < 2 ^ 48 = omega (arith, serial, has) in
    let globals : names.globals ≡ names.segment + 1 = second (omega (arith, below, first)) in
    let profile : names.profile ≡ names.segment + 2 = third (omega (arith, below, first)) in
    record {
      segment = sym first;
      globals = omega (arith, first, globals);
      profile = omega (arith, first, profile);
    }

-- whether the dictionary of all users has the name, which was looked up under a copy of it
pub has_name : {found : Option Contents} {object : Contents} (key text : Text) (told : Bool)
    → told ≡ is_some (option_and_then (λ object. value_at (Sym key) object.body) found) → found ≡ Some object → key ≡ text
    → not told ≡ not (is_some (value_at (Sym text) object.body))
has_name {found} {object} key text told is there same =
    ap not (is ∙ ap (λ (one : Option Contents). is_some (option_and_then (λ object. value_at (Sym key) object.body) one)) there
    ∙ ap (λ (one : Text). is_some (value_at (Sym one) object.body)) same)
