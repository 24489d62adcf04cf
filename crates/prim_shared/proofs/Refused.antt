-- Lists that are too long for an Array.
use Rattle.std.proofs.Common.{◌≡◌, refl, sym, ap, ◌∙◌, ℕ, ◌+◌, ◌*◌, ◌/◌, ◌-◌, ◌^◌, min, nat_le, Bool, true, false, ◌&&◌, cond, List, [], ◌∷◌, length, replicate, sum_by, Some, Err, Ok, arith}
use Rattle.std.proofs.Math.Path.{fun_ext}
use Rattle.std.proofs.lemmas.List.{length-map, length-replicate}
use Rattle.std.proofs.lemmas.List.Concat.{length-flat_map}
use Rattle.std.proofs.lemmas.Bool.Decides.{nat_tests}
use Rattle.gem_object.specs.Slots.{slots_of}
use Rattle.gem_object.specs.Sizes.{fields_size}
use Rattle.gem_object.specs.declared.value.Value.{Value}
use Rattle.gem_object.specs.declared.value.Value.TheVariants.{Sym}
use Rattle.gem_object.specs.declared.body.Body.{Body}
use Rattle.gem_object.specs.declared.body.Body.TheVariants as body
use Rattle.gem_sound.specs.gem_image.Image.{Contents}
use Rattle.gem_sound.specs.declared.names.TheConstants.{ARRAY_CLASS}
use Rattle.object_programs.specs.Atom.{Make, made_by, name_check, too_large}
use Rattle.object_programs.specs.declared.fault.Fault.TheVariants as fault
use Rattle.object_programs.specs.declared.limits.TheConstants.{SLOTS_LIMIT, BYTES_LIMIT}
use Rattle.running_objects.specs.Seen.{Seen}
use Rattle.running_objects.specs.Acted.{Acted}
use Rattle.running_objects.specs.declared.stop.Stop.TheVariants as stop
use Rattle.running_objects.proofs.Running.{acted_refuses}
use Rattle.prim_rules.specs.Bags.{items_of}
use Rattle.prim_rules.specs.Parts.{default_segment, new_object_in, new_object}
use Rattle.prim_parts.specs.Does.{Does}
use Rattle.prim_parts.proofs.Does.{does_then, does_stop, does_atom}
use Rattle.prim_shared.specs.declared.told.Listing.{Listing}
use Rattle.prim_shared.specs.declared.told.Listing.TheVariants as listing
use Rattle.prim_shared.specs.Kinds.{HeldBy, held_in}
use Rattle.prim_shared.specs.Told.{kind_listed, listed_by, fits_array}

make_refused : (values : List Value) (class segment : ℕ) (seen : Seen) → fits_array values ≡ false
    → Acted (Make (λ name. record { class = class; segment = segment; body = body.Plain values } ∷ [])) seen
    (Err (stop.Fails fault.ObjectTooLarge)) seen
make_refused values class segment seen large =
    let object : Contents = record { class = class; segment = segment; body = body.Plain values } in
    acted_refuses (Make (λ name. object ∷ [])) seen seen fault.ObjectTooLarge refl
    (ap (λ (few : Bool). made_by (cond ((few && nat_le (17 + fields_size (body.Plain values)) BYTES_LIMIT) && true)
    (name_check (object ∷ []) seen.world seen.budget) too_large) (object ∷ []) seen.setting seen.world seen.budget) large)

-- it is refused after the profile was read
pub array_refused : (values : List Value) (segment : ℕ) {before after : Seen} → fits_array values ≡ false
    → Does default_segment before (Ok segment) after
    → Does (new_object ARRAY_CLASS (body.Plain values)) before (Err (stop.Fails fault.ObjectTooLarge)) after
unfolding new_object new_object_in
array_refused values segment {before} {after} large read =
    does_then read (does_stop (does_atom (make_refused values ARRAY_CLASS segment after large)))

-- so many items a bag has as are listed
items_counted : (pairs : List (Value × ℕ)) → length (items_of pairs) ≡ sum_by (λ pair. pair.1) pairs
items_counted pairs =
    let one : (λ (pair : Value × ℕ). length (replicate pair.1 pair.0)) ≡ (λ (pair : Value × ℕ). pair.1) =
    fun_ext (λ pair. length-replicate pair.1 pair.0) in
    length-flat_map (λ (pair : Value × ℕ). replicate pair.1 pair.0) pairs
    ∙ ap (λ (count : (Value × ℕ) → ℕ). sum_by count pairs) one

few_slots : (count number : ℕ) → number ≡ count → nat_le (min count (2 ^ 64 - 1)) SLOTS_LIMIT ≡ nat_le number SLOTS_LIMIT
few_slots count number same = grind (arith, nat_tests)

few_halves : (count number : ℕ) → number ≡ count → nat_le (min (2 * count) (2 ^ 64 - 1) / 2) SLOTS_LIMIT ≡ nat_le number SLOTS_LIMIT
few_halves count number same = grind (arith, nat_tests)

-- the slots of a body of the kind tell whether what is listed of it fits
pub slots_tell : (one : Listing) (found : Body) → (one ≡ listing.Keys → ⊥) → (held : HeldBy (kind_listed one))
    → held_in (kind_listed one) found ≡ Some held
    → nat_le (min (slots_of found) (2 ^ 64 - 1)) SLOTS_LIMIT ≡ fits_array (listed_by one held)
slots_tell listing.Groups (body.User user) not held holds =
    let same : user ≡ held = cc in
    few_slots (length user.groups) _ (length-map held.groups Sym ∙ ap (λ one. length one.groups) (sym same))
slots_tell listing.Items (body.Bag pairs) not held holds =
    let same : pairs ≡ held = cc in
    few_slots (sum_by (λ pair. pair.1) pairs) _ (items_counted held ∙ ap (sum_by (λ pair. pair.1)) (sym same))
slots_tell listing.Keys found not held holds = absurd (not refl)
slots_tell listing.Waiting (body.Queue queue) not held holds =
    let same : queue ≡ held = cc in
    few_slots (length queue.items) _ (ap (λ one. length one.items) (sym same))
slots_tell _ _ not held holds = absurd (cc)

pub slots_tell_keys : (one : Listing) (found : Body) → one ≡ listing.Keys → (held : HeldBy (kind_listed one))
    → held_in (kind_listed one) found ≡ Some held
    → nat_le (min (slots_of found) (2 ^ 64 - 1) / 2) SLOTS_LIMIT ≡ fits_array (listed_by one held)
slots_tell_keys listing.Keys (body.RcDict pairs) is held holds =
    let same : pairs ≡ held = cc in
    few_halves (length pairs) _ (length-map held (λ (pair : Value × Value). pair.0) ∙ ap (λ one. length one) (sym same))
slots_tell_keys _ _ is held holds = absurd (cc)
