-- The finite map that entries make: what it has at a name, and what a change of the entries does to it.
use Rattle.std.proofs.Common.{◌≡◌, refl, sym, ap, ◌∙◌, ℕ, Bool, true, false, cond, nat_eq, List, [], ◌∷◌, map, Option, Some, None, option_map}
use Rattle.std.proofs.lemmas.Bool.{eqb-true, eqb-false}
use Rattle.std.proofs.lemmas.Cmp.{nat_cmp_total}
use Rattle.std.specs.Cmp.{tied_itself}
use Rattle.std.specs.Ordering.{is_eq, eq_by_cmp, nat_cmp}
use Rattle.std.specs.declared.cmp.Ordering.TheVariants.{Less, Equal, Greater}
use Rattle.std.specs.FinMap.{FinMap, get, insert, find, nat_cmp-IsAntisymmetric, get-insert, get-from_entries}
use Rattle.std.specs.Map.{lookup, set_value}
use Rattle.std.proofs.lemmas.Map.Steps.{set_value_same}
use Rattle.indexmap.specs.IndexMap.{insert_entry}
use Rattle.gem_image.proofs.radix_pages_lemmas.Tables.{same_keys}
use Rattle.gem_object.specs.declared.object.Object.{Object}
use Rattle.gem_image.specs.Image.{Contents, contents_of}
use Rattle.plain_state.specs.Overlay.{contents_by_name, changed_at, changed}

tied_by : (q k : ℕ) (same : Bool) → nat_eq q k ≡ same → eq_by_cmp nat_cmp q k ≡ same
tied_by q k true is = ap (λ (n : ℕ). eq_by_cmp nat_cmp n k) (eqb-true q k is) ∙ ap is_eq (tied_itself nat_cmp_total k)
tied_by q k false is =
    elim (nat_cmp q k) as (λ r. nat_cmp q k ≡ r → is_eq r ≡ false) [
      | Less ↦ λ e. refl
      | Equal ↦ λ e. absurd (eqb-false q k is (nat_cmp-IsAntisymmetric q k e))
      | Greater ↦ λ e. refl
    ] refl

-- the order tells numbers apart where equality does
pub tied : (q k : ℕ) → eq_by_cmp nat_cmp q k ≡ nat_eq q k
tied q k = tied_by q k (nat_eq q k) refl

found : (es : List (ℕ × Object)) (q : ℕ)
    → find nat_cmp q (map (λ entry. (entry.0, contents_of entry.1)) es) ≡ option_map contents_of (lookup (nat_eq q) es)
found [] q = refl
found (e ∷ es) q =
    let At : Bool → Option Contents → Type 0 = λ b rest.
    cond b (Some (contents_of e.1)) rest ≡ option_map contents_of (cond (nat_eq q e.0) (Some e.1) (lookup (nat_eq q) es)) in
    rw (tied q e.0, found es q) (either (nat_eq q e.0))
  where
    either : (b : Bool) → cond b (Some (contents_of e.1)) (option_map contents_of (lookup (nat_eq q) es))
        ≡ option_map contents_of (cond b (Some e.1) (lookup (nat_eq q) es))
    either true = refl
    either false = refl

-- what the map has at a name
pub get_by_name : (es : List (ℕ × Object)) (q : ℕ) → get (contents_by_name es) q ≡ option_map contents_of (lookup (nat_eq q) es)
get_by_name es q = get-from_entries nat_cmp_total (map (λ entry. (entry.0, contents_of entry.1)) es) q ∙ found es q

pub get_either : (m : FinMap nat_cmp Contents) (k q : ℕ) (v : Contents)
    → get (insert m k v) q ≡ cond (nat_eq q k) (Some v) (get m q)
get_either m k q v = get-insert nat_cmp_total m k v q ∙ ap (λ b. cond b (Some v) (get m q)) (tied q k)

map_cond : (b : Bool) (o : Object) (rest : Option Object)
    → option_map contents_of (cond b (Some o) rest) ≡ cond b (Some (contents_of o)) (option_map contents_of rest)
map_cond true o rest = refl
map_cond false o rest = refl

-- two tests of which the later one is only asked where the first fails
passed_over : (first second : Bool) (o : Object) (there rest : Option Object)
    → (second ≡ true → first ≡ true → ⊥)
    → cond second there (cond first (Some o) rest) ≡ cond first (Some o) (cond second there rest)
passed_over true true o there rest apart = absurd (apart refl refl)
passed_over true false o there rest apart = refl
passed_over false first o there rest apart = refl

apart_from : (q k other : ℕ) → nat_eq k other ≡ false → nat_eq q other ≡ true → nat_eq q k ≡ true → ⊥
apart_from q k other unlike there here =
    let same : k ≡ other = sym (eqb-true q k here) ∙ eqb-true q other there in
    eqb-false k other unlike same

absorbed : (q k other : ℕ) → nat_eq k other ≡ true → (o v : Object) (rest : Option Object)
    → cond (nat_eq q other) (Some o) rest ≡ cond (nat_eq q k) (Some o) (cond (nat_eq q other) (Some v) rest)
absorbed q k other alike o v rest =
    let same : k ≡ other = eqb-true k other alike in
    rw same (twice (nat_eq q other))
  where
    twice : (b : Bool) → cond b (Some o) rest ≡ cond b (Some o) (cond b (Some v) rest)
    twice true = refl
    twice false = refl

found_put : (es : List (ℕ × Object)) (k q : ℕ) (o : Object)
    → lookup (nat_eq q) (insert_entry nat_eq es k o) ≡ cond (nat_eq q k) (Some o) (lookup (nat_eq q) es)
found_put [] k q o = refl
found_put (e ∷ es) k q o = by (found_put es k q o) (nat_eq k e.0) refl
  where
    by : lookup (nat_eq q) (insert_entry nat_eq es k o) ≡ cond (nat_eq q k) (Some o) (lookup (nat_eq q) es)
        → (b : Bool) → nat_eq k e.0 ≡ b
        → lookup (nat_eq q) (cond b ((e.0, o) ∷ es) (e ∷ insert_entry nat_eq es k o))
        ≡ cond (nat_eq q k) (Some o) (cond (nat_eq q e.0) (Some e.1) (lookup (nat_eq q) es))
    by rest true alike = absorbed q k e.0 alike o e.1 (lookup (nat_eq q) es)
    by rest false unlike = ap (cond (nat_eq q e.0) (Some e.1)) rest
        ∙ passed_over (nat_eq q k) (nat_eq q e.0) o (Some e.1) (lookup (nat_eq q) es) (apart_from q k e.0 unlike)

-- an object that is put at a name
pub put_by_name : (es : List (ℕ × Object)) (k : ℕ) (o : Object)
    → contents_by_name (insert_entry nat_eq es k o) ≡ insert (contents_by_name es) k (contents_of o)
put_by_name es k o = same_keys _ _ (λ q.
    get_by_name (insert_entry nat_eq es k o) q ∙ ap (option_map contents_of) (found_put es k q o)
    ∙ map_cond (nat_eq q k) o (lookup (nat_eq q) es)
    ∙ ap (cond (nat_eq q k) (Some (contents_of o))) (sym (get_by_name es q))
    ∙ sym (get_either (contents_by_name es) k q (contents_of o)))

-- an object that is written in place is as one that is put
pub set_is_put : (es : List (ℕ × Object)) (k : ℕ) (o old : Object) → lookup (nat_eq k) es ≡ Some old
    → set_value (nat_eq k) es o ≡ insert_entry nat_eq es k o
set_is_put [] k o old there = cc
set_is_put (e ∷ es) k o old there = by (set_is_put es k o old) (nat_eq k e.0) there
  where
    by : (lookup (nat_eq k) es ≡ Some old → set_value (nat_eq k) es o ≡ insert_entry nat_eq es k o) → (b : Bool) → cond b (Some e.1) (lookup (nat_eq k) es) ≡ Some old
        → cond b ((e.0, o) ∷ es) (e ∷ set_value (nat_eq k) es o) ≡ cond b ((e.0, o) ∷ es) (e ∷ insert_entry nat_eq es k o)
    by more true there = refl
    by more false there = ap (λ rest. e ∷ rest) (more there)

pub set_by_name : (es : List (ℕ × Object)) (k : ℕ) (o old : Object) (edit : Contents → Contents)
    → lookup (nat_eq k) es ≡ Some old → contents_of o ≡ edit (contents_of old)
    → contents_by_name (set_value (nat_eq k) es o) ≡ changed k edit (contents_by_name es)
set_by_name es k o old edit there is =
    ap contents_by_name (set_is_put es k o old there) ∙ put_by_name es k o
    ∙ ap (insert (contents_by_name es) k) is
    ∙ sym (ap (λ there. changed_at k edit there (contents_by_name es))
    (get_by_name es k ∙ ap (option_map contents_of) there))

pub absent_by_name : (es : List (ℕ × Object)) (k : ℕ) (edit : Contents → Contents)
    → lookup (nat_eq k) es ≡ None → changed k edit (contents_by_name es) ≡ contents_by_name es
absent_by_name es k edit absent = ap (λ there. changed_at k edit there (contents_by_name es))
    (get_by_name es k ∙ ap (option_map contents_of) absent)

-- what is written back as it was changes nothing
pub same_by_name : (es : List (ℕ × Object)) (k : ℕ) (old : Object) → lookup (nat_eq k) es ≡ Some old
    → contents_by_name (set_value (nat_eq k) es old) ≡ contents_by_name es
same_by_name es k old there = ap contents_by_name (set_value_same (nat_eq k) es old there)
