-- The items of a bag with names of rounds may be put into an Array.
use Rattle.std.proofs.Common.{◌≡◌, ℕ, zero, suc, ◌+◌, ◌*◌, ◌^◌, ◌≤◌, true, List, [], ◌∷◌, ◌++◌, refl, sym, ap, subst, ◌∙◌, arith}
use Rattle.std.proofs.Math.Path.{fun_ext}
use Rattle.std.proofs.lemmas.Bool.{lt-ltb, le-leb, and_from}
use Rattle.std.proofs.lemmas.List.Concat.{length-flat_map}
use Rattle.std.proofs.lemmas.List.Recursion.{is_sum_by}
use Rattle.std.specs.Prelude.{length, replicate, sum_by}
use Rattle.std.specs.List.{AllByRecursion, list_all}
use Rattle.gem_meaning.specs.texts.Bytes.{Bytes}
use Rattle.gem_meaning.specs.gem_object.References.{names_in}
use Rattle.gem_meaning.specs.gem_object.Sizes.{value_size}
use Rattle.gem_meaning.specs.gem_object.declared.value.Value.{Value}
use Rattle.gem_meaning.specs.gem_object.declared.value.Value.TheVariants.{Sym}
use Rattle.gem_meaning.specs.object_programs.Spelled.{is_storable}
use Rattle.gem_meaning.specs.prim_rules.Bags.{items_of}
use Rattle.gem_server.specs.AfterLoad.{IsRoundName}
use Rattle.gem_server.proofs.RoundBags.{text_is, storable}
use Rattle.gem_server.proofs.TallySteps.{MayBeListed}

-- ---- one name

name_size : (item : Value) → IsRoundName item → value_size item ≡ 5
name_size item is = ap value_size is.2 ∙ ap (λ (text : Bytes). value_size (Sym text)) (text_is is.0 is.1)

name_storable : (item : Value) → IsRoundName item → is_storable item ≡ true
name_storable item is = ap is_storable is.2 ∙ storable is.0 is.1

-- ---- all of them

all_repeated : (n : ℕ) (item : Value) → IsRoundName item → (more : List Value) → AllByRecursion IsRoundName more
    → AllByRecursion IsRoundName (replicate n item ++ more)
all_repeated zero item is more all = all
all_repeated (suc n) item is more all = (is, all_repeated n item is more all)

all_names : (pairs : List (Value × ℕ)) → AllByRecursion (λ pair. IsRoundName pair.0) pairs
    → AllByRecursion IsRoundName (items_of pairs)
all_names [] named = tt
all_names (pair ∷ pairs) named = all_repeated pair.1 pair.0 named.0 (items_of pairs) (all_names pairs named.1)

-- there are as many as the pairs count
length_repeated : (n : ℕ) (item : Value) → length (replicate n item) ≡ n
length_repeated zero item = refl
length_repeated (suc n) item = ap suc (length_repeated n item)

pub items_counted : (pairs : List (Value × ℕ)) → length (items_of pairs) ≡ sum_by (λ (pair : Value × ℕ). pair.1) pairs
items_counted pairs = length-flat_map (λ (pair : Value × ℕ). replicate pair.1 pair.0) pairs
    ∙ ap (λ (count : Value × ℕ → ℕ). sum_by count pairs) (fun_ext (λ (pair : Value × ℕ). length_repeated pair.1 pair.0))

abbrev bytes_of : List Value → ℕ
bytes_of [] = 0
bytes_of (item ∷ items) = value_size item + bytes_of items

bytes_counted : (items : List Value) → AllByRecursion IsRoundName items → bytes_of items ≡ 5 * length items
bytes_counted [] all = omega arith
bytes_counted (item ∷ items) all =
    let one = name_size item all.0 in let rest = bytes_counted items all.1 in omega (arith, one, rest)

none_refer : (items : List Value) → AllByRecursion IsRoundName items → names_in items ≡ []
none_refer [] all = refl
none_refer (item ∷ items) all =
    subst (λ (one : Value). names_in (one ∷ items) ≡ []) (sym all.0.2) (none_refer items all.1)

all_storable : (items : List Value) → AllByRecursion IsRoundName items → list_all is_storable items ≡ true
all_storable [] all = refl
all_storable (item ∷ items) all = and_from _ _ (name_storable item all.0) (all_storable items all.1)

few_listed : (items : List Value) → AllByRecursion IsRoundName items → length items ≤ 16000 → MayBeListed items
few_listed items all few =
    let bytes : bytes_of items ≡ sum_by value_size items =
    is_sum_by bytes_of value_size refl (λ item more. refl) items in
    let counted = bytes_counted items all in
    record {
      fits = and_from _ _ (le-leb (length items) 65000 (omega (arith, few)))
          (le-leb (17 + (4 + sum_by value_size items)) 1048576 (omega (arith, bytes, counted, few)));
      space = le-leb _ _ (omega (arith, few));
      refers = none_refer items all;
      storable = and_from _ _ (lt-ltb (length items) (2 ^ 32) (omega (arith, few))) (all_storable items all);
    }

pub may_be_listed : (pairs : List (Value × ℕ)) → AllByRecursion (λ pair. IsRoundName pair.0) pairs
    → sum_by (λ (pair : Value × ℕ). pair.1) pairs ≤ 16000 → MayBeListed (items_of pairs)
may_be_listed pairs named few =
    let same = items_counted pairs in few_listed (items_of pairs) (all_names pairs named) (omega (arith, same, few))
