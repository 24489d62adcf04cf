-- What the table of primitives gives.
use Rattle.std.proofs.Common.{◌≡◌, ◌==◌, ℕ, ◌+◌, ◌-◌, ◌<◌, ◌≤◌, List, [], length, map, inl, inr, slice_get, Option, Some, None, IsSome, IfSome, refl, sym, ap, ◌∙◌, arith}
use Rattle.std.specs.Option.{is_some, option_map}
use Rattle.std.proofs.lemmas.Option.{slice_get-get_or, slice_get_past, slice_get-map}
use Rattle.std.proofs.lemmas.Bool.{false≢true, cases_lt}
use Rattle.std.specs.List.{All, list_all}
use Rattle.std.proofs.lemmas.Bool.Decides.{Decides-by_and, Decides-eqb}
use Rattle.op_table.proofs.InOrder.{find-in_order, find-key}
use Rattle.op_table.specs.Prims.{Primitive, primitives, prim_at, primitive, primitive_of, argument_count}
use Rattle.op_table.specs.declared.prims.Kind.TheVariants.{Any}
use Rattle.op_table.specs.declared.prims.PrimRow.{PrimRow}

-- the numbers are the places, from 1 on
pub prim_at-place : (place : ℕ) → prim_at (place + 1) ≡ slice_get primitives place
unfolding prim_at primitives
prim_at-place place = find-in_order (λ (primitive : Primitive). primitive.number) primitives 1 place (place + 1) refl (omega arith)

-- there is no primitive of number 0
prim_at-zero : prim_at 0 ≡ None
unfolding prim_at primitives
prim_at-zero = refl

-- a primitive that is found has the number
pub prim_at-number : (number : ℕ) → IfSome (prim_at number) (λ primitive. primitive.number ≡ number)
unfolding prim_at
prim_at-number number = find-key (λ (primitive : Primitive). primitive.number) primitives number

length-primitives : length primitives ≡ 96
unfolding primitives
length-primitives = refl

-- the first 96 places are filled, and no others
filled : (place : ℕ) → place < 96 → IsSome (slice_get primitives place)
filled place within = ap is_some (slice_get-get_or primitives place (primitive 0 [] 0 Any) (omega (arith, length-primitives)))

within_from_filled : (place : ℕ) → IsSome (slice_get primitives place) → place < 96
within_from_filled place some = elim (cases_lt place 96) [
  | inl within ↦ within
  | inr past ↦ absurd (false≢true (sym (ap is_some (slice_get_past primitives place (omega (arith, length-primitives)))) ∙ some))
]

-- there is no primitive below 1
pub prim_at-below : (number : ℕ) → (1 ≤ number → ⊥) → prim_at number ≡ None
prim_at-below number below = let zero : number ≡ 0 = omega (arith, below) in rw zero prim_at-zero

is_some-option_map : {A B : Type 0} (f : A → B) (found : Option A) → is_some (option_map f found) ≡ is_some found
is_some-option_map f None = refl
is_some-option_map f (Some x) = refl

IfSome-from_map : {A B : Type 0} (f : A → B) (P : B → Type 0) (found : Option A) → IfSome (option_map f found) P → IfSome found (λ x. P (f x))
IfSome-from_map f P None says = tt
IfSome-from_map f P (Some x) says = says

-- what is read at a place of rows that say the table
module _ (rows : List PrimRow) (says : map primitive_of rows ≡ primitives) (place number : ℕ) (least : 1 ≤ number) (is : place ≡ number - 1) where
  pub read_value : option_map primitive_of (slice_get rows place) ≡ prim_at number
  read_value =
      let at : number ≡ place + 1 = omega arith in
      sym (slice_get-map primitive_of rows place) ∙ ap (λ primitives. slice_get primitives place) says ∙ sym (prim_at-place place) ∙ ap prim_at (sym at)

  read_some : is_some (slice_get rows place) ≡ is_some (slice_get primitives place)
  read_some = sym (is_some-option_map primitive_of (slice_get rows place)) ∙ ap is_some (sym (slice_get-map primitive_of rows place) ∙ ap (λ primitives. slice_get primitives place) says)

  pub read_some-within : (IsSome (slice_get rows place) → (1 ≤ number) × (number ≤ 96)) × ((1 ≤ number) × (number ≤ 96) → IsSome (slice_get rows place))
  read_some-within = (
    λ some. (least, let within : place < 96 = within_from_filled place (sym read_some ∙ some) in omega arith),
    λ range. read_some ∙ filled place (omega arith),
  )

  pub read_number : IfSome (slice_get rows place) (λ row. row.number ≡ number)
  read_number = IfSome-from_map primitive_of (λ primitive. primitive.number ≡ number) (slice_get rows place) (rw read_value (prim_at-number number))

-- the number of arguments is that of the selector, by a test that computes over the whole table
pub arguments_fit : All (λ primitive. primitive.args ≡ argument_count primitive.selector) primitives
unfolding primitives
arguments_fit = (Decides-by_and (λ (primitive : Primitive). primitive.args == argument_count primitive.selector) (λ primitive. primitive.args ≡ argument_count primitive.selector) (list_all (λ primitive. primitive.args == argument_count primitive.selector))
    (λ primitive. Decides-eqb primitive.args (argument_count primitive.selector)) refl (λ _ _. refl) primitives).0 refl
